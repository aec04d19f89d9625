use Rattle.std.proofs.Common.{◌≡◌}
use Rattle.nmos_model.specs.Flooding.{IsFlooding, IsOpen, behind_first, work_left}
use Rattle.nmos_model.proofs.classes.Flood.spread.Given as goal

abbrev pub invariant-loop-node : goal.invariant-loop-node
invariant-loop-node g l = record {
  flooded : IsFlooding (g.G.Graph.size l.graph) (g.G.Graph.is_node l.graph) (g.G.Graph.links l.graph) (behind_first l.fn.self.firsts.items l.class)
      l.self.numbers.items l.fn.self.firsts.items l.self.waiting.items;
  opened : IsOpen l.class l.self.numbers.items l.fn.self.firsts.items l.self.waiting.items;
  firsts : l.self.firsts ≡ l.fn.self.firsts;
}

abbrev pub decreases-loop-node : goal.decreases-loop-node
decreases-loop-node g l = work_left l.self.numbers.items l.self.waiting.items
