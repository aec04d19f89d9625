use Rattle.std.proofs.Common.{◌≡◌, ◌<◌, ◌≤◌, ◌∷◌, ℕ, Some, slice_get}
use Rattle.nmos_model.specs.Classes.{class_at}
use Rattle.nmos_model.specs.Flooding.{IsFlooding, IsOpen, behind_first, work_left}
use Rattle.nmos_model.proofs.classes.Flood.follow.Given as goal

abbrev pub invariant-loop-at : goal.invariant-loop-at
invariant-loop-at g l = record {
  flooded : IsFlooding (g.G.Graph.size l.graph) (g.G.Graph.is_node l.graph) (g.G.Graph.links l.graph) (behind_first l.fn.self.firsts.items l.class)
      l.self.numbers.items l.fn.self.firsts.items (l.node ∷ l.self.waiting.items);
  opened : IsOpen l.class l.self.numbers.items l.fn.self.firsts.items (l.node ∷ l.self.waiting.items);
  done : (i b : ℕ) → i < l.at → slice_get (g.G.Graph.links l.graph l.node) i ≡ Some (Some b) → class_at l.self.numbers.items b ≡ Some l.class;
  firsts : l.self.firsts ≡ l.fn.self.firsts;
  less : work_left l.self.numbers.items l.self.waiting.items ≤ work_left l.fn.self.numbers.items l.fn.self.waiting.items;
}
