use Rattle.std.proofs.Common.{◌≡◌, []}
use Rattle.nmos_model.specs.Flooding.{IsFlooding}
use Rattle.nmos_model.proofs.classes.classify.Given as goal

abbrev pub invariant-loop-number : goal.invariant-loop-number
invariant-loop-number g l = record {
  flooded : IsFlooding (g.G.Graph.size l.graph) (g.G.Graph.is_node l.graph) (g.G.Graph.links l.graph) l.number
      l.flood.numbers.items l.flood.firsts.items [];
  rest : l.flood.waiting.items ≡ [];
}
