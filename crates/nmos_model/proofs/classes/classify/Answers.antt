use Rattle.std.proofs.Common.{◌≡◌, arith, ◌∙◌}
use Rattle.nmos_model.proofs.Opening.{unbegun, classified}
use Rattle.nmos_model.proofs.classes.classify.Goals as goal

-- src/classes.rt:109:9
pub loop-number-init : goal.loop-number-init
loop-number-init g c = record {
  flooded = rw c.new.ensures.items
      (unbegun _ _ _ c.in_ok-without_classes.field-0.items (c.in_ok-without_classes.ensures.size ∙ c.size-size.ensures) c.in_ok-without_classes.ensures.none);
  rest = c.new-2.ensures.items;
}

-- src/classes.rt:110:15
pub visit-requires-clause-flooded : goal.visit-requires-clause-flooded
visit-requires-clause-flooded g c = c.loop-number.invariant.flooded

-- src/classes.rt:110:15
pub visit-requires-clause-rest : goal.visit-requires-clause-rest
visit-requires-clause-rest g c = c.loop-number.invariant.rest

-- src/classes.rt:109:9
pub loop-number-preserved : goal.loop-number-preserved
loop-number-preserved g c = record { flooded = c.in_ok-visit.ensures.flooded; rest = c.in_ok-visit.ensures.rest }

-- src/classes.rt:112:5
pub returns : goal.returns
returns g c =
    let last : c.loop-number.number ≡ g.G.Graph.size c.args.graph.now = omega (arith, c.size-size.ensures, c.loop-number.auto.number-end) in
    classified _ _ _ c.requires _ _ (rw last at c.loop-number.invariant.flooded)
