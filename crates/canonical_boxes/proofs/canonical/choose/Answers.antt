-- A box of the layer is added, and another passed over.
use Rattle.std.proofs.Common.{rules, ◌≡◌, refl, IsTrue}
use Rattle.canonical_boxes.proofs.Chosen.{chosen_at, chosen_past}
use Rattle.canonical_boxes.proofs.canonical.choose.Goals as goal
use Rattle.canonical_boxes.proofs.canonical.choose.Goals.{then-is_of+in_ok-push, else-is_of}

pub loop-b-preserved : goal.loop-b-preserved
loop-b-preserved c = elim c.if-is_of.branch [
  | then-is_of+in_ok-push w ↦
      let l : c.b-item.result.layer ≡ c.args.layer = c.is_of.ensures.belongs.0 w.if-is_of.true in
      chosen_at c.args.boxes.now c.loop-b.b-index c.b-item.result c.args.layer c.loop-b.chosen.items c.if-is_of.chosen.items c.loop-b-test.true c.b-item.is
      l c.loop-b.invariant (rw w.chosen-is w.in_ok-push.ensures.items)
  | else-is_of w ↦
      chosen_past c.args.boxes.now c.loop-b.b-index c.b-item.result c.args.layer c.loop-b.chosen.items c.if-is_of.chosen.items c.loop-b-test.true c.b-item.is
      (λ l. let t : IsTrue c.is_of.result = c.is_of.ensures.belongs.1 l in search rules) c.loop-b.invariant (rw w.chosen-is refl)
]
