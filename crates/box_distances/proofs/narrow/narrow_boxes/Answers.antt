-- A narrow box is added, and another passed over.
use Rattle.std.proofs.Common.{pos, sym, ◌∙◌}
use Rattle.box_distances.proofs.Choosing.{all_narrow, narrow_at, narrow_past}
use Rattle.box_distances.proofs.narrow.narrow_boxes.Goals as goal
use Rattle.box_distances.proofs.narrow.narrow_boxes.Goals.{then-is_narrow+in_ok-push, else-is_narrow}

pub loop-b-preserved : goal.loop-b-preserved
loop-b-preserved c = elim c.if-is_narrow.branch [
  | then-is_narrow+in_ok-push w ↦
      narrow_at (pos c.args.side) c.args.boxes.now c.loop-b.b-index c.b-item.result c.loop-b.narrow.items c.if-is_narrow.narrow.items c.loop-b-test.true c.b-item.is
      (sym c.is_narrow.ensures ∙ w.if-is_narrow.true) (rw w.narrow-is w.in_ok-push.ensures.items) c.loop-b.invariant
  | else-is_narrow w ↦
      rw w.narrow-is
      (narrow_past (pos c.args.side) c.args.boxes.now c.loop-b.b-index c.b-item.result c.loop-b.narrow.items c.loop-b-test.true c.b-item.is
      (sym c.is_narrow.ensures ∙ w.if-is_narrow.false) c.loop-b.invariant)
]

pub returns : goal.returns
returns c = all_narrow (pos c.args.side) c.args.boxes.now c.loop-b.b-index c.loop-b.narrow.items c.loop-b-test.false c.loop-b.invariant
