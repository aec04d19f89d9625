use Rattle.std.proofs.Common.{Some, refl, sym, ap, ◌∙◌, arith}
use Rattle.cif_write.proofs.Gathering.{Gathers-nil, Gathers-trans, Puts-failed}
use Rattle.cif_write.proofs.BoxLines.{box_lines_more, box_lines_around, layer_behind_more}
use Rattle.cif_write.proofs.writing.put_boxes.Goals as goal

pub loop-b-init : goal.loop-b-init
loop-b-init g c = record { gathered = Gathers-nil _ _; layer = refl; count = omega arith }

pub loop-b-preserved : goal.loop-b-preserved
loop-b-preserved g c =
    let lines = rw c.loop-b.invariant.layer at c.in_ok-put_box.ensures.bytes in
    record {
      gathered = rw (box_lines_more _ _ _ _ c.loop-b-test.true c.b-item.is) (Gathers-trans c.loop-b.invariant.gathered lines);
      layer = sym (layer_behind_more _ _ _ _ c.loop-b-test.true c.b-item.is ∙ ap Some (sym c.layer_of.ensures));
      count = omega (arith, c.in_ok-put_box.ensures.never_falls);
    }

pub returns-in_err-put_box-clause-bytes : goal.returns-in_err-put_box-clause-bytes
returns-in_err-put_box-clause-bytes g c =
    let lines = rw c.loop-b.invariant.layer at c.in_err-put_box.ensures.bytes in
    rw (box_lines_around _ _ _ _ c.loop-b-test.true c.b-item.is)
    (Puts-failed _ _ _ _ _ c.from_residual.ensures.0 c.loop-b.invariant.gathered lines)
