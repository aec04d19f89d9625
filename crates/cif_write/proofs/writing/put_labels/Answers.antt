use Rattle.std.proofs.Common.{arith}
use Rattle.cif_write.specs.ChipText.{label_line}
use Rattle.cif_write.proofs.Gathering.{Gathers-nil}
use Rattle.cif_write.proofs.Lines.{Gathers-line, Puts-line_failed}
use Rattle.cif_write.proofs.writing.put_labels.Goals as goal

pub loop-label-init : goal.loop-label-init
loop-label-init g c = record { gathered = Gathers-nil _ _; count = omega arith }

pub loop-label-preserved : goal.loop-label-preserved
loop-label-preserved g c = record {
  gathered = Gathers-line label_line _ _ _ _ c.loop-label-test.true c.label-item.is c.loop-label.invariant.gathered c.in_ok-put_label.ensures.bytes;
  count = omega (arith, c.in_ok-put_label.ensures.never_falls);
}

pub returns-in_err-put_label-clause-bytes : goal.returns-in_err-put_label-clause-bytes
returns-in_err-put_label-clause-bytes g c =
    Puts-line_failed label_line _ _ _ _ c.loop-label-test.true c.label-item.is _ _ _ c.from_residual.ensures.0 c.loop-label.invariant.gathered c.in_err-put_label.ensures.bytes
