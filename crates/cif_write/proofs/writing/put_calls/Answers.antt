use Rattle.std.proofs.Common.{pos, refl, arith}
use Rattle.cif_write.specs.ChipText.{call_line}
use Rattle.cif_write.proofs.Gathering.{Gathers-nil}
use Rattle.cif_write.proofs.Lines.{Gathers-line, Puts-line_failed}
use Rattle.cif_write.proofs.writing.put_calls.Goals as goal

pub loop-call-init : goal.loop-call-init
loop-call-init g c = record { gathered = Gathers-nil _ _; count = omega arith }

pub loop-call-preserved : goal.loop-call-preserved
loop-call-preserved g c = record {
  gathered = Gathers-line call_line _ _ _
      (record { kind = 0; x = pos 0; y = pos 0 }) c.loop-call-test.true refl c.loop-call.invariant.gathered c.in_ok-put_call.ensures.bytes;
  count = omega (arith, c.in_ok-put_call.ensures.never_falls);
}

pub returns-in_err-put_call-clause-bytes : goal.returns-in_err-put_call-clause-bytes
returns-in_err-put_call-clause-bytes g c =
    Puts-line_failed call_line _ _ _
    (record { kind = 0; x = pos 0; y = pos 0 }) c.loop-call-test.true refl _ _ _ c.from_residual.ensures.0 c.loop-call.invariant.gathered c.in_err-put_call.ensures.bytes
