use Rattle.std.proofs.Common.{arith}
use Rattle.std.proofs.lemmas.List.Elements.{All-more, All-nil}
use Rattle.net_text.proofs.Gathering.{Gathers-nil}
use Rattle.net_text.proofs.Lines.{Gathers-line, PutsBehind-line_failed}
use Rattle.net_text.specs.NetworkText.{IsNamed}
use Rattle.net_text.proofs.writing.put_pads.Goals as goal

pub loop-pad-init : goal.loop-pad-init
loop-pad-init g c = record { gathered = Gathers-nil _ _; named = All-nil IsNamed; count = omega arith }

pub loop-pad-preserved : goal.loop-pad-preserved
loop-pad-preserved g c = record {
  gathered = Gathers-line _ _ _ _ _ c.loop-pad-test.true c.pad-item.is c.loop-pad.invariant.gathered c.in_ok-put_pad.ensures.bytes;
  named = All-more IsNamed _ _ _ c.loop-pad-test.true c.loop-pad.invariant.named (rw c.pad-item.is at c.in_ok-put_pad.ensures.named);
  count = omega (arith, c.in_ok-put_pad.ensures.never_falls);
}

pub returns-in_err-put_pad-clause-bytes : goal.returns-in_err-put_pad-clause-bytes
returns-in_err-put_pad-clause-bytes g c =
    PutsBehind-line_failed _ _ _ _ _ c.loop-pad-test.true c.pad-item.is _ _ _ c.from_residual.ensures.0 c.loop-pad.invariant.gathered c.in_err-put_pad.ensures.bytes
