use Rattle.std.proofs.Common.{refl, arith}
use Rattle.net_text.proofs.Gathering.{Gathers-nil}
use Rattle.net_text.proofs.Lines.{Gathers-line, PutsBehind-line_failed}
use Rattle.net_text.proofs.writing.put_devices.Goals as goal

pub loop-device-init : goal.loop-device-init
loop-device-init g c = record { gathered = Gathers-nil _ _; count = omega arith }

pub loop-device-preserved : goal.loop-device-preserved
loop-device-preserved g c = record {
  gathered = Gathers-line _ _ _ _ _ c.loop-device-test.true refl c.loop-device.invariant.gathered c.in_ok-put_device.ensures.bytes;
  count = omega (arith, c.in_ok-put_device.ensures.never_falls);
}

pub returns-in_err-put_device-clause-bytes : goal.returns-in_err-put_device-clause-bytes
returns-in_err-put_device-clause-bytes g c =
    PutsBehind-line_failed _ _ _ _ _ c.loop-device-test.true refl _ _ _ c.from_residual.ensures.0 c.loop-device.invariant.gathered c.in_err-put_device.ensures.bytes
