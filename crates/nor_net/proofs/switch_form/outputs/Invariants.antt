use Rattle.std.proofs.Common.{take}
use Rattle.nor_net.specs.Evaluation.{is_output}
use Rattle.nor_net.specs.SwitchForm.{Lists}
use Rattle.nor_net.proofs.switch_form.outputs.Given as goal

abbrev pub invariant-loop-gate : goal.invariant-loop-gate
invariant-loop-gate l = Lists l.net.nets l.outputs.items (is_output (take l.gate-index l.gate-items))
