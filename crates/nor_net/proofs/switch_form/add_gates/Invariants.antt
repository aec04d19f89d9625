use Rattle.std.proofs.Common.{◌≡◌, ◌++◌, take}
use Rattle.std.specs.Prelude.{flat_map}
use Rattle.nor_net.specs.SwitchForm.{pull_downs}
use Rattle.nor_net.proofs.switch_form.add_gates.Given as goal

abbrev pub invariant-loop-gate : goal.invariant-loop-gate
invariant-loop-gate l =
    l.devices.items ≡ l.fn.devices.items ++ flat_map (pull_downs l.low) (take l.gate-index l.gates)
