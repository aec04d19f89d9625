use Rattle.std.proofs.Common.{◌≡◌}
use Rattle.std.specs.Prelude.{flat_map}
use Rattle.std.specs.List.{range_with_len}
use Rattle.nor_net.specs.SwitchForm.{load_at}
use Rattle.nor_net.proofs.switch_form.loads.Given as goal

abbrev pub invariant-loop-at : goal.invariant-loop-at
invariant-loop-at l = l.devices.items ≡ flat_map (load_at l.net.gates) (range_with_len 0 l.at)
