use Rattle.std.proofs.Common.{◌≡◌, ℕ, ◌++◌, map, take}
use Rattle.switch_net.specs.declared.network.Device.TheVariants.{Pass}
use Rattle.nor_net.specs.SwitchForm.{at}
use Rattle.nor_net.proofs.switch_form.add_pull_downs.Given as goal

abbrev pub invariant-loop-input : goal.invariant-loop-input
invariant-loop-input l =
    l.devices.items ≡ l.fn.devices.items ++ map (λ (input : ℕ). Pass (at input) (at l.out.0) (at l.low)) (take l.input-index l.input-items)
