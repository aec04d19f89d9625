use Rattle.std.proofs.Common.{◌≡◌, ◌++◌, map, take}
use Rattle.nor_net.specs.SwitchForm.{transfer_device}
use Rattle.nor_net.proofs.switch_form.add_transfers.Given as goal

abbrev pub invariant-loop-transfer : goal.invariant-loop-transfer
invariant-loop-transfer l =
    l.devices.items ≡ l.fn.devices.items ++ map (transfer_device l.pads) (take l.transfer-index l.transfers)
