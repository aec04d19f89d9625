use Rattle.std.proofs.Common.{refl}
use Rattle.nor_net.proofs.switch_form.devices_of.Goals as goal

pub returns : goal.returns
returns c =
    rw (
      c.in_ok-add_transfers.ensures,
      c.in_ok-add_gates.ensures,
      c.in_ok-devices.ensures,
      c.net_of.ensures,
      c.pads.ensures.pads,
      c.pads-2.ensures.pads,
      c.gates.ensures.gates,
      c.transfers.ensures.transfers,
    ) refl
