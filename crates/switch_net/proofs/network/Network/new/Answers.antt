use Rattle.std.proofs.Common.{◌≡◌, [], None, rules}
use Rattle.switch_net.specs.Circuit.{Circuit}
use Rattle.switch_net.specs.Validity.{first_outside, first_repeat, first_missing}
use Rattle.switch_net.proofs.Faultless.{faultless, no_fault}
use Rattle.switch_net.proofs.network.Network.new.Goals as goal

pub from_parts-requires : goal.from_parts-requires
from_parts-requires c =
    let circuit : Circuit = record { nets = c.args.nets; pads = c.args.pads.items; devices = c.args.devices.items } in
    let outside : first_outside circuit.nets circuit.pads circuit.devices ≡ None = search rules in
    let repeat : first_repeat [] circuit.pads ≡ None = search rules in
    let missing : first_missing circuit.pads ≡ None = search rules in
    (faultless circuit).1 (no_fault circuit.nets circuit.pads circuit.devices outside repeat missing)
