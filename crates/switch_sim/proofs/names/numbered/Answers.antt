use Rattle.std.proofs.Common.{◌≡◌, List, length, map, subst, sym, ap, ◌∙◌, arith}
use Rattle.switch_net.specs.Circuit.{renamed_pad, renamed_device}
use Rattle.switch_net.specs.Validity.{IsNetwork}
use Rattle.switch_net.specs.declared.network.Device.{Device}
use Rattle.switch_net.specs.declared.network.Pad.{Pad}
use Rattle.switch_sim.specs.Naming.{number}
use Rattle.switch_sim.proofs.Numbered.{is_network, few_names}
use Rattle.switch_sim.proofs.names.numbered.Goals as goal

pub overflow_cast-names : goal.overflow_cast-names
overflow_cast-names c =
    let few = few_names c.args.network.now c.args.names.now c.requires c.pads.ensures.valid in
    let is = c.nets-most.ensures in
    let fits = c.nets-most.type_inv in
    omega (arith, few, is, fits)

pub from_parts-requires : goal.from_parts-requires
from_parts-requires c =
    let numbers = number c.args.names.now in
    let made : (pads : List Pad) (devices : List Device) → pads ≡ map (renamed_pad numbers) c.args.network.now.pads
    → devices ≡ map (renamed_device numbers) c.args.network.now.devices
    → IsNetwork (record { nets = length c.args.names.now; pads = pads; devices = devices }) =
    λ pads devices e f. subst (λ ps. IsNetwork (record { nets = length c.args.names.now; pads = ps; devices = devices })) (sym e)
    (subst (λ ds. IsNetwork (record { nets = length c.args.names.now; pads = map (renamed_pad numbers) c.args.network.now.pads; devices = ds })) (sym f)
    (is_network c.args.network.now c.args.names.now c.requires c.pads.ensures.valid)) in
    made c.in_ok-pads.pads.items c.in_ok-devices.devices.items
    (c.in_ok-pads.ensures ∙ ap (map (renamed_pad numbers)) c.pads.ensures.pads)
    (c.in_ok-devices.ensures ∙ ap (map (renamed_device numbers)) c.devices.ensures)
