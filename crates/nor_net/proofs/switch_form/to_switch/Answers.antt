use Rattle.std.proofs.Common.{◌≡◌, true, length, refl}
use Rattle.rx_lang.specs.Specification.{Language}
use Rattle.nor_net.specs.SwitchForm.{switch_form}
use Rattle.nor_net.proofs.Building.{form_network}
use Rattle.nor_net.proofs.Clocks.{computes}
use Rattle.nor_net.proofs.Lifting.{recognises}
use Rattle.nor_net.proofs.SureOutputs.{shows_surely, clears_known}
use Rattle.nor_net.proofs.switch_form.to_switch.Goals as goal

pub from_parts-requires : goal.from_parts-requires
from_parts-requires c =
    rw (c.nets.ensures.nets, c.in_ok-pads.ensures.items, c.pads.ensures.pads, c.in_ok-devices.ensures)
    (form_network c.args.net.now c.nets.ensures.netlist)

pub returns-clause-computes : goal.returns-clause-computes
returns-clause-computes c =
    let law = computes c.clocked_logic_settles.ensures.as_logic c.clocked_logic_settles.ensures.settles c.args.net.now c.nets.ensures.netlist in
    rw (c.from_parts.ensures, c.nets.ensures.nets, c.in_ok-pads.ensures.items, c.pads.ensures.pads, c.in_ok-devices.ensures) law

pub returns-clause-recognises : goal.returns-clause-recognises
returns-clause-recognises c spec shows =
    let law = computes c.clocked_logic_settles.ensures.as_logic c.clocked_logic_settles.ensures.settles c.args.net.now c.nets.ensures.netlist in
    let seen = recognises c.args.net.now (switch_form c.args.net.now) law c.nets.ensures.netlist refl (length spec.lines) (Language spec) shows in
    rw (c.from_parts.ensures, c.nets.ensures.nets, c.in_ok-pads.ensures.items, c.pads.ensures.pads, c.in_ok-devices.ensures) seen

pub returns-clause-known : goal.returns-clause-known
returns-clause-known c spec shows rounds known =
    let law = computes c.clocked_logic_settles.ensures.as_logic c.clocked_logic_settles.ensures.settles c.args.net.now c.nets.ensures.netlist in
    let seen = recognises c.args.net.now (switch_form c.args.net.now) law c.nets.ensures.netlist refl (length spec.lines) (Language spec) shows in
    let sure = shows_surely c.clocked_logic_settles.ensures.as_logic c.clocked_logic_settles.ensures.settles c.told_nets_settle.ensures c.args.net.now
    c.nets.ensures.netlist rounds known (length spec.lines) (Language spec) seen in
    rw (c.from_parts.ensures, c.nets.ensures.nets, c.in_ok-pads.ensures.items, c.pads.ensures.pads, c.in_ok-devices.ensures) sure

pub returns-clause-known_values : goal.returns-clause-known_values
returns-clause-known_values c width shown shows rounds known =
    let law = computes c.clocked_logic_settles.ensures.as_logic c.clocked_logic_settles.ensures.settles c.args.net.now c.nets.ensures.netlist in
    let seen = recognises c.args.net.now (switch_form c.args.net.now) law c.nets.ensures.netlist refl width (λ y u. shown y u ≡ true) shows in
    let sure = shows_surely c.clocked_logic_settles.ensures.as_logic c.clocked_logic_settles.ensures.settles c.told_nets_settle.ensures c.args.net.now
    c.nets.ensures.netlist rounds known width (λ y u. shown y u ≡ true) seen in
    rw (c.from_parts.ensures, c.nets.ensures.nets, c.in_ok-pads.ensures.items, c.pads.ensures.pads, c.in_ok-devices.ensures) sure

pub returns-clause-sure : goal.returns-clause-sure
returns-clause-sure c spec shows clearing =
    returns-clause-known c spec shows 0 (clears_known c.args.net.now c.nets.ensures.netlist clearing)
