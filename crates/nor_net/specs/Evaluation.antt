-- The values of a netlist's nets after one settling and after one clock, by evaluating its gates and transfers in order.
use Rattle.std.specs.Prelude.{ℕ, ◌==◌, ◌&&◌, not, Bool, true, false, if◌then◌else◌, List, [], ◌∷◌, Option, Some, None, find, slice_index_or, slice_set}
use Rattle.std.specs.List.{list_any}
use Rattle.rx_text.specs.declared.pad_name.Role.{Role}
use Rattle.rx_text.specs.declared.pad_name.Role.TheVariants.{Vdd, Gnd, Phi1, Phi2, Reset, Input, Output}
use Rattle.switch_net.specs.Settling.{pad_level}
use Rattle.switch_net.specs.Clock.{Drive, drives_of}
use Rattle.switch_net.specs.declared.network.Pad.{Pad}
use Rattle.nor_net.specs.Netlist.{NorGate, Netlist}
use Rattle.nor_net.specs.declared.gate.Transfer.{Transfer}

-- the value of the net
abbrev pub value_at : List Bool → ℕ → Bool
value_at values net = slice_index_or values net false

-- the net is some gate's output
abbrev pub is_output : List NorGate → ℕ → Bool
is_output gates net = list_any (λ gate. gate.out == net) gates

-- an input of a gate with this output is high
abbrev pub is_pulled : List NorGate → List Bool → ℕ → Bool
is_pulled gates values net = list_any (λ gate. gate.out == net && list_any (value_at values) gate.inputs) gates

-- the clock of this role is high
abbrev pub is_high : Drive → Role → Bool
is_high drive Phi1 = drive.phi1
is_high drive Phi2 = drive.phi2
is_high drive Vdd = false
is_high drive Gnd = false
is_high drive Reset = false
is_high drive Input = false
is_high drive Output = false

-- where the net takes its value from, if this transfer leads to it: its source while the clock is high, else its own charge
abbrev pub led_from : Drive → ℕ → Option Transfer → ℕ
led_from drive net None = net
led_from drive net (Some transfer) = if is_high drive transfer.clock then transfer.from else net

-- the transfer that leads to the net
abbrev pub transfer_to : List Transfer → ℕ → Option Transfer
transfer_to transfers net = find (λ transfer. transfer.to == net) transfers

-- where a net that no gate drives takes its value from
abbrev pub source_of : List Transfer → Drive → ℕ → ℕ
source_of transfers drive net = led_from drive net (transfer_to transfers net)

-- what a net becomes: the NOR of its gates' inputs, or the value at its source
abbrev pub evaluated_net : Netlist → Drive → List Bool → ℕ → Bool
evaluated_net netlist drive values net =
    if is_output netlist.gates net then not (is_pulled netlist.gates values net)
    else value_at values (source_of netlist.transfers drive net)

-- the values when the nets of the order were evaluated, one after another
abbrev pub evaluated : Netlist → Drive → List ℕ → List Bool → List Bool
evaluated netlist drive [] values = values
evaluated netlist drive (net ∷ order) values =
    evaluated netlist drive order (slice_set values net (evaluated_net netlist drive values net))

-- the values with the net at the level, if there is one
abbrev pub with_level : Option Bool → ℕ → List Bool → List Bool
with_level None net values = values
with_level (Some level) net values = slice_set values net level

-- the values with each pad's net as the pad is driven
abbrev pub driven : List Pad → List Bool → List Bool → List Bool
driven [] drives values = values
driven (pad ∷ pads) [] values = values
driven (pad ∷ pads) (drive ∷ drives) values =
    driven pads drives (with_level (pad_level pad.name.role drive) pad.net.0 values)

-- the order in which the nets are evaluated
abbrev pub order_in : Netlist → Drive → List ℕ
order_in netlist drive = if drive.phi2 then netlist.order2 else netlist.order1

-- the values after one settling
abbrev pub settled : Netlist → Drive → List Bool → List Bool
settled netlist drive values =
    evaluated netlist drive (order_in netlist drive) (driven netlist.pads (drives_of drive netlist.pads) values)

-- what drives the pads while the clocks are so
abbrev pub phase : Bool → List Bool → Bool → Bool → Drive
phase reset lines phi1 phi2 = record { phi1 = phi1; phi2 = phi2; reset = reset; lines = lines }

-- The values after one clock: the lines and the reset change while both clocks are low, then PHI1 is high and low, and
-- PHI2 high and low.
abbrev pub clocked : Netlist → Bool → List Bool → List Bool → List Bool
clocked netlist reset lines values =
    let changed = settled netlist (phase reset lines false false) values in
    let first = settled netlist (phase reset lines true false) changed in
    let between = settled netlist (phase reset lines false false) first in
    let second = settled netlist (phase reset lines false true) between in
    settled netlist (phase reset lines false false) second
