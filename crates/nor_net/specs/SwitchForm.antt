-- The form of a netlist as a switch network, and what it is to compute.
use Rattle.std.specs.Prelude.{◌≡◌, ◌<◌, ℕ, Bool, if◌then◌else◌, List, [], ◌∷◌, ◌++◌, length, map, flat_map, find, Option, Some, None}
use Rattle.std.specs.List.{range_with_len}
use Rattle.rx_text.specs.declared.pad_name.Role.{Role}
use Rattle.rx_text.specs.declared.pad_name.Role.TheVariants.{Gnd}
use Rattle.switch_net.specs.Circuit.{Circuit}
use Rattle.switch_net.specs.Clock.{Clock}
use Rattle.switch_net.specs.Settling.{Values}
use Rattle.switch_net.specs.Validity.{is_same_role}
use Rattle.switch_net.specs.declared.network.Net.{Net}
use Rattle.switch_net.specs.declared.network.Pad.{Pad}
use Rattle.switch_net.specs.declared.network.Device.{Device}
use Rattle.switch_net.specs.declared.network.Device.TheVariants.{Pass, Load}
use Rattle.nor_net.specs.Netlist.{NorGate, Netlist}
use Rattle.nor_net.specs.Evaluation.{value_at, is_output, clocked}
use Rattle.nor_net.specs.declared.gate.Transfer.{Transfer}

-- the net with this number
abbrev pub at : ℕ → Net
at net = record { 0 = net }

-- the net of the pad, 0 where there is none
abbrev pub found_net : Option Pad → ℕ
found_net (Some pad) = pad.net.0
found_net None = 0

-- the net of the first pad of this role
abbrev pub net_of : List Pad → Role → ℕ
net_of pads role = found_net (find (λ pad. is_same_role pad.name.role role) pads)

-- a load at the net, where it is a gate's output
abbrev pub load_at : List NorGate → ℕ → List Device
load_at gates net = if is_output gates net then Load (at net) ∷ [] else []

-- a pass device from the output to the low supply for each input
abbrev pub pull_downs : ℕ → NorGate → List Device
pull_downs low gate = map (λ (input : ℕ). Pass (at input) (at gate.out) (at low)) gate.inputs

-- a pass device from the source to the target, whose gate is the net of the clock
abbrev pub transfer_device : List Pad → Transfer → Device
transfer_device pads transfer = Pass (at (net_of pads transfer.clock)) (at transfer.from) (at transfer.to)

-- one load for each output, the pull-downs of each gate, and a device for each transfer
abbrev pub devices_of : Netlist → List Device
devices_of netlist =
    flat_map (load_at netlist.gates) (range_with_len 0 netlist.nets)
    ++ flat_map (pull_downs (net_of netlist.pads Gnd)) netlist.gates
    ++ map (transfer_device netlist.pads) netlist.transfers

-- the switch network of the netlist
abbrev pub switch_form : Netlist → Circuit
switch_form netlist = record { nets = netlist.nets; pads = netlist.pads; devices = devices_of netlist }

-- the list has the values of all nets, in their order
abbrev pub Lists : ℕ → List Bool → Values → Type 0
Lists nets values v = (length values ≡ nets) × ((net : ℕ) → net < nets → v net ≡ value_at values net)

-- From all charges, and whatever the lines and the reset, a clock of the circuit exists, and each one leaves the values
-- that the netlist has after one clock from these charges.
pub record Computes (circuit : Circuit) (netlist : Netlist) : Type 0 where
  pub runs : (reset : Bool) (lines : List Bool) (q : Values) → (v : Values) × Clock circuit reset lines q v
  pub gives : (reset : Bool) (lines : List Bool) (q v : Values) (state : List Bool) → Clock circuit reset lines q v
      → Lists netlist.nets state q → Lists netlist.nets (clocked netlist reset lines state) v
