-- Pieces of a netlist: parts that are joined at ports, and the network of one part.
use Rattle.std.specs.Prelude.{◌≢◌, ℕ, ◌<◌, ◌≤◌, ◌^◌, ◌⊎◌, ◌≡◌, List, [], ◌∷◌, ◌++◌, length, map, flat_map, All, AllPairs}
use Rattle.rx_text.specs.declared.pad_name.Role.{Role}
use Rattle.rx_text.specs.declared.pad_name.Role.TheVariants.{Vdd, Gnd, Phi1, Phi2, Reset, Input, Output}
use Rattle.switch_net.specs.declared.network.Device.{Device}
use Rattle.switch_net.specs.declared.network.Device.TheVariants.{Pass, Load}
use Rattle.nor_net.specs.Netlist.{NorGate}
use Rattle.nor_net.specs.SwitchForm.{at, pull_downs}
use Rattle.nor_net.specs.declared.gate.Transfer.{Transfer}
use Rattle.nor_net.specs.declared.part.PartPort.{PartPort}

-- Nets are numbered from 0 within the part; four of them are the supplies and the clocks. A gate whose output is not among
-- the loads only pulls that net low: its load is in another part.
pub record PartTables : Type 0 where
  pub nets : ℕ
  pub vdd : ℕ
  pub gnd : ℕ
  pub phi1 : ℕ
  pub phi2 : ℕ
  pub gates : List NorGate
  pub loads : List ℕ
  pub transfers : List Transfer
  pub ports : List PartPort

-- the supplies and the clocks
abbrev pub supply_nets : PartTables → List ℕ
supply_nets part = part.vdd ∷ part.gnd ∷ part.phi1 ∷ part.phi2 ∷ []

-- The gate names nets below the number of nets, and no input twice.
pub record IsPartGate (nets : ℕ) (gate : NorGate) : Type 0 where
  pub out_below : gate.out < nets
  pub inputs_below : All (λ input. input < nets) gate.inputs
  pub distinct : AllPairs (λ a b. a ≢ b) gate.inputs

-- The transfer is clocked by PHI1 or PHI2 and names nets below the number of nets.
pub record IsPartTransfer (nets : ℕ) (transfer : Transfer) : Type 0 where
  pub clocked : (transfer.clock ≡ Phi1) ⊎ (transfer.clock ≡ Phi2)
  pub from_below : transfer.from < nets
  pub to_below : transfer.to < nets

-- Every net that the part names is one of its nets, the supplies and clocks differ, and each load stands once. There are
-- at most 2^16 nets, and as many entries in each list.
pub record IsPart (part : PartTables) : Type 0 where
  pub few_nets : part.nets ≤ 2 ^ 16
  pub few_gates : length part.gates ≤ 2 ^ 16
  pub few_loads : length part.loads ≤ 2 ^ 16
  pub few_transfers : length part.transfers ≤ 2 ^ 16
  pub few_ports : length part.ports ≤ 2 ^ 16
  pub supplies_below : All (λ net. net < part.nets) (supply_nets part)
  pub supplies_differ : AllPairs (λ a b. a ≢ b) (supply_nets part)
  pub gates : All (IsPartGate part.nets) part.gates
  pub loads_below : All (λ net. net < part.nets) part.loads
  pub loads_once : AllPairs (λ a b. a ≢ b) part.loads
  pub transfers : All (IsPartTransfer part.nets) part.transfers
  pub ports : All (λ port. port.net < part.nets) part.ports

-- the net of the clock of this role
abbrev pub clock_net : PartTables → Role → ℕ
clock_net part Phi1 = part.phi1
clock_net part Phi2 = part.phi2
clock_net part Vdd = part.vdd
clock_net part Gnd = part.gnd
clock_net part Reset = part.gnd
clock_net part Input = part.gnd
clock_net part Output = part.gnd

-- the pass device of a transfer, whose gate is the net of its clock
abbrev pub clocked_device : PartTables → Transfer → Device
clocked_device part transfer = Pass (at (clock_net part transfer.clock)) (at transfer.from) (at transfer.to)

-- The devices of the part's network: a pass device from the output to ground for each input of a gate, the loads, and a
-- device for each transfer.
abbrev pub part_devices : PartTables → List Device
part_devices part =
    flat_map (pull_downs part.gnd) part.gates
    ++ map (λ (net : ℕ). Load (at net)) part.loads
    ++ map (clocked_device part) part.transfers
