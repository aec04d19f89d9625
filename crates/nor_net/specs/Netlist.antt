-- Netlists of NOR gates and clocked transfers, and when one is well formed.
use Rattle.std.specs.Prelude.{◌≡◌, ◌≢◌, ◌<◌, ◌≤◌, ◌⊎◌, ℕ, zero, suc, ◌==◌, false, if◌then◌else◌, List, [], ◌∷◌, All, AllPairs, Any, Contains}
use Rattle.rx_text.specs.declared.pad_name.Role.{Role}
use Rattle.rx_text.specs.declared.pad_name.Role.TheVariants.{Vdd, Gnd, Phi1, Phi2, Reset, Input, Output}
use Rattle.switch_net.specs.ClockedLogic.{is_fixed}
use Rattle.switch_net.specs.Validity.{IsNetwork}
use Rattle.switch_net.specs.declared.network.Pad.{Pad}
use Rattle.nor_net.specs.declared.gate.Transfer.{Transfer}

-- A gate pulls its output low while one of its inputs is high. Several gates with one output are one NOR of all their inputs.
pub record NorGate : Type 0 where
  pub out : ℕ
  pub inputs : List ℕ

-- Nets are numbered from 0. The two orders are those of evaluation while PHI1 and while PHI2 is high.
pub record Netlist : Type 0 where
  pub nets : ℕ
  pub gates : List NorGate
  pub transfers : List Transfer
  pub pads : List Pad
  pub order1 : List ℕ
  pub order2 : List ℕ

-- where the net first stands in the order
abbrev pub place : List ℕ → ℕ → ℕ
place [] net = zero
place (first ∷ order) net = if first == net then zero else suc (place order net)

-- one more where the role is an input's
abbrev pub if_input : Role → ℕ → ℕ
if_input Input count = suc count
if_input Vdd count = count
if_input Gnd count = count
if_input Phi1 count = count
if_input Phi2 count = count
if_input Reset count = count
if_input Output count = count

-- how many of the pads are inputs
abbrev pub input_count : List Pad → ℕ
input_count [] = zero
input_count (pad ∷ pads) = if_input pad.name.role (input_count pads)

-- the net is some gate's output
abbrev pub IsOutput : List NorGate → ℕ → Type 0
IsOutput gates net = Any (λ gate. gate.out ≡ net) gates

-- the net is that of the reset pad or of an input pad
abbrev pub IsData : List Pad → ℕ → Type 0
IsData pads net = Any (λ pad. (pad.net.0 ≡ net) × ((pad.name.role ≡ Reset) ⊎ (pad.name.role ≡ Input))) pads

-- The gate names nets below the number of nets, no input twice, and an output that no pad fixes.
pub record IsGate (netlist : Netlist) (gate : NorGate) : Type 0 where
  pub out_below : gate.out < netlist.nets
  pub inputs_below : All (λ input. input < netlist.nets) gate.inputs
  pub distinct : AllPairs (λ a b. a ≢ b) gate.inputs
  pub free : is_fixed netlist.pads gate.out ≡ false

-- The transfer is clocked by PHI1 or PHI2. It leads from a gate's output, the reset or an input to a net that is neither a
-- gate's output nor a pad's.
pub record IsTransfer (netlist : Netlist) (transfer : Transfer) : Type 0 where
  pub clocked : (transfer.clock ≡ Phi1) ⊎ (transfer.clock ≡ Phi2)
  pub to_below : transfer.to < netlist.nets
  pub driven : IsOutput netlist.gates transfer.from ⊎ IsData netlist.pads transfer.from
  pub no_gate : All (λ gate. gate.out ≢ transfer.to) netlist.gates
  pub no_pad : All (λ pad. pad.net.0 ≢ transfer.to) netlist.pads

-- The order holds every net once. In it a gate's inputs stand before its output, and the source of a transfer of this clock
-- before its target.
pub record IsOrder (netlist : Netlist) (clock : Role) (order : List ℕ) : Type 0 where
  pub below : All (λ net. net < netlist.nets) order
  pub distinct : AllPairs (λ a b. a ≢ b) order
  pub complete : (net : ℕ) → net < netlist.nets → Contains order net
  pub gates : All (λ gate. All (λ input. place order input < place order gate.out) gate.inputs) netlist.gates
  pub transfers : All (λ transfer. transfer.clock ≡ clock → place order transfer.from < place order transfer.to) netlist.transfers

-- The pads are a network's, at most 16 of them inputs; gates, transfers and orders are well formed, and no two transfers
-- lead to one net.
pub record IsNetlist (netlist : Netlist) : Type 0 where
  pub pads : IsNetwork (record { nets = netlist.nets; pads = netlist.pads; devices = [] })
  pub few_inputs : input_count netlist.pads ≤ 16
  pub gates : All (IsGate netlist) netlist.gates
  pub transfers : All (IsTransfer netlist) netlist.transfers
  pub one_transfer : AllPairs (λ a b. a.to ≢ b.to) netlist.transfers
  pub first_order : IsOrder netlist Phi1 netlist.order1
  pub second_order : IsOrder netlist Phi2 netlist.order2
