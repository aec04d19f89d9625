-- What each net of a netlist is in clocked logic.
use Rattle.std.proofs.Common.{◌≡◌, ◌≢◌, ◌⊎◌, inl, inr, ℕ, zero, suc, ◌<◌, ◌==◌, Bool, true, false, List, [], ◌∷◌, length, slice_index_or, Option, Some, None, refl, arith, eq-eqb, eqb-true}
use Rattle.std.specs.List.{AllByRecursion}
use Rattle.std.proofs.lemmas.Bool.{ne_eqb, cases_Bool, or_cases, or_left, or_right}
use Rattle.std.proofs.lemmas.List.Elements.{recursion_from_All}
use Rattle.rx_text.specs.declared.pad_name.Role.{Role}
use Rattle.rx_text.specs.declared.pad_name.Role.TheVariants.{Gnd, Phi1, Phi2, Reset, Input}
use Rattle.switch_net.specs.ClockedLogic.{NetKind, is_fixed}
use Rattle.switch_net.specs.ClockedLogic.NetKind.{fixed, gate, stored, isolated}
use Rattle.switch_net.specs.declared.network.Pad.{Pad}
use Rattle.nor_net.specs.Netlist.{NorGate, Netlist, IsData, IsGate, IsTransfer, IsNetlist}
use Rattle.nor_net.specs.Evaluation.{is_output, transfer_to}
use Rattle.nor_net.specs.SwitchForm.{net_of}
use Rattle.nor_net.specs.declared.gate.Transfer.{Transfer}
use Rattle.nor_net.proofs.Pads.{HaveOwnNets, own_nets, SomeOn, first_on, first_fixed, role_on, off_free}

-- what a net is, by whether a pad fixes it, whether it is an output, and the transfer to it
abbrev pub kind_from : List Pad → Bool → Bool → Option Transfer → NetKind
kind_from pads true output transfer = fixed
kind_from pads false true transfer = gate
kind_from pads false false (Some transfer) = stored (net_of pads transfer.clock) transfer.from
kind_from pads false false None = isolated

abbrev pub kind_of : Netlist → ℕ → NetKind
kind_of netlist net =
    kind_from netlist.pads (is_fixed netlist.pads net) (is_output netlist.gates net) (transfer_to netlist.transfers net)

-- what holds of all transfers holds of the one that is found
pub found : (P : Transfer → Type 0) (transfers : List Transfer) (net : ℕ) (transfer : Transfer) → AllByRecursion P transfers
    → transfer_to transfers net ≡ Some transfer → P transfer × (transfer.to ≡ net)
found P [] net transfer all e = absurd (cc)
found P (first ∷ transfers) net transfer all e =
    elim (cases_Bool (first.to == net)) [
      | inl here ↦
          let s : Some first ≡ Some transfer = rw here at e in
          let same : first ≡ transfer = cc in
          rw (← same) (all.0, eqb-true _ _ here)
      | inr other ↦ found P transfers net transfer all.1 (rw other at e)
    ]

-- each transfer is the one that is found
pub finds : (transfers : List Transfer) (net : ℕ) → AllByRecursion (λ (transfer : Transfer). transfer.to ≢ net) transfers
    → transfer_to transfers net ≡ None
finds [] net h = refl
finds (first ∷ transfers) net h = rw (ne_eqb first.to net h.0) (finds transfers net h.1)

-- the output of no gate
pub no_output : (gates : List NorGate) (net : ℕ) → AllByRecursion (λ (g : NorGate). g.out ≢ net) gates → is_output gates net ≡ false
no_output [] net h = refl
no_output (first ∷ gates) net h = rw (ne_eqb first.out net h.0) (no_output gates net h.1)

-- what holds of all gates holds of one with this output
pub output_gate : (P : NorGate → Type 0) (gates : List NorGate) (net : ℕ) → AllByRecursion P gates → is_output gates net ≡ true
    → (g : NorGate) × P g × (g.out ≡ net)
output_gate P [] net all e = absurd (cc)
output_gate P (first ∷ gates) net all e =
    elim (or_cases _ _ e) [
      | inl here ↦ (first, all.0, eqb-true _ _ here)
      | inr later ↦ output_gate P gates net all.1 later
    ]

pub output_at : (gates : List NorGate) (net k : ℕ) (g : NorGate) → k < length gates → slice_index_or gates k g ≡ g → g.out ≡ net
    → is_output gates net ≡ true
output_at [] net k g lt e o = absurd (omega arith)
output_at (first ∷ gates) net zero g lt e o = or_left _ _ (eq-eqb first.out net (rw e o))
output_at (first ∷ gates) net (suc k) g lt e o = or_right _ _ (output_at gates net k g (omega arith) e o)

data_at : (pads : List Pad) (net k : ℕ) (pad : Pad) (role : Role) → k < length pads → slice_index_or pads k pad ≡ pad → pad.net.0 ≡ net
    → pad.name.role ≡ role → SomeOn pads net role
data_at [] net k pad role lt e n r = absurd (omega arith)
data_at (first ∷ pads) net zero pad role lt e n r = inl (rw e n, rw e r)
data_at (first ∷ pads) net (suc k) pad role lt e n r = inr (data_at pads net k pad role (omega arith) e n r)

pub data_fixed : (pads : List Pad) (net : ℕ) → HaveOwnNets pads → IsData pads net → is_fixed pads net ≡ true
data_fixed pads net own h =
    let pad : Pad = h.1 in
    elim h.4.1 [
      | inl reset ↦ first_fixed pads net Reset refl (first_on pads net Reset own (data_at pads net h.0 pad Reset h.2 h.3 h.4.0 reset))
      | inr input ↦ first_fixed pads net Input refl (first_on pads net Input own (data_at pads net h.0 pad Input h.2 h.3 h.4.0 input))
    ]

module _ (netlist : Netlist) (valid : IsNetlist netlist) where
  pub pads_own : HaveOwnNets netlist.pads
  pads_own = own_nets netlist.pads valid.pads.distinct

  pub ground_is_fixed : is_fixed netlist.pads (net_of netlist.pads Gnd) ≡ true
  ground_is_fixed = first_fixed netlist.pads _ Gnd refl (role_on netlist.pads Gnd pads_own valid.pads.gnd)

  pub all_gates : AllByRecursion (IsGate netlist) netlist.gates
  all_gates = recursion_from_All (IsGate netlist) netlist.gates valid.gates

  pub all_transfers : AllByRecursion (IsTransfer netlist) netlist.transfers
  all_transfers = recursion_from_All (IsTransfer netlist) netlist.transfers valid.transfers

  -- no pad fixes an output
  pub output_free : (net : ℕ) → is_output netlist.gates net ≡ true → is_fixed netlist.pads net ≡ false
  output_free net e =
      let g = output_gate (IsGate netlist) netlist.gates net all_gates e in
      rw (← g.2) g.1.free

  pub output_kind : (net : ℕ) → is_output netlist.gates net ≡ true → kind_of netlist net ≡ gate
  output_kind net e = rw (output_free net e, e) refl

  pub fixed_kind : (net : ℕ) → is_fixed netlist.pads net ≡ true → kind_of netlist net ≡ fixed
  fixed_kind net e = rw e refl

  pub target_free : (transfer : Transfer) → IsTransfer netlist transfer → is_fixed netlist.pads transfer.to ≡ false
  target_free transfer h =
      off_free netlist.pads transfer.to (recursion_from_All (λ (pad : Pad). pad.net.0 ≢ transfer.to) netlist.pads h.no_pad)

  target_no_output : (transfer : Transfer) → IsTransfer netlist transfer → is_output netlist.gates transfer.to ≡ false
  target_no_output transfer h =
      no_output netlist.gates transfer.to (recursion_from_All (λ (g : NorGate). g.out ≢ transfer.to) netlist.gates h.no_gate)

  -- the net of a transfer's clock is fixed
  pub clock_fixed : (transfer : Transfer) → IsTransfer netlist transfer
      → is_fixed netlist.pads (net_of netlist.pads transfer.clock) ≡ true
  clock_fixed transfer h =
      elim h.clocked [
        | inl e ↦ rw e (first_fixed netlist.pads _ Phi1 refl (role_on netlist.pads Phi1 pads_own valid.pads.phi1))
        | inr e ↦ rw e (first_fixed netlist.pads _ Phi2 refl (role_on netlist.pads Phi2 pads_own valid.pads.phi2))
      ]

  -- its source is a gate or fixed
  pub source_kind : (transfer : Transfer) → IsTransfer netlist transfer
      → (kind_of netlist transfer.from ≡ gate) ⊎ (kind_of netlist transfer.from ≡ fixed)
  source_kind transfer h =
      elim h.driven [
        | inl o ↦ inl (output_kind transfer.from (output_at netlist.gates transfer.from o.0 o.1 o.2 o.3 o.4))
        | inr d ↦ inr (fixed_kind transfer.from (data_fixed netlist.pads transfer.from pads_own d))
      ]

  -- its target is a storage node, where the transfer is the one that is found
  pub target_kind : (transfer : Transfer) → IsTransfer netlist transfer → transfer_to netlist.transfers transfer.to ≡ Some transfer
      → kind_of netlist transfer.to ≡ stored (net_of netlist.pads transfer.clock) transfer.from
  target_kind transfer h e = rw (target_free transfer h, target_no_output transfer h, e) refl

  -- a storage node has a transfer
  pub stored_transfer : (net clock source : ℕ) → kind_of netlist net ≡ stored clock source
      → (transfer : Transfer) × (transfer_to netlist.transfers net ≡ Some transfer)
      × (net_of netlist.pads transfer.clock ≡ clock) × (transfer.from ≡ source)
  stored_transfer net clock source k = by_parts (is_fixed netlist.pads net) (is_output netlist.gates net) (transfer_to netlist.transfers net) refl k
    where
      by_parts : (f o : Bool) (t : Option Transfer) → transfer_to netlist.transfers net ≡ t → kind_from netlist.pads f o t ≡ stored clock source
          → (transfer : Transfer) × (transfer_to netlist.transfers net ≡ Some transfer)
          × (net_of netlist.pads transfer.clock ≡ clock) × (transfer.from ≡ source)
      by_parts true o t e k = absurd (cc)
      by_parts false true t e k = absurd (cc)
      by_parts false false None e k = absurd (cc)
      by_parts false false (Some transfer) e k = (transfer, e, cc, cc)
