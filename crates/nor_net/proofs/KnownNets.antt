-- Which nets of a netlist a ternary settling of its switch form tells, by the netlist's gates and transfers.
use Rattle.std.specs.Prelude.{⊤}
use Rattle.std.proofs.Common.{◌≡◌, ◌≢◌, ◌⊎◌, inl, inr, ℕ, suc, ◌<◌, ◌==◌, ◌&&◌, Bool, true, false, List, [], ◌∷◌, length, slice_index_or, Some, All, refl, sym, ap, ◌∙◌, subst, arith, eq-eqb, eqb-true}
use Rattle.std.specs.List.{AllByRecursion, list_any}
use Rattle.std.proofs.lemmas.Bool.{ne_eqb, or_cases, or_left, or_right, and_parts, and_from}
use Rattle.std.proofs.lemmas.List.Elements.{All-contains, recursion_from_All}
use Rattle.rx_text.specs.declared.pad_name.Role.{Role}
use Rattle.rx_text.specs.declared.pad_name.Role.TheVariants.{Phi1, Phi2, Reset}
use Rattle.switch_net.specs.Settling.{Values, fixed_level}
use Rattle.switch_net.specs.Clock.{Drive, drives_from, drives_of}
use Rattle.switch_net.specs.ClockedLogic.{NetKind, is_fixed, FollowsLogic}
use Rattle.switch_net.specs.ClockedLogic.NetKind.{gate, stored}
use Rattle.switch_net.specs.Ternary.{Levels, level_of, SettledLevels}
use Rattle.switch_net.specs.TernaryLogic.{IsPullDown, IsTold, ToldNetsSettle}
use Rattle.switch_net.specs.declared.network.Device.{Device}
use Rattle.switch_net.specs.declared.network.Device.TheVariants.{Pass, Load}
use Rattle.switch_net.specs.declared.network.Pad.{Pad}
use Rattle.switch_net.specs.declared.network.Net.{Net}
use Rattle.nor_net.specs.Netlist.{NorGate, Netlist, place, IsTransfer, IsOrder, IsNetlist}
use Rattle.nor_net.specs.Evaluation.{is_output, is_high, transfer_to}
use Rattle.nor_net.specs.Clearing.{is_cleared}
use Rattle.nor_net.specs.SwitchForm.{net_of, switch_form, devices_of}
use Rattle.nor_net.specs.declared.gate.Transfer.{Transfer}
use Rattle.nor_net.proofs.Pads.{FirstOn, role_on, drives_sized}
use Rattle.nor_net.proofs.NetKinds as kinds
use Rattle.nor_net.proofs.NetKinds.{kind_of, found}
use Rattle.nor_net.proofs.FormDevices.{every, pulled_by, form_pulls}
use Rattle.nor_net.proofs.FormLogic as logic
use Rattle.nor_net.proofs.FormLogic.{low, is_logic, role_below}
use Rattle.nor_net.proofs.Order.{place_within}
use Rattle.nor_net.proofs.Orders.{few_in_order}

-- the net of the reset pad is at the level of the reset
reset_level : (drive : Drive) (bits : List Bool) (pads : List Pad) (net : ℕ) → FirstOn pads net Reset
    → fixed_level pads (drives_from drive bits pads) net ≡ Some drive.reset
reset_level drive bits [] net h = absurd h
reset_level drive bits (pad ∷ pads) net (inl h) = rw (eq-eqb pad.net.0 net h.0, h.1) refl
reset_level drive bits (pad ∷ pads) net (inr h) = rw (ne_eqb pad.net.0 net h.0) (reset_level drive _ pads net h.1)

-- one of the inputs is high where it is the one looked for
any_input : (inputs : List ℕ) (w : Values) (net : ℕ) → w net ≡ true → list_any (λ input. input == net) inputs ≡ true → list_any w inputs ≡ true
any_input [] w net h e = cc
any_input (input ∷ inputs) w net h e =
    elim (or_cases _ _ e) [
      | inl here ↦ or_left _ _ (subst (λ n. w n ≡ true) (sym (eqb-true input net here)) h)
      | inr later ↦ or_right _ _ (any_input inputs w net h later)
    ]

-- the reset is among the inputs of the gate, whose output is the net
abbrev pub clears : ℕ → ℕ → NorGate → Bool
clears reset net g = g.out == net && list_any (λ input. input == reset) g.inputs

-- the gate pulls the net down
abbrev pulls : Values → ℕ → NorGate → Bool
pulls w net g = g.out == net && list_any w g.inputs

cleared_pulled : (gates : List NorGate) (reset net : ℕ) (w : Values) → w reset ≡ true → list_any (clears reset net) gates ≡ true
    → pulled_by gates w net ≡ true
cleared_pulled [] reset net w h e = cc
cleared_pulled (g ∷ gates) reset net w h e =
    elim (or_cases (clears reset net g) (list_any (clears reset net) gates) e) [
      | inl here ↦
          let parts = and_parts (g.out == net) (list_any (λ input. input == reset) g.inputs) here in
          or_left (pulls w net g) (pulled_by gates w net) (and_from (g.out == net) (list_any w g.inputs) parts.0 (any_input g.inputs w reset h parts.1))
      | inr later ↦ or_right (pulls w net g) (pulled_by gates w net) (cleared_pulled gates reset net w h later)
    ]

-- the reset stands before what it clears
any_before : (order inputs : List ℕ) (net out : ℕ) → AllByRecursion (λ input. place order input < place order out) inputs
    → list_any (λ input. input == net) inputs ≡ true → place order net < place order out
any_before order [] net out h e = absurd (cc)
any_before order (input ∷ inputs) net out h e =
    elim (or_cases _ _ e) [
      | inl here ↦ subst (λ n. place order n < place order out) (eqb-true input net here) h.0
      | inr later ↦ any_before order inputs net out h.1 later
    ]

cleared_before : (order : List ℕ) (gates : List NorGate) (reset net : ℕ)
    → AllByRecursion (λ (g : NorGate). AllByRecursion (λ input. place order input < place order g.out) g.inputs) gates
    → list_any (clears reset net) gates ≡ true → place order reset < place order net
cleared_before order [] reset net h e = absurd (cc)
cleared_before order (g ∷ gates) reset net h e =
    elim (or_cases (clears reset net g) (list_any (clears reset net) gates) e) [
      | inl here ↦
          let parts = and_parts (g.out == net) (list_any (λ input. input == reset) g.inputs) here in
          subst (λ n. place order reset < place order n) (eqb-true g.out net parts.0) (any_before order g.inputs reset g.out h.0 parts.1)
      | inr later ↦ cleared_before order gates reset net h.1 later
    ]

module _ (netlist : Netlist) (valid : IsNetlist netlist) where
  abbrev pub reset_net : ℕ
  reset_net = net_of netlist.pads Reset

  not_lows : AllByRecursion (λ (transfer : Transfer). transfer.to ≢ low netlist valid) netlist.transfers
  not_lows = recursion_from_All (λ (transfer : Transfer). transfer.to ≢ low netlist valid) netlist.transfers
      (λ k d l. logic.not_low netlist valid _ (valid.transfers k d l))

  -- what holds of every input of the gates with this output holds of the gate of every pull-down
  pull_down_holds : (Q : ℕ → Type 0) (net : ℕ)
      → ((k : ℕ) (d : NorGate) → k < length netlist.gates → (j e : ℕ) → j < length (slice_index_or netlist.gates k d).inputs
      → (slice_index_or netlist.gates k d).out ≡ net → Q (slice_index_or (slice_index_or netlist.gates k d).inputs j e))
      → (input : Net) → IsPullDown (switch_form netlist) (low netlist valid) input net → Q input.0
  pull_down_holds Q net h input c =
      All-contains P (devices_of netlist) _
      (every P netlist (λ n lt o. tt) (λ k d lt j e jl is_low same. h k d lt j e jl same)
      (λ k d lt is_low same. absurd (logic.not_low netlist valid _ (valid.transfers k d lt) is_low))) c refl refl
    where
      P : Device → Type 0
      P (Load n) = ⊤
      P (Pass i a b) = b.0 ≡ low netlist valid → a.0 ≡ net → Q i.0

  module _ (told : ToldNetsSettle) (drive : Drive) (clock : Role)
      (only : (role : Role) → (role ≡ Phi1) ⊎ (role ≡ Phi2) → is_high drive role ≡ true → role ≡ clock)
      (order : List ℕ) (ordered : IsOrder netlist clock order) (q v : Levels) (charges x : Values)
      (follows : FollowsLogic (switch_form netlist) (low netlist valid) (kind_of netlist) (drives_of drive netlist.pads) charges x)
      (levels : SettledLevels (switch_form netlist) (drives_of drive netlist.pads) q v) (known : ℕ → Bool) where
    -- the reset is high and clears the net
    pub record ByReset (net : ℕ) : Type 0 where
      pub reset : drive.reset ≡ true
      pub cleared : is_cleared netlist net ≡ true
      pub known_reset : known reset_net ≡ true

    -- all inputs of the gates with this output are known
    abbrev pub ByInputs : ℕ → Type 0
    ByInputs net = All (λ g. g.out ≡ net → All (λ input. known input ≡ true) g.inputs) netlist.gates

    -- the transfer to the net leads from a known net while its clock is high, and the net's charge is known while it is low
    pub record ByTransfer (net : ℕ) : Type 0 where
      pub transfer : Transfer
      pub leads : transfer_to netlist.transfers net ≡ Some transfer
      pub source : is_high drive transfer.clock ≡ true → known transfer.from ≡ true
      pub charge : is_high drive transfer.clock ≡ false → q net ≡ level_of (charges net)

    abbrev pub NetTold : ℕ → Type 0
    NetTold net = (is_fixed netlist.pads net ≡ true) ⊎ (((is_output netlist.gates net ≡ true) × (ByReset net ⊎ ByInputs net)) ⊎ ByTransfer net)

    abbrev Told : NetKind → ℕ → Type 0
    Told k net = IsTold (switch_form netlist) (low netlist valid) (kind_of netlist) q x (place order) known k net

    reset_told : (net : ℕ) → ByReset net → Told gate net
    reset_told net h =
        let below = role_below netlist valid Reset valid.pads.reset in
        inl (record {
          input = reset_net;
          in_nets = below;
          pulls = λ w e. form_pulls netlist w net not_lows ∙ cleared_pulled netlist.gates reset_net net w e h.cleared;
          high = follows.pads reset_net drive.reset below
              (reset_level drive drive.lines netlist.pads reset_net (role_on netlist.pads Reset (kinds.pads_own netlist valid) valid.pads.reset)) ∙ h.reset;
          below = (
            h.known_reset,
            cleared_before order netlist.gates reset_net net
                (recursion_from_All (λ (g : NorGate). AllByRecursion (λ input. place order input < place order g.out) g.inputs) netlist.gates
                (λ k d lt. recursion_from_All (λ input. place order input < place order (slice_index_or netlist.gates k d).out) _ (ordered.gates k d lt))) h.cleared,
          );
        })

    inputs_told : (net : ℕ) → ByInputs net → Told gate net
    inputs_told net h =
        inr (λ input c. (
          pull_down_holds (λ i. known i ≡ true) net (λ k d lt j e jl same. h k d lt same j e jl) input c,
          pull_down_holds (λ i. place order i < place order net) net
              (λ k d lt j e jl same. subst (λ o. place order (slice_index_or (slice_index_or netlist.gates k d).inputs j e) < place order o) same (ordered.gates k d lt j e jl)) input c,
        ))

    transfer_told : (net : ℕ) → net < netlist.nets → ByTransfer net → (k : NetKind) × (kind_of netlist net ≡ k) × Told k net
    transfer_told net lt h =
        let f = found (IsTransfer netlist) netlist.transfers net h.transfer (kinds.all_transfers netlist valid) h.leads in
        let kind : kind_of netlist net ≡ stored (net_of netlist.pads h.transfer.clock) h.transfer.from =
        subst (λ n. kind_of netlist n ≡ stored (net_of netlist.pads h.transfer.clock) h.transfer.from) f.1
        (kinds.target_kind netlist valid h.transfer f.0 (subst (λ n. transfer_to netlist.transfers n ≡ Some h.transfer) (sym f.1) h.leads)) in
        let level = follows.pads (net_of netlist.pads h.transfer.clock) (is_high drive h.transfer.clock) (logic.clock_below netlist valid h.transfer f.0)
        (logic.clock_level netlist valid drive h.transfer f.0) in
        let before = found (λ t. t.clock ≡ clock → place order t.from < place order t.to) netlist.transfers net h.transfer
        (recursion_from_All (λ (t : Transfer). t.clock ≡ clock → place order t.from < place order t.to) netlist.transfers ordered.transfers) h.leads in (
          stored (net_of netlist.pads h.transfer.clock) h.transfer.from,
          kind,
          (
            λ up. (
              h.source (sym level ∙ up),
              subst (λ n. place order h.transfer.from < place order n) f.1
                  (before.0 (only h.transfer.clock f.0.clocked (sym level ∙ up))),
            ),
            λ down. h.charge (sym level ∙ down) ∙ ap level_of (sym (follows.held net _ _ lt kind down)),
          ),
        )

    net_told : (net : ℕ) → net < netlist.nets → NetTold net → Told (kind_of netlist net) net
    net_told net lt (inl f) = rw (kinds.fixed_kind netlist valid net f) tt
    net_told net lt (inr (inl h)) = rw (kinds.output_kind netlist valid net h.0) (elim h.1 [ inl r ↦ reset_told net r | inr i ↦ inputs_told net i ])
    net_told net lt (inr (inr h)) = let t = transfer_told net lt h in rw (t.1) t.2

    pub phase_known : ((net : ℕ) → net < netlist.nets → known net ≡ true → NetTold net)
        → (net : ℕ) → net < netlist.nets → known net ≡ true → v net ≡ level_of (x net)
    phase_known h net lt is =
        let c = ordered.complete net lt in
        let within = place_within order net c.0 c.1 c.2 in
        let few = few_in_order netlist.nets order ordered.below ordered.distinct in
        told (switch_form netlist) (low netlist valid) (kind_of netlist) (is_logic netlist valid) (drives_of drive netlist.pads)
        (drives_sized drive drive.lines netlist.pads) q charges x follows (place order) known (λ n l k. net_told n l (h n l k))
        (suc netlist.nets) v levels net lt is (omega (arith, within, few))
