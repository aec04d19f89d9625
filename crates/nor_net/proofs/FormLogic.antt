-- The switch form of a netlist is clocked logic, and an order of evaluation gives its levels.
use Rattle.std.specs.Prelude.{⊤}
use Rattle.std.proofs.Common.{◌≡◌, ◌≢◌, inl, inr, ℕ, zero, suc, ◌<◌, ◌==◌, Bool, true, false, List, [], ◌∷◌, length, slice_index_or, Option, Some, None, All, AllPairs, Contains, refl, sym, ◌∙◌, arith, eq-eqb, eqb-true}
use Rattle.std.specs.List.{AllByRecursion}
use Rattle.std.proofs.lemmas.Bool.{ne_eqb, cases_Bool}
use Rattle.std.proofs.lemmas.List.Elements.{recursion_from_All, All-contains}
use Rattle.rx_text.specs.declared.pad_name.Role.{Role}
use Rattle.rx_text.specs.declared.pad_name.Role.TheVariants.{Gnd, Phi1, Phi2}
use Rattle.switch_net.specs.Settling.{fixed_level}
use Rattle.switch_net.specs.Clock.{Drive, drives_of}
use Rattle.switch_net.specs.ClockedLogic.{is_fixed, IsLogicDevice, NamesBelow, IsClockedLogic, IsEvaluationOrder}
use Rattle.switch_net.specs.ClockedLogic.NetKind.{fixed, gate}
use Rattle.switch_net.specs.Validity.{HasRole}
use Rattle.switch_net.specs.declared.network.Pad.{Pad}
use Rattle.switch_net.specs.declared.network.Device.{Device}
use Rattle.switch_net.specs.declared.network.Device.TheVariants.{Pass, Load}
use Rattle.nor_net.specs.Netlist.{NorGate, Netlist, place, IsGate, IsTransfer, IsNetlist}
use Rattle.nor_net.specs.Evaluation.{is_output, is_high, transfer_to}
use Rattle.nor_net.specs.SwitchForm.{at, net_of, transfer_device, devices_of, switch_form}
use Rattle.nor_net.specs.declared.gate.Transfer.{Transfer}
use Rattle.nor_net.proofs.Pads.{FirstOn, role_on, first_ground, phi1_level, phi2_level}
use Rattle.nor_net.proofs.NetKinds as kinds
use Rattle.nor_net.proofs.NetKinds.{kind_from, kind_of, found, output_gate, output_at, data_fixed}
use Rattle.nor_net.proofs.FormDevices.{every, output_load, transfer_contained}

same_at : {X : Type 0} (xs : List X) (k : ℕ) (d : X) → k < length xs
    → slice_index_or xs k (slice_index_or xs k d) ≡ slice_index_or xs k d
same_at [] k d lt = absurd (omega arith)
same_at (x ∷ xs) zero d lt = refl
same_at (x ∷ xs) (suc k) d lt = same_at xs k d (omega arith)

first_below : (pads : List Pad) (n net : ℕ) (role : Role) → AllByRecursion (λ (pad : Pad). pad.net.0 < n) pads → FirstOn pads net role → net < n
first_below [] n net role all h = absurd h
first_below (pad ∷ pads) n net role all (inl h) = rw (← h.0) all.0
first_below (pad ∷ pads) n net role all (inr h) = first_below pads n net role all.1 h.1

fixed_below : (pads : List Pad) (n net : ℕ) → AllByRecursion (λ (pad : Pad). pad.net.0 < n) pads → is_fixed pads net ≡ true → net < n
fixed_below [] n net all e = absurd (cc)
fixed_below (pad ∷ pads) n net all e =
    elim (cases_Bool (pad.net.0 == net)) [
      | inl here ↦ rw (← eqb-true _ _ here) all.0
      | inr other ↦ fixed_below pads n net all.1 (rw other at e)
    ]

-- each transfer is the one that is found at its target
pub finds_at : (transfers : List Transfer) → AllPairs (λ a b. a.to ≢ b.to) transfers → (k : ℕ) (d : Transfer) → k < length transfers
    → transfer_to transfers (slice_index_or transfers k d).to ≡ Some (slice_index_or transfers k d)
finds_at [] pairs k d lt = absurd (omega arith)
finds_at (first ∷ rest) pairs zero d lt = rw (eq-eqb first.to first.to refl) refl
finds_at (first ∷ rest) pairs (suc k) d lt =
    rw (ne_eqb _ _ (pairs zero (suc k) d (omega arith) lt))
    (finds_at rest (λ i j e l m. pairs (suc i) (suc j) e (omega arith) (omega arith)) k d (omega arith))

fixed_parts : (pads : List Pad) (f o : Bool) (t : Option Transfer) → kind_from pads f o t ≡ fixed → f ≡ true
fixed_parts pads true o t e = refl
fixed_parts pads false true t e = absurd (cc)
fixed_parts pads false false None e = absurd (cc)
fixed_parts pads false false (Some transfer) e = absurd (cc)

gate_parts : (pads : List Pad) (f o : Bool) (t : Option Transfer) → kind_from pads f o t ≡ gate → o ≡ true
gate_parts pads true o t e = absurd (cc)
gate_parts pads false true t e = refl
gate_parts pads false false None e = absurd (cc)
gate_parts pads false false (Some transfer) e = absurd (cc)

moved_device : (netlist : Netlist) (transfer : Transfer) (net clock source : ℕ) → net_of netlist.pads transfer.clock ≡ clock
    → transfer.from ≡ source → transfer.to ≡ net → Contains (devices_of netlist) (transfer_device netlist.pads transfer)
    → Contains (devices_of netlist) (Pass (at clock) (at source) (at net))
moved_device netlist transfer net clock source e f g c = rw (← e, ← f, ← g) c

moved_place : (order : List ℕ) (a b c d : ℕ) → a ≡ c → b ≡ d → place order a < place order b → place order c < place order d
moved_place order a b c d e f h = rw (← e, ← f) h

module _ (netlist : Netlist) (valid : IsNetlist netlist) where
  abbrev pub low : ℕ
  low = net_of netlist.pads Gnd

  pads_below : AllByRecursion (λ (pad : Pad). pad.net.0 < netlist.nets) netlist.pads
  pads_below = recursion_from_All (λ (pad : Pad). pad.net.0 < netlist.nets) netlist.pads valid.pads.pads_below

  pub role_below : (role : Role) → HasRole netlist.pads role → net_of netlist.pads role < netlist.nets
  role_below role h = first_below netlist.pads netlist.nets _ role pads_below (role_on netlist.pads role (kinds.pads_own netlist valid) h)

  pub clock_below : (transfer : Transfer) → IsTransfer netlist transfer → net_of netlist.pads transfer.clock < netlist.nets
  clock_below transfer h = fixed_below netlist.pads netlist.nets _ pads_below (kinds.clock_fixed netlist valid transfer h)

  pub source_below : (transfer : Transfer) → IsTransfer netlist transfer → transfer.from < netlist.nets
  source_below transfer h =
      elim h.driven [
        | inl o ↦
            let g = output_gate (IsGate netlist) netlist.gates transfer.from (kinds.all_gates netlist valid)
            (output_at netlist.gates transfer.from o.0 o.1 o.2 o.3 o.4) in
            rw (← g.2) g.1.out_below
        | inr d ↦ fixed_below netlist.pads netlist.nets _ pads_below (data_fixed netlist.pads transfer.from (kinds.pads_own netlist valid) d)
      ]

  is_output_at : (k : ℕ) (d : NorGate) → k < length netlist.gates → is_output netlist.gates (slice_index_or netlist.gates k d).out ≡ true
  is_output_at k d lt = output_at netlist.gates _ k (slice_index_or netlist.gates k d) lt (same_at netlist.gates k d lt) refl

  -- no transfer leads to the low net
  pub not_low : (transfer : Transfer) → IsTransfer netlist transfer → transfer.to ≢ low
  not_low transfer h e =
      let free = kinds.target_free netlist valid transfer h in
      let f : is_fixed netlist.pads transfer.to ≡ true = rw e (kinds.ground_is_fixed netlist valid) in
      cc

  pub is_logic : IsClockedLogic (switch_form netlist) low (kind_of netlist)
  is_logic = record {
    grounded = first_ground netlist.pads low (role_on netlist.pads Gnd (kinds.pads_own netlist valid) valid.pads.gnd);
    ground_below = role_below Gnd valid.pads.gnd;
    pads = λ net lt. (
      λ e. kinds.fixed_kind netlist valid net e,
      λ k. fixed_parts netlist.pads (is_fixed netlist.pads net) (is_output netlist.gates net) (transfer_to netlist.transfers net) k,
    );
    devices = every (IsLogicDevice low (kind_of netlist)) netlist
        (λ net lt o. kinds.output_kind netlist valid net o)
        (λ k d lt j e jl. inl (kinds.output_kind netlist valid _ (is_output_at k d lt), refl))
        (λ k d lt.
        let h = valid.transfers k d lt in
        inr (
          kinds.target_kind netlist valid _ h (finds_at netlist.transfers valid.one_transfer k d lt),
          kinds.fixed_kind netlist valid _ (kinds.clock_fixed netlist valid _ h),
          kinds.source_kind netlist valid _ h,
        ));
    below = every (NamesBelow netlist.nets) netlist
        (λ net lt o. lt)
        (λ k d lt j e jl. ((valid.gates k d lt).inputs_below j e jl, (valid.gates k d lt).out_below, role_below Gnd valid.pads.gnd))
        (λ k d lt.
        let h = valid.transfers k d lt in
        (clock_below _ h, source_below _ h, h.to_below));
    loads = λ net lt k. output_load netlist net lt
        (gate_parts netlist.pads (is_fixed netlist.pads net) (is_output netlist.gates net) (transfer_to netlist.transfers net) k);
    transfers = λ net clock source lt k.
        let t = kinds.stored_transfer netlist valid net clock source k in
        let to : t.0.to ≡ net = (found (λ x. ⊤) netlist.transfers net t.0 (everything netlist.transfers) t.1).1 in
        moved_device netlist t.0 net clock source t.2 t.3 to (transfer_contained netlist net t.0 t.1);
  }
    where
      everything : (transfers : List Transfer) → AllByRecursion (λ (x : Transfer). ⊤) transfers
      everything [] = tt
      everything (x ∷ xs) = (tt, everything xs)

  -- a pass device to the low net has its gate before the net that it pulls down
  abbrev IsBelow : List ℕ → Device → Type 0
  IsBelow order (Load net) = ⊤
  IsBelow order (Pass input a b) = b.0 ≡ low → place order input.0 < place order a.0

  -- the net of a transfer's clock is at the level of the clock
  pub clock_level : (drive : Drive) (transfer : Transfer) → IsTransfer netlist transfer
      → fixed_level netlist.pads (drives_of drive netlist.pads) (net_of netlist.pads transfer.clock) ≡ Some (is_high drive transfer.clock)
  clock_level drive transfer h =
      elim h.clocked [
        | inl e ↦ rw e (phi1_level drive drive.lines netlist.pads _ (role_on netlist.pads Phi1 (kinds.pads_own netlist valid) valid.pads.phi1))
        | inr e ↦ rw e (phi2_level drive drive.lines netlist.pads _ (role_on netlist.pads Phi2 (kinds.pads_own netlist valid) valid.pads.phi2))
      ]

  module _ (drive : Drive) (order : List ℕ)
      (gates_ordered : All (λ g. All (λ input. place order input < place order g.out) g.inputs) netlist.gates)
      (open_ordered : All (λ transfer. is_high drive transfer.clock ≡ true → place order transfer.from < place order transfer.to) netlist.transfers) where
    pub has_order : IsEvaluationOrder (switch_form netlist) low (kind_of netlist) (drives_of drive netlist.pads) (place order)
    has_order = record {
      inputs = λ input a c. All-contains (IsBelow order) _ _
          (every (IsBelow order) netlist (λ net lt o. tt) (λ k d lt j e jl low_is. gates_ordered k d lt j e jl)
          (λ k d lt low_is. absurd (not_low _ (valid.transfers k d lt) low_is))) c refl;
      sources = λ net clock source lt k high.
          let t = kinds.stored_transfer netlist valid net clock source k in
          let f = found (λ x. is_high drive x.clock ≡ true → place order x.from < place order x.to) netlist.transfers net t.0
          (recursion_from_All (λ (x : Transfer). is_high drive x.clock ≡ true → place order x.from < place order x.to) netlist.transfers open_ordered) t.1 in
          let h = (found (IsTransfer netlist) netlist.transfers net t.0 (kinds.all_transfers netlist valid) t.1).0 in
          let level = clock_level drive t.0 h in
          let same : Some (is_high drive t.0.clock) ≡ Some true = sym level ∙ rw (t.2) high in
          let up : is_high drive t.0.clock ≡ true = cc in
          moved_place order t.0.from t.0.to source net t.3 f.1 (f.0 up);
    }
