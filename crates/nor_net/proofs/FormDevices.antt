-- The devices of a netlist's switch form: what holds of them all, and what they pull down.
use Rattle.std.specs.Prelude.{flat_map}
use Rattle.std.proofs.Common.{◌≡◌, ◌≢◌, inl, inr, ℕ, zero, suc, ◌+◌, ◌<◌, ◌≤◌, ◌==◌, ◌&&◌, ◌||◌, Bool, true, false, List, [], ◌∷◌, ◌++◌, map, length, slice_index_or, Some, All, Contains, refl, ap, ◌∙◌, arith}
use Rattle.std.specs.List.{AllByRecursion, list_any, range_with_len}
use Rattle.std.proofs.lemmas.Bool.{ne_eqb, cases_Bool, cases_eq}
use Rattle.std.proofs.lemmas.List.Elements.{All-nil, All-from_recursion, recursion_from_All, All-append, All-map, Contains-append_right}
use Rattle.rx_text.specs.declared.pad_name.Role.TheVariants.{Gnd}
use Rattle.switch_net.specs.Settling.{Values, HasLoad}
use Rattle.switch_net.specs.ClockedLogic.{pulls_down}
use Rattle.switch_net.specs.declared.network.Pad.{Pad}
use Rattle.switch_net.specs.declared.network.Device.{Device}
use Rattle.switch_net.specs.declared.network.Device.TheVariants.{Pass, Load}
use Rattle.nor_net.specs.Netlist.{NorGate, Netlist}
use Rattle.nor_net.specs.Evaluation.{is_output, transfer_to}
use Rattle.nor_net.specs.SwitchForm.{at, net_of, load_at, pull_downs, transfer_device, devices_of}
use Rattle.nor_net.specs.declared.gate.Transfer.{Transfer}

module _ (P : Device → Type 0) where
  all_pieces : {X : Type 0} (f : X → List Device) (xs : List X) → AllByRecursion (λ x. AllByRecursion P (f x)) xs → All P (flat_map f xs)
  all_pieces f [] h = All-nil P
  all_pieces f (x ∷ xs) h = All-append P _ _ (All-from_recursion P _ h.0) (all_pieces f xs h.1)

  load_all : (gates : List NorGate) (net : ℕ) → (is_output gates net ≡ true → P (Load (at net))) → AllByRecursion P (load_at gates net)
  load_all gates net h =
      elim (cases_Bool (is_output gates net)) [
        | inl e ↦ rw e (h e, tt)
        | inr e ↦ rw e tt
      ]

  all_range : (Q : ℕ → Type 0) (a n : ℕ) → ((k : ℕ) → a ≤ k → k < a + n → Q k) → AllByRecursion Q (range_with_len a n)
  all_range Q a zero h = tt
  all_range Q a (suc n) h = (h a (omega arith) (omega arith), all_range Q (a + 1) n (λ k l lt. h k (omega arith) (omega arith)))

  -- what holds of the loads of outputs, of each pull-down and of each transfer's device holds of all
  pub every : (netlist : Netlist) → ((net : ℕ) → net < netlist.nets → is_output netlist.gates net ≡ true → P (Load (at net)))
      → ((k : ℕ) (d : NorGate) → k < length netlist.gates → (j e : ℕ) → j < length (slice_index_or netlist.gates k d).inputs
      → P (Pass (at (slice_index_or (slice_index_or netlist.gates k d).inputs j e)) (at (slice_index_or netlist.gates k d).out) (at (net_of netlist.pads Gnd))))
      → ((k : ℕ) (d : Transfer) → k < length netlist.transfers → P (transfer_device netlist.pads (slice_index_or netlist.transfers k d)))
      → All P (devices_of netlist)
  every netlist loads pulls transfers =
      All-append P _ _
      (All-append P _ _
      (all_pieces (load_at netlist.gates) (range_with_len 0 netlist.nets)
      (all_range (λ net. AllByRecursion P (load_at netlist.gates net)) 0 netlist.nets (λ k l lt. load_all netlist.gates k (loads k (omega arith)))))
      (all_pieces (pull_downs (net_of netlist.pads Gnd)) netlist.gates
      (recursion_from_All (λ (g : NorGate). AllByRecursion P (pull_downs (net_of netlist.pads Gnd) g)) netlist.gates
      (λ k d lt. recursion_from_All P _
      (All-map P (λ (input : ℕ). Pass (at input) (at (slice_index_or netlist.gates k d).out) (at (net_of netlist.pads Gnd)))
      (slice_index_or netlist.gates k d).inputs (λ j e jl. pulls k d lt j e jl))))))
      (All-map P (transfer_device netlist.pads) netlist.transfers (λ k d lt. transfers k d lt))

-- ---- loads

load_left : (xs ys : List Device) (net : ℕ) → HasLoad xs net → HasLoad (xs ++ ys) net
load_left [] ys net h = absurd h
load_left (Load out ∷ xs) ys net (inl e) = inl e
load_left (Load out ∷ xs) ys net (inr h) = inr (load_left xs ys net h)
load_left (Pass input a b ∷ xs) ys net h = load_left xs ys net h

load_right : (xs ys : List Device) (net : ℕ) → HasLoad ys net → HasLoad (xs ++ ys) net
load_right [] ys net h = h
load_right (Load out ∷ xs) ys net h = inr (load_right xs ys net h)
load_right (Pass input a b ∷ xs) ys net h = load_right xs ys net h

load_here : (gates : List NorGate) (net : ℕ) → is_output gates net ≡ true → HasLoad (load_at gates net) net
load_here gates net e = rw e (inl refl)

load_in : (gates : List NorGate) (net : ℕ) → is_output gates net ≡ true → (a n : ℕ) → a ≤ net → net < a + n
    → HasLoad (flat_map (load_at gates) (range_with_len a n)) net
load_in gates net e a zero l lt = absurd (omega arith)
load_in gates net e a (suc n) l lt =
    elim (cases_eq a net) [
      | inl same ↦ load_left (load_at gates a) _ net (rw same (load_here gates net e))
      | inr other ↦ load_right (load_at gates a) _ net (load_in gates net e (a + 1) n (omega arith) (omega arith))
    ]

pub output_load : (netlist : Netlist) (net : ℕ) → net < netlist.nets → is_output netlist.gates net ≡ true → HasLoad (devices_of netlist) net
output_load netlist net lt e =
    load_left (flat_map (load_at netlist.gates) (range_with_len 0 netlist.nets) ++ flat_map (pull_downs (net_of netlist.pads Gnd)) netlist.gates) _ net
    (load_left (flat_map (load_at netlist.gates) (range_with_len 0 netlist.nets)) _ net
    (load_in netlist.gates net e 0 netlist.nets (omega arith) (omega arith)))

-- ---- transfers

in_transfers : (pads : List Pad) (transfers : List Transfer) (net : ℕ) (transfer : Transfer) → transfer_to transfers net ≡ Some transfer
    → Contains (map (transfer_device pads) transfers) (transfer_device pads transfer)
in_transfers pads [] net transfer e = absurd (cc)
in_transfers pads (first ∷ transfers) net transfer e =
    elim (cases_Bool (first.to == net)) [
      | inl here ↦
          let s : Some first ≡ Some transfer = rw here at e in
          let same : first ≡ transfer = cc in
          (zero, omega arith, ap (transfer_device pads) same)
      | inr other ↦
          let later = in_transfers pads transfers net transfer (rw other at e) in
          (suc later.0, omega arith, later.2)
    ]

pub transfer_contained : (netlist : Netlist) (net : ℕ) (transfer : Transfer) → transfer_to netlist.transfers net ≡ Some transfer
    → Contains (devices_of netlist) (transfer_device netlist.pads transfer)
transfer_contained netlist net transfer e =
    Contains-append_right
    (flat_map (load_at netlist.gates) (range_with_len 0 netlist.nets) ++ flat_map (pull_downs (net_of netlist.pads Gnd)) netlist.gates) _ _
    (in_transfers netlist.pads netlist.transfers net transfer e)

-- ---- pull-downs

-- an input of a gate with this output is high
abbrev pub pulled_by : List NorGate → Values → ℕ → Bool
pulled_by gates v net = list_any (λ (g : NorGate). g.out == net && list_any v g.inputs) gates

module _ (low : ℕ) (v : Values) (net : ℕ) where
  pulls_append : (xs ys : List Device) → pulls_down low (xs ++ ys) v net ≡ (pulls_down low xs v net || pulls_down low ys v net)
  pulls_append [] ys = refl
  pulls_append (Load out ∷ xs) ys = pulls_append xs ys
  pulls_append (Pass input a b ∷ xs) ys = let e = pulls_append xs ys in grind arith

  loads_pull : (gates : List NorGate) (nets : List ℕ) → pulls_down low (flat_map (load_at gates) nets) v net ≡ false
  loads_pull gates [] = refl
  loads_pull gates (first ∷ nets) =
      pulls_append (load_at gates first) _ ∙ elim (cases_Bool (is_output gates first)) [
        | inl e ↦ rw e (loads_pull gates nets)
        | inr e ↦ rw e (loads_pull gates nets)
      ]

  gate_pulls : (out : ℕ) (inputs : List ℕ)
      → pulls_down low (map (λ (input : ℕ). Pass (at input) (at out) (at low)) inputs) v net ≡ (out == net && list_any v inputs)
  gate_pulls out [] = grind arith
  gate_pulls out (input ∷ inputs) = let e = gate_pulls out inputs in grind arith

  gates_pull : (gates : List NorGate) → pulls_down low (flat_map (pull_downs low) gates) v net ≡ pulled_by gates v net
  gates_pull [] = refl
  gates_pull (g ∷ gates) =
      let e = gates_pull gates in
      let f = gate_pulls g.out g.inputs in
      pulls_append (pull_downs low g) _ ∙ rw (e, f) refl

  transfers_pull : (pads : List Pad) (transfers : List Transfer) → AllByRecursion (λ (transfer : Transfer). transfer.to ≢ low) transfers
      → pulls_down low (map (transfer_device pads) transfers) v net ≡ false
  transfers_pull pads [] h = refl
  transfers_pull pads (transfer ∷ transfers) h =
      let e = transfers_pull pads transfers h.1 in
      let f = ne_eqb transfer.to low h.0 in
      grind arith

pub form_pulls : (netlist : Netlist) (v : Values) (net : ℕ)
    → AllByRecursion (λ (transfer : Transfer). transfer.to ≢ net_of netlist.pads Gnd) netlist.transfers
    → pulls_down (net_of netlist.pads Gnd) (devices_of netlist) v net ≡ pulled_by netlist.gates v net
form_pulls netlist v net h =
    let low : ℕ = net_of netlist.pads Gnd in
    pulls_append low v net (flat_map (load_at netlist.gates) (range_with_len 0 netlist.nets) ++ flat_map (pull_downs low) netlist.gates) _
    ∙ rw (
      transfers_pull low v net netlist.pads netlist.transfers h,
      pulls_append low v net (flat_map (load_at netlist.gates) (range_with_len 0 netlist.nets)) (flat_map (pull_downs low) netlist.gates),
      loads_pull low v net netlist.gates (range_with_len 0 netlist.nets),
      gates_pull low v net netlist.gates,
    )
    (or_false (pulled_by netlist.gates v net))
  where
    or_false : (b : Bool) → (b || false) ≡ b
    or_false true = refl
    or_false false = refl
