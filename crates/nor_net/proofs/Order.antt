-- Evaluation in order gives the values of the logic, whatever values those are.
use Rattle.std.proofs.Common.{◌≡◌, ◌≢◌, ◌⊎◌, inl, inr, ⊎_elim, ℕ, zero, suc, ◌<◌, ◌≤◌, ◌==◌, ◌&&◌, ◌||◌, not, Bool, true, false, cond, List, [], ◌∷◌, ◌++◌, append_assoc, length, slice_index_or, slice_set, Option, Some, None, All, Contains, refl, ap, ap₂, sym, ◌∙◌, arith, eq-eqb, eqb-true}
use Rattle.std.specs.List.{AllByRecursion, list_any}
use Rattle.std.specs.Option.{unwrap_or}
use Rattle.std.proofs.lemmas.Bool.{cases_Bool, cases_eq, cases_lt}
use Rattle.std.proofs.lemmas.List.{get_or-set_same, get_or-set_other, length-set, length-append}
use Rattle.std.proofs.lemmas.List.Elements.{recursion_from_All}
use Rattle.switch_net.specs.Settling.{Values, fixed_level}
use Rattle.switch_net.specs.Clock.{Drive, drives_of}
use Rattle.switch_net.specs.ClockedLogic.{NetKind, is_fixed, FollowsLogic}
use Rattle.switch_net.specs.ClockedLogic.NetKind.{stored, isolated}
use Rattle.switch_net.specs.declared.network.Pad.{Pad}
use Rattle.nor_net.specs.Netlist.{NorGate, Netlist, place, IsTransfer, IsNetlist}
use Rattle.nor_net.specs.Evaluation.{value_at, is_output, is_pulled, is_high, led_from, transfer_to, evaluated_net, evaluated, driven}
use Rattle.nor_net.specs.SwitchForm.{net_of, switch_form, Lists}
use Rattle.nor_net.specs.declared.gate.Transfer.{Transfer}
use Rattle.nor_net.proofs.Pads.{driven_at, driven_sized, fixed_has_level, free_level, drives_sized}
use Rattle.nor_net.proofs.NetKinds as kinds
use Rattle.nor_net.proofs.NetKinds.{kind_of, found}
use Rattle.nor_net.proofs.FormDevices.{pulled_by, form_pulls}
use Rattle.nor_net.proofs.FormLogic as logic
use Rattle.nor_net.proofs.FormLogic.{low}

-- ---- places in an order

pub place_within : (order : List ℕ) (net k : ℕ) → k < length order → slice_index_or order k net ≡ net → place order net < length order
place_within [] net k lt e = absurd (omega arith)
place_within (first ∷ order) net k lt e =
    elim (cases_Bool (first == net)) [
      | inl here ↦ rw here (omega arith)
      | inr other ↦ rw other (by_number (λ i l f. place_within order net i l f) k lt e other)
    ]
  where
    by_number : ((i : ℕ) → i < length order → slice_index_or order i net ≡ net → place order net < length order)
        → (k : ℕ) → k < suc (length order) → slice_index_or (first ∷ order) k net ≡ net → (first == net) ≡ false
        → suc (place order net) < suc (length order)
    by_number later zero lt e other = let same = eq-eqb first net e in absurd (cc)
    by_number later (suc k) lt e other = let r = later k (omega arith) e in omega (arith, r)

-- the next net stands where the nets before it end, or earlier
place_next : (done rest : List ℕ) (net : ℕ) → place (done ++ net ∷ rest) net ≤ length done
place_next [] rest net = rw (eq-eqb net net refl) (omega arith)
place_next (first ∷ done) rest net =
    elim (cases_Bool (first == net)) [
      | inl here ↦ rw here (omega arith)
      | inr other ↦ let r = place_next done rest net in rw other (omega (arith, r))
    ]

-- and no other net stands there
place_other : (done rest : List ℕ) (next net : ℕ) → place (done ++ next ∷ rest) net ≡ length done → net ≡ next
place_other [] rest next net e =
    elim (cases_Bool (next == net)) [
      | inl here ↦ sym (eqb-true _ _ here)
      | inr other ↦ let f : suc (place rest net) ≡ 0 = rw other at e in absurd (omega (arith, f))
    ]
place_other (first ∷ done) rest next net e =
    elim (cases_Bool (first == net)) [
      | inl here ↦ let f : 0 ≡ suc (length done) = rw here at e in absurd (omega (arith, f))
      | inr other ↦
          let f : suc (place (done ++ next ∷ rest) net) ≡ suc (length done) = rw other at e in
          place_other done rest next net (omega (arith, f))
    ]

-- ---- gates on values that agree on their inputs

any_alike : (values : List Bool) (w : Values) (inputs : List ℕ) → AllByRecursion (λ input. value_at values input ≡ w input) inputs
    → list_any (value_at values) inputs ≡ list_any w inputs
any_alike values w [] h = refl
any_alike values w (input ∷ inputs) h = ap₂ ◌||◌ h.0 (any_alike values w inputs h.1)

pub pulled_alike : (values : List Bool) (w : Values) (net : ℕ) (gates : List NorGate)
    → AllByRecursion (λ (g : NorGate). g.out ≡ net → AllByRecursion (λ input. value_at values input ≡ w input) g.inputs) gates
    → is_pulled gates values net ≡ pulled_by gates w net
pulled_alike values w net [] h = refl
pulled_alike values w net (g ∷ gates) h = ap₂ ◌||◌ (here (g.out == net) refl) (pulled_alike values w net gates h.1)
  where
    here : (b : Bool) → (g.out == net) ≡ b → (b && list_any (value_at values) g.inputs) ≡ (b && list_any w g.inputs)
    here true e = any_alike values w g.inputs (h.0 (eqb-true _ _ e))
    here false e = refl

module _ (netlist : Netlist) (valid : IsNetlist netlist) (drive : Drive) (order : List ℕ)
    (gates_ordered : All (λ g. All (λ input. place order input < place order g.out) g.inputs) netlist.gates)
    (open_ordered : All (λ transfer. is_high drive transfer.clock ≡ true → place order transfer.from < place order transfer.to) netlist.transfers)
    (complete : (net : ℕ) → net < netlist.nets → Contains order net)
    (q w : Values)
    (follows : FollowsLogic (switch_form netlist) (low netlist valid) (kind_of netlist) (drives_of drive netlist.pads) q w)
    (state : List Bool) (lists : Lists netlist.nets state q) where
  abbrev drives : List Bool
  drives = drives_of drive netlist.pads

  -- the values once the pads are driven
  abbrev start : List Bool
  start = driven netlist.pads drives state

  start_at : (net : ℕ) → value_at start net ≡ unwrap_or (fixed_level netlist.pads drives net) (value_at state net)
  start_at net =
      driven_at netlist.pads drives state net (kinds.pads_own netlist valid)
      (recursion_from_All (λ (pad : Pad). pad.net.0 < length state) netlist.pads (λ k d lt. rw (lists.0) (valid.pads.pads_below k d lt)))

  start_fixed : (net : ℕ) → net < netlist.nets → is_fixed netlist.pads net ≡ true → value_at start net ≡ w net
  start_fixed net lt e =
      let level = fixed_has_level netlist.pads drives net (drives_sized drive drive.lines netlist.pads) e in
      start_at net ∙ rw (level.1) (sym (follows.pads net level.0 lt level.1))

  start_free : (net : ℕ) → net < netlist.nets → is_fixed netlist.pads net ≡ false → value_at start net ≡ q net
  start_free net lt e = start_at net ∙ rw (free_level netlist.pads drives net e) (sym (lists.1 net lt))

  -- the value of a net is known, or it is what it was at the start
  abbrev IsReady : List Bool → ℕ → Type 0
  IsReady values net = (value_at values net ≡ w net) ⊎ (value_at values net ≡ value_at start net)

  ready_is : (values : List Bool) (net : ℕ) → IsReady values net → value_at start net ≡ w net → value_at values net ≡ w net
  ready_is values net (inl e) s = e
  ready_is values net (inr e) s = e ∙ s

  module _ (values : List Bool) (net : ℕ) (lt : net < netlist.nets)
      (before : (n : ℕ) → n < netlist.nets → place order n < place order net → value_at values n ≡ w n)
      (ready : IsReady values net) where
    inputs_known : AllByRecursion (λ (g : NorGate). g.out ≡ net → AllByRecursion (λ input. value_at values input ≡ w input) g.inputs) netlist.gates
    inputs_known =
        recursion_from_All (λ (g : NorGate). g.out ≡ net → AllByRecursion (λ input. value_at values input ≡ w input) g.inputs) netlist.gates
        (λ k d l e. recursion_from_All (λ input. value_at values input ≡ w input) (slice_index_or netlist.gates k d).inputs
        (λ j i jl. before _ ((valid.gates k d l).inputs_below j i jl) (rw (← e) (gates_ordered k d l j i jl))))

    not_lows : AllByRecursion (λ (transfer : Transfer). transfer.to ≢ low netlist valid) netlist.transfers
    not_lows = recursion_from_All (λ (transfer : Transfer). transfer.to ≢ low netlist valid) netlist.transfers
        (λ k d l. logic.not_low netlist valid _ (valid.transfers k d l))

    gate_value : is_output netlist.gates net ≡ true → not (is_pulled netlist.gates values net) ≡ w net
    gate_value e =
        ap not (pulled_alike values w net netlist.gates inputs_known ∙ sym (form_pulls netlist w net not_lows))
        ∙ sym (follows.gates net lt (kinds.output_kind netlist valid net e))

    -- where a transfer leads to the net
    led_value : (transfer : Transfer) → transfer_to netlist.transfers net ≡ Some transfer → (high : Bool) → is_high drive transfer.clock ≡ high
        → value_at values (cond high transfer.from net) ≡ w net
    led_value transfer e high h =
        let f = found (IsTransfer netlist) netlist.transfers net transfer (kinds.all_transfers netlist valid) e in
        let o = found (λ x. is_high drive x.clock ≡ true → place order x.from < place order x.to) netlist.transfers net transfer
        (recursion_from_All (λ (x : Transfer). is_high drive x.clock ≡ true → place order x.from < place order x.to) netlist.transfers open_ordered) e in
        let k : kind_of netlist net ≡ stored (net_of netlist.pads transfer.clock) transfer.from = moved f.1 (kinds.target_kind netlist valid transfer f.0 (at_target transfer.to f.1)) in
        let level = follows.pads (net_of netlist.pads transfer.clock) (is_high drive transfer.clock) (logic.clock_below netlist valid transfer f.0)
        (logic.clock_level netlist valid drive transfer f.0) in
        by_clock high h f.0 k level (λ up. rw (← f.1) (o.0 up)) (rw (f.1) at (kinds.target_free netlist valid transfer f.0))
      where
        at_target : (n : ℕ) → n ≡ net → transfer_to netlist.transfers n ≡ Some transfer
        at_target n same = rw same e

        moved : {k : NetKind} → transfer.to ≡ net → kind_of netlist transfer.to ≡ k → kind_of netlist net ≡ k
        moved e k = rw e at k

        by_clock : (high : Bool) → is_high drive transfer.clock ≡ high → IsTransfer netlist transfer
            → kind_of netlist net ≡ stored (net_of netlist.pads transfer.clock) transfer.from
            → w (net_of netlist.pads transfer.clock) ≡ is_high drive transfer.clock
            → (is_high drive transfer.clock ≡ true → place order transfer.from < place order net) → is_fixed netlist.pads net ≡ false
            → value_at values (cond high transfer.from net) ≡ w net
        by_clock true h t k level ordered free =
            before transfer.from (logic.source_below netlist valid transfer t) (ordered h) ∙ sym (follows.follows net _ _ lt k (level ∙ h))
        by_clock false h t k level ordered free =
            ready_is values net ready (start_free net lt free ∙ sym (follows.held net _ _ lt k (level ∙ h)))

    -- where none does
    unled_value : transfer_to netlist.transfers net ≡ None → is_output netlist.gates net ≡ false → (f : Bool) → is_fixed netlist.pads net ≡ f
        → value_at values net ≡ w net
    unled_value e o true f = ready_is values net ready (start_fixed net lt f)
    unled_value e o false f =
        let k : kind_of netlist net ≡ isolated = rw (f, o, e) refl in
        ready_is values net ready (start_free net lt f ∙ sym (follows.isolated net lt k))

    source_value : (t : Option Transfer) → transfer_to netlist.transfers net ≡ t → is_output netlist.gates net ≡ false
        → value_at values (led_from drive net t) ≡ w net
    source_value None e o = unled_value e o (is_fixed netlist.pads net) refl
    source_value (Some transfer) e o = led_value transfer e (is_high drive transfer.clock) refl

    known : evaluated_net netlist drive values net ≡ w net
    known =
        elim (cases_Bool (is_output netlist.gates net)) [
          | inl e ↦ rw e (gate_value e)
          | inr o ↦ rw o (source_value (transfer_to netlist.transfers net) refl o)
        ]

  -- the values are known at the nets before this place, and as at the start from it on
  abbrev KnownBelow : ℕ → List Bool → Type 0
  KnownBelow k values = (net : ℕ) → net < netlist.nets
      → (place order net < k → value_at values net ≡ w net) × (k ≤ place order net → value_at values net ≡ value_at start net)

  one_more : (done rest : List ℕ) (next : ℕ) → order ≡ done ++ next ∷ rest → next < netlist.nets → (values : List Bool) → length values ≡ netlist.nets
      → KnownBelow (length done) values
      → KnownBelow (suc (length done)) (slice_set values next (evaluated_net netlist drive values next))
  one_more done rest next whole below values sized h net lt =
      let at_most : place order next ≤ length done = rw whole (place_next done rest next) in
      let ready : IsReady values next = ⊎_elim (λ earlier. inl ((h next below).0 earlier)) (λ later. inr ((h next below).1 later)) (cases_lt (place order next) (length done)) in
      let value = known values next below (λ n l e. (h n l).0 (omega (arith, at_most, e))) ready in
      ⊎_elim
      (λ same. let here : value_at (slice_set values next (evaluated_net netlist drive values next)) net ≡ w net =
      rw same (get_or-set_same values next _ false (omega (arith, sized, below)) ∙ value) in
      (λ early. here, λ late. let e : place order next ≡ place order net = ap (place order) (sym same) in absurd (omega (arith, at_most, late, e))))
      (λ ne. let other : value_at (slice_set values next (evaluated_net netlist drive values next)) net ≡ value_at values net = get_or-set_other values next net _ false ne in (
        λ early. other ∙ (h net lt).0 (strictly (place order net) (length done) early (λ e. ne (place_other done rest next net (rw whole at e)))),
        λ late. other ∙ (h net lt).1 (omega (arith, late)),
      ))
      (cases_eq net next)
    where
      strictly : (a b : ℕ) → a < suc b → (a ≡ b → ⊥) → a < b
      strictly a b l ne = ⊎_elim (λ e. absurd (ne e)) (λ n. omega (arith, l, n)) (cases_eq a b)

  evaluates : (rest done : List ℕ) → order ≡ done ++ rest → AllByRecursion (λ net. net < netlist.nets) rest
      → (values : List Bool) → length values ≡ netlist.nets → KnownBelow (length done) values
      → Lists netlist.nets (evaluated netlist drive rest values) w
  evaluates [] done whole below values sized h =
      let same : length order ≡ length done = rw whole (length-append done [] ∙ omega arith) in (
        sized,
        λ net lt.
            let c = complete net lt in
            let within = place_within order net c.0 c.1 c.2 in
            sym ((h net lt).0 (omega (arith, within, same))),
      )
  evaluates (next ∷ rest) done whole below values sized h =
      let more : length (done ++ next ∷ []) ≡ suc (length done) = length-append done (next ∷ []) ∙ omega arith in
      evaluates rest (done ++ next ∷ []) (whole ∙ sym (append_assoc done (next ∷ []) rest)) below.1
      (slice_set values next (evaluated_net netlist drive values next)) (length-set values next _ ∙ sized)
      (rw more (one_more done rest next whole below.0 values sized h))

  -- evaluation from the driven pads gives the values of the logic
  pub evaluation_gives : AllByRecursion (λ net. net < netlist.nets) order → Lists netlist.nets (evaluated netlist drive order start) w
  evaluation_gives below =
      evaluates order [] refl below start (driven_sized netlist.pads drives state ∙ lists.0)
      (λ net lt. (λ early. absurd (omega (arith, early)), λ late. refl))
