-- After the reset clock a ternary run of a netlist that the reset clears knows every net that is driven.
use Rattle.std.specs.Prelude.{slice_get}
use Rattle.std.proofs.Common.{◌≡◌, ◌≢◌, ◌⊎◌, inl, inr, ⊎_elim, ℕ, zero, suc, ◌<◌, ◌==◌, ◌&&◌, ◌||◌, not, Bool, true, false, List, [], ◌∷◌, Some, All, AllPairs, refl, sym, ◌∙◌, subst, arith, eqb-true, eq-eqb}
use Rattle.std.specs.List.{AllByRecursion, list_any, list_all}
use Rattle.std.proofs.lemmas.Bool.{or_cases, or_left, or_right, and_parts}
use Rattle.std.proofs.lemmas.List.Elements.{recursion_from_All, All-from_recursion}
use Rattle.rx_text.specs.declared.pad_name.Role.{Role}
use Rattle.rx_text.specs.declared.pad_name.Role.TheVariants.{Phi1, Phi2, Reset}
use Rattle.switch_net.specs.Settling.{Values, Settled}
use Rattle.switch_net.specs.Clock.{Drive, drives_of, Clock, Clocks, Run}
use Rattle.switch_net.specs.ClockedLogic.{is_fixed, FollowsLogic, SettlesAsLogic, LogicSettles}
use Rattle.switch_net.specs.Ternary.{Levels, level_of, SettledLevels, ClockLevels, ClocksLevels, RunLevels, nothing_known}
use Rattle.switch_net.specs.TernaryLogic.{ToldNetsSettle}
use Rattle.switch_net.specs.Validity.{is_same_role}
use Rattle.nor_net.specs.Netlist.{NorGate, Netlist, IsTransfer, IsOrder, IsNetlist}
use Rattle.nor_net.specs.Evaluation.{is_output, is_high, transfer_to, phase}
use Rattle.nor_net.specs.Clearing.{is_cleared, is_target, follows_store, is_driven, is_known_in, IsKnownByReset}
use Rattle.nor_net.specs.SwitchForm.{switch_form}
use Rattle.nor_net.specs.declared.gate.Transfer.{Transfer}
use Rattle.nor_net.proofs.Pads.{role_on, first_fixed, drives_sized, same_role}
use Rattle.nor_net.proofs.NetKinds as kinds
use Rattle.nor_net.proofs.NetKinds.{kind_of, found, output_at, data_fixed}
use Rattle.nor_net.proofs.FormLogic.{low, is_logic}
use Rattle.nor_net.proofs.Clocks.{only_phi1, only_phi2}
use Rattle.nor_net.proofs.KnownNets.{clears, reset_net, NetTold, phase_known}

-- a transfer of this clock to this net
abbrev leads_to : Role → ℕ → Transfer → Bool
leads_to clock net transfer = is_same_role transfer.clock clock && transfer.to == net

-- the transfer of this clock to the net is the one that is found
target_found : (transfers : List Transfer) (clock : Role) (net : ℕ) → AllPairs (λ a b. a.to ≢ b.to) transfers
    → list_any (leads_to clock net) transfers ≡ true → (transfer : Transfer) × (transfer_to transfers net ≡ Some transfer) × (transfer.clock ≡ clock)
target_found [] clock net pairs e = absurd (cc)
target_found (first ∷ rest) clock net pairs e =
    let later_pairs : AllPairs (λ a b. a.to ≢ b.to) rest = λ i j d l lt. pairs (suc i) (suc j) d (omega arith) (omega arith) in
    let others : AllByRecursion (λ (t : Transfer). first.to ≢ t.to) rest =
    recursion_from_All (λ (t : Transfer). first.to ≢ t.to) rest (λ k d lt. pairs zero (suc k) d (omega arith) (omega arith)) in
    by_test (first.to == net) refl (or_cases (leads_to clock net first) (list_any (leads_to clock net) rest) e)
    (λ h. target_found rest clock net later_pairs h) others
  where
    by_test : (b : Bool) → (first.to == net) ≡ b → (leads_to clock net first ≡ true) ⊎ (list_any (leads_to clock net) rest ≡ true)
        → (list_any (leads_to clock net) rest ≡ true → (transfer : Transfer) × (transfer_to rest net ≡ Some transfer) × (transfer.clock ≡ clock))
        → AllByRecursion (λ (t : Transfer). first.to ≢ t.to) rest
        → (transfer : Transfer) × (transfer_to (first ∷ rest) net ≡ Some transfer) × (transfer.clock ≡ clock)
    by_test true t (inl here) later others =
        (first, rw t refl, same_role first.clock clock (and_parts (is_same_role first.clock clock) (first.to == net) here).0)
    by_test true t (inr h) later others =
        let l = later h in
        let f = found (λ t. first.to ≢ t.to) rest net l.0 others l.1 in
        absurd (f.0 (eqb-true first.to net t ∙ sym f.1))
    by_test false t (inl here) later others =
        let at_net = (and_parts (is_same_role first.clock clock) (first.to == net) here).1 in absurd (cc)
    by_test false t (inr h) later others = let l = later h in (l.0, rw t (l.1), l.2)

-- what the reset clears is an output
cleared_output : (gates : List NorGate) (reset net : ℕ) → list_any (clears reset net) gates ≡ true → is_output gates net ≡ true
cleared_output [] reset net e = absurd (cc)
cleared_output (g ∷ gates) reset net e =
    elim (or_cases (clears reset net g) (list_any (clears reset net) gates) e) [
      | inl here ↦ or_left (g.out == net) (is_output gates net) (and_parts (g.out == net) (list_any (λ input. input == reset) g.inputs) here).0
      | inr later ↦ or_right (g.out == net) (is_output gates net) (cleared_output gates reset net later)
    ]

-- every element of a list passes the test that all pass
all_pass : {X : Type 0} (test : X → Bool) (xs : List X) → list_all test xs ≡ true → AllByRecursion (λ x. test x ≡ true) xs
all_pass test [] e = tt
all_pass test (x ∷ xs) e = let parts = and_parts (test x) (list_all test xs) e in (parts.0, all_pass test xs parts.1)

module _ (settles_as : SettlesAsLogic) (told : ToldNetsSettle) (netlist : Netlist) (valid : IsNetlist netlist) (rounds : ℕ) (clearing : IsKnownByReset netlist rounds) where
  -- the levels of the known nets are these values
  abbrev Agree : (ℕ → Bool) → Levels → Values → Type 0
  Agree known q charges = (net : ℕ) → net < netlist.nets → known net ≡ true → q net ≡ level_of (charges net)

  -- known once PHI1 has been high
  abbrev store_known : ℕ → Bool
  store_known net = is_known_in netlist rounds net || (is_target netlist Phi1 net || follows_store netlist net)

  reset_fixed : is_fixed netlist.pads (reset_net netlist valid) ≡ true
  reset_fixed = first_fixed netlist.pads _ Reset refl (role_on netlist.pads Reset (kinds.pads_own netlist valid) valid.pads.reset)

  fixed_known : (n net : ℕ) → is_fixed netlist.pads net ≡ true → is_known_in netlist n net ≡ true
  fixed_known zero net e = or_left (is_fixed netlist.pads net) (is_cleared netlist net) e
  fixed_known (suc n) net e = or_left (is_known_in netlist n net) _ (fixed_known n net e)

  -- the source of a transfer is driven
  source_driven : (transfer : Transfer) → IsTransfer netlist transfer → is_driven netlist transfer.from ≡ true
  source_driven transfer h =
      elim h.driven [
        | inl o ↦ or_right (is_fixed netlist.pads transfer.from) _
            (or_left (is_output netlist.gates transfer.from) _ (output_at netlist.gates transfer.from o.0 o.1 o.2 o.3 o.4))
        | inr d ↦ or_left (is_fixed netlist.pads transfer.from) _ (data_fixed netlist.pads transfer.from (kinds.pads_own netlist valid) d)
      ]

  -- the transfer to the target
  module _ (clock : Role) (net : ℕ) (e : is_target netlist clock net ≡ true) where
    target : (transfer : Transfer) × (transfer_to netlist.transfers net ≡ Some transfer) × (transfer.clock ≡ clock)
    target = target_found netlist.transfers clock net valid.one_transfer e

    target_valid : IsTransfer netlist target.0
    target_valid = (found (IsTransfer netlist) netlist.transfers net target.0 (kinds.all_transfers netlist valid) target.1).0

  -- one settling
  module _ (drive : Drive) (clock : Role) (only : (role : Role) → (role ≡ Phi1) ⊎ (role ≡ Phi2) → is_high drive role ≡ true → role ≡ clock)
      (order : List ℕ) (ordered : IsOrder netlist clock order) (q v : Levels) (charges x : Values)
      (settled : Settled (switch_form netlist) (drives_of drive netlist.pads) charges x)
      (levels : SettledLevels (switch_form netlist) (drives_of drive netlist.pads) q v) where
    follows : FollowsLogic (switch_form netlist) (low netlist valid) (kind_of netlist) (drives_of drive netlist.pads) charges x
    follows = (settles_as (switch_form netlist) (low netlist valid) (kind_of netlist) (is_logic netlist valid)
        (drives_of drive netlist.pads) (drives_sized drive drive.lines netlist.pads) charges x).0 settled

    abbrev TellsAll : (ℕ → Bool) → Type 0
    TellsAll known = (net : ℕ) → net < netlist.nets → known net ≡ true → NetTold netlist valid told drive clock only order ordered q v charges x follows levels known net

    settling : (known : ℕ → Bool) → TellsAll known → Agree known v x
    settling known h = phase_known netlist valid told drive clock only order ordered q v charges x follows levels known h

    -- every driven net stays known
    stays_known : Agree (is_driven netlist) q charges → Agree (is_driven netlist) v x
    stays_known before = settling (is_driven netlist) tells
      where
        by_transfer : (role : Role) (net : ℕ) → net < netlist.nets → is_driven netlist net ≡ true → is_target netlist role net ≡ true
            → NetTold netlist valid told drive clock only order ordered q v charges x follows levels (is_driven netlist) net
        by_transfer role net lt is e =
            let t = target role net e in
            inr (inr (record { transfer = t.0; leads = t.1; source = λ up. source_driven t.0 (target_valid role net e); charge = λ down. before net lt is }))

        tells : TellsAll (is_driven netlist)
        tells net lt is =
            ⊎_elim (λ f. inl f)
            (λ other. ⊎_elim (λ o. inr (inl (o, inr (λ k d l same j e jl. clearing.inputs k d l j e jl))))
            (λ targets. ⊎_elim (λ a. by_transfer Phi1 net lt is a) (λ b. by_transfer Phi2 net lt is b)
            (or_cases (is_target netlist Phi1 net) (is_target netlist Phi2 net) targets))
            (or_cases (is_output netlist.gates net) _ other))
            (or_cases (is_fixed netlist.pads net) _ is)

    -- a net that the reset clears
    cleared_told : (known : ℕ → Bool) (net : ℕ) → drive.reset ≡ true → known (reset_net netlist valid) ≡ true → is_cleared netlist net ≡ true
        → NetTold netlist valid told drive clock only order ordered q v charges x follows levels known net
    cleared_told known net up k e =
        inr (inl (cleared_output netlist.gates (reset_net netlist valid) net e, inl (record { reset = up; cleared = e; known_reset = k })))

    -- a gate all of whose inputs pass a test that known nets pass
    gate_told : (known test : ℕ → Bool) (net : ℕ) → ((n : ℕ) → test n ≡ true → known n ≡ true)
        → (is_output netlist.gates net && list_all (λ (g : NorGate). not (g.out == net) || list_all test g.inputs) netlist.gates) ≡ true
        → NetTold netlist valid told drive clock only order ordered q v charges x follows levels known net
    gate_told known test net passes e =
        let parts = and_parts (is_output netlist.gates net) _ e in
        inr (inl (
          parts.0,
          inr (All-from_recursion (λ (g : NorGate). g.out ≡ net → All (λ input. known input ≡ true) g.inputs) netlist.gates
              (all_inputs netlist.gates (all_pass _ netlist.gates parts.1))),
        ))
      where
        known_inputs : (inputs : List ℕ) → AllByRecursion (λ i. test i ≡ true) inputs → AllByRecursion (λ i. known i ≡ true) inputs
        known_inputs [] h = tt
        known_inputs (i ∷ is) h = (passes i h.0, known_inputs is h.1)

        gate_inputs : (g : NorGate) → (not (g.out == net) || list_all test g.inputs) ≡ true → g.out ≡ net → All (λ input. known input ≡ true) g.inputs
        gate_inputs g h same =
            let at_net : (g.out == net) ≡ true = eq-eqb g.out net same in
            let all : list_all test g.inputs ≡ true = rw at_net at h in
            All-from_recursion (λ i. known i ≡ true) g.inputs (known_inputs g.inputs (all_pass test g.inputs all))

        all_inputs : (gates : List NorGate) → AllByRecursion (λ (g : NorGate). (not (g.out == net) || list_all test g.inputs) ≡ true) gates
            → AllByRecursion (λ (g : NorGate). g.out ≡ net → All (λ input. known input ≡ true) g.inputs) gates
        all_inputs [] h = tt
        all_inputs (g ∷ gates) h = (gate_inputs g h.0, all_inputs gates h.1)

    -- a net that is known under the reset, where all such nets are known
    known_told : (known : ℕ → Bool) → drive.reset ≡ true → (n net : ℕ) → ((m : ℕ) → is_known_in netlist n m ≡ true → known m ≡ true)
        → known (reset_net netlist valid) ≡ true → is_known_in netlist n net ≡ true
        → NetTold netlist valid told drive clock only order ordered q v charges x follows levels known net
    known_told known up zero net every reset e =
        ⊎_elim (λ f. inl f) (λ c. cleared_told known net up reset c) (or_cases (is_fixed netlist.pads net) (is_cleared netlist net) e)
    known_told known up (suc n) net every reset e =
        ⊎_elim (λ before. known_told known up n net (λ m k. every m (or_left (is_known_in netlist n m) _ k)) reset before)
        (λ later. gate_told known (is_known_in netlist n) net (λ m k. every m (or_left (is_known_in netlist n m) _ k)) later)
        (or_cases (is_known_in netlist n net) _ e)

    -- what is known of a net that is stored while PHI1 is high
    abbrev TargetTold : Type 0
    TargetTold = (net : ℕ) → net < netlist.nets → is_target netlist Phi1 net ≡ true
        → NetTold netlist valid told drive clock only order ordered q v charges x follows levels store_known net

    store_settling : drive.reset ≡ true → TargetTold → Agree store_known v x
    store_settling up stored = settling store_known (λ net lt is.
        ⊎_elim (λ k. known_told store_known up rounds net (λ m e. or_left (is_known_in netlist rounds m) _ e) (or_left _ _ (fixed_known rounds (reset_net netlist valid) reset_fixed)) k)
        (λ more. ⊎_elim (λ t. stored net lt t)
        (λ f. gate_told store_known (is_target netlist Phi1) net (λ n e. or_right (is_known_in netlist rounds n) _ (or_left (is_target netlist Phi1 n) _ e)) f)
        (or_cases (is_target netlist Phi1 net) (follows_store netlist net) more))
        (or_cases (is_known_in netlist rounds net) _ is))

    -- while PHI1 is high, the nets behind it are known by their sources
    opened_settling : drive.reset ≡ true → is_high drive Phi1 ≡ true → Agree store_known v x
    opened_settling up high = store_settling up (λ net lt e.
        let t = target Phi1 net e in
        inr (inr (record {
          transfer = t.0;
          leads = t.1;
          source = λ _. source_known t.0 (found (λ (tr : Transfer). tr.clock ≡ Phi1 → is_known_in netlist rounds tr.from ≡ true) netlist.transfers net t.0
              (recursion_from_All (λ (tr : Transfer). tr.clock ≡ Phi1 → is_known_in netlist rounds tr.from ≡ true) netlist.transfers clearing.first) t.1).0 t.2;
          charge = λ down. let f : is_high drive Phi1 ≡ false = subst (λ r. is_high drive r ≡ false) t.2 down in absurd (cc);
        })))
      where
        source_known : (tr : Transfer) → (tr.clock ≡ Phi1 → is_known_in netlist rounds tr.from ≡ true) → tr.clock ≡ Phi1 → store_known tr.from ≡ true
        source_known tr h e = or_left (is_known_in netlist rounds tr.from) _ (h e)

    -- while it is low again, they keep their charges
    closed_settling : drive.reset ≡ true → is_high drive Phi1 ≡ false → Agree store_known q charges → Agree store_known v x
    closed_settling up low before = store_settling up (λ net lt e.
        let t = target Phi1 net e in
        inr (inr (record {
          transfer = t.0;
          leads = t.1;
          source = λ high. let f : is_high drive Phi1 ≡ true = subst (λ r. is_high drive r ≡ true) t.2 high in absurd (cc);
          charge = λ down. before net lt (or_right (is_known_in netlist rounds net) _ (or_left (is_target netlist Phi1 net) _ e));
        })))

    -- while PHI2 is high for the first time, every driven net is known
    spread_settling : is_high drive Phi1 ≡ false → is_high drive Phi2 ≡ true → Agree store_known q charges → Agree (is_driven netlist) v x
    spread_settling low high before = settling (is_driven netlist) tells
      where
        stored_told : (net : ℕ) → net < netlist.nets → is_target netlist Phi1 net ≡ true
            → NetTold netlist valid told drive clock only order ordered q v charges x follows levels (is_driven netlist) net
        stored_told net lt e =
            let t = target Phi1 net e in
            inr (inr (record {
              transfer = t.0;
              leads = t.1;
              source = λ up. source_driven t.0 (target_valid Phi1 net e);
              charge = λ down. before net lt (or_right (is_known_in netlist rounds net) _ (or_left (is_target netlist Phi1 net) _ e));
            }))

        open_told : (net : ℕ) → net < netlist.nets → is_target netlist Phi2 net ≡ true
            → NetTold netlist valid told drive clock only order ordered q v charges x follows levels (is_driven netlist) net
        open_told net lt e =
            let t = target Phi2 net e in
            inr (inr (record {
              transfer = t.0;
              leads = t.1;
              source = λ up. source_driven t.0 (target_valid Phi2 net e);
              charge = λ down. let f : is_high drive Phi2 ≡ false = subst (λ r. is_high drive r ≡ false) t.2 down in absurd (cc);
            }))

        tells : TellsAll (is_driven netlist)
        tells net lt is =
            ⊎_elim (λ f. inl f)
            (λ other. ⊎_elim (λ o. inr (inl (o, inr (λ k d l same j e jl. clearing.inputs k d l j e jl))))
            (λ targets. ⊎_elim (λ a. stored_told net lt a) (λ b. open_told net lt b)
            (or_cases (is_target netlist Phi1 net) (is_target netlist Phi2 net) targets))
            (or_cases (is_output netlist.gates net) _ other))
            (or_cases (is_fixed netlist.pads net) _ is)

  -- ---- clocks and runs

  module _ (settles : LogicSettles) (reset : Bool) (lines : List Bool) where
    first_phase : (phi1 : Bool) → (role : Role) → (role ≡ Phi1) ⊎ (role ≡ Phi2) → is_high (phase reset lines phi1 false) role ≡ true → role ≡ Phi1
    first_phase phi1 = only_phi1 settles_as settles netlist valid reset lines phi1

    second_phase : (role : Role) → (role ≡ Phi1) ⊎ (role ≡ Phi2) → is_high (phase reset lines false true) role ≡ true → role ≡ Phi2
    second_phase = only_phi2 settles_as settles netlist valid reset lines true

    -- a later clock keeps every driven net known
    later_clock : (q l : Levels) (c v : Values) → ClockLevels (switch_form netlist) reset lines q l → Clock (switch_form netlist) reset lines c v
        → Agree (is_driven netlist) q c → Agree (is_driven netlist) l v
    later_clock q l c v levels clock before =
        let changed = stays_known (phase reset lines false false) Phi1 (first_phase false) netlist.order1 valid.first_order q levels.changed c clock.changed clock.settles levels.settles before in
        let first = stays_known (phase reset lines true false) Phi1 (first_phase true) netlist.order1 valid.first_order levels.changed levels.first clock.changed clock.first clock.phi1_high levels.phi1_high changed in
        let between = stays_known (phase reset lines false false) Phi1 (first_phase false) netlist.order1 valid.first_order levels.first levels.between clock.first clock.between clock.phi1_low levels.phi1_low first in
        let second = stays_known (phase reset lines false true) Phi2 second_phase netlist.order2 valid.second_order levels.between levels.second clock.between clock.second clock.phi2_high levels.phi2_high between in
        stays_known (phase reset lines false false) Phi1 (first_phase false) netlist.order1 valid.first_order levels.second l clock.second v clock.phi2_low levels.phi2_low second

  -- the reset clock makes every driven net known
  reset_clock : (settles : LogicSettles) (lines : List Bool) (q l : Levels) (c v : Values) → ClockLevels (switch_form netlist) true lines q l → Clock (switch_form netlist) true lines c v
      → Agree (is_driven netlist) l v
  reset_clock settles lines q l c v levels clock =
      let opened = opened_settling (phase true lines true false) Phi1 (first_phase settles true lines true) netlist.order1 valid.first_order levels.changed levels.first clock.changed clock.first clock.phi1_high levels.phi1_high refl refl in
      let between = closed_settling (phase true lines false false) Phi1 (first_phase settles true lines false) netlist.order1 valid.first_order levels.first levels.between clock.first clock.between clock.phi1_low levels.phi1_low refl refl opened in
      let second = spread_settling (phase true lines false true) Phi2 (second_phase settles true lines) netlist.order2 valid.second_order levels.between levels.second clock.between clock.second clock.phi2_high levels.phi2_high refl refl between in
      stays_known (phase true lines false false) Phi1 (first_phase settles true lines false) netlist.order1 valid.first_order levels.second l clock.second v clock.phi2_low levels.phi2_low second

  -- at every time of the run
  abbrev AgreeAll : List Levels → List Values → Type 0
  AgreeAll ls vs = (t : ℕ) (l : Levels) → slice_get ls t ≡ Some l → (v : Values) × (slice_get vs t ≡ Some v) × Agree (is_driven netlist) l v

  agree_more : (l : Levels) (ls : List Levels) (v : Values) (vs : List Values) → Agree (is_driven netlist) l v → AgreeAll ls vs → AgreeAll (l ∷ ls) (v ∷ vs)
  agree_more l ls v vs now later zero m e = let same : l ≡ m = cc in (v, refl, subst (λ k. Agree (is_driven netlist) k v) same now)
  agree_more l ls v vs now later (suc t) m e = later t m e

  clocks_agree : (settles : LogicSettles) (u : List (List Bool)) (q : Levels) (c : Values) (ls : List Levels) (vs : List Values) → Agree (is_driven netlist) q c
      → ClocksLevels (switch_form netlist) q u ls → Clocks (switch_form netlist) c u vs → AgreeAll ls vs
  clocks_agree settles [] q c [] vs before levels clocks t l e = absurd (cc)
  clocks_agree settles [] q c (k ∷ ls) vs before levels clocks t l e = absurd levels
  clocks_agree settles (x ∷ u) q c [] vs before levels clocks t l e = absurd levels
  clocks_agree settles (x ∷ u) q c (k ∷ ls) [] before levels clocks t l e = absurd clocks
  clocks_agree settles (x ∷ u) q c (k ∷ ls) (w ∷ vs) before levels clocks t l e =
      let now = later_clock settles false x q k c w levels.0 clocks.0 before in
      agree_more k ls w vs now (clocks_agree settles u k w ls vs now levels.1 clocks.1) t l e

  pub run_agrees : (settles : LogicSettles) (c : Values) (lines : List Bool) (u : List (List Bool)) (ls : List Levels) (vs : List Values)
      → RunLevels (switch_form netlist) nothing_known lines u ls → Run (switch_form netlist) c lines u vs → AgreeAll ls vs
  run_agrees settles c lines u [] vs levels run = absurd levels
  run_agrees settles c lines u (k ∷ ls) [] levels run = absurd run
  run_agrees settles c lines u (k ∷ ls) (w ∷ vs) levels run =
      let now = reset_clock settles lines nothing_known k c w levels.0 run.0 in
      agree_more k ls w vs now (clocks_agree settles u k w ls vs now levels.1 run.1)
