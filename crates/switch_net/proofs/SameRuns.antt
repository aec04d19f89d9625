-- Same networks settle, take clocks and run alike.
use Rattle.std.proofs.Common.{◌≡◌, ◌⊎◌, inl, inr, ℕ, zero, suc, ◌==◌, ◌||◌, Bool, true, false, if◌then◌else◌, List, [], ◌∷◌, map, Some, refl, sym, ap, ◌∙◌, subst, arith}
use Rattle.std.specs.Prelude.{slice_get}
use Rattle.std.proofs.lemmas.Bool.{cases_Bool, eqb-true, eq-eqb}
use Rattle.rx_text.specs.declared.pad_name.Role.{Role}
use Rattle.rx_text.specs.declared.pad_name.Role.TheVariants.{Vdd, Gnd, Phi1, Phi2, Reset, Input, Output}
use Rattle.switch_net.proofs.Carried.{touched_below, fixed_touched, same_fixed, same_drives, joins_touched, load_touched, free_there, grouped_there, grouped_here, source_there, source_here, high_there, high_here}
use Rattle.switch_net.proofs.LeastLevels.{known_or_not, updates_end, after_least, settled_exist, settled_alike, below_same}
use Rattle.switch_net.proofs.LoneNets.{LoneNet, idle, lone_settled, group_alone}
use Rattle.switch_net.proofs.Members.{In, contains_in, in_contains, in_left}
use Rattle.switch_net.proofs.Renamings.{carried, brought, inverted, goes_back}
use Rattle.switch_net.specs.Circuit.{Circuit, touched, renamed_pad, IsSameNetwork}
use Rattle.switch_net.specs.Clock.{drives_of, Clock, Clocks, Run}
use Rattle.switch_net.specs.Recognition.{before_outputs, output_nets}
use Rattle.switch_net.specs.SameRuns.{AreCarried, AllAreCarried, StepAlike, RunAlike, AgreeAtOutputs, ShowsAlike, SameSettleAlike, SameClockAlike, SameRunAlike, SameShowAlike}
use Rattle.switch_net.specs.Settling.{Values, IsFree, Source, IsPulledLow, IsPulledHigh, SettledAt, Settled}
use Rattle.switch_net.specs.Settling.Grouped.{here}
use Rattle.switch_net.specs.Ternary.{Levels, level_of, is_high, may_be_high, sure, possible, KeepsCharge, RisesSurely, UpdatedAt, Updates, StartsUnknown, AfterUpdates, SettledLevels, ClockLevels, ClocksLevels, RunLevels, nothing_known}
use Rattle.switch_net.specs.Validity.{IsNetwork}
use Rattle.switch_net.specs.declared.network.Level.TheVariants.{Unknown}
use Rattle.switch_net.specs.declared.network.Pad.{Pad}

-- ---- whether a net is touched

abbrev among : List ℕ → ℕ → Bool
among [] net = false
among (first ∷ rest) net = first == net || among rest net

among_in : (nets : List ℕ) (net : ℕ) → among nets net ≡ true → In net nets
among_in [] net e = absurd (cc)
among_in (first ∷ rest) net e =
    elim (cases_Bool (first == net)) [ inl at ↦ inl (eqb-true _ _ at) | inr not_at ↦ inr (among_in rest net (rw not_at at e)) ]

in_among : (nets : List ℕ) (net : ℕ) → In net nets → among nets net ≡ true
in_among [] net at = absurd at
in_among (first ∷ rest) net (inl e) = let here_is : (first == net) ≡ true = eq-eqb _ _ e in rw here_is refl
in_among (first ∷ rest) net (inr at) = let later = in_among rest net at in rw later (or_true (first == net))
  where
    or_true : (b : Bool) → (b || true) ≡ true
    or_true true = refl
    or_true false = refl

module _ (one other : Circuit) (valid : IsNetwork one) (valid_other : IsNetwork other) (s : IsSameNetwork one other) where
  abbrev IsTouched : ℕ → Type 0
  IsTouched net = In net (touched one)

  touched_or_not : (net : ℕ) → IsTouched net ⊎ ¬ IsTouched net
  touched_or_not net = elim (cases_Bool (among (touched one) net)) [
    | inl at ↦ inl (among_in (touched one) net at)
    | inr not_at ↦ inr (λ at. let e = in_among (touched one) net at in cc)
  ]

  -- what the touched nets have in the other network, and the others from elsewhere
  abbrev pulled : {X : Type 0} → (ℕ → X) → (ℕ → X) → ℕ → X
  pulled q w net = if among (touched one) net then w (s.rename net) else q net

  pulled_touched : {X : Type 0} (q w : ℕ → X) (net : ℕ) → IsTouched net → pulled q w net ≡ w (s.rename net)
  pulled_touched q w net at = let e = in_among (touched one) net at in rw e refl

  pulled_lone : {X : Type 0} (q w : ℕ → X) (net : ℕ) → ¬ IsTouched net → pulled q w net ≡ q net
  pulled_lone q w net lone = by (among (touched one) net) refl
    where
      by : (b : Bool) → among (touched one) net ≡ b → (if b then w (s.rename net) else q net) ≡ q net
      by true e = absurd (lone (among_in (touched one) net e))
      by false e = refl

  pulled_carried : {X : Type 0} (q w : ℕ → X) → AreCarried one s.rename (pulled q w) w
  pulled_carried q w net at = sym (pulled_touched q w net (contains_in net (touched one) at))

  abbrev Agree : {X : Type 0} → (ℕ → X) → (ℕ → X) → Type 0
  Agree v w = (net : ℕ) → IsTouched net → w (s.rename net) ≡ v net

  agree_of : {X : Type 0} (v w : ℕ → X) → AreCarried one s.rename v w → Agree v w
  agree_of v w h net at = h net (in_contains net (touched one) at)

  -- ---- a net that nothing touches

  lone_net : (drives : List Bool) (v : Values) (net : ℕ) → ¬ IsTouched net → LoneNet one drives v net false false
  lone_net drives v net lone = idle one drives v net (λ b j. lone (joins_touched one v net b j)) (λ h. lone (load_touched one net h))

  lone_source : (drives : List Bool) (v : Values) (level : Bool) (net : ℕ) → ¬ IsTouched net → Source one drives v level net → ⊥
  lone_source drives v level net lone h =
      let e = group_alone one drives v net h.from false false (lone_net drives v net lone) h.grouped in
      lone (joins_touched one v net h.to (rw e at h.joined))

  lone_high : (drives : List Bool) (v : Values) (net : ℕ) → ¬ IsTouched net → IsPulledHigh one drives v net → ⊥
  lone_high drives v net lone (inl h) = lone_source drives v true net lone h
  lone_high drives v net lone (inr h) =
      let e = group_alone one drives v net h.at false false (lone_net drives v net lone) h.grouped in
      lone (load_touched one net (rw e at h.load))

  -- ---- settlings of values

  module _ (drives : List Bool) (q p : Values) (charges : Agree q p) (w : Values) (settled : Settled other drives p w) where
    agree : Agree (pulled q w) w
    agree net at = sym (pulled_touched q w net at)

    settled_touched : (net : ℕ) → IsTouched net → IsFree one drives net → SettledAt one drives q (pulled q w) net
    settled_touched net at free =
        let there = settled.free (s.rename net) (free_there one other valid valid_other s drives net at free) in
        let e = pulled_touched q w net at in
        let low_here = source_here one other valid valid_other s drives (pulled q w) w agree false net at in
        let is_high_here = high_here one other valid valid_other s drives (pulled q w) w agree net at in
        record {
          low = λ h. e ∙ there.low (source_there one other valid valid_other s drives (pulled q w) w agree false net at h);
          high = λ no_low h. e ∙ there.high (λ l. no_low (low_here l)) (high_there one other valid valid_other s drives (pulled q w) w agree net at h);
          kept = λ no_low no_high level had. e ∙ there.kept (λ l. no_low (low_here l)) (λ l. no_high (is_high_here l)) level (λ m g.
              let from = grouped_here one other valid valid_other s drives (pulled q w) w agree (s.rename net) m g net refl at in
              ap p (sym from.2) ∙ charges from.0 from.1 ∙ had from.0 from.3);
          alike = λ no_low no_high m g.
              let t = grouped_there one other valid valid_other s drives (pulled q w) w agree net m at g in
              sym (agree m t.0) ∙ there.alike (λ l. no_low (low_here l)) (λ l. no_high (is_high_here l)) (s.rename m) t.1 ∙ sym e;
        }

    settled_pulled : Settled one drives q (pulled q w)
    settled_pulled = record {
      fixed = λ net level lt e.
          let at = fixed_touched one drives net level e in
          pulled_touched q w net at
          ∙ settled.fixed (s.rename net) level (touched_below other valid_other (s.rename net) (carried one other s net at))
          (same_fixed one other valid valid_other s drives net at ∙ e);
      free = λ net free. elim (touched_or_not net) [
        | inl at ↦ settled_touched net at free
        | inr lone ↦ lone_settled one drives (pulled q w) q net false false (lone_net drives (pulled q w) net lone) (pulled_lone q w net lone)
      ];
    }

  -- ---- updates of levels

  module _ (drives : List Bool) (q p : Levels) (charges : Agree q p) where
    module _ (v w : Levels) (agree : Agree v w) (next : Levels) (updates : Updates other drives p w next) where
      agree_sure : Agree (sure v) (sure w)
      agree_sure net at = ap is_high (agree net at)

      agree_possible : Agree (possible v) (possible w)
      agree_possible net at = ap may_be_high (agree net at)

      module _ (net : ℕ) (at : IsTouched net) where
        may_low_here : IsPulledLow other drives (possible w) (s.rename net) → IsPulledLow one drives (possible v) net
        may_low_here l = source_here one other valid valid_other s drives (possible v) (possible w) agree_possible false net at l

        may_low_there : IsPulledLow one drives (possible v) net → IsPulledLow other drives (possible w) (s.rename net)
        may_low_there l = source_there one other valid valid_other s drives (possible v) (possible w) agree_possible false net at l

        rises_there : RisesSurely one drives v net → RisesSurely other drives w (s.rename net)
        rises_there h = record {
          not_low = λ l. h.not_low (may_low_here l);
          high = high_there one other valid valid_other s drives (sure v) (sure w) agree_sure net at h.high;
        }

        rises_here : RisesSurely other drives w (s.rename net) → RisesSurely one drives v net
        rises_here h = record {
          not_low = λ l. h.not_low (may_low_there l);
          high = high_here one other valid valid_other s drives (sure v) (sure w) agree_sure net at h.high;
        }

        keeps_there : (level : Bool) → KeepsCharge one drives q v net level → KeepsCharge other drives p w (s.rename net) level
        keeps_there level k = record {
          not_low = λ l. k.not_low (may_low_here l);
          not_high = λ l. k.not_high (high_here one other valid valid_other s drives (possible v) (possible w) agree_possible net at l);
          charge = λ m g.
              let from = grouped_here one other valid valid_other s drives (possible v) (possible w) agree_possible (s.rename net) m g net refl at in
              ap p (sym from.2) ∙ charges from.0 from.1 ∙ k.charge from.0 from.3;
        }

        keeps_here : (level : Bool) → KeepsCharge other drives p w (s.rename net) level → KeepsCharge one drives q v net level
        keeps_here level k = record {
          not_low = λ l. k.not_low (may_low_there l);
          not_high = λ l. k.not_high (high_there one other valid valid_other s drives (possible v) (possible w) agree_possible net at l);
          charge = λ m g.
              let t = grouped_there one other valid valid_other s drives (possible v) (possible w) agree_possible net m at g in
              sym (charges m t.0) ∙ k.charge (s.rename m) t.1;
        }

        updated_touched : IsFree one drives net → UpdatedAt one drives q v (pulled q next) net
        updated_touched free =
            let there = updates.free (s.rename net) (free_there one other valid valid_other s drives net at free) in
            let e = pulled_touched q next net at in
            record {
              low = λ h. e ∙ there.low (source_there one other valid valid_other s drives (sure v) (sure w) agree_sure false net at h);
              high = λ h. e ∙ there.high (rises_there h);
              kept = λ level k. e ∙ there.kept level (keeps_there level k);
              unknown = λ a b c. e ∙ there.unknown
                  (λ l. a (source_here one other valid valid_other s drives (sure v) (sure w) agree_sure false net at l))
                  (λ h. b (rises_here h)) (λ level k. c level (keeps_here level k));
            }

      updated_lone : (net : ℕ) → ¬ IsTouched net → UpdatedAt one drives q v (pulled q next) net
      updated_lone net lone =
          let e = pulled_lone q next net lone in
          record {
            low = λ h. absurd (lone_source drives (sure v) false net lone h);
            high = λ h. absurd (lone_high drives (sure v) net lone h.high);
            kept = λ level k. e ∙ k.charge net (here net);
            unknown = λ a b c. e ∙ unkept (known_or_not (q net)) c;
          }
        where
          unkept : (q net ≡ Unknown) ⊎ ((b : Bool) × (q net ≡ level_of b)) → ((level : Bool) → ¬ KeepsCharge one drives q v net level) → q net ≡ Unknown
          unkept (inl is) c = is
          unkept (inr known) c = absurd (c known.0 (record {
            not_low = λ l. lone_source drives (possible v) false net lone l;
            not_high = λ h. lone_high drives (possible v) net lone h;
            charge = λ m g. ap q (group_alone one drives (possible v) net m false false (lone_net drives (possible v) net lone) g) ∙ known.1;
          }))

      updates_pulled : Updates one drives q v (pulled q next)
      updates_pulled = record {
        fixed = λ net level lt e.
            let at = fixed_touched one drives net level e in
            pulled_touched q next net at
            ∙ updates.fixed (s.rename net) level (touched_below other valid_other (s.rename net) (carried one other s net at))
            (same_fixed one other valid valid_other s drives net at ∙ e);
        free = λ net free. elim (touched_or_not net) [ inl at ↦ updated_touched net at free | inr lone ↦ updated_lone net lone ];
      }

    start_pulled : (w : Levels) → StartsUnknown other drives w → StartsUnknown one drives (pulled nothing_known w)
    start_pulled w start = record {
      fixed = λ net level lt e.
          let at = fixed_touched one drives net level e in
          pulled_touched nothing_known w net at
          ∙ start.fixed (s.rename net) level (touched_below other valid_other (s.rename net) (carried one other s net at))
          (same_fixed one other valid valid_other s drives net at ∙ e);
      free = λ net free. elim (touched_or_not net) [
        | inl at ↦ pulled_touched nothing_known w net at ∙ start.free (s.rename net) (free_there one other valid valid_other s drives net at free)
        | inr lone ↦ pulled_lone nothing_known w net lone
      ];
    }

    after_pulled : (n : ℕ) (w : Levels) → AfterUpdates other drives p n w → (v : Levels) × AfterUpdates one drives q n v × Agree v w
    after_pulled zero w after =
        (pulled nothing_known w, start_pulled w after, λ net at. sym (pulled_touched nothing_known w net at))
    after_pulled (suc n) w after =
        let before = after_pulled n after.0 after.1 in (
          pulled q w,
          (before.0, before.1, updates_pulled before.0 after.0 before.2 w after.2),
          λ net at. sym (pulled_touched q w net at),
        )

    levels_pulled : (w : Levels) → SettledLevels other drives p w → SettledLevels one drives q (pulled q w)
    levels_pulled w settled =
        let kept = updates_end other valid_other drives p w (suc other.nets) (omega arith) settled in
        let before = after_pulled (suc other.nets) w settled in
        let kept_here = updates_pulled (pulled q w) w (λ net at. sym (pulled_touched q w net at)) w kept in
        let first = settled_exist one valid drives q in
        let kept_first = updates_end one valid drives q first.0 (suc one.nets) (omega arith) first.1 in
        let after : AfterUpdates one drives q (suc (suc other.nets)) (pulled q w) =
        (before.0, before.1, updates_pulled before.0 w before.2 w kept) in
        settled_alike one valid drives q first.0 (pulled q w)
        (below_same one valid first.0 (pulled q w)
        (after_least one valid drives q (suc one.nets) first.0 (pulled q w) first.1 kept_here)
        (after_least one valid drives q (suc (suc other.nets)) (pulled q w) first.0 after kept_first)) first.1

  -- ---- clocks and runs

  -- a step of the one for each of the other
  abbrev StepHere : {X : Type 0} → ((ℕ → X) → (ℕ → X) → Type 0) → ((ℕ → X) → (ℕ → X) → Type 0) → Type 0
  StepHere {X} One Other = (q p : ℕ → X) → AreCarried one s.rename q p → (w : ℕ → X) → Other p w → (v : ℕ → X) × One q v × AreCarried one s.rename v w

  settled_here : (drives : List Bool) → StepHere (Settled one drives) (Settled other drives)
  settled_here drives q p charges w settled = (pulled q w, settled_pulled drives q p (agree_of q p charges) w settled, pulled_carried q w)

  levels_here : (drives : List Bool) → StepHere (SettledLevels one drives) (SettledLevels other drives)
  levels_here drives q p charges w settled = (pulled q w, levels_pulled drives q p (agree_of q p charges) w settled, pulled_carried q w)

  abbrev drives_in : Circuit → Bool → List Bool → Bool → Bool → List Bool
  drives_in circuit reset lines phi1 phi2 = drives_of (record { phi1 = phi1; phi2 = phi2; reset = reset; lines = lines }) circuit.pads

  phase_here : (reset : Bool) (lines : List Bool) (phi1 phi2 : Bool)
      → StepHere (Settled one (drives_in one reset lines phi1 phi2)) (Settled other (drives_in other reset lines phi1 phi2))
  phase_here reset lines phi1 phi2 =
      subst (λ drives. StepHere (Settled one (drives_in one reset lines phi1 phi2)) (Settled other drives))
      (sym (same_drives one other valid valid_other s (record { phi1 = phi1; phi2 = phi2; reset = reset; lines = lines })))
      (settled_here (drives_in one reset lines phi1 phi2))

  phase_levels_here : (reset : Bool) (lines : List Bool) (phi1 phi2 : Bool)
      → StepHere (SettledLevels one (drives_in one reset lines phi1 phi2)) (SettledLevels other (drives_in other reset lines phi1 phi2))
  phase_levels_here reset lines phi1 phi2 =
      subst (λ drives. StepHere (SettledLevels one (drives_in one reset lines phi1 phi2)) (SettledLevels other drives))
      (sym (same_drives one other valid valid_other s (record { phi1 = phi1; phi2 = phi2; reset = reset; lines = lines })))
      (levels_here (drives_in one reset lines phi1 phi2))

  clock_here : (reset : Bool) (lines : List Bool) → StepHere (Clock one reset lines) (Clock other reset lines)
  clock_here reset lines q p charges w clock =
      let a = phase_here reset lines false false q p charges clock.changed clock.settles in
      let b = phase_here reset lines true false a.0 clock.changed a.2 clock.first clock.phi1_high in
      let c = phase_here reset lines false false b.0 clock.first b.2 clock.between clock.phi1_low in
      let d = phase_here reset lines false true c.0 clock.between c.2 clock.second clock.phi2_high in
      let e = phase_here reset lines false false d.0 clock.second d.2 w clock.phi2_low in (
        e.0,
        record {
          changed = a.0;
          first = b.0;
          between = c.0;
          second = d.0;
          settles = a.1;
          phi1_high = b.1;
          phi1_low = c.1;
          phi2_high = d.1;
          phi2_low = e.1;
        },
        e.2,
      )

  clock_levels_here : (reset : Bool) (lines : List Bool) → StepHere (ClockLevels one reset lines) (ClockLevels other reset lines)
  clock_levels_here reset lines q p charges w clock =
      let a = phase_levels_here reset lines false false q p charges clock.changed clock.settles in
      let b = phase_levels_here reset lines true false a.0 clock.changed a.2 clock.first clock.phi1_high in
      let c = phase_levels_here reset lines false false b.0 clock.first b.2 clock.between clock.phi1_low in
      let d = phase_levels_here reset lines false true c.0 clock.between c.2 clock.second clock.phi2_high in
      let e = phase_levels_here reset lines false false d.0 clock.second d.2 w clock.phi2_low in (
        e.0,
        record {
          changed = a.0;
          first = b.0;
          between = c.0;
          second = d.0;
          settles = a.1;
          phi1_high = b.1;
          phi1_low = c.1;
          phi2_high = d.1;
          phi2_low = e.1;
        },
        e.2,
      )

  abbrev RunHere : {X : Type 0} → ((ℕ → X) → List (ℕ → X) → Type 0) → ((ℕ → X) → List (ℕ → X) → Type 0) → Type 0
  RunHere {X} One Other = (q p : ℕ → X) → AreCarried one s.rename q p → (ws : List (ℕ → X)) → Other p ws
      → (vs : List (ℕ → X)) × One q vs × AllAreCarried one s.rename vs ws

  clocks_here : (u : List (List Bool)) → RunHere (λ q vs. Clocks one q u vs) (λ q vs. Clocks other q u vs)
  clocks_here [] q p charges [] clocks = ([], tt, tt)
  clocks_here [] q p charges (w ∷ ws) clocks = absurd clocks
  clocks_here (x ∷ u) q p charges [] clocks = absurd clocks
  clocks_here (x ∷ u) q p charges (w ∷ ws) clocks =
      let now = clock_here false x q p charges w clocks.0 in
      let later = clocks_here u now.0 w now.2 ws clocks.1 in
      (now.0 ∷ later.0, (now.1, later.1), (now.2, later.2))

  clocks_levels_here : (u : List (List Bool)) → RunHere (λ q vs. ClocksLevels one q u vs) (λ q vs. ClocksLevels other q u vs)
  clocks_levels_here [] q p charges [] clocks = ([], tt, tt)
  clocks_levels_here [] q p charges (w ∷ ws) clocks = absurd clocks
  clocks_levels_here (x ∷ u) q p charges [] clocks = absurd clocks
  clocks_levels_here (x ∷ u) q p charges (w ∷ ws) clocks =
      let now = clock_levels_here false x q p charges w clocks.0 in
      let later = clocks_levels_here u now.0 w now.2 ws clocks.1 in
      (now.0 ∷ later.0, (now.1, later.1), (now.2, later.2))

  run_here : (lines : List Bool) (u : List (List Bool)) → RunHere (λ q vs. Run one q lines u vs) (λ q vs. Run other q lines u vs)
  run_here lines u q p charges [] run = absurd run
  run_here lines u q p charges (w ∷ ws) run =
      let first = clock_here true lines q p charges w run.0 in
      let later = clocks_here u first.0 w first.2 ws run.1 in
      (first.0 ∷ later.0, (first.1, later.1), (first.2, later.2))

  run_levels_here : (lines : List Bool) (u : List (List Bool)) → RunHere (λ q vs. RunLevels one q lines u vs) (λ q vs. RunLevels other q lines u vs)
  run_levels_here lines u q p charges [] run = absurd run
  run_levels_here lines u q p charges (w ∷ ws) run =
      let first = clock_levels_here true lines q p charges w run.0 in
      let later = clocks_levels_here u first.0 w first.2 ws run.1 in
      (first.0 ∷ later.0, (first.1, later.1), (first.2, later.2))

-- ---- the other way round

module _ (one other : Circuit) (valid : IsNetwork one) (valid_other : IsNetwork other) (s : IsSameNetwork one other) where
  abbrev back : IsSameNetwork other one
  back = inverted one other s

  carried_back : {X : Type 0} (v w : ℕ → X) → AreCarried one s.rename v w → AreCarried other back.rename w v
  carried_back v w h net at =
      let from = brought one other s net (contains_in net (touched other) at) in
      let is : back.rename net ≡ from.0 = ap back.rename (sym from.2) ∙ goes_back one other s from.0 from.1 in
      ap v is ∙ sym (h from.0 (in_contains from.0 (touched one) from.1)) ∙ ap w from.2

  carried_forth : {X : Type 0} (v w : ℕ → X) → AreCarried other back.rename w v → AreCarried one s.rename v w
  carried_forth v w h net at =
      let here_at = contains_in net (touched one) at in
      let there = h (s.rename net) (in_contains (s.rename net) (touched other) (carried one other s net here_at)) in
      sym there ∙ ap v (goes_back one other s net here_at)

  all_forth : {X : Type 0} (vs ws : List (ℕ → X)) → AllAreCarried other back.rename ws vs → AllAreCarried one s.rename vs ws
  all_forth [] [] h = tt
  all_forth [] (w ∷ ws) h = absurd h
  all_forth (v ∷ vs) [] h = absurd h
  all_forth (v ∷ vs) (w ∷ ws) h = (carried_forth v w h.0, all_forth vs ws h.1)

  both_steps : {X : Type 0} (One Other : (ℕ → X) → (ℕ → X) → Type 0) → StepHere one other valid valid_other s One Other
      → StepHere other one valid_other valid back Other One → StepAlike one s.rename One Other
  both_steps One Other here_step there_step q p charges = (
    λ v step. let t = there_step p q (carried_back q p charges) v step in (t.0, t.1, carried_forth v t.0 t.2),
    λ w step. here_step q p charges w step,
  )

  both_runs : {X : Type 0} (One Other : (ℕ → X) → List (ℕ → X) → Type 0) → RunHere one other valid valid_other s One Other
      → RunHere other one valid_other valid back Other One → RunAlike one s.rename One Other
  both_runs One Other here_run there_run q p charges = (
    λ vs run. let t = there_run p q (carried_back q p charges) vs run in (t.0, t.1, all_forth vs t.0 t.2),
    λ ws run. here_run q p charges ws run,
  )

  -- ---- outputs

  outputs_renamed : (pads : List Pad) (output net : ℕ) → slice_get (output_nets (map (renamed_pad s.rename) pads)) output ≡ Some net
      → (from : ℕ) × (slice_get (output_nets pads) output ≡ Some from) × In from (map (λ pad. pad.net.0) pads) × (s.rename from ≡ net)
  outputs_renamed [] output net e = absurd (cc)
  outputs_renamed (pad ∷ pads) output net e = by pad.name.role output e (λ o. outputs_renamed pads o net)
    where
      later : (o : ℕ) → ((from : ℕ) × (slice_get (output_nets pads) o ≡ Some from) × In from (map (λ pad. pad.net.0) pads) × (s.rename from ≡ net))
          → (from : ℕ) × (slice_get (output_nets pads) o ≡ Some from) × In from (map (λ pad. pad.net.0) (pad ∷ pads)) × (s.rename from ≡ net)
      later o h = (h.0, h.1, inr h.2, h.3)

      by : (role : Role) (o : ℕ) → slice_get (before_outputs role (s.rename pad.net.0) (output_nets (map (renamed_pad s.rename) pads))) o ≡ Some net
          → ((o : ℕ) → slice_get (output_nets (map (renamed_pad s.rename) pads)) o ≡ Some net
          → (from : ℕ) × (slice_get (output_nets pads) o ≡ Some from) × In from (map (λ pad. pad.net.0) pads) × (s.rename from ≡ net))
          → (from : ℕ) × (slice_get (before_outputs role pad.net.0 (output_nets pads)) o ≡ Some from) × In from (map (λ pad. pad.net.0) (pad ∷ pads)) × (s.rename from ≡ net)
      by Output zero e rest = let same : s.rename pad.net.0 ≡ net = cc in (pad.net.0, refl, inl refl, same)
      by Output (suc o) e rest = later o (rest o e)
      by Vdd o e rest = later o (rest o e)
      by Gnd o e rest = later o (rest o e)
      by Phi1 o e rest = later o (rest o e)
      by Phi2 o e rest = later o (rest o e)
      by Reset o e rest = later o (rest o e)
      by Input o e rest = later o (rest o e)

  output_from : (output net : ℕ) → slice_get (output_nets other.pads) output ≡ Some net
      → (from : ℕ) × (slice_get (output_nets one.pads) output ≡ Some from) × In from (map (λ pad. pad.net.0) one.pads) × (s.rename from ≡ net)
  output_from output net e =
      outputs_renamed one.pads output net (subst (λ pads. slice_get (output_nets pads) output ≡ Some net) (sym s.pads) e)

  at_time : {X : Type 0} (vs ws : List (ℕ → X)) → AllAreCarried one s.rename vs ws → (t : ℕ) (w : ℕ → X) → slice_get ws t ≡ Some w
      → (v : ℕ → X) × (slice_get vs t ≡ Some v) × AreCarried one s.rename v w
  at_time [] [] h t w e = absurd (cc)
  at_time [] (x ∷ ws) h t w e = absurd h
  at_time (v ∷ vs) [] h t w e = absurd h
  at_time (v ∷ vs) (x ∷ ws) h zero w e = let same : x ≡ w = cc in (v, refl, subst (AreCarried one s.rename v) same h.0)
  at_time (v ∷ vs) (x ∷ ws) h (suc t) w e = at_time vs ws h.1 t w e

  agree_at_outputs : {X : Type 0} (vs ws : List (ℕ → X)) → AllAreCarried one s.rename vs ws → AgreeAtOutputs one other vs ws
  agree_at_outputs vs ws h t output net w at out =
      let then_at = at_time vs ws h t w at in
      let from = output_from output net out in
      let touches = in_contains from.0 (touched one) (in_left from.0 (map (λ pad. pad.net.0) one.pads) _ from.2) in
      (then_at.0, from.0, then_at.1, from.1, ap w (sym from.3) ∙ then_at.2 from.0 touches)

  shows_alike : ShowsAlike one other
  shows_alike = record {
    runs = λ lines u runs p.
        let q : Values = λ net. p (s.rename net) in
        let run = runs q in
        let t = run_here other one valid_other valid back lines u p q (carried_back q p (λ net at. refl)) run.0 run.1 in
        (t.0, t.1);
    values = λ lines u p ws run.
        let q : Values = λ net. p (s.rename net) in
        let t = run_here one other valid valid_other s lines u q p (λ net at. refl) ws run in
        (q, t.0, t.1, agree_at_outputs t.0 ws t.2);
    levels = λ lines u ws run.
        let t = run_levels_here one other valid valid_other s lines u nothing_known nothing_known (λ net at. refl) ws run in
        (t.0, t.1, agree_at_outputs t.0 ws t.2);
  }

-- ---- the laws

pub settle_alike : SameSettleAlike
settle_alike one other valid valid_other s drives = (
  both_steps one other valid valid_other s (Settled one drives) (Settled other drives) (settled_here one other valid valid_other s drives)
      (settled_here other one valid_other valid (inverted one other s) drives),
  both_steps one other valid valid_other s (SettledLevels one drives) (SettledLevels other drives) (levels_here one other valid valid_other s drives)
      (levels_here other one valid_other valid (inverted one other s) drives),
)

pub clock_alike : SameClockAlike
clock_alike one other valid valid_other s reset lines = (
  both_steps one other valid valid_other s (Clock one reset lines) (Clock other reset lines) (clock_here one other valid valid_other s reset lines)
      (clock_here other one valid_other valid (inverted one other s) reset lines),
  both_steps one other valid valid_other s (ClockLevels one reset lines) (ClockLevels other reset lines)
      (clock_levels_here one other valid valid_other s reset lines)
      (clock_levels_here other one valid_other valid (inverted one other s) reset lines),
)

pub run_alike : SameRunAlike
run_alike one other valid valid_other s lines u = (
  both_runs one other valid valid_other s (λ q vs. Run one q lines u vs) (λ q vs. Run other q lines u vs) (run_here one other valid valid_other s lines u)
      (run_here other one valid_other valid (inverted one other s) lines u),
  both_runs one other valid valid_other s (λ q ls. RunLevels one q lines u ls) (λ q ls. RunLevels other q lines u ls)
      (run_levels_here one other valid valid_other s lines u)
      (run_levels_here other one valid_other valid (inverted one other s) lines u),
)

pub show_alike : SameShowAlike
show_alike one other valid valid_other s = shows_alike one other valid valid_other s
