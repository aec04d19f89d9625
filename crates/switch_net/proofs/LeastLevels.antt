-- A ternary settling leaves the least levels that an update keeps; settlings, clocks and runs exist and are one.
use Rattle.std.proofs.Common.{◌≡◌, ◌⊎◌, inl, inr, ℕ, zero, suc, ◌<◌, ◌≤◌, ◌==◌, Bool, true, false, List, [], ◌∷◌, Option, Some, None, refl, sym, ap, ◌∙◌, subst, arith}
use Rattle.std.proofs.lemmas.Bool.{cases_Bool, cases_lt, eqb-true, eqb-false}
use Rattle.std.specs.List.{AllByRecursion}
use Rattle.std.proofs.lemmas.List.Elements.{recursion_from_All}
use Rattle.switch_net.specs.Circuit.{Circuit}
use Rattle.switch_net.specs.Clock.{drives_of}
use Rattle.switch_net.specs.ClockedLogic.{NamesBelow}
use Rattle.switch_net.specs.Settling.{fixed_level, IsFree, IsPulledLow, IsPulledHigh}
use Rattle.switch_net.specs.Settling.Grouped.{here}
use Rattle.switch_net.specs.Ternary.{Levels, level_of, is_high, may_be_high, sure, possible, KeepsCharge, RisesSurely, UpdatedAt, AreDriven, Updates, StartsUnknown, AfterUpdates, SettledLevels, ClockLevels, ClocksLevels, RunLevels}
use Rattle.switch_net.specs.LeastLevels.{IsRefinedBy, HaveSameLevels, AllHaveSameLevels, Tells, AreToldByOnes, NoneIsTold, SettledLevelsAlike, UpdatesAreMonotone, UpdatesOnlyTell, UpdatesEnd, SettledLevelsAreLeast, AnyOrderSettles, SettledLevelsExist, SettledLevelsAreOne, ClockLevelsExist, ClocksLevelsExist, RunLevelsExist, RunLevelsAreOne}
use Rattle.switch_net.specs.LeastLevels.AreToldByOnes.{unknown, one_more}
use Rattle.switch_net.specs.LeastLevels.Tells.{pulled_low, rises, keeps}
use Rattle.switch_net.specs.Validity.{IsNetwork}
use Rattle.switch_net.specs.declared.network.Level.{Level}
use Rattle.switch_net.specs.declared.network.Level.TheVariants.{Low, High, Unknown}
use Rattle.switch_net.proofs.Reaching.{count_below, count_most, count_more, has_or_not, source_or_not, high_or_not}
use Rattle.switch_net.proofs.SettledGroups.{group_free}
use Rattle.switch_net.proofs.SureLevels.{Within, more_grouped, more_source, more_high, one_level, high_is_one, low_is_zero, unknown_is_none}

-- ---- levels

-- a level is unknown or that of a value
pub known_or_not : (l : Level) → (l ≡ Unknown) ⊎ ((b : Bool) × (l ≡ level_of b))
known_or_not Unknown = inl refl
known_or_not Low = inr (false, refl)
known_or_not High = inr (true, refl)

-- levels that tell the same are the same
told_same : (a b : Level) → ((level : Bool) → a ≡ level_of level → b ≡ level_of level) → ((level : Bool) → b ≡ level_of level → a ≡ level_of level) → a ≡ b
told_same Low b f g = sym (f false refl)
told_same High b f g = sym (f true refl)
told_same Unknown Low f g = g false refl
told_same Unknown High f g = g true refl
told_same Unknown Unknown f g = refl

abbrev is_known : Level → Bool
is_known Low = true
is_known High = true
is_known Unknown = false

known_is : (l : Level) → is_known l ≡ true → (b : Bool) × (l ≡ level_of b)
known_is Low e = (false, refl)
known_is High e = (true, refl)
known_is Unknown e = absurd (cc)

is_known_of : (l : Level) (b : Bool) → l ≡ level_of b → is_known l ≡ true
is_known_of l true e = rw e refl
is_known_of l false e = rw e refl

sure_is_possible : (l : Level) → is_high l ≡ true → may_be_high l ≡ true
sure_is_possible High e = refl
sure_is_possible Low e = absurd (cc)
sure_is_possible Unknown e = absurd (cc)

may_be : (m : Bool) → (m ≡ false → ⊥) → m ≡ true
may_be true h = refl
may_be false h = absurd (h refl)

-- whether a charge is another than this level
abbrev is_other : Bool → Level → Bool
is_other false Low = false
is_other false High = true
is_other false Unknown = true
is_other true Low = true
is_other true High = false
is_other true Unknown = true

other_or : (level : Bool) (l : Level) → (is_other level l ≡ true → ⊥) → l ≡ level_of level
other_or false Low h = refl
other_or false High h = absurd (h refl)
other_or false Unknown h = absurd (h refl)
other_or true Low h = absurd (h refl)
other_or true High h = refl
other_or true Unknown h = absurd (h refl)

other_is : (level : Bool) (l : Level) → is_other level l ≡ true → l ≡ level_of level → ⊥
other_is true l e f = let g : is_other true High ≡ true = rw f at e in cc
other_is false l e f = let g : is_other false Low ≡ true = rw f at e in cc

module _ (circuit : Circuit) (valid : IsNetwork circuit) where
  below : AllByRecursion (NamesBelow circuit.nets) circuit.devices
  below = recursion_from_All (NamesBelow circuit.nets) circuit.devices valid.devices_below

  abbrev Below : Levels → Levels → Type 0
  Below v w = IsRefinedBy circuit v w

  abbrev Same : Levels → Levels → Type 0
  Same v w = HaveSameLevels circuit v w

  same_below : (v w : Levels) → Same v w → Below v w
  same_below v w same net level lt e = sym (same net lt) ∙ e

  pub below_same : (v w : Levels) → Below v w → Below w v → Same v w
  below_same v w one other net lt = told_same (v net) (w net) (λ level e. one net level lt e) (λ level e. other net level lt e)

  same_back : (v w : Levels) → Same v w → Same w v
  same_back v w same net lt = sym (same net lt)

  below_sure : (v w : Levels) → Below v w → Within circuit.nets (sure v) (sure w)
  below_sure v w h net lt e = let f = h net true lt (high_is_one (v net) e) in rw f refl

  below_possible : (v w : Levels) → Below v w → Within circuit.nets (possible w) (possible v)
  below_possible v w h net lt e = may_be (may_be_high (v net)) (λ f.
      let g = h net false lt (low_is_zero (v net) f) in let no : may_be_high Low ≡ true = rw g at e in cc)

  within_both : (v : Levels) → Within circuit.nets (sure v) (possible v)
  within_both v net lt e = sure_is_possible (v net) e

  module _ (drives : List Bool) where
    abbrev f : ℕ → Option Bool
    f = fixed_level circuit.pads drives

    -- ---- an update is monotone

    module _ (v w : Levels) (h : Below v w) (net : ℕ) where
      low_more : IsPulledLow circuit drives (sure v) net → IsPulledLow circuit drives (sure w) net
      low_more s = more_source circuit drives (sure v) (sure w) below (below_sure v w h) false net s

      low_fewer : IsPulledLow circuit drives (possible w) net → IsPulledLow circuit drives (possible v) net
      low_fewer s = more_source circuit drives (possible w) (possible v) below (below_possible v w h) false net s

      rises_more : RisesSurely circuit drives v net → RisesSurely circuit drives w net
      rises_more r = record {
        not_low = λ s. r.not_low (low_fewer s);
        high = more_high circuit drives (sure v) (sure w) below (below_sure v w h) net r.high;
      }

      keeps_more : (p q : Levels) → Below p q → IsFree circuit drives net → (level : Bool) → KeepsCharge circuit drives p v net level
          → KeepsCharge circuit drives q w net level
      keeps_more p q charges free level k = record {
        not_low = λ s. k.not_low (low_fewer s);
        not_high = λ s. k.not_high (more_high circuit drives (possible w) (possible v) below (below_possible v w h) net s);
        charge = λ m g.
            let grouped = more_grouped circuit drives (possible w) (possible v) below (below_possible v w h) net m g in
            charges m level (group_free circuit drives (possible v) net m free grouped).0 (k.charge m grouped);
      }

    updated_more : (p q v w x y : Levels) → Below p q → Below v w → (net : ℕ) → IsFree circuit drives net → UpdatedAt circuit drives p v x net
        → UpdatedAt circuit drives q w y net → (level : Bool) → x net ≡ level_of level → y net ≡ level_of level
    updated_more p q v w x y charges h net free one other level e = by (known_or_not (y net))
      where
        -- what holds of the first holds of the second
        unlike : (x net ≡ Unknown → ⊥)
        unlike g = unknown_is_none level (sym e ∙ g)

        by : (y net ≡ Unknown) ⊎ ((b : Bool) × (y net ≡ level_of b)) → y net ≡ level_of level
        by known = told_same_level (λ no. unlike (one.unknown
            (λ s. no (other.low (low_more v w h net s) ∙ sym (one.low s)))
            (λ r. no (other.high (rises_more v w h net r) ∙ sym (one.high r)))
            (λ l k. no (other.kept l (keeps_more v w h net p q charges free l k) ∙ sym (one.kept l k)))))
          where
            told_same_level : ((y net ≡ x net → ⊥) → ⊥) → y net ≡ level_of level
            told_same_level not_no = stable_level (y net) (x net) not_no ∙ e
              where
                stable_level : (a b : Level) → ((a ≡ b → ⊥) → ⊥) → a ≡ b
                stable_level Low Low s = refl
                stable_level High High s = refl
                stable_level Unknown Unknown s = refl
                stable_level Low High s = absurd (s (λ g. cc))
                stable_level Low Unknown s = absurd (s (λ g. cc))
                stable_level High Low s = absurd (s (λ g. cc))
                stable_level High Unknown s = absurd (s (λ g. cc))
                stable_level Unknown Low s = absurd (s (λ g. cc))
                stable_level Unknown High s = absurd (s (λ g. cc))

    -- a net of the circuit is driven, or free
    by_pad : (net : ℕ) → net < circuit.nets → ((level : Bool) × (f net ≡ Some level)) ⊎ IsFree circuit drives net
    by_pad net lt = by (f net) refl
      where
        by : (o : Option Bool) → f net ≡ o → ((level : Bool) × (f net ≡ Some level)) ⊎ IsFree circuit drives net
        by None e = inr (lt, e)
        by (Some level) e = inl (level, e)

    driven_alike : (x y : Levels) → AreDriven circuit drives x → AreDriven circuit drives y → (net : ℕ) (level driven : Bool) → net < circuit.nets
        → f net ≡ Some driven → x net ≡ level_of level → y net ≡ level_of level
    driven_alike x y one other net level driven lt e g = other net driven lt e ∙ sym (one net driven lt e) ∙ g

    pub monotone : (p q v w x y : Levels) → Below p q → Below v w → Updates circuit drives p v x → Updates circuit drives q w y → Below x y
    monotone p q v w x y charges h one other net level lt e =
        elim (by_pad net lt) [
          | inl driven ↦ driven_alike x y one.fixed other.fixed net level driven.0 lt driven.1 e
          | inr free ↦ updated_more p q v w x y charges h net free (one.free net free) (other.free net free) level e
        ]

    start_least : (v w : Levels) → StartsUnknown circuit drives v → AreDriven circuit drives w → Below v w
    start_least v w start driven net level lt e =
        elim (by_pad net lt) [
          | inl d ↦ driven_alike v w start.fixed driven net level d.0 lt d.1 e
          | inr free ↦ absurd (unknown_is_none level (sym e ∙ start.free net free))
        ]

    driven_after : (q : Levels) (n : ℕ) (v : Levels) → AfterUpdates circuit drives q n v → AreDriven circuit drives v
    driven_after q zero v h = h.fixed
    driven_after q (suc n) v h = h.2.fixed

    -- ---- iterates

    pub after_more : (p q : Levels) → Below p q → (m n : ℕ) (v w : Levels) → m ≤ n → AfterUpdates circuit drives p m v → AfterUpdates circuit drives q n w → Below v w
    after_more p q charges zero n v w le one other = start_least v w one (driven_after q n w other)
    after_more p q charges (suc m) zero v w le one other = absurd (omega arith)
    after_more p q charges (suc m) (suc n) v w le one other =
        monotone p q one.0 other.0 v w charges (after_more p q charges m n one.0 other.0 (omega arith) one.1 other.1) one.2 other.2

    self_below : (v : Levels) → Below v v
    self_below v net level lt e = e

    -- levels that are the same on the nets follow as well
    updates_alike : (q v w x : Levels) → Same w x → Updates circuit drives q v w → Updates circuit drives q v x
    updates_alike q v w x same h = record {
      fixed = λ net level lt e. sym (same net lt) ∙ h.fixed net level lt e;
      free = λ net free.
          let u = h.free net free in
          let e : x net ≡ w net = sym (same net free.0) in
          record {
            low = λ s. e ∙ u.low s;
            high = λ s. e ∙ u.high s;
            kept = λ l k. e ∙ u.kept l k;
            unknown = λ a b c. e ∙ u.unknown a b c;
          };
    }

    -- ---- an update exists

    module _ (q v : Levels) (net : ℕ) (free : IsFree circuit drives net) where
      abbrev Decided : Type 0
      Decided = (level : Level) × ((w : Levels) → w net ≡ level → UpdatedAt circuit drives q v w net)

      sure_may : IsPulledLow circuit drives (sure v) net → IsPulledLow circuit drives (possible v) net
      sure_may s = more_source circuit drives (sure v) (possible v) below (within_both v) false net s

      high_may : IsPulledHigh circuit drives (sure v) net → IsPulledHigh circuit drives (possible v) net
      high_may s = more_high circuit drives (sure v) (possible v) below (within_both v) net s

      one_charge : (a b : Bool) → KeepsCharge circuit drives q v net a → KeepsCharge circuit drives q v net b → a ≡ b
      one_charge a b j k = one_level a b (sym (j.charge net (here net)) ∙ k.charge net (here net))

      is_low : IsPulledLow circuit drives (sure v) net → Decided
      is_low s = (
        Low,
        λ w e. record {
          low = λ t. e;
          high = λ r. absurd (r.not_low (sure_may s));
          kept = λ l k. absurd (k.not_low (sure_may s));
          unknown = λ a b c. absurd (a s);
        },
      )

      will_rise : RisesSurely circuit drives v net → Decided
      will_rise r = (
        High,
        λ w e. record {
          low = λ t. absurd (r.not_low (sure_may t));
          high = λ s. e;
          kept = λ l k. absurd (k.not_high (high_may r.high));
          unknown = λ a b c. absurd (b r);
        },
      )

      will_keep : (level : Bool) → KeepsCharge circuit drives q v net level → Decided
      will_keep level k = (
        level_of level,
        λ w e. record {
          low = λ t. absurd (k.not_low (sure_may t));
          high = λ s. absurd (k.not_high (high_may s.high));
          kept = λ l j. e ∙ ap level_of (one_charge level l k j);
          unknown = λ a b c. absurd (c level k);
        },
      )

      none_of : ¬ IsPulledLow circuit drives (sure v) net → ¬ RisesSurely circuit drives v net
          → ((level : Bool) → ¬ KeepsCharge circuit drives q v net level) → Decided
      none_of a b c = (
        Unknown,
        λ w e. record {
          low = λ t. absurd (a t);
          high = λ s. absurd (b s);
          kept = λ l k. absurd (c l k);
          unknown = λ _ _ _. e;
        },
      )

      rises_or_not : RisesSurely circuit drives v net ⊎ ¬ RisesSurely circuit drives v net
      rises_or_not =
          elim (source_or_not circuit drives (possible v) false net free.0) [
            | inl s ↦ inr (λ r. r.not_low s)
            | inr not_low ↦ elim (high_or_not circuit drives (sure v) net free.0) [
              | inl high ↦ inl (record { not_low = not_low; high = high })
              | inr not_high ↦ inr (λ r. not_high r.high)
            ]
          ]

      keeps_or_not : (level : Bool) → KeepsCharge circuit drives q v net level ⊎ ¬ KeepsCharge circuit drives q v net level
      keeps_or_not level =
          elim (source_or_not circuit drives (possible v) false net free.0) [
            | inl s ↦ inr (λ k. k.not_low s)
            | inr not_low ↦ elim (high_or_not circuit drives (possible v) net free.0) [
              | inl s ↦ inr (λ k. k.not_high s)
              | inr not_high ↦ elim (has_or_not circuit drives (possible v) (λ m. is_other level (q m)) net free.0) [
                | inl h ↦ inr (λ k. other_is level (q h.0) h.2 (k.charge h.0 h.1))
                | inr none ↦ inl (record {
                  not_low = not_low;
                  not_high = not_high;
                  charge = λ m g. other_or level (q m) (λ e. none (m, g, e));
                })
              ]
            ]
          ]

      decided : Decided
      decided =
          elim (source_or_not circuit drives (sure v) false net free.0) [
            | inl s ↦ is_low s
            | inr not_low ↦ elim rises_or_not [
              | inl r ↦ will_rise r
              | inr not_rising ↦ elim (keeps_or_not false) [
                | inl k ↦ will_keep false k
                | inr not_false ↦ elim (keeps_or_not true) [
                  | inl k ↦ will_keep true k
                  | inr not_true ↦ none_of not_low not_rising (by_both not_false not_true)
                ]
              ]
            ]
          ]
        where
          by_both : ¬ KeepsCharge circuit drives q v net false → ¬ KeepsCharge circuit drives q v net true
              → (level : Bool) → ¬ KeepsCharge circuit drives q v net level
          by_both no_false no_true true = no_true
          by_both no_false no_true false = no_false

    -- a level for each net: what holds of it can be decided net by net
    module _ (P : ℕ → Level → Type 0) (choose : (net : ℕ) → net < circuit.nets → (level : Level) × P net level) where
      abbrev chosen : (net : ℕ) → (net < circuit.nets) ⊎ (circuit.nets ≤ net) → Level
      chosen net (inl lt) = (choose net lt).0
      chosen net (inr past) = Unknown

      chosen_is : (net : ℕ) (s : (net < circuit.nets) ⊎ (circuit.nets ≤ net)) → net < circuit.nets → P net (chosen net s)
      chosen_is net (inl lt) h = (choose net lt).1
      chosen_is net (inr past) h = absurd (omega arith)

      pub all_chosen : (w : Levels) × ((net : ℕ) → net < circuit.nets → P net (w net))
      all_chosen = ((λ net. chosen net (cases_lt net circuit.nets)), (λ net lt. chosen_is net (cases_lt net circuit.nets) lt))

    -- what the net becomes, where its level depends on no other net
    abbrev Becomes : Levels → Levels → ℕ → Level → Type 0
    Becomes q v net level = (w : Levels) → w net ≡ level
        → ((l : Bool) → f net ≡ Some l → w net ≡ level_of l) × (IsFree circuit drives net → UpdatedAt circuit drives q v w net)

    pub update_exists : (q v : Levels) → (w : Levels) × Updates circuit drives q v w
    update_exists q v =
        let all = all_chosen (Becomes q v) (λ net lt. elim (by_pad net lt) [
          | inl driven ↦ (
            level_of driven.0,
            λ w e. (λ l g. e ∙ ap level_of (some_one driven.0 l (sym driven.1 ∙ g)), λ free. absurd (some_none driven.0 (sym driven.1 ∙ free.1))),
          )
          | inr free ↦
              let d = decided q v net free in
              (d.0, λ w e. (λ l g. absurd (some_none l (sym g ∙ free.1)), λ _. d.1 w e))
        ]) in (
          all.0,
          record {
            fixed = λ net level lt e. (all.1 net lt all.0 refl).0 level e;
            free = λ net free. (all.1 net free.0 all.0 refl).1 free;
          },
        )
      where
        some_one : (a b : Bool) → Some a ≡ Some b → a ≡ b
        some_one a b e = cc

        some_none : (a : Bool) → Some a ≡ None → ⊥
        some_none a e = cc

    pub start_exists : (v : Levels) × StartsUnknown circuit drives v
    start_exists =
        let first : Option Bool → Level = λ o. first_of_pad o in
        ((λ net. first (f net)), record { fixed = λ net level lt e. ap first e; free = λ net free. ap first free.1 })
      where
        first_of_pad : Option Bool → Level
        first_of_pad None = Unknown
        first_of_pad (Some level) = level_of level

    pub after_exists : (q : Levels) (n : ℕ) → (v : Levels) × AfterUpdates circuit drives q n v
    after_exists q zero = start_exists
    after_exists q (suc n) =
        let before = after_exists q n in
        let next = update_exists q before.0 in
        (next.0, (before.0, before.1, next.1))

    -- ---- the end of the updates

    rising : (v w : Levels) → Below v w → ((k : ℕ) → k < circuit.nets → is_known (v k) ≡ true → is_known (w k) ≡ true)
    rising v w h k lt e = let g = known_is (v k) e in is_known_of (w k) g.0 (h k g.0 lt g.1)

    -- where the second tells no net that the first does not, they are the same
    no_more : (v w : Levels) → Below v w → ((k : ℕ) → k < circuit.nets → is_known (w k) ≡ true → is_known (v k) ≡ true) → Same v w
    no_more v w h fewer = below_same v w h (λ net level lt e.
        let g = known_is (v net) (fewer net lt (is_known_of (w net) level e)) in
        let same : g.0 ≡ level = one_level g.0 level (sym (h net g.0 lt g.1) ∙ e) in
        g.1 ∙ ap level_of same)

    abbrev told_nets : Levels → ℕ
    told_nets v = count_below (λ net. is_known (v net)) circuit.nets

    -- an update tells more nets, or keeps the levels
    more_or_kept : (q v w : Levels) → Below v w → Updates circuit drives q v w → Updates circuit drives q v v ⊎ (told_nets v < told_nets w)
    more_or_kept q v w h updates =
        elim (count_more (λ net. is_known (v net)) (λ net. is_known (w net)) circuit.nets (rising v w h)) [
          | inl fewer ↦ inl (updates_alike q v w v (same_back v w (no_more v w h fewer)) updates)
          | inr more ↦ inr more
        ]

    after_rises : (q : Levels) (n : ℕ) (v w : Levels) → AfterUpdates circuit drives q n v → Updates circuit drives q v w → Below v w
    after_rises q n v w after updates = after_more q q (self_below q) n (suc n) v w (omega arith) after (v, after, updates)

    -- an update of levels that an update keeps leaves what it keeps
    kept_after : (q u v : Levels) → Updates circuit drives q u u → Updates circuit drives q u v → Updates circuit drives q v v
    kept_after q u v kept updates =
        let same : Same u v = below_same u v (monotone q q u u u v (self_below q) (self_below u) kept updates)
        (monotone q q u u v u (self_below q) (self_below u) updates kept) in
        let next = update_exists q v in
        let again : Same v next.0 = below_same v next.0 (monotone q q u v v next.0 (self_below q) (same_below u v same) updates next.1)
        (monotone q q v u next.0 v (self_below q) (same_below v u (same_back u v same)) next.1 updates) in
        updates_alike q v next.0 v (same_back v next.0 again) next.1

    kept_or_told : (q : Levels) (n : ℕ) (v : Levels) → AfterUpdates circuit drives q n v → Updates circuit drives q v v ⊎ (n ≤ told_nets v)
    kept_or_told q zero v after = inr (omega arith)
    kept_or_told q (suc n) v after =
        elim (kept_or_told q n after.0 after.1) [
          | inl kept ↦ inl (kept_after q after.0 v kept after.2)
          | inr many ↦ elim (more_or_kept q after.0 v (after_rises q n after.0 v after.1 after.2) after.2) [
            | inl kept ↦ inl (kept_after q after.0 v kept after.2)
            | inr more ↦ inr (omega arith)
          ]
        ]

    pub updates_end : (q v : Levels) (n : ℕ) → circuit.nets ≤ n → AfterUpdates circuit drives q n v → Updates circuit drives q v v
    updates_end q v n many after =
        elim (kept_or_told q n v after) [
          | inl kept ↦ kept
          | inr many_told ↦
              let next = update_exists q v in
              elim (more_or_kept q v next.0 (after_rises q n v next.0 after next.1) next.1) [
                | inl kept ↦ kept
                | inr more ↦ let most = count_most (λ net. is_known (next.0 net)) circuit.nets in absurd (omega arith)
              ]
        ]

    -- ---- the least levels that an update keeps

    pub after_least : (q : Levels) (n : ℕ) (v w : Levels) → AfterUpdates circuit drives q n v → Updates circuit drives q w w → Below v w
    after_least q zero v w after kept = start_least v w after kept.fixed
    after_least q (suc n) v w after kept = monotone q q after.0 w v w (self_below q) (after_least q n after.0 w after.1 kept) after.2 kept

    -- what is told is what the next update leaves
    tells_more : (p q v w : Levels) (net : ℕ) (level : Bool) → Below p q → Below v w → IsFree circuit drives net → Tells circuit drives p v net level
        → Tells circuit drives q w net level
    tells_more p q v w net _ charges h free (pulled_low l) = pulled_low (low_more v w h net l)
    tells_more p q v w net _ charges h free (rises r) = rises (rises_more v w h net r)
    tells_more p q v w net _ charges h free (keeps level k) = keeps level (keeps_more v w h net p q charges free level k)

    told_level : (q v w : Levels) (net : ℕ) (level : Bool) → UpdatedAt circuit drives q v w net → Tells circuit drives q v net level → w net ≡ level_of level
    told_level q v w net _ updated (pulled_low l) = updated.low l
    told_level q v w net _ updated (rises r) = updated.high r
    told_level q v w net _ updated (keeps level k) = updated.kept level k

    -- levels that an update keeps tell all that is told one by one
    ones_below : (q v w : Levels) → AreToldByOnes circuit drives q v → Updates circuit drives q w w → Below v w
    ones_below q _ w (unknown v start) kept = start_least v w start kept.fixed
    ones_below q _ w (one_more u v before one) kept = by (ones_below q u w before kept)
      where
        by : Below u w → Below v w
        by lower net level lt e =
            elim (cases_Bool (net == one.net)) [
              | inl at ↦
                  let same : net ≡ one.net = eqb-true _ _ at in
                  let lower_seen : Below one.seen w = λ n l below_n f. lower n l below_n (one.before n l below_n f) in
                  let told = told_level q w w one.net one.level (kept.free one.net one.free)
                  (tells_more q q one.seen w one.net one.level (self_below q) lower_seen one.free one.tells) in
                  let is : one.level ≡ level = one_level one.level level (sym one.told ∙ ap v (sym same) ∙ e) in
                  ap w same ∙ told ∙ ap level_of is
              | inr other ↦ lower net level lt (sym (one.others net lt (eqb-false _ _ other)) ∙ e)
            ]

    -- each net that is told is told so by the levels
    abbrev AllTold : Levels → Levels → Type 0
    AllTold q v = (net : ℕ) (level : Bool) → IsFree circuit drives net → v net ≡ level_of level → Tells circuit drives q v net level

    abbrev Grown : Levels → Levels → Type 0
    Grown q v = AreDriven circuit drives v × AllTold q v

    grown : (q v : Levels) → AreToldByOnes circuit drives q v → ((w : Levels) → Updates circuit drives q w w → Below v w) → Grown q v
    grown q _ (unknown v start) least = (start.fixed, λ net level free e. absurd (unknown_is_none level (sym e ∙ start.free net free)))
    grown q _ (one_more u v before one) least = by (grown q u before (λ w kept. ones_below q u w before kept))
      where
        rise : Grown q u → Below u v
        rise old net level lt e =
            elim (cases_Bool (net == one.net)) [
              | inl at ↦
                  let same : net ≡ one.net = eqb-true _ _ at in
                  let told_before = old.1 one.net level one.free (ap u (sym same) ∙ e) in
                  let lower_seen : Below one.seen u = one.before in
                  let told_now = tells_more q q one.seen u one.net one.level (self_below q) lower_seen one.free one.tells in
                  let next = update_exists q u in
                  let first = told_level q u next.0 one.net level (next.1.free one.net one.free) told_before in
                  let second = told_level q u next.0 one.net one.level (next.1.free one.net one.free) told_now in
                  let is : one.level ≡ level = one_level one.level level (sym second ∙ first) in
                  ap v same ∙ one.told ∙ ap level_of is
              | inr other ↦ one.others net lt (eqb-false _ _ other) ∙ e
            ]

        by : Grown q u → Grown q v
        by old = (
          λ net level lt e. elim (cases_Bool (net == one.net)) [
            | inl at ↦
                let same : net ≡ one.net = eqb-true _ _ at in
                let none : Some level ≡ None = sym e ∙ ap f same ∙ one.free.1 in
                absurd (cc)
            | inr other ↦ one.others net lt (eqb-false _ _ other) ∙ old.0 net level lt e
          ],
          λ net level free e. elim (cases_Bool (net == one.net)) [
            | inl at ↦
                let same : one.net ≡ net = sym (eqb-true _ _ at) in
                let seen_below : Below one.seen v = λ n l lt g. rise old n l lt (one.before n l lt g) in
                let tells = tells_more q q one.seen v one.net one.level (self_below q) seen_below one.free one.tells in
                let is : one.level ≡ level = one_level one.level level (sym one.told ∙ ap v same ∙ e) in
                subst (λ n. Tells circuit drives q v n level) same (subst (Tells circuit drives q v one.net) is tells)
            | inr other ↦
                tells_more q q u v net level (self_below q) (rise old) free
                (old.1 net level free (sym (one.others net free.0 (eqb-false _ _ other)) ∙ e))
          ],
        )

    -- levels that are told so, and by which no further net is told, are kept by an update
    none_told_kept : (q v : Levels) → Grown q v → NoneIsTold circuit drives q v → Updates circuit drives q v v
    none_told_kept q v old none = record {
      fixed = old.0;
      free = λ net free. elim (known_or_not (v net)) [
        | inl no_level ↦ record {
          low = λ l. absurd (none net false free no_level (pulled_low l));
          high = λ r. absurd (none net true free no_level (rises r));
          kept = λ level k. absurd (none net level free no_level (keeps level k));
          unknown = λ _ _ _. no_level;
        }
        | inr known ↦
            let d = decided q v net free in
            let next : Levels = λ _. d.0 in
            let updated = d.1 next refl in
            let is : v net ≡ d.0 = known.1 ∙ sym (told_level q v next net known.0 updated (old.1 net known.0 free known.1)) in
            d.1 v is
      ];
    }

    pub settled_exist : (q : Levels) → (v : Levels) × SettledLevels circuit drives q v
    settled_exist q = after_exists q (suc circuit.nets)

    pub settled_are_one : (p q v w : Levels) → Same p q → SettledLevels circuit drives p v → SettledLevels circuit drives q w → Same v w
    settled_are_one p q v w same one other =
        below_same v w (after_more p q (same_below p q same) (suc circuit.nets) (suc circuit.nets) v w (omega arith) one other)
        (after_more q p (same_below q p (same_back p q same)) (suc circuit.nets) (suc circuit.nets) w v (omega arith) other one)

    pub settled_alike : (q v w : Levels) → Same v w → SettledLevels circuit drives q v → SettledLevels circuit drives q w
    settled_alike q v w same settled = (settled.0, settled.1, updates_alike q settled.0 v w same settled.2)

    pub any_order : (q v : Levels) → AreToldByOnes circuit drives q v → NoneIsTold circuit drives q v → SettledLevels circuit drives q v
    any_order q v ones none =
        let kept = none_told_kept q v (grown q v ones (λ w k. ones_below q v w ones k)) none in
        let s = settled_exist q in
        let stable = updates_end q s.0 (suc circuit.nets) (omega arith) s.1 in
        settled_alike q s.0 v (below_same s.0 v (after_least q (suc circuit.nets) s.0 v s.1 kept) (ones_below q v s.0 ones stable)) s.1

  -- ---- clocks and runs

  clock_exists : (reset : Bool) (lines : List Bool) (q : Levels) → (v : Levels) × ClockLevels circuit reset lines q v
  clock_exists reset lines q =
      let drives : Bool → Bool → List Bool = λ phi1 phi2.
      drives_of (record { phi1 = phi1; phi2 = phi2; reset = reset; lines = lines }) circuit.pads in
      let a = settled_exist (drives false false) q in
      let b = settled_exist (drives true false) a.0 in
      let c = settled_exist (drives false false) b.0 in
      let d = settled_exist (drives false true) c.0 in
      let e = settled_exist (drives false false) d.0 in (
        e.0,
        record {
          changed = a.0;
          first = b.0;
          between = c.0;
          second = d.0;
          settles = a.1;
          phi1_high = b.1;
          phi1_low = c.1;
          phi2_high = d.1;
          phi2_low = e.1;
        },
      )

  clocks_exist : (q : Levels) (u : List (List Bool)) → (vs : List Levels) × ClocksLevels circuit q u vs
  clocks_exist q [] = ([], tt)
  clocks_exist q (x ∷ u) =
      let now = clock_exists false x q in
      let later = clocks_exist now.0 u in
      (now.0 ∷ later.0, (now.1, later.1))

  clock_is_one : (reset : Bool) (lines : List Bool) (p q v w : Levels) → Same p q → ClockLevels circuit reset lines p v → ClockLevels circuit reset lines q w → Same v w
  clock_is_one reset lines p q v w same one other =
      let changed = settled_are_one _ p q one.changed other.changed same one.settles other.settles in
      let first = settled_are_one _ one.changed other.changed one.first other.first changed one.phi1_high other.phi1_high in
      let between = settled_are_one _ one.first other.first one.between other.between first one.phi1_low other.phi1_low in
      let second = settled_are_one _ one.between other.between one.second other.second between one.phi2_high other.phi2_high in
      settled_are_one _ one.second other.second v w second one.phi2_low other.phi2_low

  clocks_are_one : (u : List (List Bool)) (p q : Levels) (vs ws : List Levels) → Same p q → ClocksLevels circuit p u vs → ClocksLevels circuit q u ws
      → AllHaveSameLevels circuit vs ws
  clocks_are_one [] p q [] [] same one other = tt
  clocks_are_one [] p q [] (w ∷ ws) same one other = absurd other
  clocks_are_one [] p q (v ∷ vs) ws same one other = absurd one
  clocks_are_one (x ∷ u) p q [] ws same one other = absurd one
  clocks_are_one (x ∷ u) p q (v ∷ vs) [] same one other = absurd other
  clocks_are_one (x ∷ u) p q (v ∷ vs) (w ∷ ws) same one other =
      let next = clock_is_one false x p q v w same one.0 other.0 in
      (next, clocks_are_one u v w vs ws next one.1 other.1)

  runs_are_one : (p q : Levels) (lines : List Bool) (u : List (List Bool)) (vs ws : List Levels) → Same p q → RunLevels circuit p lines u vs
      → RunLevels circuit q lines u ws → AllHaveSameLevels circuit vs ws
  runs_are_one p q lines u [] ws same one other = absurd one
  runs_are_one p q lines u (v ∷ vs) [] same one other = absurd other
  runs_are_one p q lines u (v ∷ vs) (w ∷ ws) same one other =
      let first = clock_is_one true lines p q v w same one.0 other.0 in
      (first, clocks_are_one u v w vs ws first one.1 other.1)

-- ---- the laws

pub updates_are_monotone : UpdatesAreMonotone
updates_are_monotone circuit valid drives p q v w x y charges levels one other = monotone circuit valid drives p q v w x y charges levels one other

pub updates_only_tell : UpdatesOnlyTell
updates_only_tell circuit valid drives q v w m n le one other =
    after_more circuit valid drives q q (λ net level lt e. e) m n v w le one other

pub updates_have_an_end : UpdatesEnd
updates_have_an_end circuit valid drives q v n many after = updates_end circuit valid drives q v n many after

pub settled_levels_are_least : SettledLevelsAreLeast
settled_levels_are_least circuit valid drives q v settled = (
  updates_end circuit valid drives q v (suc circuit.nets) (omega arith) settled,
  λ w kept. after_least circuit valid drives q (suc circuit.nets) v w settled kept,
)

pub any_order_settles : AnyOrderSettles
any_order_settles circuit valid drives q v ones none = any_order circuit valid drives q v ones none

pub settled_levels_alike : SettledLevelsAlike
settled_levels_alike circuit valid drives q v w same settled = settled_alike circuit valid drives q v w same settled

pub settled_levels_exist : SettledLevelsExist
settled_levels_exist circuit valid drives q = settled_exist circuit valid drives q

pub settled_levels_are_one : SettledLevelsAreOne
settled_levels_are_one circuit valid drives p q v w same one other = settled_are_one circuit valid drives p q v w same one other

pub clock_levels_exist : ClockLevelsExist
clock_levels_exist circuit valid reset lines q = clock_exists circuit valid reset lines q

pub clocks_levels_exist : ClocksLevelsExist
clocks_levels_exist circuit valid q u = clocks_exist circuit valid q u

pub run_levels_exist : RunLevelsExist
run_levels_exist circuit valid q lines u =
    let first = clock_exists circuit valid true lines q in
    let later = clocks_exist circuit valid first.0 u in
    (first.0 ∷ later.0, (first.1, later.1))

pub run_levels_are_one : RunLevelsAreOne
run_levels_are_one circuit valid p q lines u vs ws same one other = runs_are_one circuit valid p q lines u vs ws same one other
