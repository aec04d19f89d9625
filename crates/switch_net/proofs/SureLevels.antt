-- A ternary level that is low or high is the value in every settled assignment.
use Rattle.std.specs.Prelude.{slice_get}
use Rattle.std.proofs.Common.{◌≡◌, inl, inr, ℕ, zero, suc, ◌<◌, Bool, true, false, List, [], ◌∷◌, Option, Some, None, refl, sym, ◌∙◌, subst}
use Rattle.std.specs.List.{AllByRecursion}
use Rattle.std.proofs.lemmas.List.Elements.{recursion_from_All}
use Rattle.switch_net.specs.Circuit.{Circuit}
use Rattle.switch_net.specs.Settling.{Values, fixed_level, Joins, IsFree, Grouped, Source, IsPulledLow, IsPulledHigh, Settled}
use Rattle.switch_net.specs.Settling.Grouped.{here, step}
use Rattle.switch_net.specs.Clock.{Clock, Clocks, Run}
use Rattle.switch_net.specs.ClockedLogic.{NamesBelow}
use Rattle.switch_net.specs.Validity.{IsNetwork}
use Rattle.switch_net.specs.Ternary.{Levels, level_of, is_high, may_be_high, sure, possible, KeepsCharge, RisesSurely, UpdatedAt, AreDriven, AfterUpdates, ClockLevels, ClocksLevels, RunLevels, nothing_known, Covers, SettledLevelsAreSure, RunLevelsAreSure}
use Rattle.switch_net.specs.declared.network.Level.{Level}
use Rattle.switch_net.specs.declared.network.Level.TheVariants.{Low, High, Unknown}
use Rattle.switch_net.specs.declared.network.Device.{Device}
use Rattle.switch_net.specs.declared.network.Device.TheVariants.{Pass, Load}
use Rattle.switch_net.proofs.SettledGroups.{group_free}

-- ---- more conducts where more gates are high

-- every gate below the number of nets that is high in the first values is high in the second
abbrev pub Within : ℕ → Values → Values → Type 0
Within nets a b = (net : ℕ) → net < nets → a net ≡ true → b net ≡ true

module _ (nets : ℕ) (a b : Values) (within : Within nets a b) where
  more_joins : (devices : List Device) → AllByRecursion (NamesBelow nets) devices → (m n : ℕ) → Joins devices a m n → Joins devices b m n
  more_joins [] below m n h = h
  more_joins (Load at ∷ devices) below m n h = more_joins devices below.1 m n h
  more_joins (Pass gate x y ∷ devices) below m n (inl h) = inl (within gate.0 below.0.0 h.0, h.1)
  more_joins (Pass gate x y ∷ devices) below m n (inr h) = inr (more_joins devices below.1 m n h)

module _ (circuit : Circuit) (drives : List Bool) (a b : Values) (below : AllByRecursion (NamesBelow circuit.nets) circuit.devices)
    (within : Within circuit.nets a b) where
  pub more_grouped : (m n : ℕ) → Grouped circuit drives a m n → Grouped circuit drives b m n
  more_grouped _ _ (here m) = here m
  more_grouped _ _ (step m n o j f r) = step m n o (more_joins circuit.nets a b within circuit.devices below m n j) f (more_grouped n o r)

  pub more_source : (level : Bool) (net : ℕ) → Source circuit drives a level net → Source circuit drives b level net
  more_source level net s = record {
    from = s.from;
    to = s.to;
    grouped = more_grouped net s.from s.grouped;
    joined = more_joins circuit.nets a b within circuit.devices below s.from s.to s.joined;
    fixed = s.fixed;
  }

  pub more_high : (net : ℕ) → IsPulledHigh circuit drives a net → IsPulledHigh circuit drives b net
  more_high net (inl s) = inl (more_source true net s)
  more_high net (inr l) = inr (record { at = l.at; grouped = more_grouped net l.at l.grouped; load = l.load })

-- ---- levels and values

pub one_level : (a b : Bool) → level_of a ≡ level_of b → a ≡ b
one_level true true e = refl
one_level true false e = cc
one_level false true e = cc
one_level false false e = refl

pub high_is_one : (l : Level) → is_high l ≡ true → l ≡ level_of true
high_is_one High e = refl
high_is_one Low e = cc
high_is_one Unknown e = cc

pub low_is_zero : (l : Level) → may_be_high l ≡ false → l ≡ level_of false
low_is_zero Low e = refl
low_is_zero High e = cc
low_is_zero Unknown e = cc

pub unknown_is_none : (level : Bool) → level_of level ≡ Unknown → ⊥
unknown_is_none true e = cc
unknown_is_none false e = cc

-- values that are not the other one
only : (level : Bool) (x : Bool) → (x ≡ false → level ≡ true → ⊥) → (x ≡ true → level ≡ false → ⊥) → x ≡ level
only true true a b = refl
only true false a b = absurd (a refl refl)
only false true a b = absurd (b refl refl)
only false false a b = refl

module _ (circuit : Circuit) (v : Levels) (w : Values) (covers : Covers circuit v w) where
  sure_within : Within circuit.nets (sure v) w
  sure_within net lt e = covers net true lt (high_is_one (v net) e)

  within_possible : Within circuit.nets w (possible v)
  within_possible net lt e = by_level (possible v net) refl
    where
      by_level : (m : Bool) → may_be_high (v net) ≡ m → m ≡ true
      by_level true f = refl
      by_level false f = let low = covers net false lt (low_is_zero (v net) f) in cc

-- ---- one update

module _ (circuit : Circuit) (valid : IsNetwork circuit) (drives : List Bool) (p : Levels) (q w : Values) (charges : Covers circuit p q)
    (settled : Settled circuit drives q w) where
  below : AllByRecursion (NamesBelow circuit.nets) circuit.devices
  below = recursion_from_All (NamesBelow circuit.nets) circuit.devices valid.devices_below

  fixed_covers : (v : Levels) → AreDriven circuit drives v → (net : ℕ) (driven level : Bool) → net < circuit.nets
      → fixed_level circuit.pads drives net ≡ Some driven → v net ≡ level_of level → w net ≡ level
  fixed_covers v h net driven level lt e l =
      settled.fixed net driven lt e ∙ one_level driven level (sym (h net driven lt e) ∙ l)

  module _ (v u : Levels) (covers : Covers circuit v w) (net : ℕ) (free : IsFree circuit drives net) (updated : UpdatedAt circuit drives p v u net) where
    -- what is pulled low for sure is low, and what is low in the values may be pulled low
    low_sure : IsPulledLow circuit drives (sure v) net → w net ≡ false
    low_sure h = (settled.free net free).low (more_source circuit drives (sure v) w below (sure_within circuit v w covers) false net h)

    rises : RisesSurely circuit drives v net → w net ≡ true
    rises h =
        (settled.free net free).high
        (λ led. h.not_low (more_source circuit drives w (possible v) below (within_possible circuit v w covers) false net led))
        (more_high circuit drives (sure v) w below (sure_within circuit v w covers) net h.high)

    keeps : (level : Bool) → KeepsCharge circuit drives p v net level → w net ≡ level
    keeps level h =
        (settled.free net free).kept
        (λ led. h.not_low (more_source circuit drives w (possible v) below (within_possible circuit v w covers) false net led))
        (λ led. h.not_high (more_high circuit drives w (possible v) below (within_possible circuit v w covers) net led))
        level
        (λ m g. charges m level (group_free circuit drives w net m free g).0
        (h.charge m (more_grouped circuit drives w (possible v) below (within_possible circuit v w covers) net m g)))

    free_covers : (level : Bool) → u net ≡ level_of level → w net ≡ level
    free_covers level l = only level (w net)
        (λ zero one. unknown_is_none level (sym l ∙ updated.unknown
        (λ h. let e = updated.low h in let f : level_of true ≡ Low = subst (λ b. level_of b ≡ Low) one (sym l ∙ e) in cc)
        (λ h. let e = rises h in cc)
        (λ kept h. let e = keeps kept h in let f = updated.kept kept h in
        let g : level ≡ kept = one_level level kept (sym l ∙ f) in cc)))
        (λ one zero. unknown_is_none level (sym l ∙ updated.unknown
        (λ h. let e = low_sure h in cc)
        (λ h. let e = updated.high h in let f : level_of false ≡ High = subst (λ b. level_of b ≡ High) zero (sym l ∙ e) in cc)
        (λ kept h. let e = keeps kept h in let f = updated.kept kept h in
        let g : level ≡ kept = one_level level kept (sym l ∙ f) in cc)))

  -- a net below the number of nets is fixed or free
  by_net : (v : Levels) → AreDriven circuit drives v → ((net : ℕ) (level : Bool) → IsFree circuit drives net → v net ≡ level_of level → w net ≡ level)
      → Covers circuit v w
  by_net v h others net level lt l = by_fixed (fixed_level circuit.pads drives net) refl
    where
      by_fixed : (f : Option Bool) → fixed_level circuit.pads drives net ≡ f → w net ≡ level
      by_fixed None e = others net level (lt, e) l
      by_fixed (Some driven) e = fixed_covers v h net driven level lt e l

  updates_cover : (n : ℕ) (v : Levels) → AfterUpdates circuit drives p n v → Covers circuit v w
  updates_cover zero v h = by_net v h.fixed (λ net level free l. absurd (unknown_is_none level (sym l ∙ h.free net free)))
  updates_cover (suc n) u h =
      by_net u h.2.fixed (λ net level free l. free_covers h.0 u (updates_cover n h.0 h.1) net free (h.2.free net free) level l)

pub settled_levels_are_sure : SettledLevelsAreSure
settled_levels_are_sure circuit valid drives p v q w charges levels settled = updates_cover circuit valid drives p q w charges settled (suc circuit.nets) v levels

-- ---- clocks and runs

module _ (circuit : Circuit) (valid : IsNetwork circuit) where
  clock_covers : (reset : Bool) (lines : List Bool) (p l : Levels) (q v : Values) → Covers circuit p q → ClockLevels circuit reset lines p l
      → Clock circuit reset lines q v → Covers circuit l v
  clock_covers reset lines p l q v charges levels clock =
      let changed = settled_levels_are_sure circuit valid _ p levels.changed q clock.changed charges levels.settles clock.settles in
      let first = settled_levels_are_sure circuit valid _ levels.changed levels.first clock.changed clock.first changed levels.phi1_high clock.phi1_high in
      let between = settled_levels_are_sure circuit valid _ levels.first levels.between clock.first clock.between first levels.phi1_low clock.phi1_low in
      let second = settled_levels_are_sure circuit valid _ levels.between levels.second clock.between clock.second between levels.phi2_high clock.phi2_high in
      settled_levels_are_sure circuit valid _ levels.second l clock.second v second levels.phi2_low clock.phi2_low

  -- the levels of a time cover the values of the same time
  abbrev CoverAll : List Levels → List Values → Type 0
  CoverAll ls vs = (t : ℕ) (l : Levels) (v : Values) → slice_get ls t ≡ Some l → slice_get vs t ≡ Some v → Covers circuit l v

  cover_more : (l : Levels) (ls : List Levels) (v : Values) (vs : List Values) → Covers circuit l v → CoverAll ls vs → CoverAll (l ∷ ls) (v ∷ vs)
  cover_more l ls v vs first later zero m x e f =
      let same : l ≡ m = cc in let alike : v ≡ x = cc in
      subst (λ z. Covers circuit z x) same (subst (Covers circuit l) alike first)
  cover_more l ls v vs first later (suc t) m x e f = later t m x e f

  clocks_cover : (u : List (List Bool)) (p : Levels) (q : Values) (ls : List Levels) (vs : List Values) → Covers circuit p q
      → ClocksLevels circuit p u ls → Clocks circuit q u vs → CoverAll ls vs
  clocks_cover [] p q [] vs charges levels clocks t l v e f = absurd (cc)
  clocks_cover [] p q (k ∷ ls) vs charges levels clocks t l v e f = absurd levels
  clocks_cover (x ∷ u) p q [] vs charges levels clocks t l v e f = absurd levels
  clocks_cover (x ∷ u) p q (k ∷ ls) [] charges levels clocks t l v e f = absurd clocks
  clocks_cover (x ∷ u) p q (k ∷ ls) (w ∷ vs) charges levels clocks t l v e f =
      let next = clock_covers false x p k q w charges levels.0 clocks.0 in
      cover_more k ls w vs next (clocks_cover u k w ls vs next levels.1 clocks.1) t l v e f

  run_covers : (q : Values) (lines : List Bool) (u : List (List Bool)) (ls : List Levels) (vs : List Values)
      → RunLevels circuit nothing_known lines u ls → Run circuit q lines u vs → CoverAll ls vs
  run_covers q lines u [] vs levels run = absurd levels
  run_covers q lines u (k ∷ ls) [] levels run = absurd run
  run_covers q lines u (k ∷ ls) (w ∷ vs) levels run =
      let first = clock_covers true lines nothing_known k q w (λ net level lt e. absurd (unknown_is_none level (sym e))) levels.0 run.0 in
      cover_more k ls w vs first (clocks_cover u k w ls vs first levels.1 run.1)

pub run_levels_are_sure : RunLevelsAreSure
run_levels_are_sure circuit valid q lines u ls vs levels run = run_covers circuit valid q lines u ls vs levels run
