-- What is kept of pads while toggles are counted.
use Rattle.std.proofs.Common.{◌≡◌, ℕ, ◌+◌, ◌<◌, ◌≤◌, Bool, true, false, if◌then◌else◌, List, [], ◌∷◌, ◌++◌, Option, Some, None, inl, inr, length}
use Rattle.std.proofs.Common.{refl, sym, ap, ap₂, ◌∙◌, subst, arith}
use Rattle.std.specs.Prelude.{All, IfSome}
use Rattle.std.specs.Option.{option_map}
use Rattle.std.specs.Ordering.{nat_cmp}
use Rattle.std.specs.List.{flat_map}
use Rattle.std.specs.Map.{keys_of}
use Rattle.std.specs.BTreeMap.{BTreeMap, get, is_at, insert_entry}
use Rattle.std.specs.BTreeSet.{insert_key}
use Rattle.std.proofs.lemmas.Bool.{cases_eq}
use Rattle.std.proofs.lemmas.List.Elements.{All-head, All-tail}
use Rattle.switch_net.specs.declared.network.Level.{Level}
use Rattle.sim_probe.specs.declared.sample.Sample.{Sample}
use Rattle.sim_probe.specs.declared.toggles.Tally.{Tally}
use Rattle.sim_probe.specs.Levels.{levels_of, last_of, is_same_level}
use Rattle.sim_probe.specs.TogglesText.{changes, toggles_line, toggles_text}
use Rattle.sim_probe.specs.Tallies.{tally_of, next_tally, tally_line, HasTallies}
use Rattle.sim_probe.proofs.Behind.{last_of_more, has_last, levels_of_more, levels_of_other, pads_of_more, few_levels}
use Rattle.sim_probe.proofs.Keys.{other_key, keys_more}

-- ---- one more level

-- whether it is a change, as a number
abbrev step : Option Level → Level → ℕ
step None level = 0
step (Some last) level = if is_same_level last level then 0 else 1

changes_more : (levels : List Level) (level : Level) → changes (levels ++ level ∷ []) ≡ changes levels + step (last_of levels) level
changes_more [] level = refl
changes_more (a ∷ []) level = omega arith
changes_more (a ∷ b ∷ more) level = let h = changes_more (b ∷ more) level in omega (arith, h)

one_at_most : (b : Bool) → (if b then 0 else 1) ≤ 1
one_at_most true = omega arith
one_at_most false = omega arith

few_changes : (levels : List Level) → changes levels ≤ length levels
few_changes [] = omega arith
few_changes (a ∷ []) = omega arith
few_changes (a ∷ b ∷ more) =
    let h = few_changes (b ∷ more) in
    let one = one_at_most (is_same_level a b) in
    omega (arith, h, one)

-- what is kept is that of one level more
tally_of_more : (levels : List Level) (level : Level) → Some (next_tally (tally_of levels) level) ≡ tally_of (levels ++ level ∷ [])
tally_of_more levels level =
    by_last levels (last_of levels) refl
    ∙ ap (option_map (λ last. record { last = last; count = changes (levels ++ level ∷ []) })) (sym (last_of_more levels level))
  where
    made : Level → ℕ → Tally
    made last count = record { last = last; count = count }

    by_last : (ls : List Level) (o : Option Level) → last_of ls ≡ o
        → Some (next_tally (option_map (λ last. made last (changes ls)) o) level) ≡ Some (made level (changes (ls ++ level ∷ [])))
    by_last [] None e = refl
    by_last (a ∷ more) None e = absurd (has_last a more e)
    by_last ls (Some last) e =
        ap (λ n. Some (made level n)) (ap (λ o. changes ls + step o level) (sym e) ∙ sym (changes_more ls level))

-- ---- one more sample

module _ (tallies new : BTreeMap ℕ Tally) (samples : List Sample) (sample : Sample) (tally : Tally) (has : HasTallies tallies samples)
    (next : tally ≡ next_tally (get nat_cmp tallies sample.pad) sample.value) (at : get nat_cmp new sample.pad ≡ Some tally)
    (others : (pad : ℕ) → is_at (nat_cmp sample.pad) pad ≡ false → get nat_cmp new pad ≡ get nat_cmp tallies pad)
    (entries : new.entries ≡ insert_entry nat_cmp tallies.entries sample.pad tally) where
  here : get nat_cmp new sample.pad ≡ tally_of (levels_of sample.pad (samples ++ sample ∷ []))
  here =
      at ∙ ap (λ t. Some t) (next ∙ ap (λ o. next_tally o sample.value) (has.tallied sample.pad))
      ∙ tally_of_more (levels_of sample.pad samples) sample.value ∙ ap tally_of (sym (levels_of_more samples sample))

  pub has_tallies_more : HasTallies new (samples ++ sample ∷ [])
  has_tallies_more = record {
    tallied = λ pad.
        elim (cases_eq sample.pad pad) [
          | inl e ↦ subst (λ p. get nat_cmp new p ≡ tally_of (levels_of p (samples ++ sample ∷ []))) e here
          | inr apart ↦ others pad (other_key sample.pad pad apart) ∙ has.tallied pad ∙ ap tally_of (sym (levels_of_other samples sample pad apart))
        ];
    pads = ap keys_of entries ∙ keys_more sample.pad tally tallies.entries ∙ ap (λ pads. insert_key nat_cmp pads sample.pad) has.pads
        ∙ sym (pads_of_more samples sample);
  }

pub has_tallies_none : (tallies : BTreeMap ℕ Tally) → tallies.entries ≡ [] → HasTallies tallies []
has_tallies_none tallies e = record { tallied = λ pad. rw e refl; pads = ap keys_of e }

-- counts fit, since a pad has no more changes than there are samples
pub few_counted : (tallies : BTreeMap ℕ Tally) (samples : List Sample) (most : ℕ) → HasTallies tallies samples → length samples < most
    → (pad : ℕ) → IfSome (get nat_cmp tallies pad) (λ tally. tally.count < most)
few_counted tallies samples most has few pad =
    subst (λ o. IfSome o (λ (tally : Tally). tally.count < most)) (sym (has.tallied pad))
    (each (last_of (levels_of pad samples)) (changes (levels_of pad samples))
    (omega (arith, few_changes (levels_of pad samples), few_levels pad samples)))
  where
    each : (o : Option Level) (n : ℕ) → n < most
        → IfSome (option_map (λ last. record { last = last; count = n }) o) (λ (tally : Tally). tally.count < most)
    each None n lt = tt
    each (Some last) n lt = lt

-- ---- the lines

count_is : (levels : List Level) (tally : Tally) → tally_of levels ≡ Some tally → tally.count ≡ changes levels
count_is levels tally e = go (last_of levels) e
  where
    made : Level → Tally
    made last = record { last = last; count = changes levels }

    go : (o : Option Level) → option_map made o ≡ Some tally → tally.count ≡ changes levels
    go None f = absurd (cc)
    go (Some last) f = let g : made last ≡ tally = cc in sym (ap (λ (t : Tally). t.count) g)

pub lines_are : (tallies : BTreeMap ℕ Tally) (samples : List Sample) → HasTallies tallies samples
    → All (λ e. get nat_cmp tallies e.0 ≡ Some e.1) tallies.entries → flat_map tally_line tallies.entries ≡ toggles_text samples
lines_are tallies samples has found = each tallies.entries found ∙ ap (flat_map line) has.pads
  where
    line : ℕ → List ℕ
    line pad = toggles_line pad (changes (levels_of pad samples))

    each : (es : List (ℕ × Tally)) → All (λ e. get nat_cmp tallies e.0 ≡ Some e.1) es → flat_map tally_line es ≡ flat_map line (keys_of es)
    each [] all = refl
    each (e ∷ es) all =
        ap₂ (λ (a b : List ℕ). a ++ b)
        (ap (toggles_line e.0)
        (count_is (levels_of e.0 samples) e.1 (sym (has.tallied e.0) ∙ All-head (λ e. get nat_cmp tallies e.0 ≡ Some e.1) e es all)))
        (each es (All-tail (λ e. get nat_cmp tallies e.0 ≡ Some e.1) e es all))
