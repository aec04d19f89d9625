-- The names of a network's nets, each once, and their places.
use Rattle.std.proofs.Common.{◌≡◌, ◌≢◌, inl, inr, ℕ, zero, suc, ◌+◌, ◌<◌, ◌≤◌, List, [], ◌∷◌, Option, Some, None, option_map, length, get_or, Contains, IsPermutation, refl, sym, ◌∙◌, subst, arith, eq-eqb}
use Rattle.std.proofs.lemmas.Bool.{cases_eq, ne_eqb}
use Rattle.std.proofs.lemmas.List.{get_or_default}
use Rattle.std.proofs.lemmas.List.Kept.{Contains-dedup_nat, Contains-from_dedup}
use Rattle.std.proofs.lemmas.List.Sorted.{Contains-permutation, IsPermutation-sym}
use Rattle.std.proofs.lemmas.Map.Keys.{IsStrictlyIncreasing-dedup}
use Rattle.std.specs.List.{dedup}
use Rattle.std.specs.List.Sorted.{IsSorted, IsStrictlyIncreasing}
use Rattle.std.specs.Ordering.{nat_cmp}
use lib.Dec.{eqb}
use Rattle.switch_net.specs.Circuit.{Circuit, touched}
use Rattle.switch_sim.specs.Naming.{place, AreRising, AreNames}

-- ---- lists by number

pub contains_at : (xs : List ℕ) (net : ℕ) → Contains xs net → (i : ℕ) × (i < length xs) × (get_or xs i 0 ≡ net)
contains_at xs net h = (h.0, h.1, get_or_default xs h.0 0 net h.1 ∙ h.2)

pub at_contains : (xs : List ℕ) (net i : ℕ) → i < length xs → get_or xs i 0 ≡ net → Contains xs net
at_contains xs net i lt e = (i, lt, get_or_default xs i net 0 lt ∙ e)

-- ---- a sorted list of which each is kept once

pub rises : (xs : List ℕ) → IsStrictlyIncreasing xs → AreRising xs
rises xs up i zero less lt = absurd (omega arith)
rises xs up i (suc j) less lt =
    let next : j + 1 ≡ suc j = omega arith in
    let one : get_or xs j 0 < get_or xs (suc j) 0 = subst (λ k. get_or xs j 0 < get_or xs k 0) next (up j (omega arith)) in
    elim (cases_eq i j) [
      | inl same ↦ rw same (omega (arith, one))
      | inr apart ↦ let before = rises xs up i j (omega arith) (omega arith) in omega (arith, before, one)
    ]

pub names_are : (circuit : Circuit) (all sorted names : List ℕ) → all ≡ touched circuit → IsPermutation all sorted → IsSorted nat_cmp sorted
    → names ≡ dedup eqb sorted → AreNames circuit names
names_are circuit all sorted names is moved up kept = subst (AreNames circuit) (sym kept) (record {
  rising = rises (dedup eqb sorted) (IsStrictlyIncreasing-dedup sorted up);
  all = λ net h. Contains-dedup_nat sorted net (Contains-permutation all sorted net moved (subst (λ l. Contains l net) (sym is) h));
  only = λ net h.
      subst (λ l. Contains l net) is (Contains-permutation sorted all net (IsPermutation-sym all sorted moved) (Contains-from_dedup eqb sorted net h));
})

-- ---- places

tail_rises : (name : ℕ) (names : List ℕ) → AreRising (name ∷ names) → AreRising names
tail_rises name names rising i j less lt = rising (suc i) (suc j) (omega arith) (omega arith)

pub place_is : (names : List ℕ) → AreRising names → (net i : ℕ) → i < length names → get_or names i 0 ≡ net → place names net ≡ Some i
place_is [] rising net i lt e = absurd (omega arith)
place_is (name ∷ names) rising net zero lt e = rw (eq-eqb name net e) refl
place_is (name ∷ names) rising net (suc i) lt e =
    let less = rising 0 (suc i) (omega arith) lt in
    let apart : name ≢ net = omega (arith, less, e) in
    rw (ne_eqb name net apart, place_is names (tail_rises name names rising) net i (omega arith) e) refl

pub place_at : (names : List ℕ) (net i : ℕ) → place names net ≡ Some i → (i < length names) × (get_or names i 0 ≡ net)
place_at [] net i e = absurd (cc)
place_at (name ∷ names) net i e =
    elim (cases_eq name net) [
      | inl same ↦
          let first : Some 0 ≡ Some i = rw (eq-eqb name net same) at e in
          let is : 0 ≡ i = cc in
          subst (λ k. (k < suc (length names)) × (get_or (name ∷ names) k 0 ≡ net)) is (omega arith, same)
      | inr apart ↦ later (place names net) (λ at f. place_at names net at f) (rw (ne_eqb name net apart) at e)
    ]
  where
    later : (p : Option ℕ) → ((at : ℕ) → p ≡ Some at → (at < length names) × (get_or names at 0 ≡ net)) → option_map (λ at. suc at) p ≡ Some i
        → (i < suc (length names)) × (get_or (name ∷ names) i 0 ≡ net)
    later None rest f = absurd (cc)
    later (Some at) rest f =
        let is : suc at ≡ i = cc in
        let there = rest at refl in
        subst (λ k. (k < suc (length names)) × (get_or (name ∷ names) k 0 ≡ net)) is (let lt = there.0 in omega arith, there.1)

pub no_place : (names : List ℕ) (net : ℕ) → ((i : ℕ) → i < length names → get_or names i 0 ≢ net) → place names net ≡ None
no_place [] net none = refl
no_place (name ∷ names) net none =
    rw (ne_eqb name net (none 0 (omega arith)), no_place names net (λ i lt. none (suc i) (omega arith))) refl

pub rising_least : (names : List ℕ) → AreRising names → (i : ℕ) → i < length names → i ≤ get_or names i 0
rising_least names rising zero lt = omega arith
rising_least names rising (suc i) lt =
    let before = rising_least names rising i (omega arith) in
    let up = rising i (suc i) (omega arith) lt in
    omega (arith, before, up)

pub never_falls : (names : List ℕ) → AreRising names → (i j : ℕ) → i ≤ j → j < length names → get_or names i 0 ≤ get_or names j 0
never_falls names rising i j le lt =
    elim (cases_eq i j) [
      | inl same ↦ rw same (omega arith)
      | inr apart ↦ let up = rising i j (omega arith) lt in omega (arith, up)
    ]
