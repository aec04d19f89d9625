-- The samples that are due after the clocks of a run are regular.
use Rattle.std.proofs.Common.{◌≡◌, ℕ, suc, ◌+◌, ◌<◌, ◌≤◌, ◌==◌, ◌^◌, Bool, true, false, if◌then◌else◌, List, [], ◌∷◌, ◌++◌, map, length, refl, sym, ap, ap₂, ◌∙◌, arith, eq-eqb, ne_eqb}
use Rattle.std.proofs.lemmas.List.{length-map}
use Rattle.std.proofs.lemmas.List.Elements.{All-from_recursion}
use Rattle.std.proofs.lemmas.List.Kept.{AllPairs-cons}
use Rattle.std.specs.List.{AllByRecursion, AllPairs}
use Rattle.rx_text.specs.declared.pad_name.Role.{Role}
use Rattle.switch_net.specs.Ternary.{Levels}
use Rattle.switch_net.specs.declared.network.Level.{Level}
use Rattle.switch_net.specs.declared.network.Level.TheVariants.{Unknown}
use Rattle.switch_net.specs.declared.network.Pad.{Pad}
use Rattle.sim_probe.specs.Due.{due_at, due_from}
use Rattle.sim_probe.specs.Regular.{samples_from, DueSamplesAreRegular}
use Rattle.sim_probe.specs.declared.sample.Sample.{Sample}

abbrev InRange : ℕ → ℕ → ℕ → Type 0
InRange low high n = (low ≤ n) × (n < high)

abbrev sample : ℕ → ℕ → Level → Sample
sample clock pad level = record { at = clock; pad = pad; value = level }

-- functions that agree on a list
maps_alike : {A B : Type 0} (f g : A → B) (xs : List A) → AllByRecursion (λ x. f x ≡ g x) xs → map f xs ≡ map g xs
maps_alike f g [] h = refl
maps_alike f g (x ∷ xs) h = ap₂ (λ a b. a ∷ b) h.0 (maps_alike f g xs h.1)

each_of : {A : Type 0} (P Q : A → Type 0) (xs : List A) → ((x : A) → P x → Q x) → AllByRecursion P xs → AllByRecursion Q xs
each_of P Q [] f h = tt
each_of P Q (x ∷ xs) f h = (f x h.0, each_of P Q xs f h.1)

module _ (wants : ℕ → Role → Bool) where
  -- the numbers of the pads that are wanted, where the first has this number
  wanted : ℕ → List Pad → List ℕ
  wanted number [] = []
  wanted number (pad ∷ pads) = if wants number pad.name.role then number ∷ wanted (suc number) pads else wanted (suc number) pads

  -- the level of the pad of a number
  level_of : ℕ → List Pad → Levels → ℕ → Level
  level_of number [] v n = Unknown
  level_of number (pad ∷ pads) v n = if number == n then v pad.net.0 else level_of (suc number) pads v n

  -- the same, where there is a first pad
  abbrev level_among : ℕ → Pad → List Pad → Levels → ℕ → Level
  level_among number pad pads v n = if number == n then v pad.net.0 else level_of (suc number) pads v n

  within : (number : ℕ) (pads : List Pad) → AllByRecursion (InRange number (number + length pads)) (wanted number pads)
  unfolding wanted
  within number [] = tt
  within number (pad ∷ pads) = by (wants number pad.name.role) (within (suc number) pads)
    where
      by : (b : Bool) → AllByRecursion (InRange (suc number) (suc number + length pads)) (wanted (suc number) pads)
          → AllByRecursion (InRange number (number + length (pad ∷ pads))) (if b then number ∷ wanted (suc number) pads else wanted (suc number) pads)
      by true h = (
        (omega arith, omega arith),
        each_of (InRange (suc number) (suc number + length pads)) (InRange number (number + length (pad ∷ pads))) (wanted (suc number) pads)
            (λ x r. (omega (arith, r.0), omega (arith, r.1))) h,
      )
      by false h =
          each_of (InRange (suc number) (suc number + length pads)) (InRange number (number + length (pad ∷ pads))) (wanted (suc number) pads)
          (λ x r. (omega (arith, r.0), omega (arith, r.1))) h

  ascends : (number : ℕ) (pads : List Pad) → AllPairs (λ one other. one < other) (wanted number pads)
  unfolding wanted
  ascends number [] = λ i j d lt k. absurd (omega arith)
  ascends number (pad ∷ pads) = by (wants number pad.name.role) (ascends (suc number) pads) (within (suc number) pads)
    where
      by : (b : Bool) → AllPairs (λ one other. one < other) (wanted (suc number) pads)
          → AllByRecursion (InRange (suc number) (suc number + length pads)) (wanted (suc number) pads)
          → AllPairs (λ one other. one < other) (if b then number ∷ wanted (suc number) pads else wanted (suc number) pads)
      by true h r =
          AllPairs-cons (λ one other. one < other) number (wanted (suc number) pads)
          (All-from_recursion (λ x. number < x) (wanted (suc number) pads)
          (each_of (InRange (suc number) (suc number + length pads)) (λ x. number < x) (wanted (suc number) pads) (λ x r. omega (arith, r.0)) r))
          h
      by false h r = h

  due_is : (clock : ℕ) (v : Levels) (number : ℕ) (pads : List Pad)
      → due_at wants clock v number pads ≡ map (λ pad. sample clock pad (level_of number pads v pad)) (wanted number pads)
  unfolding wanted level_of
  due_is clock v number [] = refl
  due_is clock v number (pad ∷ pads) = by (wants number pad.name.role) (due_is clock v (suc number) pads ∙ later)
    where
      other : (n : ℕ) → InRange (suc number) (suc number + length pads) n
          → sample clock n (level_of (suc number) pads v n) ≡ sample clock n (level_among number pad pads v n)
      other n r =
          let differ : (number == n) ≡ false = ne_eqb number n (λ e. absurd (omega (arith, r.0))) in
          ap (λ b. sample clock n (if b then v pad.net.0 else level_of (suc number) pads v n)) (sym differ)

      later : map (λ n. sample clock n (level_of (suc number) pads v n)) (wanted (suc number) pads)
          ≡ map (λ n. sample clock n (level_among number pad pads v n)) (wanted (suc number) pads)
      later =
          maps_alike (λ n. sample clock n (level_of (suc number) pads v n)) (λ n. sample clock n (level_among number pad pads v n)) (wanted (suc number) pads)
          (each_of (InRange (suc number) (suc number + length pads)) (λ n. sample clock n (level_of (suc number) pads v n) ≡ sample clock n (level_among number pad pads v n))
          (wanted (suc number) pads) other (within (suc number) pads))

      by : (b : Bool) → due_at wants clock v (suc number) pads ≡ map (λ n. sample clock n (level_among number pad pads v n)) (wanted (suc number) pads)
          → (if b then sample clock number (v pad.net.0) ∷ due_at wants clock v (suc number) pads else due_at wants clock v (suc number) pads)
          ≡ map (λ n. sample clock n (level_among number pad pads v n)) (if b then number ∷ wanted (suc number) pads else wanted (suc number) pads)
      by true e =
          ap₂ (λ a b. a ∷ b)
          (ap (λ b. sample clock number (if b then v pad.net.0 else level_of (suc number) pads v number)) (sym (eq-eqb number number refl))) e
      by false e = e

  dues_are : (pads : List Pad) (clock : ℕ) (vs : List Levels)
      → due_from wants pads clock vs ≡ samples_from (wanted 0 pads) clock (map (level_of 0 pads) vs)
  dues_are pads clock [] = refl
  dues_are pads clock (v ∷ vs) = ap₂ ◌++◌ (due_is clock v 0 pads) (dues_are pads (suc clock) vs)

pub regular : DueSamplesAreRegular
regular wants pads levels few short = record {
  pads = wanted wants 0 pads;
  levels = map (level_of wants 0 pads) levels;
  ascending = ascends wants 0 pads;
  fits = All-from_recursion (λ pad. pad < 2 ^ 32) (wanted wants 0 pads)
      (each_of (InRange 0 (0 + length pads)) (λ pad. pad < 2 ^ 32) (wanted wants 0 pads) (λ x r. omega (arith, r.1, few)) (within wants 0 pads));
  few = let size = length-map levels (level_of wants 0 pads) in omega arith;
  whole = dues_are wants pads 0 levels;
}
