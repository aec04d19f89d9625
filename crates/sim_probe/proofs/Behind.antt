-- One more sample behind others.
use Rattle.std.proofs.Common.{◌≡◌, ℕ, ◌==◌, ◌≤◌, List, [], ◌∷◌, ◌++◌, Some, None, map, length, refl, ap, ◌∙◌, arith, eq-eqb}
use Rattle.std.proofs.lemmas.Bool.{ne_eqb}
use Rattle.std.proofs.lemmas.List.{map-append, length-map, append-nil}
use Rattle.std.proofs.lemmas.List.Elements.{filter-append}
use Rattle.std.proofs.lemmas.List.Sums.{fold-append, length-filter, count_by-le-length}
use Rattle.std.specs.List.{filter}
use Rattle.std.specs.Option.{option_map}
use Rattle.std.specs.Ordering.{nat_cmp}
use Rattle.std.specs.BTreeSet.{insert_key}
use Rattle.sim_probe.specs.declared.sample.Sample.{Sample}
use Rattle.sim_probe.specs.Levels.{levels_of, pads_of, last_of, last_clock}

pub last_of_more : {A : Type 0} (xs : List A) (x : A) → last_of (xs ++ x ∷ []) ≡ Some x
last_of_more [] x = refl
last_of_more (y ∷ []) x = refl
last_of_more (y ∷ next ∷ more) x = last_of_more (next ∷ more) x

-- a list with elements has a last one
pub has_last : {A : Type 0} (x : A) (xs : List A) → last_of (x ∷ xs) ≡ None → ⊥
has_last x [] e = cc
has_last x (y ∷ more) e = has_last y more e

pub last_clock_more : (samples : List Sample) (sample : Sample) → last_clock (samples ++ sample ∷ []) ≡ Some sample.at
last_clock_more samples sample = ap (option_map (λ (s : Sample). s.at)) (last_of_more samples sample)

pub pads_of_more : (samples : List Sample) (sample : Sample) → pads_of (samples ++ sample ∷ []) ≡ insert_key nat_cmp (pads_of samples) sample.pad
pads_of_more samples sample = fold-append (λ pads (s : Sample). insert_key nat_cmp pads s.pad) [] samples (sample ∷ [])

levels_of_both : (pad : ℕ) (some more : List Sample) → levels_of pad (some ++ more) ≡ levels_of pad some ++ levels_of pad more
levels_of_both pad some more =
    ap (map (λ (s : Sample). s.value)) (filter-append (λ (s : Sample). s.pad == pad) some more)
    ∙ map-append (λ (s : Sample). s.value) (filter (λ (s : Sample). s.pad == pad) some) (filter (λ (s : Sample). s.pad == pad) more)

pub levels_of_more : (samples : List Sample) (sample : Sample)
    → levels_of sample.pad (samples ++ sample ∷ []) ≡ levels_of sample.pad samples ++ sample.value ∷ []
levels_of_more samples sample =
    levels_of_both sample.pad samples (sample ∷ []) ∙ rw (eq-eqb sample.pad sample.pad refl) refl

pub levels_of_other : (samples : List Sample) (sample : Sample) (pad : ℕ) → (sample.pad ≡ pad → ⊥)
    → levels_of pad (samples ++ sample ∷ []) ≡ levels_of pad samples
levels_of_other samples sample pad apart =
    levels_of_both pad samples (sample ∷ []) ∙ rw (ne_eqb sample.pad pad apart) (append-nil _)

-- a pad has no more levels than there are samples
pub few_levels : (pad : ℕ) (samples : List Sample) → length (levels_of pad samples) ≤ length samples
few_levels pad samples =
    omega (
      arith,
      length-map (filter (λ (s : Sample). s.pad == pad) samples) (λ (s : Sample). s.value),
      length-filter (λ (s : Sample). s.pad == pad) samples,
      count_by-le-length (λ (s : Sample). s.pad == pad) samples,
    )
