-- Lemmas of lists, numbers and options that several files share.
use Rattle.std.proofs.Common.{◌≡◌, ◌≢◌, ◌⊎◌, inl, inr, ℕ, zero, suc, ◌<◌, ◌≤◌, ◌+◌, ap, arith, refl, cond, List, [], ◌∷◌, ◌++◌, length, Option, None, Some}
use Rattle.std.proofs.Math.ListN.{set}
use Rattle.std.proofs.lemmas.List.Sums.{sum_by-set}
use Rattle.std.specs.Prelude.{count_by, is_none}
use Rattle.nmos_model.specs.Classes.{class_at}
use Rattle.geom.specs.Rows.{Among}

module _ {X : Type 0} where
  pub among_either : (xs : List X) (b a : X) → Among (xs ++ b ∷ []) a → (b ≡ a) ⊎ Among xs a
  among_either [] b a (inl e) = inl e
  among_either [] b a (inr w) = elim w [ ]
  among_either (x ∷ xs) b a (inl e) = inr (inl e)
  among_either (x ∷ xs) b a (inr w) = elim (among_either xs b a w) [ inl e ↦ inl e | inr v ↦ inr (inr v) ]

  pub among_before : (xs : List X) (b a : X) → Among xs a → Among (xs ++ b ∷ []) a
  among_before [] b a w = elim w [ ]
  among_before (x ∷ xs) b a (inl e) = inl e
  among_before (x ∷ xs) b a (inr w) = inr (among_before xs b a w)

  pub among_last : (xs : List X) (b : X) → Among (xs ++ b ∷ []) b
  among_last [] b = inl refl
  among_last (x ∷ xs) b = inr (among_last xs b)

-- a number with a class is one of the numbers
pub classed_within : (numbers : List (Option ℕ)) (a class : ℕ) → class_at numbers a ≡ Some class → a < length numbers
classed_within [] a class e = absurd (cc)
classed_within (x ∷ xs) zero class e = omega arith
classed_within (x ∷ xs) (suc a) class e = let h = classed_within xs a class e in omega arith

-- one number less is without a class
pub fewer_left : (numbers : List (Option ℕ)) (a class : ℕ) → class_at numbers a ≡ None → a < length numbers
    → count_by is_none (set numbers a (Some class)) + 1 ≡ count_by is_none numbers
fewer_left numbers a class e lt =
    let set_one = sum_by-set (λ (x : Option ℕ). cond (is_none x) 1 0) numbers a (Some class) None lt in
    let had_none = ap missing e in
    omega (arith, set_one, had_none)
  where
    missing : Option ℕ → ℕ
    missing x = cond (is_none x) 1 0

pub classed : (o : Option ℕ) → o ≢ None → (class : ℕ) × (o ≡ Some class)
classed None ne = absurd (ne refl)
classed (Some class) ne = (class, refl)

pub below_or_above : (a b : ℕ) → (a ≤ b) ⊎ (b < a)
below_or_above zero b = inl (omega arith)
below_or_above (suc a) zero = inr (omega arith)
below_or_above (suc a) (suc b) = elim (below_or_above a b) [ inl h ↦ inl (omega arith) | inr h ↦ inr (omega arith) ]

pub same_or_apart : (a b : ℕ) → (a ≡ b) ⊎ (a ≢ b)
same_or_apart a b =
    elim (below_or_above a b) [
      | inl le ↦ elim (below_or_above b a) [ inl ge ↦ inl (omega arith) | inr lt ↦ inr (λ e. omega arith) ]
      | inr lt ↦ inr (λ e. omega arith)
    ]

pub inside : (a b : ℕ) → Some a ≡ Some b → a ≡ b
inside a b e = cc

pub some_inside : (a b : Option ℕ) → ◌≡◌ {A = Option (Option ℕ)} (Some a) (Some b) → a ≡ b
some_inside a b e = cc

-- the loop over the links has ended
pub all_seen : (at end i count : ℕ) → end ≤ at → end ≡ count → i < count → i < at
all_seen at end i count last same lt = omega arith
