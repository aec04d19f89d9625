-- Runs of digits, and the numbers that they write.
use Rattle.std.proofs.Common.{◌≡◌, inl, inr, ℕ, suc, ◌≤◌, ◌<◌, ◌*◌, ◌+◌, nat_le, Bool, true, false, if◌then◌else◌, List, [], ◌∷◌, Option, Some, None, take, length, slice_index_or, All, IsTrue, refl, sym, ◌∙◌, arith}
use Rattle.std.specs.List.{AllByRecursion, prefix_len}
use Rattle.std.specs.Char.{digit_value}
use Rattle.std.specs.Str.Parse.{digits_value}
use Rattle.std.proofs.lemmas.Bool.{cases_Bool, leb-true, leb-false, lt-leb}
use Rattle.std.proofs.lemmas.Int.Digits.{digits_value_push}
use Rattle.std.proofs.lemmas.List.{take_more}
use Rattle.std.proofs.lemmas.List.Elements.{All-from_recursion}
use Rattle.std.proofs.lemmas.Str.Parse.{digits_value-take-le}

front_more : {X : Type 0} (P : X → Type 0) (n : ℕ) (x : X) (xs : List X) → P x → AllByRecursion P (take n xs)
    → AllByRecursion P (take (1 + n) (x ∷ xs))
front_more P n x xs here later = let e : 1 + n ≡ suc n = omega arith in rw e (here, later)

-- every element of the longest run passes
run_passes : {X : Type 0} (p : X → Bool) (xs : List X) → AllByRecursion (λ x. IsTrue (p x)) (take (prefix_len p xs) xs)
run_passes p [] = tt
run_passes p (x ∷ xs) =
    elim (cases_Bool (p x)) [
      | inl good ↦ rw good (front_more (λ x. IsTrue (p x)) (prefix_len p xs) x xs good (run_passes p xs))
      | inr bad ↦ rw bad tt
    ]

pub run_all : {X : Type 0} (p : X → Bool) (xs : List X) → All (λ x. IsTrue (p x)) (take (prefix_len p xs) xs)
run_all p xs = All-from_recursion (λ x. IsTrue (p x)) (take (prefix_len p xs) xs) (run_passes p xs)

-- one more digit
pub one_more : (digits : List ℕ) (i d : ℕ) → i < length digits
    → digits_value 10 (take (i + 1) digits) ≡ digits_value 10 (take i digits) * 10 + digit_value (slice_index_or digits i d)
one_more digits i d h = rw (take_more digits i d h) (digits_value_push 10 (take i digits) (slice_index_or digits i d))

-- the number with one more digit was not too large
pub not_too_large : (next most value : ℕ) (result : Option ℕ) → result ≡ (if nat_le next most then Some next else None) → result ≡ Some value
    → (value ≡ next) × (value ≤ most)
not_too_large next most value result e some = by_test (nat_le next most) refl
  where
    by_test : (b : Bool) → nat_le next most ≡ b → (value ≡ next) × (value ≤ most)
    by_test true t =
        let same : Some next ≡ Some value = sym (rw t at e) ∙ some in
        let is : next ≡ value = cc in
        (sym is, rw is at (leb-true next most t))
    by_test false t = let none : None ≡ Some value = sym (rw t at e) ∙ some in absurd (cc)

-- so it was too large
pub too_large : (next most : ℕ) (result : Option ℕ) → result ≡ (if nat_le next most then Some next else None) → result ≡ None → nat_le next most ≡ false
too_large next most result e none = by_test (nat_le next most) refl
  where
    by_test : (b : Bool) → nat_le next most ≡ b → b ≡ false
    by_test false t = refl
    by_test true t = let some : Some next ≡ None = sym (rw t at e) ∙ none in absurd (cc)

-- a number whose first digits write more than the most is too large
pub stays_too_large : (digits : List ℕ) (i d most : ℕ) → i < length digits
    → nat_le (digits_value 10 (take i digits) * 10 + digit_value (slice_index_or digits i d)) most ≡ false
    → nat_le (digits_value 10 digits) most ≡ false
stays_too_large digits i d most h large =
    let front = digits_value-take-le 10 digits (i + 1) (omega arith) in
    let above = leb-false _ most large in
    lt-leb (digits_value 10 digits) most (omega (arith, front, above, one_more digits i d h))
