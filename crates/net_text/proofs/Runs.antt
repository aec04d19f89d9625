-- The longest run of bytes of one class.
use Rattle.std.proofs.Common.{◌≡◌, cond, ℕ, zero, suc, ◌+◌, ◌<◌, ◌≤◌, Bool, true, false, List, [], ◌∷◌, ◌++◌, take, length, refl, arith}
use Rattle.std.specs.List.{list_all, prefix_len}
use Rattle.net_text.proofs.ReadBack.{both_true}

-- it ends at the first byte of another class
pub run_to : (p : ℕ → Bool) (xs : List ℕ) (c : ℕ) (ys : List ℕ) → list_all p xs ≡ true → p c ≡ false → prefix_len p (xs ++ c ∷ ys) ≡ length xs
run_to p [] c ys all ends = rw ends refl
run_to p (x ∷ xs) c ys all ends =
    let parts = both_true (p x) _ all in rw parts.0 (omega (arith, run_to p xs c ys parts.1 ends))

-- it has one byte more, where that is of the class
pub run_past : (p : ℕ → Bool) (xs : List ℕ) (c : ℕ) (ys : List ℕ) → list_all p xs ≡ true → p c ≡ true → length xs < prefix_len p (xs ++ c ∷ ys)
run_past p [] c ys all more = rw more (omega arith)
run_past p (x ∷ xs) c ys all more =
    let parts = both_true (p x) _ all in rw parts.0 (omega (arith, run_past p xs c ys parts.1 more))

-- all its bytes are of the class, and so are those of its fronts
pub run_of_class : (p : ℕ → Bool) (n : ℕ) (xs : List ℕ) → n ≤ prefix_len p xs → list_all p (take n xs) ≡ true
run_of_class p zero xs few = refl
run_of_class p (suc n) [] few = refl
run_of_class p (suc n) (x ∷ xs) few = by_test (p x) refl few (run_of_class p n xs)
  where
    by_test : (b : Bool) → p x ≡ b → suc n ≤ cond b (1 + prefix_len p xs) 0 → (n ≤ prefix_len p xs → list_all p (take n xs) ≡ true)
        → list_all p (take (suc n) (x ∷ xs)) ≡ true
    by_test true t few later = rw (t, later (omega (arith, few))) refl
    by_test false t few later = absurd (omega (arith, few))
