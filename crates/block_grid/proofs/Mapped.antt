-- A list whose elements are replaced one after another by their images.
use Rattle.std.proofs.Common.{◌≡◌, ℕ, suc, zero, ◌+◌, ◌<◌, List, [], ◌∷◌, ◌++◌, length, map, take, drop, get_or, refl, ap, add-one, arith}
use Rattle.std.proofs.Math.ListN.{set}

mapped_suc : {A : Type 0} (f : A → A) (xs : List A) (i : ℕ) (d : A) → i < length xs →
    set (map f (take i xs) ++ drop i xs) i (f (get_or (map f (take i xs) ++ drop i xs) i d)) ≡ map f (take (suc i) xs) ++ drop (suc i) xs
mapped_suc f [] i d h = absurd (omega arith)
mapped_suc f (x ∷ xs) zero d h = refl
mapped_suc f (x ∷ xs) (suc i) d h = let lt : i < length xs = omega arith in ap (λ ys. f x ∷ ys) (mapped_suc f xs i d lt)

-- one more element is replaced
pub mapped_more : {A : Type 0} (f : A → A) (xs ys : List A) (i : ℕ) (d v : A) → i < length xs → ys ≡ map f (take i xs) ++ drop i xs →
    v ≡ f (get_or ys i d) → set ys i v ≡ map f (take (i + 1) xs) ++ drop (i + 1) xs
mapped_more f xs ys i d v h e k = rw (k, e, add-one) (mapped_suc f xs i d h)
