-- Pairs of elements of lists.
use Rattle.std.proofs.Common.{suc, List, [], ◌∷◌, ◌++◌, map, All, arith}
use Rattle.std.specs.List.{AllPairs}
use Rattle.std.proofs.lemmas.List.Kept.{AllPairs-cons}
use Rattle.std.proofs.lemmas.List.Elements.{All-map, All-append, All-head, All-tail}

pub AllPairs-tail : {X : Type 0} (R : X → X → Type 0) (x : X) (xs : List X) → AllPairs R (x ∷ xs) → AllPairs R xs
AllPairs-tail R x xs h i j d lt k = h (suc i) (suc j) d (omega arith) (omega arith)

pub AllPairs-first : {X : Type 0} (R : X → X → Type 0) (x : X) (xs : List X) → AllPairs R (x ∷ xs) → All (R x) xs
AllPairs-first R x xs h k d lt = h 0 (suc k) d (omega arith) (omega arith)

pub AllPairs-map : {X Y : Type 0} (R : X → X → Type 0) (f : Y → X) (ys : List Y) → AllPairs (λ y z. R (f y) (f z)) ys → AllPairs R (map f ys)
AllPairs-map R f [] h = λ i j d lt k. absurd (omega arith)
AllPairs-map R f (y ∷ ys) h =
    AllPairs-cons R (f y) (map f ys) (All-map (R (f y)) f ys (AllPairs-first (λ y z. R (f y) (f z)) y ys h)) (AllPairs-map R f ys
    (AllPairs-tail (λ y z. R (f y) (f z)) y ys h))

-- pairs within one list, within another, and across
pub AllPairs-append : {X : Type 0} (R : X → X → Type 0) (xs ys : List X) → AllPairs R xs → AllPairs R ys → All (λ x. All (R x) ys) xs →
    AllPairs R (xs ++ ys)
AllPairs-append R [] ys h k across = k
AllPairs-append R (x ∷ xs) ys h k across =
    AllPairs-cons R x (xs ++ ys) (All-append (R x) xs ys (AllPairs-first R x xs h) (All-head (λ x. All (R x) ys) x xs across))
    (AllPairs-append R xs ys (AllPairs-tail R x xs h) k (All-tail (λ x. All (R x) ys) x xs across))
