-- Roots of two kinds of statements, and what is said of them all.
use Rattle.std.proofs.Common.{ℕ, suc, ◌<◌, List, [], ◌∷◌, ◌++◌, All, arith}
use Rattle.std.proofs.lemmas.List.Elements.{All-cons}

pub roots_behind : (front roots : List ℕ) (n : ℕ) → All (λ root. root < n) (front ++ roots) → All (λ root. root < n) roots
roots_behind [] roots n all = all
roots_behind (root ∷ front) roots n all = roots_behind front roots n (λ k d lt. all (suc k) d (omega arith))

pub roots_before : (roots behind : List ℕ) (n : ℕ) → All (λ root. root < n) (roots ++ behind) → All (λ root. root < n) roots
roots_before [] behind n all = λ k d lt. absurd (omega arith)
roots_before (root ∷ roots) behind n all =
    All-cons (λ r. r < n) root roots (all 0 0 (omega arith)) (roots_before roots behind n (λ k d lt. all (suc k) d (omega arith)))
