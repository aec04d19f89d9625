-- Some statement marks a word.
use Rattle.std.proofs.Common.{ℕ, zero, suc, ◌<◌, List, [], ◌∷◌, ◌++◌, All, length, get_or, map, inl, inr, arith}
use Rattle.rx_lang.specs.Expression.{Expr}
use Rattle.rx_lang.specs.Meaning.{Marks, SomeMarks}

module _ {X : Type 0} (Is : ℕ → X → Type 0) (tree : ℕ → Expr) (y : ℕ) (u : List X) where
  pub statement_marks : (roots : List ℕ) (k : ℕ) → k < length roots → Marks Is (tree (get_or roots k 0)) y u → SomeMarks Is (map tree roots) y u
  statement_marks [] k lt h = absurd (omega arith)
  statement_marks (root ∷ roots) zero lt h = inl h
  statement_marks (root ∷ roots) (suc k) lt h = inr (statement_marks roots k (omega arith) h)

  pub no_statement : (roots : List ℕ) → ((k : ℕ) → k < length roots → Marks Is (tree (get_or roots k 0)) y u → ⊥) → SomeMarks Is (map tree roots) y u → ⊥
  no_statement [] none h = h
  no_statement (root ∷ roots) none (inl h) = none 0 (omega arith) h
  no_statement (root ∷ roots) none (inr h) = no_statement roots (λ k lt m. none (suc k) (omega arith) m) h

one_root : (root : ℕ) (roots : List ℕ) (n : ℕ) → root < n → All (λ r. r < n) roots → All (λ r. r < n) (root ∷ roots)
one_root root roots n h all zero d lt = h
one_root root roots n h all (suc k) d lt = all k d (omega arith)

-- the roots behind others are in the table
pub roots_behind : (front roots : List ℕ) (n : ℕ) → All (λ root. root < n) (front ++ roots) → All (λ root. root < n) roots
roots_behind [] roots n all = all
roots_behind (root ∷ front) roots n all = roots_behind front roots n (λ k d lt. all (suc k) d (omega arith))

pub roots_before : (roots behind : List ℕ) (n : ℕ) → All (λ root. root < n) (roots ++ behind) → All (λ root. root < n) roots
roots_before [] behind n all = λ k d lt. absurd (omega arith)
roots_before (root ∷ roots) behind n all = one_root root roots n (all 0 0 (omega arith)) (roots_before roots behind n (λ k d lt. all (suc k) d (omega arith)))
