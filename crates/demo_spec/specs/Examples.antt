-- A specification that is made, written out.
use Rattle.std.specs.Prelude.{ℕ, zero, suc, List, [], ◌∷◌}
use Rattle.rx_lang.specs.Expression.{Expr, symbol, union, optional, marked}
use Rattle.demo_spec.specs.Generator.{drawn, next_seed}

-- so many draws from a seed
abbrev pub draws : ℕ → ℕ → List ℕ
draws zero seed = []
draws (suc n) seed = drawn seed ∷ draws n (next_seed seed)

-- (s2 | s1 !y0)? !y0
abbrev pub two_leaves : Expr
two_leaves = marked (optional (union (symbol 2) (marked (symbol 1) 0))) 0
