-- Regular expressions with marks.
use Rattle.std.specs.Prelude.{ℕ}

-- Symbols and outputs are numbers in the specification's tables. A mark at the end of an expression names an output.
-- A counted repeat stands for its operand at least and at most so many times.
pub data Expr : Type 0 where
  symbol : ℕ → Expr
  sequence : Expr → Expr → Expr
  union : Expr → Expr → Expr
  star : Expr → Expr
  plus : Expr → Expr
  optional : Expr → Expr
  marked : Expr → ℕ → Expr
  repeated : Expr → ℕ → ℕ → Expr
