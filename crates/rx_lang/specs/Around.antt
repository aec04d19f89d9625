-- A word of many words, told by the one in its middle.
use Rattle.std.specs.Prelude.{ℕ, ◌≤◌, List, length, take, drop}
use Rattle.rx_lang.specs.declared.vector.Vector.{Vector}
use Rattle.rx_lang.specs.Expression.{Expr, star}
use Rattle.rx_lang.specs.Tables.{Tables}
use Rattle.rx_lang.specs.VectorWords.{SpellsWord}

-- The front is words of the expression. Behind it stand one of at least so many letters, and then further ones.
pub record ManyAround (tables : Tables) (e : Expr) (front behind : List Vector) (least : ℕ) : Type 0 where
  pub size : ℕ
  pub enough : least ≤ size
  pub within : size ≤ length behind
  pub many : SpellsWord tables (star e) front
  pub one : SpellsWord tables e (take size behind)
  pub further : SpellsWord tables (star e) (drop size behind)
