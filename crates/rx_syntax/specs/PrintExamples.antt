-- Expressions of two symbols and one output, as texts.
use Rattle.std.specs.Prelude.{ℕ, List, [], ◌∷◌, codes}
use Rattle.rx_lang.specs.Expression.{Expr}
use Rattle.rx_syntax.specs.Printed.{expr_text}

-- with the symbols a and b and the output z
abbrev pub text_of : Expr → List ℕ
text_of e = expr_text (codes "a" ∷ codes "b" ∷ []) (codes "z" ∷ []) e
