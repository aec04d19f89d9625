-- The text of a specification, as it is printed.
use Rattle.std.specs.Prelude.{ℕ, Bool, true, false, ◌||◌, List, [], ◌++◌, map, flat_map, slice_index_or, codes, ◌∷◌}
use Rattle.std.specs.Fmt.{decimal}
use Rattle.rx_lang.specs.Expression.{Expr, symbol, sequence, union, star, plus, optional, marked, repeated}
use Rattle.rx_lang.specs.Specification.{NamedPattern, Specification}
use Rattle.rx_syntax.specs.Tokens.{place_byte}

abbrev pub is_union : Expr → Bool
is_union (symbol s) = false
is_union (sequence f g) = false
is_union (union f g) = true
is_union (star f) = false
is_union (plus f) = false
is_union (optional f) = false
is_union (marked f y) = false
is_union (repeated f m n) = false

-- a union or a sequence
abbrev pub is_compound : Expr → Bool
is_compound (symbol s) = false
is_compound (sequence f g) = true
is_compound (union f g) = true
is_compound (star f) = false
is_compound (plus f) = false
is_compound (optional f) = false
is_compound (marked f y) = false
is_compound (repeated f m n) = false

-- the expression has a counted repeat
abbrev pub has_repeat : Expr → Bool
has_repeat (symbol s) = false
has_repeat (sequence f g) = has_repeat f || has_repeat g
has_repeat (union f g) = has_repeat f || has_repeat g
has_repeat (star f) = has_repeat f
has_repeat (plus f) = has_repeat f
has_repeat (optional f) = has_repeat f
has_repeat (marked f y) = has_repeat f
has_repeat (repeated f m n) = true

-- some of the expressions has a counted repeat
abbrev pub have_repeat : List Expr → Bool
have_repeat [] = false
have_repeat (e ∷ es) = has_repeat e || have_repeat es

abbrev pub is_some : List Expr → Bool
is_some [] = false
is_some (e ∷ es) = true

-- The specification is of version 2 of the language: it has a counted repeat or a `scan` statement.
abbrev pub needs_version_2 : Specification → Bool
needs_version_2 spec = (have_repeat spec.statements || have_repeat spec.scans) || is_some spec.scans

-- the statement of the version, where it is not the first
abbrev pub version_text : Bool → List ℕ
version_text false = []
version_text true = codes "version 2;\n"

-- the text, in parentheses where they are needed
abbrev pub enclosed : Bool → List ℕ → List ℕ
enclosed false text = text
enclosed true text = codes "(" ++ (text ++ codes ")")

-- {m,n}
abbrev pub bounds_text : ℕ → ℕ → List ℕ
bounds_text m n = codes "{" ++ (decimal m ++ (codes "," ++ (decimal n ++ codes "}")))

module _ (symbols outputs : List (List ℕ)) where
  -- Parentheses stand round a union in a sequence or under a sign, round a sequence under a sign, and round a right part
  -- of the same kind. A mark is a sign, too, and so is a counted repeat.
  abbrev pub expr_text : Expr → List ℕ
  expr_text (symbol s) = slice_index_or symbols s []
  expr_text (union f g) = expr_text f ++ (codes " | " ++ enclosed (is_union g) (expr_text g))
  expr_text (sequence f g) = enclosed (is_union f) (expr_text f) ++ (codes " " ++ enclosed (is_compound g) (expr_text g))
  expr_text (star f) = enclosed (is_compound f) (expr_text f) ++ codes "*"
  expr_text (plus f) = enclosed (is_compound f) (expr_text f) ++ codes "+"
  expr_text (optional f) = enclosed (is_compound f) (expr_text f) ++ codes "?"
  expr_text (marked f y) = enclosed (is_compound f) (expr_text f) ++ (codes " !" ++ slice_index_or outputs y [])
  expr_text (repeated f m n) = enclosed (is_compound f) (expr_text f) ++ bounds_text m n

  -- KEYWORD E;
  abbrev pub statement_text : List ℕ → Expr → List ℕ
  statement_text keyword e = keyword ++ (codes " " ++ (expr_text e ++ codes ";\n"))

-- KEYWORD NAME .. NAME;
abbrev pub names_text : List ℕ → List (List ℕ) → List ℕ
names_text keyword names = keyword ++ (flat_map (λ name. codes " " ++ name) names ++ codes ";\n")

-- symbol NAME = PATTERN;
abbrev pub symbol_text : NamedPattern → List ℕ
symbol_text s = codes "symbol " ++ (s.name ++ (codes " = " ++ (map place_byte s.pattern ++ codes ";\n")))

-- The version, where it is needed, a statement of the lines, one for each symbol, one of the outputs, and one for each
-- expression, first the `expr` statements and then the `scan` statements, each on a line of its own.
abbrev pub printed : Specification → List ℕ
printed spec =
    version_text (needs_version_2 spec)
    ++ (names_text (codes "line") spec.lines
    ++ (flat_map symbol_text spec.symbols
    ++ (names_text (codes "output") spec.outputs
    ++ (flat_map (statement_text (map (λ s. s.name) spec.symbols) spec.outputs (codes "expr")) spec.statements
    ++ flat_map (statement_text (map (λ s. s.name) spec.symbols) spec.outputs (codes "scan")) spec.scans))))
