-- Specifications, and the language of each output.
use Rattle.std.specs.Prelude.{◌≡◌, ℕ, ◌⊎◌, List, Some, slice_get}
use Rattle.rx_lang.specs.declared.pattern.PatternBit.{PatternBit}
use Rattle.rx_lang.specs.Vector.{Bits, Matches}
use Rattle.rx_lang.specs.Expression.{Expr}
use Rattle.rx_lang.specs.Meaning.{EndsIn, SomeMarks}

-- a symbol: a name for a pattern over the lines
pub record NamedPattern : Type 0 where
  pub name : List ℕ
  pub pattern : List PatternBit

-- Lines, symbols and outputs in order of declaration, and as trees the expressions of the `expr` statements, whose words
-- begin at the reset, and those of the `scan` statements, whose words begin at any time.
pub record Specification : Type 0 where
  pub lines : List (List ℕ)
  pub symbols : List NamedPattern
  pub outputs : List (List ℕ)
  pub statements : List Expr
  pub scans : List Expr

-- the vector matches the pattern of the symbol with this number
abbrev pub MatchesSymbol : List NamedPattern → ℕ → Bits → Type 0
MatchesSymbol symbols s x = (declared : NamedPattern) × (slice_get symbols s ≡ Some declared) × Matches declared.pattern x

-- The language of output y: the words that some `expr` statement marks for it, and those that end in a word that some
-- `scan` statement marks for it.
abbrev pub Language : Specification → ℕ → List Bits → Type 0
Language spec y u =
    SomeMarks (MatchesSymbol spec.symbols) spec.statements y u ⊎ EndsIn (SomeMarks (MatchesSymbol spec.symbols) spec.scans y) u
