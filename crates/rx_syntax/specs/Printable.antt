-- Specifications whose printed text is accepted.
use Rattle.std.specs.Prelude.{◌≡◌, ℕ, ◌≤◌, Bool, true, false, List, ◌++◌, Some, length, All}
use Rattle.rx_lang.specs.Tables.{Tables, IsSpecification, names, specification, table_occurrences}
use Rattle.rx_syntax.specs.Lexemes.{Lexeme, first_kind, first_size, TokensOf}
use Rattle.rx_syntax.specs.Refusals.{open_after}
use Rattle.rx_syntax.specs.Printed.{needs_version_2, printed}
use Rattle.rx_syntax.specs.declared.version.Version.{Version}
use Rattle.rx_syntax.specs.declared.version.Version.TheVariants.{One, Two}
use Rattle.rx_syntax.specs.declared.kind.Kind.TheVariants.{Name}

-- The whole word is a name of the version.
abbrev pub IsNameOf : Version → List ℕ → Type 0
IsNameOf version word = (first_kind version word ≡ Some Name) × (first_size version word ≡ length word)

-- the version of a text, by whether it has to be the second
abbrev pub version_for : Bool → Version
version_for false = One
version_for true = Two

-- At most 200 parentheses are open behind any front of the tokens.
abbrev pub OpensFew : List ℕ → Type 0
OpensFew text = (before rest : List Lexeme) → TokensOf text (before ++ rest) → open_after 0 before ≤ 200

-- The tables are those of a specification that has at most so many symbols, copies counted, and whose names are names of the
-- version in which it is printed; and its text opens few parentheses.
pub record IsPrintable (limit : ℕ) (tables : Tables) : Type 0 where
  pub keeps : IsSpecification tables
  pub few_leaves : length (table_occurrences tables) ≤ limit
  pub bears_names : All (IsNameOf (version_for (needs_version_2 (specification tables)))) (names tables)
  pub opens_few : OpensFew (printed (specification tables))
