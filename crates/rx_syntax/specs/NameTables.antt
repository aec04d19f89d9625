-- The names and patterns that a specification declares.
use Rattle.std.specs.Prelude.{◌≡◌, ◌≢◌, ℕ, ◌≤◌, List, [], ◌∷◌, ◌++◌, length, map, All, AllPairs}
use Rattle.rx_lang.specs.declared.pattern.PatternBit.{PatternBit}
use Rattle.rx_lang.specs.Specification.{NamedPattern}
use Rattle.rx_syntax.specs.Uses.{Declared}

-- lines, symbols and outputs in order of declaration
pub record NameTables : Type 0 where
  pub lines : List (List ℕ)
  pub symbols : List NamedPattern
  pub outputs : List (List ℕ)

abbrev pub no_tables : NameTables
no_tables = record { lines = []; symbols = []; outputs = [] }

abbrev pub names_of : List NamedPattern → List (List ℕ)
names_of symbols = map (λ s. s.name) symbols

-- the names of the tables, where expressions have so many symbols
abbrev pub declared_by : NameTables → ℕ → Declared
declared_by tables leaves =
    record { lines = tables.lines; symbols = names_of tables.symbols; outputs = tables.outputs; leaves = leaves }

-- the last symbol with this pattern
abbrev pub with_pattern : List PatternBit → List NamedPattern → List NamedPattern
with_pattern pattern [] = []
with_pattern pattern (s ∷ []) = record { name = s.name; pattern = pattern } ∷ []
with_pattern pattern (s ∷ next ∷ symbols) = s ∷ with_pattern pattern (next ∷ symbols)

-- The tables are those of a specification: 1 to 16 lines, 1 to 32 symbols, 1 to 16 outputs, no name twice, and patterns
-- with a place for each line.
pub record AreNameTables (tables : NameTables) : Type 0 where
  pub some_lines : 1 ≤ length tables.lines
  pub few_lines : length tables.lines ≤ 16
  pub some_symbols : 1 ≤ length tables.symbols
  pub few_symbols : length tables.symbols ≤ 32
  pub some_outputs : 1 ≤ length tables.outputs
  pub few_outputs : length tables.outputs ≤ 16
  pub names_differ : AllPairs (λ a b. a ≢ b) (tables.lines ++ names_of tables.symbols ++ tables.outputs)
  pub place_per_line : All (λ s. length s.pattern ≡ length tables.lines) tables.symbols

-- the symbols have these names, and numbers of symbols and outputs fit a byte
pub record AreIndexed (symbol_names outputs : List (List ℕ)) (symbols : List NamedPattern) : Type 0 where
  pub names : symbol_names ≡ names_of symbols
  pub few_symbols : length symbols ≤ 32
  pub few_outputs : length outputs ≤ 16
