-- The uses of words as they are read, and what is declared behind them.
use Rattle.std.specs.Prelude.{◌≡◌, ◌⊎◌, ℕ, ◌-◌, ◌*◌, ⊤, List, [], ◌∷◌, ◌++◌, Option, Some, None, map, length}
use Rattle.std.specs.Str.Parse.{digits_value}
use Rattle.rx_syntax.specs.Lexemes.{word_of}
use Rattle.rx_syntax.specs.Grammar.{Syntax}
use Rattle.rx_syntax.specs.Uses.{Use, line_use, symbol_use, pattern_use, output_use, undeclared, syntax_uses, first_use_fault}
use Rattle.rx_syntax.specs.WordUses.{WordUse, line_word, symbol_word, pattern_size, output_word, leaf_word, mark_word, least_number, most_number, more_copies}
use Rattle.rx_syntax.specs.UsesRead.{Counts, part_leaves, kind_of_use}
use Rattle.rx_syntax.specs.Accepted.{place_bit, named_pattern, Says}
use Rattle.rx_syntax.specs.NameTables.{NameTables, with_pattern}
use Rattle.rx_syntax.specs.declared.kind.Kind.{Kind}
use Rattle.rx_syntax.specs.declared.kind.Kind.TheVariants.{Name, Bits, Number}
use Rattle.rx_syntax.specs.declared.machine.Due.{Due}
use Rattle.rx_syntax.specs.declared.use_kind.UseKind.{UseKind}
use Rattle.rx_syntax.specs.declared.use_kind.UseKind.TheVariants.{Line, Symbol, Pattern, Output, Leaf, FurtherLeaf, Mark, Open, Close, Least, Most, Copies}

-- how a piece of the text is used, by what was due: blanks and comments are no use
abbrev pub piece_use : Due → Option Kind → Option UseKind
piece_use due None = None
piece_use due (Some kind) = kind_of_use due kind

-- Only names are used as names, and only runs of digits as numbers.
abbrev pub IsOfKind : Option UseKind → Option Kind → Type 0
IsOfKind None kind = ⊤
IsOfKind (Some Line) kind = kind ≡ Some Name
IsOfKind (Some Symbol) kind = kind ≡ Some Name
IsOfKind (Some Output) kind = kind ≡ Some Name
IsOfKind (Some Least) kind = (kind ≡ Some Bits) ⊎ (kind ≡ Some Number)
IsOfKind (Some Most) kind = (kind ≡ Some Bits) ⊎ (kind ≡ Some Number)
IsOfKind (Some used) kind = ⊤

-- the use that a word is, behind what was counted
abbrev pub word_by : Counts ℕ → UseKind → List ℕ → Option WordUse
word_by c Line word = Some (line_word word)
word_by c Symbol word = Some (symbol_word word)
word_by c Pattern word = Some (pattern_size (length word))
word_by c Output word = Some (output_word word)
word_by c Leaf word = Some (leaf_word word)
word_by c FurtherLeaf word = Some (leaf_word word)
word_by c Mark word = Some (mark_word word)
word_by c Open word = None
word_by c Close word = None
word_by c Least word = Some (least_number (digits_value 10 word))
word_by c Most word = Some (most_number c.least (digits_value 10 word))
word_by c Copies word = Some (more_copies ((c.most - 1) * part_leaves c))

-- the tables behind a word that is used so
abbrev pub tables_at : NameTables → UseKind → List ℕ → NameTables
tables_at before Line word = record before { lines = before.lines ++ (word ∷ []) }
tables_at before Symbol word = record before { symbols = before.symbols ++ (record { name = word; pattern = [] } ∷ []) }
tables_at before Pattern word = record before { symbols = with_pattern (map place_bit word) before.symbols }
tables_at before Output word = record before { outputs = before.outputs ++ (word ∷ []) }
tables_at before used word = before

-- the tables behind a use
abbrev pub tables_behind : List ℕ → NameTables → Use → NameTables
tables_behind text before (line_use t) = tables_at before Line (word_of text t)
tables_behind text before (symbol_use t) = tables_at before Symbol (word_of text t)
tables_behind text before (pattern_use t) = tables_at before Pattern (word_of text t)
tables_behind text before (output_use t) = tables_at before Output (word_of text t)
tables_behind text before u = before

-- the tables that the tokens of a text say
abbrev pub said_tables : List ℕ → Syntax → NameTables
said_tables text syntax = record {
  lines = map (word_of text) syntax.lines;
  symbols = map (named_pattern text) syntax.symbols;
  outputs = map (word_of text) syntax.outputs;
}

-- The text is a specification, no code of names and limits stands in it, and these are its tables.
pub record Declares (text : List ℕ) (limit : ℕ) (tables : NameTables) : Type 0 where
  pub syntax : Syntax
  pub says : Says text syntax
  pub no_fault : first_use_fault text limit undeclared (syntax_uses text syntax) ≡ None
  pub is : tables ≡ said_tables text syntax
