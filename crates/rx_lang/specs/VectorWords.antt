-- What the expressions of tables spell and mark, on words of vectors.
use Rattle.std.specs.Prelude.{ℕ, List, length, map}
use Rattle.rx_lang.specs.declared.vector.Vector.{Vector}
use Rattle.rx_lang.specs.Vector.{Bits, bits_of}
use Rattle.rx_lang.specs.Expression.{Expr}
use Rattle.rx_lang.specs.Meaning.{Spells, Marks}
use Rattle.rx_lang.specs.Specification.{MatchesSymbol}
use Rattle.rx_lang.specs.Tables.{Tables, tree_at, trees}

-- the bits of each vector
abbrev pub word_bits : Tables → List Vector → List Bits
word_bits tables word = map (bits_of (length tables.lines)) word

-- the tree of the node with this number
abbrev pub node_tree : Tables → ℕ → Expr
node_tree tables k = tree_at (trees tables.nodes) k

-- The expression spells the word under these symbols.
abbrev pub SpellsWord : Tables → Expr → List Vector → Type 0
SpellsWord tables e word = Spells (MatchesSymbol tables.symbols) e (word_bits tables word)

-- The expression marks the word for the output under these symbols.
abbrev pub MarksWord : Tables → Expr → ℕ → List Vector → Type 0
MarksWord tables e y word = Marks (MatchesSymbol tables.symbols) e y (word_bits tables word)
