-- Expressions below the signs that stand on them.
use Rattle.std.specs.Prelude.{◌≡◌, ◌≢◌, ◌⊎◌, IsTrue, ℕ, ◌+◌, ◌<◌, Bool, true, false, List, length, max}
use Rattle.rx_lang.specs.declared.vector.Vector.{Vector}
use Rattle.rx_lang.specs.declared.wrapped.Core.{Core}
use Rattle.rx_lang.specs.declared.wrapped.Core.TheVariants.{Symbol, Sequence, Union, Repeat}
use Rattle.rx_lang.specs.declared.wrapped.Layer.{Layer}
use Rattle.rx_lang.specs.declared.wrapped.Layer.TheVariants.{Plain, Sign, Marked}
use Rattle.rx_lang.specs.declared.expr_node.ExprNode.{ExprNode}
use Rattle.rx_lang.specs.declared.expr_node.ExprNode.TheVariants.{Leaf, Seq, Alt, Star, Plus, Opt, Mark}
use Rattle.rx_lang.specs.declared.expr_node.ExprNode.TheVariants as node
use Rattle.rx_lang.specs.Expression.{Expr, symbol, sequence, union, star, plus, optional, repeated}
use Rattle.rx_lang.specs.Meaning.{Cut, RepeatMarks, Spells, Marks}
use Rattle.rx_lang.specs.Specification.{MatchesSymbol}
use Rattle.rx_lang.specs.Tables.{Tables}
use Rattle.rx_lang.specs.VectorWords.{MarksWord, SpellsWord, node_tree, word_bits}

-- the expression with the one sign that lets it loop or lets it spell the empty word, or both
abbrev pub wrap : Bool → Bool → Expr → Expr
wrap false false e = e
wrap false true e = optional e
wrap true false e = plus e
wrap true true e = star e

-- The second expression marks the word behind a word of the first.
abbrev pub MarksBehind : Tables → Expr → Expr → ℕ → List Vector → Type 0
MarksBehind tables f g y word = Cut (Spells (MatchesSymbol tables.symbols) f) (Marks (MatchesSymbol tables.symbols) g y) (word_bits tables word)

-- The expression marks the word behind fewer than n of its own words.
abbrev pub MarksRepeated : Tables → Expr → ℕ → ℕ → List Vector → Type 0
MarksRepeated tables f n y word =
    RepeatMarks (Spells (MatchesSymbol tables.symbols) f) (Marks (MatchesSymbol tables.symbols) f y) n (word_bits tables word)

-- The expression marks the word behind one of its own words and fewer than n further ones.
abbrev pub MarksLater : Tables → Expr → ℕ → ℕ → List Vector → Type 0
MarksLater tables f n y word =
    Cut (Spells (MatchesSymbol tables.symbols) f)
    (RepeatMarks (Spells (MatchesSymbol tables.symbols) f) (Marks (MatchesSymbol tables.symbols) f y) n) (word_bits tables word)

-- Where marked, the words of the expression with its sign; and what the expression marks, where it loops also behind its words.
abbrev pub MarksBelow : Tables → Bool → Bool → Bool → Expr → ℕ → List Vector → Type 0
MarksBelow tables m l e f y word = (IsTrue m × SpellsWord tables (wrap l e f) word) ⊎ MarksWord tables (wrap l false f) y word

-- the tree of an expression without signs
abbrev pub core_tree : Tables → Core → Expr
core_tree tables (Symbol s) = symbol s
core_tree tables (Sequence f g) = sequence (node_tree tables f) (node_tree tables g)
core_tree tables (Union f g) = union (node_tree tables f) (node_tree tables g)
core_tree tables (Repeat f m n) = repeated (node_tree tables f) m n

-- What the expression names is in the tables.
abbrev pub HasEntries : Tables → Core → Type 0
HasEntries tables (Symbol s) = s < length tables.symbols
HasEntries tables (Sequence f g) = (f < length tables.nodes) × (g < length tables.nodes)
HasEntries tables (Union f g) = (f < length tables.nodes) × (g < length tables.nodes)
HasEntries tables (Repeat f m n) = f < length tables.nodes

-- a number above the children
abbrev pub above : Core → ℕ
above (Symbol s) = 0
above (Sequence f g) = max f g + 1
above (Union f g) = max f g + 1
above (Repeat f m n) = f + 1

-- The node is this expression, under this sign, or under this mark. A repeat of at most once is a sign.
abbrev pub IsLayer : ExprNode → Layer → Type 0
IsLayer top (Plain (Symbol s)) = top ≡ Leaf s
IsLayer top (Plain (Sequence f g)) = top ≡ Seq f g
IsLayer top (Plain (Union f g)) = top ≡ Alt f g
IsLayer top (Plain (Repeat f m n)) = top ≡ node.Repeat f m n
IsLayer top (Sign f true true) = top ≡ Star f
IsLayer top (Sign f true false) = top ≡ Plus f
IsLayer top (Sign f false true) = (top ≡ Opt f) ⊎ (top ≡ node.Repeat f 0 1)
IsLayer top (Sign f false false) = (m : ℕ) × (m ≢ 0) × (top ≡ node.Repeat f m 1)
IsLayer top (Marked f y) = top ≡ Mark f y
