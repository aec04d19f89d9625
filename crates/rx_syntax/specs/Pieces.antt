-- Pieces of an expression that wait to be printed.
use Rattle.std.specs.Prelude.{◌≡◌, ℕ, ◌+◌, ◌<◌, List, [], ◌∷◌, ◌++◌, length, map, codes, slice_index_or, if◌then◌else◌, ⊤}
use Rattle.rx_lang.specs.Expression.{Expr, symbol, sequence, union, star, plus, optional, marked, repeated}
use Rattle.rx_lang.specs.Tables.{Tables}
use Rattle.rx_lang.specs.VectorWords.{node_tree}
use Rattle.rx_syntax.specs.declared.print.Piece.{Piece}
use Rattle.rx_syntax.specs.declared.print.Piece.TheVariants.{Node, Enclosed, Or, Then, Star, Plus, Optional, Mark, Bounds, Close}
use Rattle.rx_syntax.specs.Printed.{bounds_text, expr_text, is_compound, statement_text}

-- the text of the tree of this node
abbrev pub node_text : Tables → ℕ → List ℕ
node_text tables k = expr_text (map (λ s. s.name) tables.symbols) tables.outputs (node_tree tables k)

-- the statement of this keyword with the tree of this node
abbrev pub node_statement : Tables → List ℕ → ℕ → List ℕ
node_statement tables keyword root = statement_text (map (λ s. s.name) tables.symbols) tables.outputs keyword (node_tree tables root)

abbrev pub piece_text : Tables → Piece → List ℕ
piece_text tables (Node k) = node_text tables k
piece_text tables (Enclosed k) = codes "(" ++ (node_text tables k ++ codes ")")
piece_text tables Or = codes " | "
piece_text tables Then = codes " "
piece_text tables Star = codes "*"
piece_text tables Plus = codes "+"
piece_text tables Optional = codes "?"
piece_text tables (Mark y) = codes " !" ++ slice_index_or tables.outputs y []
piece_text tables (Bounds m n) = bounds_text m n
piece_text tables Close = codes ")"

-- the text of what waits, the last piece first
abbrev pub waiting_text : Tables → List Piece → List ℕ
waiting_text tables [] = []
waiting_text tables (piece ∷ pieces) = waiting_text tables pieces ++ piece_text tables piece

-- What the piece names is in the tables.
abbrev pub IsPiece : Tables → Piece → Type 0
IsPiece tables (Node k) = k < length tables.nodes
IsPiece tables (Enclosed k) = k < length tables.nodes
IsPiece tables Or = ⊤
IsPiece tables Then = ⊤
IsPiece tables Star = ⊤
IsPiece tables Plus = ⊤
IsPiece tables Optional = ⊤
IsPiece tables (Mark y) = y < length tables.outputs
IsPiece tables (Bounds m n) = ⊤
IsPiece tables Close = ⊤

abbrev pub ArePieces : Tables → List Piece → Type 0
ArePieces tables [] = ⊤
ArePieces tables (piece ∷ pieces) = IsPiece tables piece × ArePieces tables pieces

-- how many pieces an expression comes to, at most
abbrev pub tree_pieces : Expr → ℕ
tree_pieces (symbol s) = 1
tree_pieces (sequence f g) = tree_pieces f + tree_pieces g + 6
tree_pieces (union f g) = tree_pieces f + tree_pieces g + 6
tree_pieces (star f) = tree_pieces f + 4
tree_pieces (plus f) = tree_pieces f + 4
tree_pieces (optional f) = tree_pieces f + 4
tree_pieces (marked f y) = tree_pieces f + 4
tree_pieces (repeated f m n) = tree_pieces f + 4

abbrev pub count_of : Tables → Piece → ℕ
count_of tables (Node k) = tree_pieces (node_tree tables k)
count_of tables (Enclosed k) = tree_pieces (node_tree tables k) + 2
count_of tables Or = 1
count_of tables Then = 1
count_of tables Star = 1
count_of tables Plus = 1
count_of tables Optional = 1
count_of tables (Mark y) = 1
count_of tables (Bounds m n) = 1
count_of tables Close = 1

abbrev pub counts_of : Tables → List Piece → ℕ
counts_of tables [] = 0
counts_of tables (piece ∷ pieces) = counts_of tables pieces + count_of tables piece

-- The text and what waits are the old ones with this piece between, and fewer pieces are to come.
pub record Puts (tables : Tables) (piece : Piece) (text later : List ℕ) (stack stack_later : List Piece) : Type 0 where
  pub same : later ++ waiting_text tables stack_later ≡ text ++ (piece_text tables piece ++ waiting_text tables stack)
  pub pieces : ArePieces tables stack → ArePieces tables stack_later
  pub fewer : counts_of tables stack_later < counts_of tables stack + count_of tables piece

-- The expression waits before its sign, in parentheses where they are needed.
abbrev pub Stacked : Tables → ℕ → Piece → List Piece → List Piece → Type 0
Stacked tables inner sign stack later =
    later ≡ (stack ++ sign ∷ []) ++ (if is_compound (node_tree tables inner) then Enclosed inner else Node inner) ∷ []
