-- Pieces of expressions, and the stack on which they wait.
use Rattle.std.proofs.Common.{◌≡◌, ◌∙◌, ℕ, ◌+◌, ◌<◌, ◌≤◌, Bool, true, false, List, [], ◌∷◌, ◌++◌, length, get_or, Some, slice_get, All, codes, if◌then◌else◌, refl, sym, ap, subst, arith, append_assoc, append-nil}
use Rattle.std.proofs.lemmas.Option.{slice_get-get_or}
use Rattle.rx_lang.specs.declared.expr_node.ExprNode.{ExprNode}
use Rattle.rx_lang.specs.Expression.{sequence, union}
use Rattle.rx_lang.specs.Tables.{Tables, IsSpecification, NamesEntries, children, tree_of, trees}
use Rattle.rx_lang.specs.VectorWords.{node_tree}
use Rattle.rx_lang.specs.Laws.{TreesAreMade}
use Rattle.rx_syntax.specs.declared.print.Piece.{Piece}
use Rattle.rx_syntax.specs.declared.print.Piece.TheVariants.{Close, Enclosed, Node, Or, Then}
use Rattle.rx_syntax.specs.Printed.{enclosed, is_compound, is_union}
use Rattle.rx_syntax.specs.Pieces.{ArePieces, IsPiece, Puts, count_of, counts_of, node_text, piece_text, tree_pieces, waiting_text}

-- the tree of a node, made of its children's trees
pub tree_read : TreesAreMade → (tables : Tables) → IsSpecification tables → (nodes : List ExprNode) → nodes ≡ tables.nodes → (k : ℕ) (d : ExprNode)
    → k < length tables.nodes → node_tree tables k ≡ tree_of (trees tables.nodes) (get_or nodes k d)
tree_read made tables is nodes same k d lt =
    let found : slice_get tables.nodes k ≡ Some (get_or tables.nodes k d) = slice_get-get_or tables.nodes k d lt in
    made tables.nodes k (get_or tables.nodes k d) found (is.children_before k (get_or tables.nodes k d) found)
    ∙ ap (λ ns. tree_of (trees tables.nodes) (get_or ns k d)) (sym same)

module _ (tables : Tables) where
  pub waiting_push : (stack : List Piece) (piece : Piece) → waiting_text tables (stack ++ piece ∷ []) ≡ piece_text tables piece ++ waiting_text tables stack
  waiting_push [] piece = sym (append-nil (piece_text tables piece))
  waiting_push (first ∷ stack) piece =
      ap (λ t. t ++ piece_text tables first) (waiting_push stack piece)
      ∙ append_assoc (piece_text tables piece) (waiting_text tables stack) (piece_text tables first)

  pub pieces_push : (stack : List Piece) (piece : Piece) → ArePieces tables stack → IsPiece tables piece → ArePieces tables (stack ++ piece ∷ [])
  pieces_push [] piece h p = (p, tt)
  pieces_push (first ∷ stack) piece h p = (h.0, pieces_push stack piece h.1 p)

  pub pieces_pop : (stack : List Piece) (piece : Piece) → ArePieces tables (stack ++ piece ∷ []) → ArePieces tables stack × IsPiece tables piece
  pieces_pop [] piece h = (tt, h.0)
  pieces_pop (first ∷ stack) piece h = let rest = pieces_pop stack piece h.1 in ((h.0, rest.0), rest.1)

  pub counts_push : (stack : List Piece) (piece : Piece) → counts_of tables (stack ++ piece ∷ []) ≡ counts_of tables stack + count_of tables piece
  counts_push [] piece = refl
  counts_push (first ∷ stack) piece = omega (arith, counts_push stack piece)

  abbrev pub piece_if : Bool → ℕ → Piece
  piece_if needed k = if needed then Enclosed k else Node k

  pub text_if : (needed : Bool) (k : ℕ) → piece_text tables (piece_if needed k) ≡ enclosed needed (node_text tables k)
  text_if true k = refl
  text_if false k = refl

  pub is_if : (needed : Bool) (k : ℕ) → k < length tables.nodes → IsPiece tables (piece_if needed k)
  is_if true k h = h
  is_if false k h = h

  pub count_if : (needed : Bool) (k : ℕ) → count_of tables (piece_if needed k) ≤ count_of tables (Node k) + 2
  count_if true k = omega arith
  count_if false k = omega arith

-- What the tables say of a node that was read.
module _ (tables : Tables) (is : IsSpecification tables) (nodes : List ExprNode) (same : nodes ≡ tables.nodes) (k : ℕ) (d node : ExprNode)
    (lt : k < length tables.nodes) (read : get_or nodes k d ≡ node) where
  at_node : get_or tables.nodes k d ≡ node
  at_node = ap (λ ns. get_or ns k d) (sym same) ∙ read

  pub tree_is : TreesAreMade → node_tree tables k ≡ tree_of (trees tables.nodes) node
  tree_is made = tree_read made tables is nodes same k d lt ∙ ap (tree_of (trees tables.nodes)) read

  pub children_in : All (λ child. child < length tables.nodes) (children node)
  children_in i e within =
      let before = is.children_before k node (slice_get-get_or tables.nodes k d lt ∙ ap Some at_node) i e within in omega arith

  pub names_in : NamesEntries tables node
  names_in = subst (NamesEntries tables) at_node (is.named_entries k d lt)

-- the pieces of a node in place of it
module _ (tables : Tables) (k : ℕ) (text : List ℕ) (stack : List Piece) where
  pub puts_sequence : (f g : ℕ) → node_tree tables k ≡ sequence (node_tree tables f) (node_tree tables g) → f < length tables.nodes → g < length tables.nodes
      → Puts tables (Node k) text text stack
      (((stack ++ piece_if tables (is_compound (node_tree tables g)) g ∷ []) ++ Then ∷ []) ++ piece_if tables (is_union (node_tree tables f)) f ∷ [])
  puts_sequence f g e inf ing =
      let second = piece_if tables (is_compound (node_tree tables g)) g in
      let first = piece_if tables (is_union (node_tree tables f)) f in
      record {
        same = ap (λ t. text ++ t) (
            waiting_push tables ((stack ++ second ∷ []) ++ Then ∷ []) first
            ∙ ap (λ t. piece_text tables first ++ t) (waiting_push tables (stack ++ second ∷ []) Then ∙ ap (λ t. codes " " ++ t) (waiting_push tables stack second))
            ∙ rw (text_if tables (is_compound (node_tree tables g)) g, text_if tables (is_union (node_tree tables f)) f, e) (simp append_assoc));
        pieces = λ h. pieces_push tables ((stack ++ second ∷ []) ++ Then ∷ []) first
            (pieces_push tables (stack ++ second ∷ []) Then (pieces_push tables stack second h (is_if tables (is_compound (node_tree tables g)) g ing)) tt)
            (is_if tables (is_union (node_tree tables f)) f inf);
        fewer = rw e (omega (
          arith,
          counts_push tables ((stack ++ second ∷ []) ++ Then ∷ []) first,
          counts_push tables (stack ++ second ∷ []) Then,
          counts_push tables stack second,
          count_if tables (is_compound (node_tree tables g)) g,
          count_if tables (is_union (node_tree tables f)) f,
        ));
      }

  pub puts_union : (f g : ℕ) → node_tree tables k ≡ union (node_tree tables f) (node_tree tables g) → f < length tables.nodes → g < length tables.nodes
      → Puts tables (Node k) text text stack
      (((stack ++ piece_if tables (is_union (node_tree tables g)) g ∷ []) ++ Or ∷ []) ++ Node f ∷ [])
  puts_union f g e inf ing =
      let second = piece_if tables (is_union (node_tree tables g)) g in
      record {
        same = ap (λ t. text ++ t) (
            waiting_push tables ((stack ++ second ∷ []) ++ Or ∷ []) (Node f)
            ∙ ap (λ t. piece_text tables (Node f) ++ t) (waiting_push tables (stack ++ second ∷ []) Or ∙ ap (λ t. codes " | " ++ t) (waiting_push tables stack second))
            ∙ rw (text_if tables (is_union (node_tree tables g)) g, e) (simp append_assoc));
        pieces = λ h. pieces_push tables ((stack ++ second ∷ []) ++ Or ∷ []) (Node f)
            (pieces_push tables (stack ++ second ∷ []) Or (pieces_push tables stack second h (is_if tables (is_union (node_tree tables g)) g ing)) tt)
            inf;
        fewer = rw e (omega (
          arith,
          counts_push tables ((stack ++ second ∷ []) ++ Or ∷ []) (Node f),
          counts_push tables (stack ++ second ∷ []) Or,
          counts_push tables stack second,
          count_if tables (is_union (node_tree tables g)) g,
        ));
      }

  pub puts_signed : (f : ℕ) (sign : Piece) → node_text tables k ≡ enclosed (is_compound (node_tree tables f)) (node_text tables f) ++ piece_text tables sign
      → tree_pieces (node_tree tables k) ≡ tree_pieces (node_tree tables f) + 4 → count_of tables sign ≡ 1 → IsPiece tables sign → f < length tables.nodes
      → Puts tables (Node k) text text stack ((stack ++ sign ∷ []) ++ piece_if tables (is_compound (node_tree tables f)) f ∷ [])
  puts_signed f sign e size one is inf =
      let inner = piece_if tables (is_compound (node_tree tables f)) f in
      record {
        same = ap (λ t. text ++ t) (
            waiting_push tables (stack ++ sign ∷ []) inner
            ∙ ap (λ t. piece_text tables inner ++ t) (waiting_push tables stack sign)
            ∙ ap (λ t. t ++ (piece_text tables sign ++ waiting_text tables stack)) (text_if tables (is_compound (node_tree tables f)) f)
            ∙ sym (append_assoc (enclosed (is_compound (node_tree tables f)) (node_text tables f)) (piece_text tables sign) (waiting_text tables stack))
            ∙ ap (λ t. t ++ waiting_text tables stack) (sym e));
        pieces = λ h. pieces_push tables (stack ++ sign ∷ []) inner (pieces_push tables stack sign h is) (is_if tables (is_compound (node_tree tables f)) f inf);
        fewer = omega (
          arith,
          size,
          one,
          counts_push tables (stack ++ sign ∷ []) inner,
          counts_push tables stack sign,
          count_if tables (is_compound (node_tree tables f)) f,
        );
      }

-- a piece that is printed at once
pub puts_text : (tables : Tables) (piece : Piece) (text bytes : List ℕ) (stack : List Piece) → piece_text tables piece ≡ bytes → 0 < count_of tables piece
    → Puts tables piece text (text ++ bytes) stack stack
puts_text tables piece text bytes stack e some = record {
  same = append_assoc text bytes (waiting_text tables stack) ∙ ap (λ t. text ++ (t ++ waiting_text tables stack)) (sym e);
  pieces = λ h. h;
  fewer = omega arith;
}

-- an expression in parentheses, of which the first is printed at once
pub puts_enclosed : (tables : Tables) (k : ℕ) (text : List ℕ) (stack : List Piece) → k < length tables.nodes
    → Puts tables (Enclosed k) text (text ++ codes "(") stack ((stack ++ Close ∷ []) ++ Node k ∷ [])
puts_enclosed tables k text stack lt = record {
  same =
      ap (λ t. (text ++ codes "(") ++ t) (waiting_push tables (stack ++ Close ∷ []) (Node k)
      ∙ ap (λ t. piece_text tables (Node k) ++ t) (waiting_push tables stack Close))
      ∙ simp append_assoc;
  pieces = λ h. pieces_push tables (stack ++ Close ∷ []) (Node k) (pieces_push tables stack Close h tt) lt;
  fewer = omega (arith, counts_push tables (stack ++ Close ∷ []) (Node k), counts_push tables stack Close);
}
