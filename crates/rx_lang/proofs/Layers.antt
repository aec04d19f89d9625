-- What the outermost layer of a node says of its tree.
use Rattle.std.proofs.Common.{◌≡◌, ◌≢◌, ℕ, zero, suc, ◌<◌, ◌≤◌, true, false, List, length, get_or, Some, slice_get, All, refl, sym, subst, inl, inr, arith}
use Rattle.std.proofs.lemmas.Option.{slice_get-get_or}
use Rattle.rx_lang.specs.declared.expr_node.ExprNode.{ExprNode}
use Rattle.rx_lang.specs.declared.wrapped.Core.TheVariants.{Symbol, Sequence, Union, Repeat}
use Rattle.rx_lang.specs.declared.wrapped.Layer.{Layer}
use Rattle.rx_lang.specs.declared.wrapped.Layer.TheVariants.{Plain, Sign, Marked}
use Rattle.rx_lang.specs.Expression.{Expr, star, plus, optional, marked, repeated}
use Rattle.rx_lang.specs.Tables.{Tables, HasBounds, IsSpecification, NamesEntries, children, tree_of, trees}
use Rattle.rx_lang.specs.Specification.{MatchesSymbol}
use Rattle.rx_lang.specs.VectorWords.{node_tree}
use Rattle.rx_lang.specs.Wrapped.{HasEntries, IsLayer, above, core_tree, wrap}
use Rattle.rx_lang.proofs.Alike.{Alike, alike_itself}
use Rattle.rx_lang.proofs.Copying.{once_alike}
use Rattle.rx_lang.proofs.NodeTrees.{node_made}

-- What the layer says of the tree of a node.
abbrev pub IsTreeOf : Tables → Expr → Layer → Type 0
IsTreeOf tables e (Plain c) = e ≡ core_tree tables c
IsTreeOf tables e (Sign f l o) = Alike (MatchesSymbol tables.symbols) e (wrap l o (node_tree tables f))
IsTreeOf tables e (Marked f y) = e ≡ marked (node_tree tables f) y

abbrev pub IsBelow : Tables → ℕ → Layer → Type 0
IsBelow tables k (Plain c) = HasEntries tables c × (above c ≤ k)
IsBelow tables k (Sign f l e) = f < k
IsBelow tables k (Marked f y) = f < k

once_is : (tables : Tables) (f m : ℕ) → m ≢ 0 → m ≤ 1
    → Alike (MatchesSymbol tables.symbols) (repeated (node_tree tables f) m 1) (node_tree tables f)
once_is tables f zero some few = absurd (some refl)
once_is tables f (suc m) some few = once_alike (MatchesSymbol tables.symbols) (node_tree tables f) (suc m) few

of_layer : (tables : Tables) (top : ExprNode) (layer : Layer) → HasBounds top → IsLayer top layer → IsTreeOf tables (tree_of (trees tables.nodes) top) layer
of_layer tables top (Plain (Symbol s)) h e = rw e refl
of_layer tables top (Plain (Sequence f g)) h e = rw e refl
of_layer tables top (Plain (Union f g)) h e = rw e refl
of_layer tables top (Plain (Repeat f m n)) h e = rw e refl
of_layer tables top (Sign f true true) h e = rw e (alike_itself (MatchesSymbol tables.symbols) (star (node_tree tables f)))
of_layer tables top (Sign f true false) h e = rw e (alike_itself (MatchesSymbol tables.symbols) (plus (node_tree tables f)))
of_layer tables top (Sign f false true) h (inl e) = rw e (alike_itself (MatchesSymbol tables.symbols) (optional (node_tree tables f)))
of_layer tables top (Sign f false true) h (inr e) = rw e (once_alike (MatchesSymbol tables.symbols) (node_tree tables f) 0 (omega arith))
of_layer tables top (Sign f false false) h k =
    let e = k.2 in
    rw e (once_is tables f k.0 k.1 (rw e at h).0)
of_layer tables top (Marked f y) h e = rw e refl

below_of : (tables : Tables) (k : ℕ) (node : ExprNode) (layer : Layer) → k < length tables.nodes → All (λ child. child < k) (children node)
    → NamesEntries tables node → IsLayer node layer → IsBelow tables k layer
below_of tables k node (Plain (Symbol s)) lt h n e = (rw e at n, omega arith)
below_of tables k node (Plain (Sequence f g)) lt h n e =
    let first : f < k = (rw e at h) 0 0 (omega arith) in
    let second : g < k = (rw e at h) 1 0 (omega arith) in
    ((omega arith, omega arith), omega arith)
below_of tables k node (Plain (Union f g)) lt h n e =
    let first : f < k = (rw e at h) 0 0 (omega arith) in
    let second : g < k = (rw e at h) 1 0 (omega arith) in
    ((omega arith, omega arith), omega arith)
below_of tables k node (Plain (Repeat f m most)) lt h n e =
    let operand : f < k = (rw e at h) 0 0 (omega arith) in
    (omega arith, omega arith)
below_of tables k node (Sign f true true) lt h n e = (rw e at h) 0 0 (omega arith)
below_of tables k node (Sign f true false) lt h n e = (rw e at h) 0 0 (omega arith)
below_of tables k node (Sign f false true) lt h n (inl e) = (rw e at h) 0 0 (omega arith)
below_of tables k node (Sign f false true) lt h n (inr e) = (rw e at h) 0 0 (omega arith)
below_of tables k node (Sign f false false) lt h n e = let same = e.2 in (rw same at h) 0 0 (omega arith)
below_of tables k node (Marked f y) lt h n e = (rw e at h) 0 0 (omega arith)

module _ (tables : Tables) (is : IsSpecification tables) (nodes : List ExprNode) (same : nodes ≡ tables.nodes) (k : ℕ) (d : ExprNode)
    (layer : Layer) (lt : k < length tables.nodes) (e : IsLayer (get_or nodes k d) layer) where
  layered : IsLayer (get_or tables.nodes k d) layer
  layered = subst (λ ns. IsLayer (get_or ns k d) layer) same e

  found : slice_get tables.nodes k ≡ Some (get_or tables.nodes k d)
  found = slice_get-get_or tables.nodes k d lt

  pub layer_below : IsBelow tables k layer
  layer_below =
      below_of tables k (get_or tables.nodes k d) layer lt (is.children_before k (get_or tables.nodes k d) found) (is.named_entries k d lt) layered

  pub layer_made : IsTreeOf tables (node_tree tables k) layer
  layer_made =
      subst (λ e. IsTreeOf tables e layer)
      (sym (node_made tables.nodes k (get_or tables.nodes k d) found (is.children_before k (get_or tables.nodes k d) found)))
      (of_layer tables (get_or tables.nodes k d) layer (is.bounds k d lt) layered)
