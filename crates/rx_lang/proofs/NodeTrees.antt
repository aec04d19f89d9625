-- The tree of a node is made of the trees of its children.
use Rattle.std.proofs.Common.{◌≡◌, ◌∙◌, ℕ, zero, suc, ◌+◌, ◌<◌, List, [], ◌∷◌, ◌++◌, length, Some, slice_get, All, fold, refl, sym, ap, subst, arith, length-append}
use Rattle.std.proofs.lemmas.List.{get_or_append_left}
use Rattle.std.proofs.Math.Seq.{get_or-append_seam}
use Rattle.rx_lang.specs.declared.expr_node.ExprNode.{ExprNode}
use Rattle.rx_lang.specs.declared.expr_node.ExprNode.TheVariants.{Leaf, Seq, Alt, Star, Plus, Opt, Mark, Repeat}
use Rattle.rx_lang.specs.Expression.{Expr, symbol, star, plus, optional, marked, repeated}
use Rattle.rx_lang.specs.Tables.{children, tree_at, tree_of, trees}

abbrev grown : List Expr → List ExprNode → List Expr
grown before nodes = fold (λ made node. made ++ tree_of made node ∷ []) before nodes

-- the trees that are made stay
kept : (nodes : List ExprNode) (before : List Expr) (k : ℕ) → k < length before → tree_at (grown before nodes) k ≡ tree_at before k
kept [] before k h = refl
kept (node ∷ nodes) before k h =
    let longer : k < length (before ++ tree_of before node ∷ []) = omega (arith, length-append before (tree_of before node ∷ [])) in
    kept nodes (before ++ tree_of before node ∷ []) k longer ∙ get_or_append_left before (tree_of before node ∷ []) (symbol 0) k h

-- a node's tree depends on its children's trees alone
same_children : (some other : List Expr) (n : ℕ) (node : ExprNode) → All (λ child. child < n) (children node)
    → ((k : ℕ) → k < n → tree_at some k ≡ tree_at other k) → tree_of some node ≡ tree_of other node
same_children some other n (Leaf s) h e = refl
same_children some other n (Seq f g) h e = let a = e f (h 0 0 (omega arith)) in let b = e g (h 1 0 (omega arith)) in cc
same_children some other n (Alt f g) h e = let a = e f (h 0 0 (omega arith)) in let b = e g (h 1 0 (omega arith)) in cc
same_children some other n (Star f) h e = ap star (e f (h 0 0 (omega arith)))
same_children some other n (Plus f) h e = ap plus (e f (h 0 0 (omega arith)))
same_children some other n (Opt f) h e = ap optional (e f (h 0 0 (omega arith)))
same_children some other n (Mark f y) h e = ap (λ t. marked t y) (e f (h 0 0 (omega arith)))
same_children some other n (Repeat f m k) h e = ap (λ t. repeated t m k) (e f (h 0 0 (omega arith)))

here : (nodes : List ExprNode) (before : List Expr) (node : ExprNode) → All (λ child. child < length before) (children node)
    → tree_at (grown before (node ∷ nodes)) (length before) ≡ tree_of (grown before (node ∷ nodes)) node
here nodes before node h =
    let longer : length before < length (before ++ tree_of before node ∷ []) = omega (arith, length-append before (tree_of before node ∷ [])) in
    kept nodes (before ++ tree_of before node ∷ []) (length before) longer
    ∙ get_or-append_seam before (tree_of before node) [] (symbol 0)
    ∙ same_children before (grown before (node ∷ nodes)) (length before) node h (λ k lt. sym (kept (node ∷ nodes) before k lt))

made_at : (nodes : List ExprNode) (before : List Expr) (k n : ℕ) (node : ExprNode) → length before + k ≡ n → slice_get nodes k ≡ Some node
    → All (λ child. child < n) (children node) → tree_at (grown before nodes) n ≡ tree_of (grown before nodes) node
made_at [] before k n node e get h = cc
made_at (first ∷ nodes) before zero n node e get h =
    let same : first ≡ node = cc in
    let at : length before ≡ n = omega arith in
    subst (λ m. tree_at (grown before (first ∷ nodes)) m ≡ tree_of (grown before (first ∷ nodes)) node) at
    (subst (λ x. tree_at (grown before (first ∷ nodes)) (length before) ≡ tree_of (grown before (first ∷ nodes)) x) same
    (here nodes before first (rw (same, at) h)))
made_at (first ∷ nodes) before (suc k) n node e get h =
    made_at nodes (before ++ tree_of before first ∷ []) k n node (omega (arith, length-append before (tree_of before first ∷ []))) get h

pub node_made : (nodes : List ExprNode) (k : ℕ) (node : ExprNode) → slice_get nodes k ≡ Some node → All (λ child. child < k) (children node)
    → tree_at (trees nodes) k ≡ tree_of (trees nodes) node
node_made nodes k node get h = made_at nodes [] k k node (omega arith) get h
