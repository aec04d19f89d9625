-- The trees of a specification have counted repeats within their bounds.
use Rattle.std.proofs.Common.{ℕ, zero, suc, List, [], ◌∷◌, ◌++◌, All, fold, arith}
use Rattle.rx_lang.specs.declared.expr_node.ExprNode.{ExprNode}
use Rattle.rx_lang.specs.declared.expr_node.ExprNode.TheVariants.{Leaf, Seq, Alt, Star, Plus, Opt, Mark, Repeat}
use Rattle.rx_lang.specs.Expression.{Expr}
use Rattle.rx_lang.specs.Copies.{IsBounded}
use Rattle.rx_lang.specs.Tables.{Tables, IsSpecification, HasBounds, tree_at, tree_of, trees}

abbrev AllBounded : List Expr → Type 0
AllBounded made = (k : ℕ) → IsBounded (tree_at made k)

node_bounded : (made : List Expr) (node : ExprNode) → AllBounded made → HasBounds node → IsBounded (tree_of made node)
node_bounded made (Leaf s) all h = tt
node_bounded made (Seq f g) all h = (all f, all g)
node_bounded made (Alt f g) all h = (all f, all g)
node_bounded made (Star f) all h = all f
node_bounded made (Plus f) all h = all f
node_bounded made (Opt f) all h = all f
node_bounded made (Mark f y) all h = all f
node_bounded made (Repeat f m n) all h = (h.0, h.1, h.2, all f)

one_more : (made : List Expr) (e : Expr) → AllBounded made → IsBounded e → AllBounded (made ++ (e ∷ []))
one_more [] e all h zero = h
one_more [] e all h (suc k) = tt
one_more (d ∷ made) e all h zero = all 0
one_more (d ∷ made) e all h (suc k) = one_more made e (λ j. all (suc j)) h k

grown_bounded : (nodes : List ExprNode) (made : List Expr) → All HasBounds nodes → AllBounded made
    → AllBounded (fold (λ before node. before ++ tree_of before node ∷ []) made nodes)
grown_bounded [] made bounds all = all
grown_bounded (node ∷ nodes) made bounds all =
    grown_bounded nodes (made ++ (tree_of made node ∷ [])) (λ k d lt. bounds (suc k) d (omega arith))
    (one_more made (tree_of made node) all (node_bounded made node all (bounds 0 node (omega arith))))

pub trees_bounded : (tables : Tables) (k : ℕ) → IsSpecification tables → IsBounded (tree_at (trees tables.nodes) k)
trees_bounded tables k is = grown_bounded tables.nodes [] is.bounds (λ j. tt) k
