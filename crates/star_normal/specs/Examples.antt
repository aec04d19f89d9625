-- Expressions and their normal forms, and a table of nodes.
use Rattle.std.specs.Prelude.{true, false, List, [], ◌∷◌}
use Rattle.rx_lang.specs.Expression.{Expr, symbol, sequence, union, star, plus, optional, marked, repeated}
use Rattle.star_normal.specs.declared.node.Node.{Node}
use Rattle.star_normal.specs.declared.node.NodeKind.TheVariants.{Leaf, Seq, Alt}
use Rattle.star_normal.specs.Trees.{FlaggedTree, leaf, seq, alt}
use Rattle.star_normal.specs.Normal.{bare, held, looped, emptied, marking, united}
use Rattle.star_normal.specs.Tables.{plain_node}

abbrev pub a : Expr
a = symbol 0

abbrev pub b : Expr
b = symbol 1

abbrev pub c : Expr
c = symbol 2

-- an expression with its normal form
pub record Row : Type 0 where
  pub expr : Expr
  pub form : FlaggedTree

abbrev pub row : Expr → FlaggedTree → Row
row e t = record { expr = e; form = t }

-- a, a b, a|b, a*, a+, a?, a? b?
abbrev pub plain_rows : List Row
plain_rows = row a (leaf bare 0)
    ∷ row (sequence a b) (seq bare (leaf bare 0) (leaf bare 1))
    ∷ row (union a b) (alt bare (leaf bare 0) (leaf bare 1))
    ∷ row (star a) (leaf (looped true bare) 0)
    ∷ row (plus a) (leaf (looped false bare) 0)
    ∷ row (optional a) (leaf (emptied bare) 0)
    ∷ row (sequence (optional a) (optional b)) (seq (held true) (leaf (emptied bare) 0) (leaf (emptied bare) 1))
    ∷ []

-- (a*)*, (a+)?, (a?)+, (a? b?)*, (a? b)*, (a b?)*, (a* b)+, (a+ b)*, (a* b*)*, ((a? b?)? | c)+
abbrev pub loop_rows : List Row
loop_rows = row (star (star a)) (leaf (looped true bare) 0)
    ∷ row (optional (plus a)) (leaf (emptied (looped false bare)) 0)
    ∷ row (plus (optional a)) (leaf (looped true bare) 0)
    ∷ row (star (sequence (optional a) (optional b))) (alt (looped true bare) (leaf bare 0) (leaf bare 1))
    ∷ row (star (sequence (optional a) b)) (seq (looped true bare) (leaf (emptied bare) 0) (leaf bare 1))
    ∷ row (star (sequence a (optional b))) (seq (looped true bare) (leaf bare 0) (leaf (emptied bare) 1))
    ∷ row (plus (sequence (star a) b)) (seq (looped false bare) (leaf (looped true bare) 0) (leaf bare 1))
    ∷ row (star (sequence (plus a) b)) (seq (looped true bare) (leaf (looped false bare) 0) (leaf bare 1))
    ∷ row (star (sequence (star a) (star b))) (alt (looped true bare) (leaf bare 0) (leaf bare 1))
    ∷ row (plus (union (optional (sequence (optional a) (optional b))) c)) (alt (looped true bare) (alt bare (leaf bare 0) (leaf bare 1)) (leaf bare 2))
    ∷ []

-- (a !y)*, a* !y, (a? !y)*, (a* !y)* !z, ((a !y)* (b !z)*)*, (a* !y b*)*, ((a*)* | b?)+ !y, and the union of a !y, b and c
abbrev pub marked_rows : List Row
marked_rows = row (star (marked a 0)) (leaf (looped true (marking 0 false bare)) 0)
    ∷ row (marked (star a) 0) (leaf (marking 0 true (looped true bare)) 0)
    ∷ row (star (marked (optional a) 0)) (leaf (looped true (marking 0 true bare)) 0)
    ∷ row (marked (star (marked (star a) 0)) 1) (leaf (marking 1 true (looped true (marking 0 true bare))) 0)
    ∷ row (star (sequence (star (marked a 0)) (star (marked b 1)))) (alt (looped true bare) (leaf (marking 0 false bare) 0) (leaf (marking 1 false bare) 1))
    ∷ row (star (sequence (marked (star a) 0) (star b))) (alt (looped true bare) (leaf (marking 0 true bare) 0) (leaf bare 1))
    ∷ row (marked (plus (union (star (star a)) (optional b))) 0) (alt (marking 0 true (looped true bare)) (leaf bare 0) (leaf bare 1))
    ∷ row (united (marked a 0) (b ∷ c ∷ [])) (alt bare (alt bare (leaf (marking 0 false bare) 0) (leaf bare 1)) (leaf bare 2))
    ∷ []

-- a{1,1}, a{0,1}, a{2,3}, a{0,2}, (a?){2,2}, (a{0,2})*, ((a !y){1,2})*
abbrev pub repeat_rows : List Row
repeat_rows = row (repeated a 1 1) (leaf bare 0)
    ∷ row (repeated a 0 1) (leaf (emptied bare) 0)
    ∷ row (repeated a 2 3) (seq bare (leaf bare 0) (seq bare (leaf bare 0) (leaf (emptied bare) 0)))
    ∷ row (repeated a 0 2) (seq (emptied bare) (leaf bare 0) (leaf (emptied bare) 0))
    ∷ row (repeated (optional a) 2 2) (seq (held true) (leaf (emptied bare) 0) (leaf (emptied bare) 0))
    ∷ row (star (repeated a 0 2)) (seq (looped true bare) (leaf bare 0) (leaf (emptied bare) 0))
    ∷ row (star (repeated (marked a 0) 1 2)) (seq (looped true bare) (leaf (marking 0 false bare) 0) (leaf (marking 0 false (emptied bare)) 0))
    ∷ []

-- the nodes of (a b | c) | a, where the last node but one is the second a
abbrev pub weighed_nodes : List Node
weighed_nodes = plain_node (Leaf 0) false
    ∷ plain_node (Leaf 1) false
    ∷ plain_node (Seq 0 1) false
    ∷ plain_node (Leaf 2) false
    ∷ plain_node (Alt 2 3) false
    ∷ plain_node (Leaf 0) false
    ∷ plain_node (Alt 4 5) false
    ∷ []
