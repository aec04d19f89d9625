-- What is known of each expression of a table before its normal form is made: its signs, what stands below them, and whether
-- it spells the empty word.
use Rattle.std.specs.Prelude.{◌≡◌, ℕ, ◌<◌, ◌≤◌, ◌^◌, ◌-◌, ◌+◌, Bool, true, false, ◌&&◌, ◌||◌, ◌==◌, nat_lt, if◌then◌else◌, List, length, map, slice_get, slice_index_or, Some, ⊤}
use Rattle.rx_lang.specs.declared.expr_node.ExprNode.{ExprNode}
use Rattle.rx_lang.specs.declared.expr_node.ExprNode.TheVariants.{Leaf, Seq, Alt, Star, Plus, Opt, Mark, Repeat}
use Rattle.rx_lang.specs.Expression.{Expr, symbol, sequence, union, star, plus, optional, marked, repeated}
use Rattle.rx_lang.specs.Copies.{copies, copied}
use Rattle.rx_lang.specs.Tables.{trees, tree_at}
use Rattle.star_normal.specs.declared.outlines.Base.{Base}
use Rattle.star_normal.specs.declared.outlines.Base.TheVariants.{Leaf as LeafBase, Seq as SeqBase, Alt as AltBase, Repeat as RepeatBase}
use Rattle.star_normal.specs.declared.outlines.Outline.{Outline}
use Rattle.star_normal.specs.Normal.{nullable, normal}
use Rattle.star_normal.specs.Signs.{no_signs, kept, looped_signs, emptied_signs, marked_signs, adding}

-- the children of a node have numbers below this one
abbrev pub ChildrenBelow : ℕ → ExprNode → Type 0
ChildrenBelow n (Leaf s) = ⊤
ChildrenBelow n (Seq f g) = (f < n) × (g < n)
ChildrenBelow n (Alt f g) = (f < n) × (g < n)
ChildrenBelow n (Star f) = f < n
ChildrenBelow n (Plus f) = f < n
ChildrenBelow n (Opt f) = f < n
ChildrenBelow n (Mark f y) = f < n
ChildrenBelow n (Repeat f m k) = f < n

-- a mark names one of the 16 outputs, and a repeat is of at least one copy
abbrev pub NodeFits : ExprNode → Type 0
NodeFits (Leaf s) = ⊤
NodeFits (Seq f g) = ⊤
NodeFits (Alt f g) = ⊤
NodeFits (Star f) = ⊤
NodeFits (Plus f) = ⊤
NodeFits (Opt f) = ⊤
NodeFits (Mark f y) = y < 16
NodeFits (Repeat f m n) = (1 ≤ n) × (n < 2 ^ 8)

-- The nodes stand behind their children, and their numbers are small enough.
pub record AreFit (nodes : List ExprNode) : Type 0 where
  pub ordered : (k : ℕ) (node : ExprNode) → slice_get nodes k ≡ Some node → ChildrenBelow k node
  pub fits : (k : ℕ) (node : ExprNode) → slice_get nodes k ≡ Some node → NodeFits node

-- the steps of the pass

abbrev pub bare_outline : Base → Bool → Outline
bare_outline base e = record { base = base; signs = no_signs; nullable = e }

abbrev pub outline_at : List Outline → ℕ → Outline
outline_at outlines k = slice_index_or outlines k (bare_outline (LeafBase 0) false)

abbrev pub null_at : List Outline → ℕ → Bool
null_at outlines k = (outline_at outlines k).nullable

abbrev pub looped_outline : Outline → Bool → Outline
looped_outline o e = record { base = o.base; signs = looped_signs e o.signs; nullable = e }

abbrev pub opted_outline : Outline → Outline
opted_outline o = record { base = o.base; signs = emptied_signs o.signs; nullable = true }

abbrev pub marked_outline : Outline → ℕ → Outline
marked_outline o y = record { base = o.base; signs = marked_signs y o.nullable o.signs; nullable = o.nullable }

abbrev pub repeated_outline : Outline → ℕ → ℕ → ℕ → Outline
repeated_outline o f m n =
    if nat_lt 1 n then bare_outline (RepeatBase f m (n - 1)) (m == 0 || o.nullable) else if m == 0 then opted_outline o else o

abbrev pub outline_of : List Outline → ExprNode → Outline
outline_of before (Leaf s) = bare_outline (LeafBase s) false
outline_of before (Seq f g) = bare_outline (SeqBase f g) (null_at before f && null_at before g)
outline_of before (Alt f g) = bare_outline (AltBase f g) (null_at before f || null_at before g)
outline_of before (Star f) = looped_outline (outline_at before f) true
outline_of before (Plus f) = looped_outline (outline_at before f) (null_at before f)
outline_of before (Opt f) = opted_outline (outline_at before f)
outline_of before (Mark f y) = marked_outline (outline_at before f) y
outline_of before (Repeat f m n) = repeated_outline (outline_at before f) f m n

-- what it finds

-- the expressions of a table, with copies in place of counted repeats
abbrev pub copied_trees : List ExprNode → List Expr
copied_trees nodes = map copied (trees nodes)

-- a measure of an expression: it falls at each step of the labelling
abbrev pub weight : Expr → ℕ
weight (symbol s) = 1
weight (sequence f g) = weight f + weight g + 3
weight (union f g) = weight f + weight g + 3
weight (star f) = weight f + 1
weight (plus f) = weight f + 1
weight (optional f) = weight f + 1
weight (marked f y) = weight f + 1
weight (repeated f m n) = weight f + 1

-- the children of a base have numbers below this one, and a repeat has further copies
abbrev pub BaseBelow : ℕ → Base → Type 0
BaseBelow k (LeafBase s) = ⊤
BaseBelow k (SeqBase f g) = (f < k) × (g < k)
BaseBelow k (AltBase f g) = (f < k) × (g < k)
BaseBelow k (RepeatBase f m n) = (f < k) × (1 ≤ n)

module _ (ts : List Expr) where
  -- the expression below the signs
  abbrev pub base_expr : Base → Expr
  base_expr (LeafBase s) = symbol s
  base_expr (SeqBase f g) = sequence (tree_at ts f) (tree_at ts g)
  base_expr (AltBase f g) = union (tree_at ts f) (tree_at ts g)
  base_expr (RepeatBase f m n) = copies m n (tree_at ts f)

  -- the outline is that of this expression, whose children have numbers below k
  pub record IsOutline (k : ℕ) (e : Expr) (o : Outline) : Type 0 where
    pub below : BaseBelow k o.base
    pub same : (under : Bool) → normal under e ≡ adding (kept under o.signs) (normal (under || o.signs.loops) (base_expr o.base))
    pub null : o.nullable ≡ nullable e
    pub light : weight (base_expr o.base) ≤ weight e

  -- the outlines of the first n expressions
  pub record AreOutlines (n : ℕ) (outlines : List Outline) : Type 0 where
    pub size : length outlines ≡ n
    pub each : (k : ℕ) → k < n → IsOutline k (tree_at ts k) (outline_at outlines k)

-- the children of each base are among the expressions
abbrev pub AreClosed : List Outline → Type 0
AreClosed outlines = (k : ℕ) → k < length outlines → BaseBelow k (outline_at outlines k).base
