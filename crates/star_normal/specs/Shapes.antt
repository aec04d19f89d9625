-- What a normal form looks like: no loop over a part that spells the empty word, exact flags, leaves in order.
use Rattle.std.specs.Prelude.{◌≡◌, ℕ, ◌⊎◌, ◌+◌, Bool, true, false, if◌then◌else◌, IsTrue, Decides, [], length, Option, Some, None, ⊤}
use Rattle.rx_lang.specs.Expression.{Expr, symbol, sequence, union, star, plus, optional, marked, repeated}
use Rattle.star_normal.specs.Trees.{Flags, FlaggedTree, leaf, seq, alt, flags, leaves, TreeSpells}
use Rattle.star_normal.specs.Normal.{nullable}

-- a stripped sequence, from whether its parts spell the empty word, the parts, and the stripped parts
abbrev pub strip_sequence : Bool → Bool → Expr → Expr → Expr → Expr → Expr
strip_sequence true true f g sf sg = union sf sg
strip_sequence true false f g sf sg = sequence f sg
strip_sequence false true f g sf sg = sequence sf g
strip_sequence false false f g sf sg = sequence f g

-- The expression without the empty word and without its own loops, as it may stand below a loop. It is read on copies.
abbrev pub strip : Expr → Expr
strip (symbol s) = symbol s
strip (sequence f g) = strip_sequence (nullable f) (nullable g) f g (strip f) (strip g)
strip (union f g) = union (strip f) (strip g)
strip (star f) = strip f
strip (plus f) = strip f
strip (optional f) = strip f
strip (marked f y) = marked (strip f) y
strip (repeated f m n) = strip f

abbrev pub plus_if : Bool → Expr → Expr
plus_if true e = plus e
plus_if false e = e

abbrev pub optional_if : Bool → Expr → Expr
optional_if true e = optional e
optional_if false e = e

-- the expression of a node from its base: a loop, then the empty word
abbrev pub shaped : Flags → Expr → Expr
shaped f e = optional_if f.eps (plus_if f.loops e)

-- the expression of a tree, marks left aside
abbrev pub plain : FlaggedTree → Expr
plain (leaf f s) = shaped f (symbol s)
plain (seq f l r) = shaped f (sequence (plain l) (plain r))
plain (alt f l r) = shaped f (union (plain l) (plain r))

-- the base of the top node as an expression, marks left aside
abbrev pub base : FlaggedTree → Expr
base (leaf f s) = symbol s
base (seq f l r) = sequence (plain l) (plain r)
base (alt f l r) = union (plain l) (plain r)

-- where the top node loops, its base is its own strip
abbrev pub OwnStrip : Flags → Expr → Type 0
OwnStrip f e = IsTrue f.loops → strip e ≡ e

-- The base of every loop is its own strip.
abbrev pub AreStripped : FlaggedTree → Type 0
AreStripped (leaf f s) = OwnStrip f (symbol s)
AreStripped (seq f l r) = OwnStrip f (sequence (plain l) (plain r)) × AreStripped l × AreStripped r
AreStripped (alt f l r) = OwnStrip f (union (plain l) (plain r)) × AreStripped l × AreStripped r

-- At every node the flag of the empty word tells whether the node spells it.
abbrev pub IsExact : {X : Type 0} → (ℕ → X → Type 0) → FlaggedTree → Type 0
IsExact Is (leaf f s) = Decides f.eps (TreeSpells Is (leaf f s) [])
IsExact Is (seq f l r) = Decides f.eps (TreeSpells Is (seq f l r) []) × IsExact Is l × IsExact Is r
IsExact Is (alt f l r) = Decides f.eps (TreeSpells Is (alt f l r) []) × IsExact Is l × IsExact Is r

-- no counted repeat occurs
abbrev pub HasNoRepeat : Expr → Type 0
HasNoRepeat (symbol s) = ⊤
HasNoRepeat (sequence f g) = HasNoRepeat f × HasNoRepeat g
HasNoRepeat (union f g) = HasNoRepeat f × HasNoRepeat g
HasNoRepeat (star f) = HasNoRepeat f
HasNoRepeat (plus f) = HasNoRepeat f
HasNoRepeat (optional f) = HasNoRepeat f
HasNoRepeat (marked f y) = HasNoRepeat f
HasNoRepeat (repeated f m n) = ⊥

-- the number of nodes
abbrev pub size : FlaggedTree → ℕ
size (leaf f s) = 1
size (seq f l r) = size l + size r + 1
size (alt f l r) = size l + size r + 1

-- the tree with the numbers of its leaves for their symbols, counted from k from left to right
abbrev pub tree_numbered : ℕ → FlaggedTree → FlaggedTree
tree_numbered k (leaf f s) = leaf f k
tree_numbered k (seq f l r) = seq f (tree_numbered k l) (tree_numbered (k + length (leaves l)) r)
tree_numbered k (alt f l r) = alt f (tree_numbered k l) (tree_numbered (k + length (leaves l)) r)

-- no node scans
abbrev pub NeverScans : FlaggedTree → Type 0
NeverScans (leaf f s) = f.scan ≡ false
NeverScans (seq f l r) = (f.scan ≡ false) × NeverScans l × NeverScans r
NeverScans (alt f l r) = (f.scan ≡ false) × NeverScans l × NeverScans r

-- no node below the top scans
abbrev pub ScansAtTop : FlaggedTree → Type 0
ScansAtTop (leaf f s) = ⊤
ScansAtTop (seq f l r) = NeverScans l × NeverScans r
ScansAtTop (alt f l r) = NeverScans l × NeverScans r

-- no loop and no marks
pub record IsUnmarked (f : Flags) : Type 0 where
  pub loops : f.loops ≡ false
  pub marks : (y : ℕ) → f.marks y ≡ false
  pub eps_marks : (y : ℕ) → f.eps_marks y ≡ false

-- One node at most scans: the root, or the right part of a root that is a union, does not loop and bears no marks.
abbrev pub HasOneScan : FlaggedTree → Type 0
HasOneScan (leaf f s) = ⊤
HasOneScan (seq f l r) = NeverScans l × NeverScans r
HasOneScan (alt f l r) = NeverScans l × (NeverScans r ⊎ ((f.scan ≡ false) × IsUnmarked f × ScansAtTop r))

-- the scan node, where there is one
abbrev pub scan_part : FlaggedTree → Option FlaggedTree
scan_part (leaf f s) = if f.scan then Some (leaf f s) else None
scan_part (seq f l r) = if f.scan then Some (seq f l r) else None
scan_part (alt f l r) = if f.scan then Some (alt f l r) else if (flags r).scan then Some r else None

-- the rest of the tree beside it
abbrev pub rest_part : FlaggedTree → Option FlaggedTree
rest_part (leaf f s) = if f.scan then None else Some (leaf f s)
rest_part (seq f l r) = if f.scan then None else Some (seq f l r)
rest_part (alt f l r) = if f.scan then None else if (flags r).scan then Some l else Some (alt f l r)
