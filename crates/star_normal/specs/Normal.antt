-- The normal form of an expression: below a loop each part loses the empty word and its own loops.
use Rattle.std.specs.Prelude.{ℕ, Bool, true, false, not, ◌&&◌, ◌||◌, ◌==◌, List, [], ◌∷◌, fold}
use Rattle.rx_lang.specs.Expression.{Expr, symbol, sequence, union, star, plus, optional, marked, repeated}
use Rattle.star_normal.specs.Trees.{Flags, FlaggedTree, leaf, seq, alt, flags}

-- the expression spells the empty word
abbrev pub nullable : Expr → Bool
nullable (symbol s) = false
nullable (sequence f g) = nullable f && nullable g
nullable (union f g) = nullable f || nullable g
nullable (star f) = true
nullable (plus f) = nullable f
nullable (optional f) = true
nullable (marked f y) = nullable f
nullable (repeated f m n) = m == 0 || nullable f

-- no loop, no mark, and the empty word or not
abbrev pub held : Bool → Flags
held e = record { loops = false; eps = e; scan = false; marks = λ y. false; eps_marks = λ y. false }

-- no loop, no mark, no empty word
abbrev pub bare : Flags
bare = held false

-- the tree with other flags at its top node
abbrev pub with_flags : Flags → FlaggedTree → FlaggedTree
with_flags h (leaf f s) = leaf h s
with_flags h (seq f l r) = seq h l r
with_flags h (alt f l r) = alt h l r

-- a loop, and the empty word or not
abbrev pub looped : Bool → Flags → Flags
looped e f = record { loops = true; eps = e; scan = f.scan; marks = f.marks; eps_marks = f.eps_marks }

-- the empty word besides
abbrev pub emptied : Flags → Flags
emptied f = record { loops = f.loops; eps = true; scan = f.scan; marks = f.marks; eps_marks = f.eps_marks }

-- a mark of y besides, which also marks the empty word where e says so
abbrev pub marking : ℕ → Bool → Flags → Flags
marking y e f = record {
  loops = f.loops;
  eps = f.eps;
  scan = f.scan;
  marks = λ z. y == z || f.marks z;
  eps_marks = λ z. (e && y == z) || f.eps_marks z;
}

-- two stripped parts of a sequence: one beside the other where both spelled the empty word
abbrev pub joined : Bool → Bool → FlaggedTree → FlaggedTree → FlaggedTree
joined true true l r = alt bare l r
joined true false l r = seq bare l r
joined false g l r = seq bare l r

-- a sequence below a loop or not, from whether its parts spell the empty word
abbrev pub sequenced : Bool → Bool → Bool → FlaggedTree → FlaggedTree → FlaggedTree
sequenced true f g l r = joined f g l r
sequenced false f g l r = seq (held (f && g)) l r

-- a loop around a stripped tree, unless one is around it already
abbrev pub turned : Bool → Bool → FlaggedTree → FlaggedTree
turned true e t = t
turned false e t = with_flags (looped e (flags t)) t

-- the empty word besides, unless a loop is around
abbrev pub opted : Bool → FlaggedTree → FlaggedTree
opted true t = t
opted false t = with_flags (emptied (flags t)) t

-- The normal form of an expression, below a loop where the first argument says so. Below a loop a part of a sequence is
-- stripped where the other part spells the empty word. It is read on copies: a counted repeat has none of its own.
abbrev pub normal : Bool → Expr → FlaggedTree
normal under (symbol s) = leaf bare s
normal under (sequence f g) = sequenced under (nullable f) (nullable g) (normal (under && nullable g) f) (normal (under && nullable f) g)
normal under (union f g) = alt (held (not under && (nullable f || nullable g))) (normal under f) (normal under g)
normal under (star f) = turned under true (normal true f)
normal under (plus f) = turned under (nullable f) (normal true f)
normal under (optional f) = opted under (normal under f)
normal under (marked f y) = with_flags (marking y (nullable f) (flags (normal under f))) (normal under f)
normal under (repeated f m n) = normal under f

-- the union of these expressions, grouped to the left
abbrev pub united : Expr → List Expr → Expr
united e es = fold (λ f g. union f g) e es

abbrev pub union_of : List Expr → Expr
union_of [] = symbol 0
union_of (e ∷ es) = united e es

-- the tree, whose words may begin at any time
abbrev pub scanned : FlaggedTree → FlaggedTree
scanned t = with_flags (record { loops = (flags t).loops; eps = (flags t).eps; scan = true; marks = (flags t).marks; eps_marks = (flags t).eps_marks }) t

-- The normal form of statements, from the expressions whose words begin at the reset and those whose words begin at any
-- time: that of their union, or both beside each other.
abbrev pub normal_form : List Expr → List Expr → FlaggedTree
normal_form es [] = normal false (union_of es)
normal_form [] (s ∷ ss) = scanned (normal false (united s ss))
normal_form (e ∷ es) (s ∷ ss) =
    alt (held (nullable (united e es) || nullable (united s ss))) (normal false (united e es)) (scanned (normal false (united s ss)))
