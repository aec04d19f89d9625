-- The marks of a specification's normal form have numbers of outputs.
use Rattle.std.proofs.Common.{ℕ, zero, suc, pred, ◌<◌, ◌⊎◌, Bool, true, false, not, ◌&&◌, ◌||◌, ◌==◌, IsTrue, List, [], ◌∷◌, ◌++◌, map, fold, length, All, subst, inl, inr}
use Rattle.std.specs.List.{AllByRecursion}
use Rattle.std.proofs.lemmas.List.Elements.{All-append, All-from_recursion, recursion_from_All}
use Rattle.rx_lang.specs.declared.expr_node.ExprNode.{ExprNode}
use Rattle.rx_lang.specs.declared.expr_node.ExprNode.TheVariants.{Leaf, Seq, Alt, Star, Plus, Opt, Mark, Repeat}
use Rattle.rx_lang.specs.Expression.{Expr, symbol, sequence, union, star, plus, optional, marked, repeated}
use Rattle.rx_lang.specs.Copies.{copies, copied}
use Rattle.rx_lang.specs.Tables.{Tables, IsSpecification, NamesEntries, tree_at, tree_of, trees, specification}
use Rattle.star_normal.specs.Trees.{Flags, FlaggedTree, leaf, seq, alt, flags, MarksBelow, AllMarkBelow}
use Rattle.star_normal.specs.Normal.{nullable, held, bare, with_flags, looped, emptied, marking, joined, sequenced, turned, opted, normal, united, union_of, scanned, normal_form}
use Rattle.star_normal.proofs.Flagged.{or_split, and_split, equal_to}

-- every mark of the expression has a number below this one
abbrev Below : ℕ → Expr → Type 0
Below n (symbol s) = Unit {0}
Below n (sequence f g) = Below n f × Below n g
Below n (union f g) = Below n f × Below n g
Below n (star f) = Below n f
Below n (plus f) = Below n f
Below n (optional f) = Below n f
Below n (marked f y) = (y < n) × Below n f
Below n (repeated f k m) = Below n f

-- ---- flags

held_below : (n : ℕ) (e : Bool) → MarksBelow n (held e)
held_below n e = record { marks = λ y t. none n y t; eps_marks = λ y t. none n y t }
  where
    none : (n y : ℕ) → IsTrue false → y < n
    none n y t = cc

looped_below : (n : ℕ) (e : Bool) (f : Flags) → MarksBelow n f → MarksBelow n (looped e f)
looped_below n e f h = record { marks = h.marks; eps_marks = h.eps_marks }

emptied_below : (n : ℕ) (f : Flags) → MarksBelow n f → MarksBelow n (emptied f)
emptied_below n f h = record { marks = h.marks; eps_marks = h.eps_marks }

same_below : (n y z : ℕ) → y < n → IsTrue (y == z) → z < n
same_below n y z h t = subst (λ x. x < n) (equal_to y z t) h

module _ (n y : ℕ) (e : Bool) (f : Flags) (h : y < n) (below : MarksBelow n f) where
  of_words : (z : ℕ) → IsTrue (y == z) ⊎ IsTrue (f.marks z) → z < n
  of_words z (inl same) = same_below n y z h same
  of_words z (inr old) = below.marks z old

  of_empty_word : (z : ℕ) → IsTrue (e && y == z) ⊎ IsTrue (f.eps_marks z) → z < n
  of_empty_word z (inl new) = same_below n y z h (and_split e (y == z) new).1
  of_empty_word z (inr old) = below.eps_marks z old

  marking_below : MarksBelow n (marking y e f)
  marking_below = record {
    marks = λ z t. of_words z (or_split (y == z) (f.marks z) t);
    eps_marks = λ z t. of_empty_word z (or_split (e && y == z) (f.eps_marks z) t);
  }

flags_below : (n : ℕ) (t : FlaggedTree) → AllMarkBelow n t → MarksBelow n (flags t)
flags_below n (leaf f s) h = h
flags_below n (seq f l r) h = h.0
flags_below n (alt f l r) h = h.0

with_flags_below : (n : ℕ) (f : Flags) (t : FlaggedTree) → MarksBelow n f → AllMarkBelow n t → AllMarkBelow n (with_flags f t)
with_flags_below n f (leaf g s) new h = new
with_flags_below n f (seq g l r) new h = (new, h.1, h.2)
with_flags_below n f (alt g l r) new h = (new, h.1, h.2)

-- ---- normal forms

joined_below : (n : ℕ) (e g : Bool) (l r : FlaggedTree) → AllMarkBelow n l → AllMarkBelow n r → AllMarkBelow n (joined e g l r)
joined_below n true true l r p q = (held_below n false, p, q)
joined_below n true false l r p q = (held_below n false, p, q)
joined_below n false g l r p q = (held_below n false, p, q)

sequenced_below : (n : ℕ) (under e g : Bool) (l r : FlaggedTree) → AllMarkBelow n l → AllMarkBelow n r
    → AllMarkBelow n (sequenced under e g l r)
sequenced_below n true e g l r p q = joined_below n e g l r p q
sequenced_below n false e g l r p q = (held_below n (e && g), p, q)

turned_below : (n : ℕ) (under e : Bool) (t : FlaggedTree) → AllMarkBelow n t → AllMarkBelow n (turned under e t)
turned_below n true e t h = h
turned_below n false e t h = with_flags_below n (looped e (flags t)) t (looped_below n e (flags t) (flags_below n t h)) h

opted_below : (n : ℕ) (under : Bool) (t : FlaggedTree) → AllMarkBelow n t → AllMarkBelow n (opted under t)
opted_below n true t h = h
opted_below n false t h = with_flags_below n (emptied (flags t)) t (emptied_below n (flags t) (flags_below n t h)) h

normal_below : (n : ℕ) (under : Bool) (e : Expr) → Below n e → AllMarkBelow n (normal under e)
normal_below n under (symbol s) h = held_below n false
normal_below n under (sequence f g) h =
    sequenced_below n under (nullable f) (nullable g) (normal (under && nullable g) f) (normal (under && nullable f) g)
    (normal_below n (under && nullable g) f h.0) (normal_below n (under && nullable f) g h.1)
normal_below n under (union f g) h =
    (held_below n (not under && (nullable f || nullable g)), normal_below n under f h.0, normal_below n under g h.1)
normal_below n under (star f) h = turned_below n under true (normal true f) (normal_below n true f h)
normal_below n under (plus f) h = turned_below n under (nullable f) (normal true f) (normal_below n true f h)
normal_below n under (optional f) h = opted_below n under (normal under f) (normal_below n under f h)
normal_below n under (marked f y) h =
    with_flags_below n (marking y (nullable f) (flags (normal under f))) (normal under f)
    (marking_below n y (nullable f) (flags (normal under f)) h.0 (flags_below n (normal under f) (normal_below n under f h.1)))
    (normal_below n under f h.1)
normal_below n under (repeated f k m) h = normal_below n under f h

united_below : (n : ℕ) (e : Expr) (es : List Expr) → Below n e → AllByRecursion (Below n) es → Below n (united e es)
united_below n e [] h hs = h
united_below n e (f ∷ es) h hs = united_below n (union e f) es (h, hs.0) hs.1

flag_below : (n : ℕ) (f : Flags) → MarksBelow n f
    → MarksBelow n (record { loops = f.loops; eps = f.eps; scan = true; marks = f.marks; eps_marks = f.eps_marks })
flag_below n f h = record { marks = h.marks; eps_marks = h.eps_marks }

scanned_below : (n : ℕ) (t : FlaggedTree) → AllMarkBelow n t → AllMarkBelow n (scanned t)
scanned_below n (leaf f s) h = flag_below n f h
scanned_below n (seq f l r) h = (flag_below n f h.0, h.1, h.2)
scanned_below n (alt f l r) h = (flag_below n f h.0, h.1, h.2)

form_below : (n : ℕ) (es scans : List Expr) → AllByRecursion (Below n) es → AllByRecursion (Below n) scans → AllMarkBelow n (normal_form es scans)
form_below n [] [] h hs = held_below n false
form_below n (e ∷ es) [] h hs = normal_below n false (united e es) (united_below n e es h.0 h.1)
form_below n [] (s ∷ ss) h hs = scanned_below n (normal false (united s ss)) (normal_below n false (united s ss) (united_below n s ss hs.0 hs.1))
form_below n (e ∷ es) (s ∷ ss) h hs = (
  held_below n (nullable (united e es) || nullable (united s ss)),
  normal_below n false (united e es) (united_below n e es h.0 h.1),
  scanned_below n (normal false (united s ss)) (normal_below n false (united s ss) (united_below n s ss hs.0 hs.1)),
)

-- ---- expressions of a specification

copies_below : (n m k : ℕ) (f : Expr) → Below n f → Below n (copies m k f)
copies_below n zero zero f h = h
copies_below n (suc m) zero f h = h
copies_below n zero (suc k) f h = (h, copies_below n zero k f h)
copies_below n (suc m) (suc k) f h = (h, copies_below n m k f h)

copied_below : (n : ℕ) (e : Expr) → Below n e → Below n (copied e)
copied_below n (symbol s) h = tt
copied_below n (sequence f g) h = (copied_below n f h.0, copied_below n g h.1)
copied_below n (union f g) h = (copied_below n f h.0, copied_below n g h.1)
copied_below n (star f) h = copied_below n f h
copied_below n (plus f) h = copied_below n f h
copied_below n (optional f) h = copied_below n f h
copied_below n (marked f y) h = (h.0, copied_below n f h.1)
copied_below n (repeated f m k) h = copies_below n m (pred k) (copied f) (copied_below n f h)

module _ (tables : Tables) (spec : IsSpecification tables) where
  abbrev n : ℕ
  n = length tables.outputs

  at : (before : List Expr) → All (Below n) before → (k : ℕ) → Below n (tree_at before k)
  at before h k = by_recursion before k (recursion_from_All (Below n) before h)
    where
      by_recursion : (es : List Expr) (j : ℕ) → AllByRecursion (Below n) es → Below n (tree_at es j)
      by_recursion [] j b = tt
      by_recursion (e ∷ es) zero b = b.0
      by_recursion (e ∷ es) (suc j) b = by_recursion es j b.1

  one : (before : List Expr) → All (Below n) before → (node : ExprNode) → NamesEntries tables node → Below n (tree_of before node)
  one before h (Leaf s) named = tt
  one before h (Seq f g) named = (at before h f, at before h g)
  one before h (Alt f g) named = (at before h f, at before h g)
  one before h (Star f) named = at before h f
  one before h (Plus f) named = at before h f
  one before h (Opt f) named = at before h f
  one before h (Mark f y) named = (named, at before h f)
  one before h (Repeat f k m) named = at before h f

  all_from : (nodes : List ExprNode) (before : List Expr) → All (Below n) before → AllByRecursion (NamesEntries tables) nodes
      → All (Below n) (fold (λ done node. done ++ tree_of done node ∷ []) before nodes)
  all_from [] before h named = h
  all_from (node ∷ nodes) before h named =
      all_from nodes (before ++ tree_of before node ∷ [])
      (All-append (Below n) before (tree_of before node ∷ []) h
      (All-from_recursion (Below n) (tree_of before node ∷ []) (one before h node named.0, tt))) named.1

  all_trees : All (Below n) (trees tables.nodes)
  all_trees =
      all_from tables.nodes [] (All-from_recursion (Below n) [] tt) (recursion_from_All (NamesEntries tables) tables.nodes spec.named_entries)

  roots_below : (roots : List ℕ) → AllByRecursion (Below n) (map copied (map (tree_at (trees tables.nodes)) roots))
  roots_below [] = tt
  roots_below (root ∷ roots) =
      (copied_below n (tree_at (trees tables.nodes) root) (at (trees tables.nodes) all_trees root), roots_below roots)

  pub marks_below : AllMarkBelow (length tables.outputs)
      (normal_form (map copied (specification tables).statements) (map copied (specification tables).scans))
  marks_below =
      form_below n (map copied (specification tables).statements) (map copied (specification tables).scans)
      (roots_below tables.exprs) (roots_below tables.scans)
