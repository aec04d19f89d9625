-- The leaves of a normal form are the occurrences of its expression, in order.
use Rattle.std.proofs.Common.{◌≡◌, ℕ, ◌+◌, ◌*◌, Bool, true, false, not, ◌&&◌, ◌||◌, ◌++◌, length, refl, sym, ap, ◌∙◌, arith, length-append}
use Rattle.rx_lang.specs.Expression.{Expr, symbol, sequence, union, star, plus, optional, marked, repeated}
use Rattle.star_normal.specs.Trees.{Flags, FlaggedTree, leaf, seq, alt, flags, leaves}
use Rattle.star_normal.specs.Normal.{nullable, held, with_flags, looped, emptied, marking, sequenced, turned, opted, normal}
use Rattle.rx_lang.specs.Copies.{numbered, occurrences}
use Rattle.star_normal.specs.Shapes.{HasNoRepeat, size, tree_numbered}

pub leaves_with : (h : Flags) (t : FlaggedTree) → leaves (with_flags h t) ≡ leaves t
leaves_with h (leaf f s) = refl
leaves_with h (seq f l r) = refl
leaves_with h (alt f l r) = refl

leaves_sequenced : (under nf ng : Bool) (l r : FlaggedTree) → leaves (sequenced under nf ng l r) ≡ leaves l ++ leaves r
leaves_sequenced true true true l r = refl
leaves_sequenced true true false l r = refl
leaves_sequenced true false ng l r = refl
leaves_sequenced false nf ng l r = refl

leaves_turned : (under e : Bool) (t : FlaggedTree) → leaves (turned under e t) ≡ leaves t
leaves_turned true e t = refl
leaves_turned false e t = leaves_with (looped e (flags t)) t

leaves_opted : (under : Bool) (t : FlaggedTree) → leaves (opted under t) ≡ leaves t
leaves_opted true t = refl
leaves_opted false t = leaves_with (emptied (flags t)) t

pub leaves_normal : (under : Bool) (e : Expr) → HasNoRepeat e → leaves (normal under e) ≡ occurrences e
leaves_normal under (symbol s) p = refl
leaves_normal under (sequence f g) p =
    leaves_sequenced under (nullable f) (nullable g) (normal (under && nullable g) f) (normal (under && nullable f) g)
    ∙ rw (leaves_normal (under && nullable g) f p.0, leaves_normal (under && nullable f) g p.1) refl
leaves_normal under (union f g) p = rw (leaves_normal under f p.0, leaves_normal under g p.1) refl
leaves_normal under (star f) p = leaves_turned under true (normal true f) ∙ leaves_normal true f p
leaves_normal under (plus f) p = leaves_turned under (nullable f) (normal true f) ∙ leaves_normal true f p
leaves_normal under (optional f) p = leaves_opted under (normal under f) ∙ leaves_normal under f p
leaves_normal under (marked f y) p = leaves_with (marking y (nullable f) (flags (normal under f))) (normal under f) ∙ leaves_normal under f p
leaves_normal under (repeated f m n) p = absurd p

-- a full binary tree has one node less than twice its leaves
pub size_leaves : (t : FlaggedTree) → size t + 1 ≡ 2 * length (leaves t)
size_leaves (leaf f s) = refl
size_leaves (seq f l r) = omega (arith, size_leaves l, size_leaves r, length-append (leaves l) (leaves r))
size_leaves (alt f l r) = omega (arith, size_leaves l, size_leaves r, length-append (leaves l) (leaves r))

nullable_numbered : (k : ℕ) (e : Expr) → nullable (numbered k e) ≡ nullable e
nullable_numbered k (symbol s) = refl
nullable_numbered k (sequence f g) = rw (nullable_numbered k f, nullable_numbered (k + length (occurrences f)) g) refl
nullable_numbered k (union f g) = rw (nullable_numbered k f, nullable_numbered (k + length (occurrences f)) g) refl
nullable_numbered k (star f) = refl
nullable_numbered k (plus f) = nullable_numbered k f
nullable_numbered k (optional f) = refl
nullable_numbered k (marked f y) = nullable_numbered k f
nullable_numbered k (repeated f m n) = rw (nullable_numbered k f) refl

with_numbered : (h : Flags → Flags) (k : ℕ) (t : FlaggedTree) → with_flags (h (flags (tree_numbered k t))) (tree_numbered k t) ≡ tree_numbered k (with_flags (h (flags t)) t)
with_numbered h k (leaf f s) = refl
with_numbered h k (seq f l r) = refl
with_numbered h k (alt f l r) = refl

sequenced_numbered : (k : ℕ) (under nf ng : Bool) (l r : FlaggedTree)
    → sequenced under nf ng (tree_numbered k l) (tree_numbered (k + length (leaves l)) r) ≡ tree_numbered k (sequenced under nf ng l r)
sequenced_numbered k true true true l r = refl
sequenced_numbered k true true false l r = refl
sequenced_numbered k true false ng l r = refl
sequenced_numbered k false nf ng l r = refl

turned_numbered : (k : ℕ) (under e : Bool) (t : FlaggedTree) → turned under e (tree_numbered k t) ≡ tree_numbered k (turned under e t)
turned_numbered k true e t = refl
turned_numbered k false e t = with_numbered (looped e) k t

opted_numbered : (k : ℕ) (under : Bool) (t : FlaggedTree) → opted under (tree_numbered k t) ≡ tree_numbered k (opted under t)
opted_numbered k true t = refl
opted_numbered k false t = with_numbered emptied k t

-- Numbering the occurrences and then taking the normal form is numbering the leaves of the normal form.
pub normal_numbered : (k : ℕ) (under : Bool) (e : Expr) → HasNoRepeat e → normal under (numbered k e) ≡ tree_numbered k (normal under e)
normal_numbered k under (symbol s) p = refl
normal_numbered k under (sequence f g) p =
    let l : FlaggedTree = normal (under && nullable g) f in
    let r : FlaggedTree = normal (under && nullable f) g in
    let at : k + length (leaves l) ≡ k + length (occurrences f) = ap (λ n. k + length n) (leaves_normal (under && nullable g) f p.0) in
    rw (
      nullable_numbered k f,
      nullable_numbered (k + length (occurrences f)) g,
      normal_numbered k (under && nullable g) f p.0,
      normal_numbered (k + length (occurrences f)) (under && nullable f) g p.1,
    )
    (ap (λ n. sequenced under (nullable f) (nullable g) (tree_numbered k l) (tree_numbered n r)) (sym at)
    ∙ sequenced_numbered k under (nullable f) (nullable g) l r)
normal_numbered k under (union f g) p =
    let at : k + length (leaves (normal under f)) ≡ k + length (occurrences f) = ap (λ n. k + length n) (leaves_normal under f p.0) in
    rw (nullable_numbered k f, nullable_numbered (k + length (occurrences f)) g, normal_numbered k under f p.0, normal_numbered (k + length (occurrences f)) under g p.1)
    (ap (λ n. alt (held (not under && (nullable f || nullable g))) (tree_numbered k (normal under f)) (tree_numbered n (normal under g))) (sym at))
normal_numbered k under (star f) p = ap (turned under true) (normal_numbered k true f p) ∙ turned_numbered k under true (normal true f)
normal_numbered k under (plus f) p = rw (nullable_numbered k f, normal_numbered k true f p) (turned_numbered k under (nullable f) (normal true f))
normal_numbered k under (optional f) p = ap (opted under) (normal_numbered k under f p) ∙ opted_numbered k under (normal under f)
normal_numbered k under (marked f y) p = rw (nullable_numbered k f, normal_numbered k under f p) (with_numbered (marking y (nullable f)) k (normal under f))
normal_numbered k under (repeated f m n) p = absurd p
