-- The base of every loop of a normal form is its own strip, and no strip spells the empty word.
use Rattle.std.proofs.Common.{◌≡◌, ℕ, Bool, true, false, not, ◌&&◌, ◌||◌, IsTrue, refl, sym, ap, ◌∙◌, subst}
use Rattle.rx_lang.specs.Expression.{Expr, symbol, sequence, union, star, plus, optional, marked, repeated}
use Rattle.star_normal.specs.Trees.{Flags, FlaggedTree, leaf, seq, alt, flags}
use Rattle.star_normal.specs.Normal.{nullable, held, with_flags, looped, emptied, marking, joined, sequenced, turned, opted, normal}
use Rattle.star_normal.specs.Shapes.{HasNoRepeat, strip, strip_sequence, plus_if, optional_if, plain, base, OwnStrip, AreStripped}
use Rattle.star_normal.proofs.Forms.{IsBare, bare_normal}

full_sequence : (nf ng : Bool) (f g sf sg : Expr) → nullable f ≡ nf → nullable g ≡ ng → nullable sf ≡ false → nullable sg ≡ false
    → nullable (strip_sequence nf ng f g sf sg) ≡ false
full_sequence true true f g sf sg a b c d = rw (c, d) refl
full_sequence true false f g sf sg a b c d = rw (a, d) refl
full_sequence false true f g sf sg a b c d = rw (c) refl
full_sequence false false f g sf sg a b c d = rw (a) refl

-- no strip spells the empty word
strip_full : (e : Expr) → nullable (strip e) ≡ false
strip_full (symbol s) = refl
strip_full (sequence f g) = full_sequence (nullable f) (nullable g) f g (strip f) (strip g) refl refl (strip_full f) (strip_full g)
strip_full (union f g) = rw (strip_full f, strip_full g) refl
strip_full (star f) = strip_full f
strip_full (plus f) = strip_full f
strip_full (optional f) = strip_full f
strip_full (marked f y) = strip_full f
strip_full (repeated f m n) = strip_full f

pub own_full : (e : Expr) → strip e ≡ e → nullable e ≡ false
own_full e h = subst (λ x. nullable x ≡ false) h (strip_full e)

nullable_plus : (l : Bool) (e : Expr) → nullable (plus_if l e) ≡ nullable e
nullable_plus true e = refl
nullable_plus false e = refl

-- a node with the flag spells the empty word
nullable_shaped : (l p : Bool) (e : Expr) → nullable (optional_if p (plus_if l e)) ≡ (p || nullable e)
nullable_shaped l true e = refl
nullable_shaped l false e = nullable_plus l e

plain_mark : (y : ℕ) (e : Bool) (t : FlaggedTree) → plain (with_flags (marking y e (flags t)) t) ≡ plain t
plain_mark y e (leaf f s) = refl
plain_mark y e (seq f l r) = refl
plain_mark y e (alt f l r) = refl

nullable_opted : (t : FlaggedTree) → nullable (plain (with_flags (emptied (flags t)) t)) ≡ true
nullable_opted (leaf f s) = refl
nullable_opted (seq f l r) = refl
nullable_opted (alt f l r) = refl

nullable_looped : (e : Bool) (t : FlaggedTree) → IsBare (flags t) → nullable (plain t) ≡ false → nullable (plain (with_flags (looped e (flags t)) t)) ≡ e
nullable_looped true (leaf f s) b h = refl
nullable_looped true (seq f l r) b h = refl
nullable_looped true (alt f l r) b h = refl
nullable_looped false (leaf f s) b h = refl
nullable_looped false (seq f l r) b h = sym (nullable_shaped f.loops f.eps (sequence (plain l) (plain r)) ∙ rw (b.eps) refl) ∙ h
nullable_looped false (alt f l r) b h = sym (nullable_shaped f.loops f.eps (union (plain l) (plain r)) ∙ rw (b.eps) refl) ∙ h

or_same : (a : Bool) → (a || a) ≡ a
or_same true = refl
or_same false = refl

-- below a loop a part of a sequence spells the empty word just where it is not stripped
nullable_joined : (nf ng : Bool) (l r : FlaggedTree) → nullable (plain l) ≡ (not ng && nf) → nullable (plain r) ≡ (not nf && ng)
    → nullable (plain (joined nf ng l r)) ≡ false
nullable_joined true true l r a b = rw (a, b) refl
nullable_joined true false l r a b = rw (a, b) refl
nullable_joined false true l r a b = rw (a) refl
nullable_joined false false l r a b = rw (a) refl

nullable_sequenced : (under nf ng : Bool) (l r : FlaggedTree) → nullable (plain l) ≡ (not (under && ng) && nf) → nullable (plain r) ≡ (not (under && nf) && ng)
    → nullable (plain (sequenced under nf ng l r)) ≡ (not under && (nf && ng))
nullable_sequenced true nf ng l r a b = nullable_joined nf ng l r a b
nullable_sequenced false nf ng l r a b = nullable_shaped false (nf && ng) (sequence (plain l) (plain r)) ∙ rw (a, b) (or_same (nf && ng))

nullable_union : (under nf ng : Bool) (l r : FlaggedTree) → nullable (plain l) ≡ (not under && nf) → nullable (plain r) ≡ (not under && ng)
    → nullable (plain (alt (held (not under && (nf || ng))) l r)) ≡ (not under && (nf || ng))
nullable_union true nf ng l r a b = rw (a, b) refl
nullable_union false nf ng l r a b = nullable_shaped false (nf || ng) (union (plain l) (plain r)) ∙ rw (a, b) (or_same (nf || ng))

nullable_turned : (under e : Bool) (t : FlaggedTree) → IsBare (flags t) → nullable (plain t) ≡ false → nullable (plain (turned under e t)) ≡ (not under && e)
nullable_turned true e t b h = h
nullable_turned false e t b h = nullable_looped e t b h

nullable_optional : (under e : Bool) (t : FlaggedTree) → nullable (plain t) ≡ (not under && e) → nullable (plain (opted under t)) ≡ (not under && true)
nullable_optional true e t h = h
nullable_optional false e t h = nullable_opted t

-- The normal form spells the empty word where its expression does, and below a loop it does not.
pub nullable_normal : (under : Bool) (e : Expr) → HasNoRepeat e → nullable (plain (normal under e)) ≡ (not under && nullable e)
nullable_normal true (symbol s) p = refl
nullable_normal false (symbol s) p = refl
nullable_normal under (sequence f g) p = nullable_sequenced under (nullable f) (nullable g) (normal (under && nullable g) f) (normal (under && nullable f) g)
    (nullable_normal (under && nullable g) f p.0) (nullable_normal (under && nullable f) g p.1)
nullable_normal under (union f g) p = nullable_union under (nullable f) (nullable g) (normal under f) (normal under g) (nullable_normal under f p.0) (nullable_normal under g p.1)
nullable_normal under (star f) p = nullable_turned under true (normal true f) (bare_normal f) (nullable_normal true f p)
nullable_normal under (plus f) p = nullable_turned under (nullable f) (normal true f) (bare_normal f) (nullable_normal true f p)
nullable_normal under (optional f) p = nullable_optional under (nullable f) (normal under f) (nullable_normal under f p)
nullable_normal under (marked f y) p = ap nullable (plain_mark y (nullable f) (normal under f)) ∙ nullable_normal under f p
nullable_normal under (repeated f m n) p = absurd p

own_joined : (nf ng : Bool) (l r : FlaggedTree) → nullable (plain l) ≡ (not ng && nf) → nullable (plain r) ≡ (not nf && ng)
    → (IsTrue ng → strip (plain l) ≡ plain l) → (IsTrue nf → strip (plain r) ≡ plain r) → strip (plain (joined nf ng l r)) ≡ plain (joined nf ng l r)
own_joined true true l r a b c d = rw (c refl, d refl) refl
own_joined true false l r a b c d = rw (a, b, d refl) refl
own_joined false true l r a b c d = rw (a, b, c refl) refl
own_joined false false l r a b c d = rw (a, b) refl

own_normal : (under : Bool) (e : Expr) → HasNoRepeat e → IsTrue under → strip (plain (normal under e)) ≡ plain (normal under e)
own_normal false e p h = cc
own_normal true (symbol s) p h = refl
own_normal true (sequence f g) p h = own_joined (nullable f) (nullable g) (normal (nullable g) f) (normal (nullable f) g)
    (nullable_normal (nullable g) f p.0) (nullable_normal (nullable f) g p.1) (own_normal (nullable g) f p.0) (own_normal (nullable f) g p.1)
own_normal true (union f g) p h = rw (own_normal true f p.0 refl, own_normal true g p.1 refl) refl
own_normal true (star f) p h = own_normal true f p refl
own_normal true (plus f) p h = own_normal true f p refl
own_normal true (optional f) p h = own_normal true f p refl
own_normal true (marked f y) p h = rw (plain_mark y (nullable f) (normal true f)) (own_normal true f p refl)
own_normal true (repeated f m n) p h = absurd p

-- a tree whose base is its own strip
plain_base : (t : FlaggedTree) → IsBare (flags t) → plain t ≡ base t
plain_base (leaf f s) b = rw (b.loops, b.eps) refl
plain_base (seq f l r) b = rw (b.loops, b.eps) refl
plain_base (alt f l r) b = rw (b.loops, b.eps) refl

top_of : (t : FlaggedTree) → AreStripped t → OwnStrip (flags t) (base t)
top_of (leaf f s) h = h
top_of (seq f l r) h = h.0
top_of (alt f l r) h = h.0

-- other flags at the top node
flagged : (h : Flags) (t : FlaggedTree) → OwnStrip h (base t) → AreStripped t → AreStripped (with_flags h t)
flagged h (leaf f s) o a = o
flagged h (seq f l r) o a = (o, a.1, a.2)
flagged h (alt f l r) o a = (o, a.1, a.2)

joined_stripped : (nf ng : Bool) (l r : FlaggedTree) → AreStripped l → AreStripped r → AreStripped (joined nf ng l r)
joined_stripped true true l r a b = (λ n. cc, a, b)
joined_stripped true false l r a b = (λ n. cc, a, b)
joined_stripped false ng l r a b = (λ n. cc, a, b)

sequenced_stripped : (under nf ng : Bool) (l r : FlaggedTree) → AreStripped l → AreStripped r → AreStripped (sequenced under nf ng l r)
sequenced_stripped true nf ng l r a b = joined_stripped nf ng l r a b
sequenced_stripped false nf ng l r a b = (λ n. cc, a, b)

turned_stripped : (under e : Bool) (t : FlaggedTree) → strip (base t) ≡ base t → AreStripped t → AreStripped (turned under e t)
turned_stripped true e t o a = a
turned_stripped false e t o a = flagged (looped e (flags t)) t (λ n. o) a

opted_stripped : (under : Bool) (t : FlaggedTree) → AreStripped t → AreStripped (opted under t)
opted_stripped true t a = a
opted_stripped false t a = flagged (emptied (flags t)) t (top_of t a) a

own_base : (e : Expr) → HasNoRepeat e → strip (base (normal true e)) ≡ base (normal true e)
own_base e p = subst (λ x. strip x ≡ x) (plain_base (normal true e) (bare_normal e)) (own_normal true e p refl)

pub are_stripped : (under : Bool) (e : Expr) → HasNoRepeat e → AreStripped (normal under e)
are_stripped under (symbol s) p = λ n. refl
are_stripped under (sequence f g) p = sequenced_stripped under (nullable f) (nullable g) (normal (under && nullable g) f) (normal (under && nullable f) g)
    (are_stripped (under && nullable g) f p.0) (are_stripped (under && nullable f) g p.1)
are_stripped under (union f g) p = (λ n. cc, are_stripped under f p.0, are_stripped under g p.1)
are_stripped under (star f) p = turned_stripped under true (normal true f) (own_base f p) (are_stripped true f p)
are_stripped under (plus f) p = turned_stripped under (nullable f) (normal true f) (own_base f p) (are_stripped true f p)
are_stripped under (optional f) p = opted_stripped under (normal under f) (are_stripped under f p)
are_stripped under (marked f y) p = flagged (marking y (nullable f) (flags (normal under f))) (normal under f) (top_of (normal under f) (are_stripped under f p)) (are_stripped under f p)
are_stripped under (repeated f m n) p = absurd p
