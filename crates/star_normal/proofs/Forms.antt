-- The normal form spells and marks what its expression does; below a loop it is stripped.
use Rattle.std.proofs.Common.{◌≡◌, ◌⊎◌, ℕ, Bool, true, false, not, ◌&&◌, ◌||◌, IsTrue, List, [], refl, inl, inr}
use Rattle.rx_lang.specs.Expression.{Expr, symbol, sequence, union, star, plus, optional, marked, repeated}
use Rattle.rx_lang.specs.Meaning.{Cut, Many, Spells, Marks}
use Rattle.star_normal.specs.Trees.{Flags, FlaggedTree, leaf, seq, alt, flags, Letter, TreeSpells, TreeMarks}
use Rattle.star_normal.specs.Normal.{nullable, held, bare, with_flags, looped, emptied, marking, joined, sequenced, turned, opted, normal}
use Rattle.star_normal.specs.Shapes.{HasNoRepeat}
use Rattle.star_normal.proofs.Langs.{cut_nil, cut_now, many_nil}
use Rattle.star_normal.proofs.Strips.{Same, Strip, same_move, strip_move, strip_same, Marked, same_mark, strip_mark, strip_option, same_option, Looped, strip_star, strip_plus, same_star, same_plus}
use Rattle.star_normal.proofs.Pairs.{same_seq, same_or, strip_or, strip_both, strip_left, strip_right, strip_neither}
use Rattle.star_normal.proofs.Flagged.{or_split, or_first, or_second, and_both, and_split, same_held, same_emptied, same_marking, same_looped}

-- the top node has no loop and not the empty word
pub record IsBare (f : Flags) : Type 0 where
  pub loops : f.loops ≡ false
  pub eps : f.eps ≡ false

bare_joined : (nf ng : Bool) (l r : FlaggedTree) → IsBare (flags (joined nf ng l r))
bare_joined true true l r = record { loops = refl; eps = refl }
bare_joined true false l r = record { loops = refl; eps = refl }
bare_joined false ng l r = record { loops = refl; eps = refl }

pub flags_with : (h : Flags) (t : FlaggedTree) → flags (with_flags h t) ≡ h
flags_with h (leaf f s) = refl
flags_with h (seq f l r) = refl
flags_with h (alt f l r) = refl

bare_mark : (y : ℕ) (e : Bool) (t : FlaggedTree) → IsBare (flags t) → IsBare (flags (with_flags (marking y e (flags t)) t))
bare_mark y e (leaf f s) b = record { loops = b.loops; eps = b.eps }
bare_mark y e (seq f l r) b = record { loops = b.loops; eps = b.eps }
bare_mark y e (alt f l r) b = record { loops = b.loops; eps = b.eps }

pub bare_normal : (e : Expr) → IsBare (flags (normal true e))
bare_normal (symbol s) = record { loops = refl; eps = refl }
bare_normal (sequence f g) = bare_joined (nullable f) (nullable g) (normal (nullable g) f) (normal (nullable f) g)
bare_normal (union f g) = record { loops = refl; eps = refl }
bare_normal (star f) = bare_normal f
bare_normal (plus f) = bare_normal f
bare_normal (optional f) = bare_normal f
bare_normal (marked f y) = bare_mark y (nullable f) (normal true f) (bare_normal f)
bare_normal (repeated f m n) = bare_normal f

module _ {X : Type 0} (Is : ℕ → X → Type 0) where
  -- the test tells whether there is the empty word
  pub record Holds (A : List X → Type 0) (e : Bool) : Type 0 where
    pub yes : IsTrue e → A []
    pub no : A [] → IsTrue e

  or_no : (a b : Bool) (P Q : Type 0) → (P → IsTrue a) → (Q → IsTrue b) → P ⊎ Q → IsTrue (a || b)
  or_no a b P Q f g (inl h) = or_first a b (f h)
  or_no a b P Q f g (inr h) = or_second a b (g h)

  or_yes : (a b : Bool) (P Q : Type 0) → (IsTrue a → P) → (IsTrue b → Q) → IsTrue a ⊎ IsTrue b → P ⊎ Q
  or_yes a b P Q f g (inl h) = inl (f h)
  or_yes a b P Q f g (inr h) = inr (g h)

  both_holds : (A C : List X → Type 0) (a c : Bool) → Holds A a → Holds C c → Holds (λ u. Cut A C u) (a && c)
  both_holds A C a c h k = record {
    yes = λ b. let s = and_split a c b in cut_now A C [] (h.yes s.0) (k.yes s.1);
    no = λ d. let s = cut_nil A C d.front d.rest d.whole d.first d.second in and_both a c (h.no s.0) (k.no s.1);
  }

  either_holds : (A C : List X → Type 0) (a c : Bool) → Holds A a → Holds C c → Holds (λ u. A u ⊎ C u) (a || c)
  either_holds A C a c h k = record {
    yes = λ b. or_yes a c (A []) (C []) h.yes k.yes (or_split a c b);
    no = or_no a c (A []) (C []) h.no k.no;
  }

  plus_holds : (A : List X → Type 0) (a : Bool) → Holds A a → Holds (λ u. Cut A (Many A) u) a
  plus_holds A a h = record {
    yes = λ b. cut_now A (Many A) [] (h.yes b) (many_nil A);
    no = λ d. h.no (cut_nil A (Many A) d.front d.rest d.whole d.first d.second).0;
  }

  pub nullable_holds : (e : Expr) → HasNoRepeat e → Holds (Spells Is e) (nullable e)
  nullable_holds (symbol s) p = record { yes = λ h. cc; no = λ h. let e = h.1 in cc }
  nullable_holds (sequence f g) p = both_holds (Spells Is f) (Spells Is g) (nullable f) (nullable g) (nullable_holds f p.0) (nullable_holds g p.1)
  nullable_holds (union f g) p = either_holds (Spells Is f) (Spells Is g) (nullable f) (nullable g) (nullable_holds f p.0) (nullable_holds g p.1)
  nullable_holds (star f) p = record { yes = λ h. many_nil (Spells Is f); no = λ h. refl }
  nullable_holds (plus f) p = plus_holds (Spells Is f) (nullable f) (nullable_holds f p)
  nullable_holds (optional f) p = record { yes = λ h. inl refl; no = λ h. refl }
  nullable_holds (marked f y) p = nullable_holds f p
  nullable_holds (repeated f m n) p = absurd p

  -- The setters of flags on trees.

  same_opted : (t : FlaggedTree) → Same (λ u. (u ≡ []) ⊎ TreeSpells Is t u) (TreeMarks Is t)
      (TreeSpells Is (with_flags (emptied (flags t)) t)) (TreeMarks Is (with_flags (emptied (flags t)) t))
  same_opted (leaf f s) = same_emptied (Letter Is s) (λ y w. ⊥) f
  same_opted (seq f l r) = same_emptied (Cut (TreeSpells Is l) (TreeSpells Is r))
      (λ y w. TreeMarks Is l y w ⊎ Cut (TreeSpells Is l) (TreeMarks Is r y) w) f
  same_opted (alt f l r) = same_emptied (λ w. TreeSpells Is l w ⊎ TreeSpells Is r w) (λ y w. TreeMarks Is l y w ⊎ TreeMarks Is r y w) f

  same_marked : (t : FlaggedTree) (y : ℕ) (e : Bool) → Same (TreeSpells Is t) (Marked (TreeSpells Is t) (TreeMarks Is t) (TreeSpells Is t) (TreeMarks Is t) y e)
      (TreeSpells Is (with_flags (marking y e (flags t)) t)) (TreeMarks Is (with_flags (marking y e (flags t)) t))
  same_marked (leaf f s) = same_marking (Letter Is s) (λ y w. ⊥) f
  same_marked (seq f l r) = same_marking (Cut (TreeSpells Is l) (TreeSpells Is r))
      (λ y w. TreeMarks Is l y w ⊎ Cut (TreeSpells Is l) (TreeMarks Is r y) w) f
  same_marked (alt f l r) = same_marking (λ w. TreeSpells Is l w ⊎ TreeSpells Is r w) (λ y w. TreeMarks Is l y w ⊎ TreeMarks Is r y w) f

  same_loop : (t : FlaggedTree) → IsBare (flags t) → (e : Bool)
      → Same (Looped (TreeSpells Is t) (TreeMarks Is t) (TreeSpells Is t) (TreeMarks Is t) e) (λ y u. Cut (Many (TreeSpells Is t)) (TreeMarks Is t y) u)
      (TreeSpells Is (with_flags (looped e (flags t)) t)) (TreeMarks Is (with_flags (looped e (flags t)) t))
  same_loop (leaf f s) b = same_looped (Letter Is s) (λ y w. ⊥) f b.loops b.eps
  same_loop (seq f l r) b = same_looped (Cut (TreeSpells Is l) (TreeSpells Is r))
      (λ y w. TreeMarks Is l y w ⊎ Cut (TreeSpells Is l) (TreeMarks Is r y) w) f b.loops b.eps
  same_loop (alt f l r) b = same_looped (λ w. TreeSpells Is l w ⊎ TreeSpells Is r w) (λ y w. TreeMarks Is l y w ⊎ TreeMarks Is r y w) f b.loops b.eps

  -- what the tree is to the expression: stripped below a loop, else the same
  abbrev pub Form : Bool → Expr → FlaggedTree → Type 0
  Form true e t = Strip (Spells Is e) (Marks Is e) (TreeSpells Is t) (TreeMarks Is t)
  Form false e t = Same (Spells Is e) (Marks Is e) (TreeSpells Is t) (TreeMarks Is t)

  form_joined : (f g : Expr) (nf ng : Bool) → Holds (Spells Is f) nf → Holds (Spells Is g) ng → (l r : FlaggedTree)
      → Form ng f l → Form nf g r → Form true (sequence f g) (joined nf ng l r)
  form_joined f g true true h k l r s t = strip_move _ _ _ _ _ _
      (strip_both (Spells Is f) (Marks Is f) (Spells Is g) (Marks Is g) (TreeSpells Is l) (TreeMarks Is l) (TreeSpells Is r) (TreeMarks Is r)
      (h.yes refl) (k.yes refl) s t)
      (same_held (λ w. TreeSpells Is l w ⊎ TreeSpells Is r w) (λ y w. TreeMarks Is l y w ⊎ TreeMarks Is r y w) false (λ n. cc))
  form_joined f g true false h k l r s t = strip_move _ _ _ _ _ _
      (strip_right (Spells Is f) (Marks Is f) (Spells Is g) (Marks Is g) (TreeSpells Is l) (TreeMarks Is l) (TreeSpells Is r) (TreeMarks Is r)
      (h.yes refl) (λ a. let n = k.no a in cc) s t)
      (same_held (Cut (TreeSpells Is l) (TreeSpells Is r)) (λ y w. TreeMarks Is l y w ⊎ Cut (TreeSpells Is l) (TreeMarks Is r y) w) false (λ n. cc))
  form_joined f g false true h k l r s t = strip_move _ _ _ _ _ _
      (strip_left (Spells Is f) (Marks Is f) (Spells Is g) (Marks Is g) (TreeSpells Is l) (TreeMarks Is l) (TreeSpells Is r) (TreeMarks Is r)
      (k.yes refl) (λ a. let n = h.no a in cc) s t)
      (same_held (Cut (TreeSpells Is l) (TreeSpells Is r)) (λ y w. TreeMarks Is l y w ⊎ Cut (TreeSpells Is l) (TreeMarks Is r y) w) false (λ n. cc))
  form_joined f g false false h k l r s t = strip_move _ _ _ _ _ _
      (strip_neither (Spells Is f) (Marks Is f) (Spells Is g) (Marks Is g) (TreeSpells Is l) (TreeMarks Is l) (TreeSpells Is r) (TreeMarks Is r)
      (λ a. let n = h.no a in cc) s t)
      (same_held (Cut (TreeSpells Is l) (TreeSpells Is r)) (λ y w. TreeMarks Is l y w ⊎ Cut (TreeSpells Is l) (TreeMarks Is r y) w) false (λ n. cc))

  form_sequence : (f g : Expr) (e : Bool) → Holds (Spells Is (sequence f g)) e → (l r : FlaggedTree) → Form false f l → Form false g r → Form false (sequence f g) (seq (held e) l r)
  form_sequence f g e h l r s t =
      let both : Same (Spells Is (sequence f g)) (Marks Is (sequence f g)) (Cut (TreeSpells Is l) (TreeSpells Is r))
      (λ y w. TreeMarks Is l y w ⊎ Cut (TreeSpells Is l) (TreeMarks Is r y) w)
      = same_seq (Spells Is f) (Marks Is f) (Spells Is g) (Marks Is g) (TreeSpells Is l) (TreeMarks Is l) (TreeSpells Is r) (TreeMarks Is r) s t in
      same_move _ _ _ _ _ _ both (same_held _ _ e (λ n. both.to [] (h.yes n)))

  form_union : (under : Bool) (f g : Expr) (e : Bool) → Holds (Spells Is (union f g)) e → (l r : FlaggedTree) → Form under f l → Form under g r
      → Form under (union f g) (alt (held (not under && e)) l r)
  form_union true f g e h l r s t = strip_move _ _ _ _ _ _
      (strip_or (Spells Is f) (Marks Is f) (Spells Is g) (Marks Is g) (TreeSpells Is l) (TreeMarks Is l) (TreeSpells Is r) (TreeMarks Is r) s t)
      (same_held (λ w. TreeSpells Is l w ⊎ TreeSpells Is r w) (λ y w. TreeMarks Is l y w ⊎ TreeMarks Is r y w) false (λ n. cc))
  form_union false f g e h l r s t =
      let both : Same (Spells Is (union f g)) (Marks Is (union f g)) (λ w. TreeSpells Is l w ⊎ TreeSpells Is r w) (λ y w. TreeMarks Is l y w ⊎ TreeMarks Is r y w)
      = same_or (Spells Is f) (Marks Is f) (Spells Is g) (Marks Is g) (TreeSpells Is l) (TreeMarks Is l) (TreeSpells Is r) (TreeMarks Is r) s t in
      same_move _ _ _ _ _ _ both (same_held _ _ e (λ n. both.to [] (h.yes n)))

  form_star : (under : Bool) (f : Expr) (t : FlaggedTree) → IsBare (flags t) → Form true f t → Form under (star f) (turned under true t)
  form_star true f t b s = strip_star (Spells Is f) (Marks Is f) (TreeSpells Is t) (TreeMarks Is t) s
  form_star false f t b s = same_move _ _ _ _ _ _
      (same_star (Spells Is f) (Marks Is f) (TreeSpells Is t) (TreeMarks Is t) s) (same_loop t b true)

  form_plus : (under : Bool) (f : Expr) (e : Bool) → Holds (Spells Is f) e → (t : FlaggedTree) → IsBare (flags t) → Form true f t → Form under (plus f) (turned under e t)
  form_plus true f e h t b s = strip_plus (Spells Is f) (Marks Is f) (TreeSpells Is t) (TreeMarks Is t) s
  form_plus false f e h t b s = same_move _ _ _ _ _ _
      (same_plus (Spells Is f) (Marks Is f) (TreeSpells Is t) (TreeMarks Is t) e h.no h.yes s) (same_loop t b e)

  form_optional : (under : Bool) (f : Expr) (t : FlaggedTree) → Form under f t → Form under (optional f) (opted under t)
  form_optional true f t s = strip_option (Spells Is f) (Marks Is f) (TreeSpells Is t) (TreeMarks Is t) s
  form_optional false f t s = same_move _ _ _ _ _ _
      (same_option (Spells Is f) (Marks Is f) (TreeSpells Is t) (TreeMarks Is t) s) (same_opted t)

  form_marked : (under : Bool) (f : Expr) (y : ℕ) (e : Bool) → Holds (Spells Is f) e → (t : FlaggedTree) → Form under f t
      → Form under (marked f y) (with_flags (marking y e (flags t)) t)
  form_marked true f y e h t s = strip_move _ _ _ _ _ _
      (strip_mark (Spells Is f) (Marks Is f) (TreeSpells Is t) (TreeMarks Is t) y e h.no h.yes s) (same_marked t y e)
  form_marked false f y e h t s = same_move _ _ _ _ _ _
      (same_mark (Spells Is f) (Marks Is f) (TreeSpells Is t) (TreeMarks Is t) y e h.no h.yes s) (same_marked t y e)

  form_leaf : (under : Bool) (s : ℕ) → Form under (symbol s) (leaf bare s)
  form_leaf true s = strip_same _ _ _ _ (same_held (Letter Is s) (λ y w. ⊥) false (λ n. cc)) (λ h. let e = h.1 in cc)
  form_leaf false s = same_held (Letter Is s) (λ y w. ⊥) false (λ n. cc)

  form_sequenced : (under : Bool) (f g : Expr) (nf ng : Bool) → Holds (Spells Is f) nf → Holds (Spells Is g) ng → (l r : FlaggedTree)
      → Form (under && ng) f l → Form (under && nf) g r → Form under (sequence f g) (sequenced under nf ng l r)
  form_sequenced true f g nf ng h k l r s t = form_joined f g nf ng h k l r s t
  form_sequenced false f g nf ng h k l r s t =
      form_sequence f g (nf && ng) (both_holds (Spells Is f) (Spells Is g) nf ng h k) l r s t

  pub forms : (under : Bool) (e : Expr) → HasNoRepeat e → Form under e (normal under e)
  forms under (symbol s) p = form_leaf under s
  forms under (sequence f g) p = form_sequenced under f g (nullable f) (nullable g) (nullable_holds f p.0) (nullable_holds g p.1)
      (normal (under && nullable g) f) (normal (under && nullable f) g) (forms (under && nullable g) f p.0) (forms (under && nullable f) g p.1)
  forms under (union f g) p = form_union under f g (nullable f || nullable g) (nullable_holds (union f g) p) (normal under f) (normal under g) (forms under f p.0) (forms under g p.1)
  forms under (star f) p = form_star under f (normal true f) (bare_normal f) (forms true f p)
  forms under (plus f) p = form_plus under f (nullable f) (nullable_holds f p) (normal true f) (bare_normal f) (forms true f p)
  forms under (optional f) p = form_optional under f (normal under f) (forms under f p)
  forms under (marked f y) p = form_marked under f y (nullable f) (nullable_holds f p) (normal under f) (forms under f p)
  forms under (repeated f m n) p = absurd p
