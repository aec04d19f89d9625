-- Expressions that spell and mark the same words, in any place.
use Rattle.std.proofs.Common.{◌≡◌, ◌⊎◌, ◌↔◌, ℕ, zero, suc, pred, Bool, true, false, List, [], inl, inr}
use Rattle.rx_lang.specs.Expression.{Expr, sequence, union, star, plus, optional, marked, repeated}
use Rattle.rx_lang.specs.Meaning.{Cut, Many, none, more, Repeats, RepeatMarks, Spells, Marks}
use Rattle.rx_lang.specs.Wrapped.{wrap}
use Rattle.rx_lang.proofs.Loops.{MarkedBelow, cut_map}

module _ {X : Type 0} where
  -- Each word of P is one of Q.
  abbrev pub Under : (P Q : List X → Type 0) → Type 0
  Under P Q = (u : List X) → P u → Q u

  pub many_map : (P Q : List X → Type 0) → Under P Q → Under (Many P) (Many Q)
  many_map P Q f _ (none u e) = none u e
  many_map P Q f _ (more u v w e ne p m) = more u v w e ne (f v p) (many_map P Q f w m)

  pub repeats_map : (P Q : List X → Type 0) → Under P Q → (m n : ℕ) → Under (Repeats P m n) (Repeats Q m n)
  repeats_map P Q f m zero u h = h
  repeats_map P Q f m (suc n) u (inl h) = inl h
  repeats_map P Q f m (suc n) u (inr h) = inr (cut_map P (Repeats P (pred m) n) Q (Repeats Q (pred m) n) f (repeats_map P Q f (pred m) n) u h)

  pub repeat_marks_map : (P Q S T : List X → Type 0) → Under P S → Under Q T → (n : ℕ) → Under (RepeatMarks P Q n) (RepeatMarks S T n)
  repeat_marks_map P Q S T f g zero u h = h
  repeat_marks_map P Q S T f g (suc n) u (inl h) = inl (g u h)
  repeat_marks_map P Q S T f g (suc n) u (inr h) =
      inr (cut_map P (RepeatMarks P Q n) S (RepeatMarks S T n) f (repeat_marks_map P Q S T f g n) u h)

module _ {X : Type 0} (Is : ℕ → X → Type 0) where
  -- The first spells and marks no more than the second.
  pub record Within (e f : Expr) : Type 0 where
    pub spells : Under (Spells Is e) (Spells Is f)
    pub marks : (y : ℕ) → Under (Marks Is e y) (Marks Is f y)

  pub record Alike (e f : Expr) : Type 0 where
    pub there : Within e f
    pub back : Within f e

  pub within_itself : (e : Expr) → Within e e
  within_itself e = record { spells = λ u h. h; marks = λ y u h. h }

  pub within_next : (e f g : Expr) → Within e f → Within f g → Within e g
  within_next e f g a b = record { spells = λ u h. b.spells u (a.spells u h); marks = λ y u h. b.marks y u (a.marks y u h) }

  pub alike_next : (e f g : Expr) → Alike e f → Alike f g → Alike e g
  alike_next e f g a b = record { there = within_next e f g a.there b.there; back = within_next g f e b.back a.back }

  sequence_marks_within : (e f g h : Expr) → Within e g → Within f h → (y : ℕ) → Under (Marks Is (sequence e f) y) (Marks Is (sequence g h) y)
  sequence_marks_within e f g h a b y u (inl k) = inl (a.marks y u k)
  sequence_marks_within e f g h a b y u (inr k) = inr (cut_map (Spells Is e) (Marks Is f y) (Spells Is g) (Marks Is h y) a.spells (b.marks y) u k)

  pub sequence_within : (e f g h : Expr) → Within e g → Within f h → Within (sequence e f) (sequence g h)
  sequence_within e f g h a b = record {
    spells = cut_map (Spells Is e) (Spells Is f) (Spells Is g) (Spells Is h) a.spells b.spells;
    marks = sequence_marks_within e f g h a b;
  }

  either_within : (P Q S T : List X → Type 0) → Under P S → Under Q T → (u : List X) → P u ⊎ Q u → S u ⊎ T u
  either_within P Q S T f g u (inl h) = inl (f u h)
  either_within P Q S T f g u (inr h) = inr (g u h)

  pub union_within : (e f g h : Expr) → Within e g → Within f h → Within (union e f) (union g h)
  union_within e f g h a b = record {
    spells = either_within (Spells Is e) (Spells Is f) (Spells Is g) (Spells Is h) a.spells b.spells;
    marks = λ y. either_within (Marks Is e y) (Marks Is f y) (Marks Is g y) (Marks Is h y) (a.marks y) (b.marks y);
  }

  loop_marks_within : (e f : Expr) → Within e f → (y : ℕ) → Under (Cut (Many (Spells Is e)) (Marks Is e y)) (Cut (Many (Spells Is f)) (Marks Is f y))
  loop_marks_within e f a y =
      cut_map (Many (Spells Is e)) (Marks Is e y) (Many (Spells Is f)) (Marks Is f y) (many_map (Spells Is e) (Spells Is f) a.spells) (a.marks y)

  pub star_within : (e f : Expr) → Within e f → Within (star e) (star f)
  star_within e f a = record { spells = many_map (Spells Is e) (Spells Is f) a.spells; marks = loop_marks_within e f a }

  pub plus_within : (e f : Expr) → Within e f → Within (plus e) (plus f)
  plus_within e f a = record {
    spells = cut_map (Spells Is e) (Many (Spells Is e)) (Spells Is f) (Many (Spells Is f)) a.spells (many_map (Spells Is e) (Spells Is f) a.spells);
    marks = loop_marks_within e f a;
  }

  pub optional_within : (e f : Expr) → Within e f → Within (optional e) (optional f)
  optional_within e f a = record {
    spells = either_within (λ u. u ≡ []) (Spells Is e) (λ u. u ≡ []) (Spells Is f) (λ u h. h) a.spells;
    marks = a.marks;
  }

  pub marked_within : (e f : Expr) (z : ℕ) → Within e f → Within (marked e z) (marked f z)
  marked_within e f z a = record {
    spells = a.spells;
    marks = λ y. either_within (λ u. (z ≡ y) × Spells Is e u) (Marks Is e y) (λ u. (z ≡ y) × Spells Is f u) (Marks Is f y)
        (λ u h. (h.0, a.spells u h.1)) (a.marks y);
  }

  pub repeated_within : (e f : Expr) (m n : ℕ) → Within e f → Within (repeated e m n) (repeated f m n)
  repeated_within e f m n a = record {
    spells = repeats_map (Spells Is e) (Spells Is f) a.spells m n;
    marks = λ y. repeat_marks_map (Spells Is e) (Marks Is e y) (Spells Is f) (Marks Is f y) a.spells (a.marks y) n;
  }

  pub wrap_within : (l o : Bool) (e f : Expr) → Within e f → Within (wrap l o e) (wrap l o f)
  wrap_within false false e f a = a
  wrap_within false true e f a = optional_within e f a
  wrap_within true false e f a = plus_within e f a
  wrap_within true true e f a = star_within e f a

  pub alike_itself : (e : Expr) → Alike e e
  alike_itself e = record { there = within_itself e; back = within_itself e }

  below_within : (m l o : Bool) (e f : Expr) (y : ℕ) → Within e f → Under (MarkedBelow Is m l o e y) (MarkedBelow Is m l o f y)
  below_within m l o e f y a u (inl h) = inl (h.0, (wrap_within l o e f a).spells u h.1)
  below_within m l o e f y a u (inr h) = inr ((wrap_within l false e f a).marks y u h)

  -- below signs and marks
  pub wrap_alike : (l o : Bool) (e f : Expr) → Alike e f → (u : List X) → Spells Is (wrap l o e) u ↔ Spells Is (wrap l o f) u
  wrap_alike l o e f a u = ((wrap_within l o e f a.there).spells u, (wrap_within l o f e a.back).spells u)

  pub below_alike : (m l o : Bool) (e f : Expr) (y : ℕ) → Alike e f → (u : List X) → MarkedBelow Is m l o e y u ↔ MarkedBelow Is m l o f y u
  below_alike m l o e f y a u = (below_within m l o e f y a.there u, below_within m l o f e y a.back u)
