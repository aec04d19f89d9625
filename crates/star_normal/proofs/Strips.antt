-- The two relations of an expression and its tree, and what each operator does to them.
-- A and M are the words and marks of the expression, B and N those of the tree.
use Rattle.std.proofs.Common.{◌≡◌, ◌≢◌, ◌⊎◌, ℕ, Bool, true, IsTrue, List, [], refl, sym, ◌∙◌, subst, inl, inr}
use Rattle.rx_lang.specs.Meaning.{Cut, Many, none}
use Rattle.star_normal.proofs.Langs.{Last, empty_or_full, cut_map, cut_now, cut_end, cut_nil, many_nil, many_one, plus_many, many_plus, many_last, cut_more, many_flat, many_map}

-- The tree has the same words and marks.
pub record Same {X : Type 0} (A : List X → Type 0) (M : ℕ → List X → Type 0) (B : List X → Type 0) (N : ℕ → List X → Type 0) : Type 0 where
  pub to : (u : List X) → A u → B u
  pub from : (u : List X) → B u → A u
  pub marks_to : (y : ℕ) (u : List X) → M y u → N y u
  pub marks_from : (y : ℕ) (u : List X) → N y u → M y u

-- The tree is stripped: turns of a loop around it give back what it lost.
pub record Strip {X : Type 0} (A : List X → Type 0) (M : ℕ → List X → Type 0) (B : List X → Type 0) (N : ℕ → List X → Type 0) : Type 0 where
  pub full : (u : List X) → B u → u ≢ []
  pub below : (u : List X) → B u → A u
  pub within : (u : List X) → A u → Many B u
  pub marks_below : (y : ℕ) (u : List X) → N y u → M y u
  pub marks_within : (y : ℕ) (u : List X) → M y u → Cut (Many B) (N y) u

module _ {X : Type 0} (A : List X → Type 0) (M : ℕ → List X → Type 0) (B : List X → Type 0) (N : ℕ → List X → Type 0) where
  pub same_move : (C : List X → Type 0) (K : ℕ → List X → Type 0) → Same A M B N → Same B N C K → Same A M C K
  same_move C K s t = record {
    to = λ u a. t.to u (s.to u a);
    from = λ u c. s.from u (t.from u c);
    marks_to = λ y u m. t.marks_to y u (s.marks_to y u m);
    marks_from = λ y u k. s.marks_from y u (t.marks_from y u k);
  }

  pub strip_move : (C : List X → Type 0) (K : ℕ → List X → Type 0) → Strip A M B N → Same B N C K → Strip A M C K
  strip_move C K s t = record {
    full = λ u c. s.full u (t.from u c);
    below = λ u c. s.below u (t.from u c);
    within = λ u a. many_map B C t.to u (s.within u a);
    marks_below = λ y u k. s.marks_below y u (t.marks_from y u k);
    marks_within = λ y u m. cut_map (Many B) (N y) (Many C) (K y) (many_map B C t.to) (t.marks_to y) u (s.marks_within y u m);
  }

  -- where the empty word is none of the expression's, nothing is lost
  pub strip_same : Same A M B N → (A [] → ⊥) → Strip A M B N
  strip_same s ne = record {
    full = λ u b e. ne (subst A e (s.from u b));
    below = s.from;
    within = λ u a. many_one B u (s.to u a);
    marks_below = s.marks_from;
    marks_within = λ y u m. cut_now (Many B) (N y) u (many_nil B) (s.marks_to y u m);
  }

  -- the marks of a marked expression
  abbrev pub Also : ℕ → ℕ → List X → Type 0
  Also y z u = ((y ≡ z) × A u) ⊎ M z u

  -- the marks that a mark of a node adds
  abbrev pub Own : ℕ → Bool → ℕ → List X → Type 0
  Own y e z u = (y ≡ z) × (((u ≢ []) × B u) ⊎ (IsTrue e × (u ≡ [])))

  -- the marks of a tree with a further mark
  abbrev pub Marked : ℕ → Bool → ℕ → List X → Type 0
  Marked y e z u = Own y e z u ⊎ N z u

  module _ (y : ℕ) (e : Bool) (spelled : A [] → IsTrue e) (spells : IsTrue e → A []) where
    own_below : ((u : List X) → B u → A u) → (z : ℕ) (u : List X) → (y ≡ z) → ((u ≢ []) × B u) ⊎ (IsTrue e × (u ≡ [])) → (y ≡ z) × A u
    own_below f z u q (inl h) = (q, f u h.1)
    own_below f z u q (inr h) = (q, subst A (sym h.1) (spells h.0))

    marked_below : ((u : List X) → B u → A u) → ((z : ℕ) (u : List X) → N z u → M z u) → (z : ℕ) (u : List X) → Marked y e z u → Also y z u
    marked_below f g z u (inl h) = inl (own_below f z u h.0 h.1)
    marked_below f g z u (inr h) = inr (g z u h)

    own_to : ((u : List X) → A u → B u) → (z : ℕ) (u : List X) → (y ≡ z) → A u → (u ≡ []) ⊎ (u ≢ []) → Marked y e z u
    own_to f z u q a (inl n) = inl (q, inr (spelled (subst A n a), n))
    own_to f z u q a (inr ne) = inl (q, inl (ne, f u a))

    marked_to : ((u : List X) → A u → B u) → ((z : ℕ) (u : List X) → M z u → N z u) → (z : ℕ) (u : List X) → Also y z u → Marked y e z u
    marked_to f g z u (inl h) = own_to f z u h.0 h.1 (empty_or_full u)
    marked_to f g z u (inr h) = inr (g z u h)

    pub same_mark : Same A M B N → Same A (Also y) B (Marked y e)
    same_mark s = record {
      to = s.to;
      from = s.from;
      marks_to = marked_to s.to s.marks_to;
      marks_from = marked_below s.from s.marks_from;
    }

    own_within : (z : ℕ) (u : List X) → (y ≡ z) → A u → (u ≡ []) ⊎ Last B u → Cut (Many B) (Marked y e z) u
    own_within z u q a (inl n) = cut_end (Many B) (Marked y e z) u (none u n) (inl (q, inr (spelled (subst A n a), refl)))
    own_within z u q a (inr l) = record {
      front = l.front;
      rest = l.rest;
      whole = l.whole;
      first = l.before;
      second = inl (q, inl (l.full, l.last));
    }

    marked_within : Strip A M B N → (z : ℕ) (u : List X) → Also y z u → Cut (Many B) (Marked y e z) u
    marked_within s z u (inl h) = own_within z u h.0 h.1 (many_last B u (s.within u h.1))
    marked_within s z u (inr h) = cut_map (Many B) (N z) (Many B) (Marked y e z) (λ v b. b) (λ v n. inr n) u (s.marks_within z u h)

    pub strip_mark : Strip A M B N → Strip A (Also y) B (Marked y e)
    strip_mark s = record {
      full = s.full;
      below = s.below;
      within = s.within;
      marks_below = marked_below s.below s.marks_below;
      marks_within = marked_within s;
    }

  -- The operators on one expression.

  abbrev pub Option : List X → Type 0
  Option u = (u ≡ []) ⊎ A u

  within_option : Strip A M B N → (u : List X) → Option u → Many B u
  within_option s u (inl n) = none u n
  within_option s u (inr a) = s.within u a

  pub strip_option : Strip A M B N → Strip Option M B N
  strip_option s = record {
    full = s.full;
    below = λ u b. inr (s.below u b);
    within = within_option s;
    marks_below = s.marks_below;
    marks_within = s.marks_within;
  }

  option_to : Same A M B N → (u : List X) → Option u → (u ≡ []) ⊎ B u
  option_to s u (inl n) = inl n
  option_to s u (inr a) = inr (s.to u a)

  option_from : Same A M B N → (u : List X) → (u ≡ []) ⊎ B u → Option u
  option_from s u (inl n) = inl n
  option_from s u (inr b) = inr (s.from u b)

  pub same_option : Same A M B N → Same Option M (λ u. (u ≡ []) ⊎ B u) N
  same_option s = record { to = option_to s; from = option_from s; marks_to = s.marks_to; marks_from = s.marks_from }

  -- the marks of both loops
  abbrev pub LoopMarks : ℕ → List X → Type 0
  LoopMarks y u = Cut (Many A) (M y) u

  star_within : Strip A M B N → (u : List X) → Many A u → Many B u
  star_within s u m = many_flat A B s.within u m

  plus_within : Strip A M B N → (u : List X) → Cut A (Many A) u → Many B u
  plus_within s u c = star_within s u (plus_many A u c)

  loop_marks_below : Strip A M B N → (y : ℕ) (u : List X) → N y u → LoopMarks y u
  loop_marks_below s y u n = cut_now (Many A) (M y) u (many_nil A) (s.marks_below y u n)

  loop_marks_within : Strip A M B N → (y : ℕ) (u : List X) → LoopMarks y u → Cut (Many B) (N y) u
  loop_marks_within s y u c =
      subst (Cut (Many B) (N y)) (sym c.whole) (cut_more B (N y) c.front c.rest (star_within s c.front c.first) (s.marks_within y c.rest c.second))

  loop_marks_from : Strip A M B N → (y : ℕ) (u : List X) → Cut (Many B) (N y) u → LoopMarks y u
  loop_marks_from s y u c = cut_map (Many B) (N y) (Many A) (M y) (many_map B A s.below) (s.marks_below y) u c

  pub strip_star : Strip A M B N → Strip (Many A) LoopMarks B N
  strip_star s = record {
    full = s.full;
    below = λ u b. many_one A u (s.below u b);
    within = star_within s;
    marks_below = loop_marks_below s;
    marks_within = loop_marks_within s;
  }

  pub strip_plus : Strip A M B N → Strip (Cut A (Many A)) LoopMarks B N
  strip_plus s = record {
    full = s.full;
    below = λ u b. cut_end A (Many A) u (s.below u b) (many_nil A);
    within = plus_within s;
    marks_below = loop_marks_below s;
    marks_within = loop_marks_within s;
  }

  -- the words of a loop around the tree, which spells the empty word where e says so
  abbrev pub Looped : Bool → List X → Type 0
  Looped e u = (IsTrue e × (u ≡ [])) ⊎ Cut B (Many B) u

  pub looped_to : (e : Bool) (u : List X) → ((u ≡ []) → IsTrue e) → (u ≡ []) ⊎ ((u ≢ []) × Cut B (Many B) u) → Looped e u
  looped_to e u h (inl n) = inl (h n, n)
  looped_to e u h (inr c) = inr c.1

  star_from : Strip A M B N → (u : List X) → Looped true u → Many A u
  star_from s u (inl n) = none u n.1
  star_from s u (inr c) = many_map B A s.below u (plus_many B u c)

  pub same_star : Strip A M B N → Same (Many A) LoopMarks (Looped true) (λ y u. Cut (Many B) (N y) u)
  same_star s = record {
    to = λ u m. looped_to true u (λ n. refl) (many_plus B u (star_within s u m));
    from = star_from s;
    marks_to = loop_marks_within s;
    marks_from = loop_marks_from s;
  }

  plus_empty : (e : Bool) → (A [] → IsTrue e) → (u : List X) → Cut A (Many A) u → (u ≡ []) → IsTrue e
  plus_empty e h u c n = h (cut_nil A (Many A) c.front c.rest (sym n ∙ c.whole) c.first c.second).0

  plus_from : (e : Bool) → (IsTrue e → A []) → Strip A M B N → (u : List X) → Looped e u → Cut A (Many A) u
  plus_from e h s u (inl n) = subst (Cut A (Many A)) (sym n.1) (cut_end A (Many A) [] (h n.0) (many_nil A))
  plus_from e h s u (inr c) = cut_map B (Many B) A (Many A) s.below (many_map B A s.below) u c

  pub same_plus : (e : Bool) → (A [] → IsTrue e) → (IsTrue e → A []) → Strip A M B N → Same (Cut A (Many A)) LoopMarks (Looped e) (λ y u. Cut (Many B) (N y) u)
  same_plus e h k s = record {
    to = λ u c. looped_to e u (plus_empty e h u c) (many_plus B u (plus_within s u c));
    from = plus_from e k s;
    marks_to = loop_marks_within s;
    marks_from = loop_marks_from s;
  }
