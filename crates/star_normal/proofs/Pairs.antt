-- What sequence and union do to the two relations of an expression and its tree.
use Rattle.std.proofs.Common.{◌≡◌, ◌≢◌, ◌⊎◌, ℕ, List, [], ◌++◌, refl, sym, ap, ◌∙◌, subst, inl, inr, append_assoc}
use Rattle.rx_lang.specs.Meaning.{Cut, Many, none, more}
use Rattle.star_normal.proofs.Langs.{Last, full_front, full_rest, cut_map, cut_now, cut_end, cut_nil, many_nil, many_front, many_join, many_then, many_last, cut_more, many_map}
use Rattle.star_normal.proofs.Strips.{Same, Strip, strip_same}

module _ {X : Type 0} (A1 : List X → Type 0) (M1 : ℕ → List X → Type 0) (A2 : List X → Type 0) (M2 : ℕ → List X → Type 0) where
  -- the marks of a sequence
  abbrev pub SeqMarks : ℕ → List X → Type 0
  SeqMarks y u = M1 y u ⊎ Cut A1 (M2 y) u

  -- the words and marks of a union
  abbrev pub OrWords : List X → Type 0
  OrWords u = A1 u ⊎ A2 u

  abbrev pub OrMarks : ℕ → List X → Type 0
  OrMarks y u = M1 y u ⊎ M2 y u

  pub or_map : (P Q : List X → Type 0) (u : List X) → (A1 u → P u) → (A2 u → Q u) → A1 u ⊎ A2 u → P u ⊎ Q u
  or_map P Q u f g (inl h) = inl (f h)
  or_map P Q u f g (inr h) = inr (g h)

  pub or_elim : (P : List X → Type 0) (u : List X) → (A1 u → P u) → (A2 u → P u) → A1 u ⊎ A2 u → P u
  or_elim P u f g (inl h) = f h
  or_elim P u f g (inr h) = g h

module _ {X : Type 0} (A1 : List X → Type 0) (M1 : ℕ → List X → Type 0) (A2 : List X → Type 0) (M2 : ℕ → List X → Type 0)
    (B1 : List X → Type 0) (N1 : ℕ → List X → Type 0) (B2 : List X → Type 0) (N2 : ℕ → List X → Type 0) where
  -- words, marks of the sequence and of the union of expressions and of trees
  abbrev SeqA : List X → Type 0
  SeqA u = Cut A1 A2 u

  abbrev SeqB : List X → Type 0
  SeqB u = Cut B1 B2 u

  abbrev SeqM : ℕ → List X → Type 0
  SeqM y u = SeqMarks A1 M1 A2 M2 y u

  abbrev SeqN : ℕ → List X → Type 0
  SeqN y u = SeqMarks B1 N1 B2 N2 y u

  abbrev OrA : List X → Type 0
  OrA u = OrWords A1 M1 A2 M2 u

  abbrev OrB : List X → Type 0
  OrB u = OrWords B1 N1 B2 N2 u

  abbrev OrM : ℕ → List X → Type 0
  OrM y u = OrMarks A1 M1 A2 M2 y u

  abbrev OrN : ℕ → List X → Type 0
  OrN y u = OrMarks B1 N1 B2 N2 y u

  seq_marks_to : Same A1 M1 B1 N1 → Same A2 M2 B2 N2 → (y : ℕ) (u : List X) → SeqM y u → SeqN y u
  seq_marks_to s t y u (inl h) = inl (s.marks_to y u h)
  seq_marks_to s t y u (inr h) = inr (cut_map A1 (M2 y) B1 (N2 y) s.to (t.marks_to y) u h)

  seq_marks_below : ((u : List X) → B1 u → A1 u) → ((y : ℕ) (u : List X) → N1 y u → M1 y u) → ((y : ℕ) (u : List X) → N2 y u → M2 y u)
      → (y : ℕ) (u : List X) → SeqN y u → SeqM y u
  seq_marks_below f g h y u (inl n) = inl (g y u n)
  seq_marks_below f g h y u (inr n) = inr (cut_map B1 (N2 y) A1 (M2 y) f (h y) u n)

  pub same_seq : Same A1 M1 B1 N1 → Same A2 M2 B2 N2 → Same SeqA SeqM SeqB SeqN
  same_seq s t = record {
    to = cut_map A1 A2 B1 B2 s.to t.to;
    from = cut_map B1 B2 A1 A2 s.from t.from;
    marks_to = seq_marks_to s t;
    marks_from = seq_marks_below s.from s.marks_from t.marks_from;
  }

  or_to : Same A1 M1 B1 N1 → Same A2 M2 B2 N2 → (u : List X) → OrA u → OrB u
  or_to s t u h = or_map A1 M1 A2 M2 B1 B2 u (s.to u) (t.to u) h

  or_from : ((u : List X) → B1 u → A1 u) → ((u : List X) → B2 u → A2 u) → (u : List X) → OrB u → OrA u
  or_from f g u h = or_map B1 N1 B2 N2 A1 A2 u (f u) (g u) h

  or_marks_from : ((y : ℕ) (u : List X) → N1 y u → M1 y u) → ((y : ℕ) (u : List X) → N2 y u → M2 y u) → (y : ℕ) (u : List X) → OrN y u → OrM y u
  or_marks_from f g y u (inl h) = inl (f y u h)
  or_marks_from f g y u (inr h) = inr (g y u h)

  or_marks_to : ((y : ℕ) (u : List X) → M1 y u → N1 y u) → ((y : ℕ) (u : List X) → M2 y u → N2 y u) → (y : ℕ) (u : List X) → OrM y u → OrN y u
  or_marks_to f g y u (inl h) = inl (f y u h)
  or_marks_to f g y u (inr h) = inr (g y u h)

  pub same_or : Same A1 M1 B1 N1 → Same A2 M2 B2 N2 → Same OrA OrM OrB OrN
  same_or s t = record {
    to = or_to s t;
    from = or_from s.from t.from;
    marks_to = or_marks_to s.marks_to t.marks_to;
    marks_from = or_marks_from s.marks_from t.marks_from;
  }

  or_full : Strip A1 M1 B1 N1 → Strip A2 M2 B2 N2 → (u : List X) → OrB u → u ≢ []
  or_full s t u (inl h) = s.full u h
  or_full s t u (inr h) = t.full u h

  left_many : (u : List X) → Many B1 u → Many OrB u
  left_many = many_map B1 OrB (λ w b. inl b)

  right_many : (u : List X) → Many B2 u → Many OrB u
  right_many = many_map B2 OrB (λ w b. inr b)

  or_within : Strip A1 M1 B1 N1 → Strip A2 M2 B2 N2 → (u : List X) → OrA u → Many OrB u
  or_within s t u (inl h) = left_many u (s.within u h)
  or_within s t u (inr h) = right_many u (t.within u h)

  left_marks : (y : ℕ) (u : List X) → Cut (Many B1) (N1 y) u → Cut (Many OrB) (OrN y) u
  left_marks y = cut_map (Many B1) (N1 y) (Many OrB) (OrN y) left_many (λ w n. inl n)

  right_marks : (y : ℕ) (u : List X) → Cut (Many B2) (N2 y) u → Cut (Many OrB) (OrN y) u
  right_marks y = cut_map (Many B2) (N2 y) (Many OrB) (OrN y) right_many (λ w n. inr n)

  or_marks_within : Strip A1 M1 B1 N1 → Strip A2 M2 B2 N2 → (y : ℕ) (u : List X) → OrM y u → Cut (Many OrB) (OrN y) u
  or_marks_within s t y u (inl h) = left_marks y u (s.marks_within y u h)
  or_marks_within s t y u (inr h) = right_marks y u (t.marks_within y u h)

  pub strip_or : Strip A1 M1 B1 N1 → Strip A2 M2 B2 N2 → Strip OrA OrM OrB OrN
  strip_or s t = record {
    full = or_full s t;
    below = or_from s.below t.below;
    within = or_within s t;
    marks_below = or_marks_from s.marks_below t.marks_below;
    marks_within = or_marks_within s t;
  }

  -- A stripped sequence both of whose parts spell the empty word: one part beside the other.

  both_below : A1 [] → A2 [] → Strip A1 M1 B1 N1 → Strip A2 M2 B2 N2 → (u : List X) → OrB u → SeqA u
  both_below n1 n2 s t u (inl h) = cut_end A1 A2 u (s.below u h) n2
  both_below n1 n2 s t u (inr h) = cut_now A1 A2 u n1 (t.below u h)

  both_within : Strip A1 M1 B1 N1 → Strip A2 M2 B2 N2 → (u : List X) → SeqA u → Many OrB u
  both_within s t u c = subst (Many OrB) (sym c.whole)
      (many_join OrB c.front c.rest (left_many c.front (s.within c.front c.first)) (right_many c.rest (t.within c.rest c.second)))

  both_marks_below : A1 [] → Strip A1 M1 B1 N1 → Strip A2 M2 B2 N2 → (y : ℕ) (u : List X) → OrN y u → SeqM y u
  both_marks_below n1 s t y u (inl h) = inl (s.marks_below y u h)
  both_marks_below n1 s t y u (inr h) = inr (cut_now A1 (M2 y) u n1 (t.marks_below y u h))

  both_marks_within : Strip A1 M1 B1 N1 → Strip A2 M2 B2 N2 → (y : ℕ) (u : List X) → SeqM y u → Cut (Many OrB) (OrN y) u
  both_marks_within s t y u (inl h) = left_marks y u (s.marks_within y u h)
  both_marks_within s t y u (inr c) = subst (Cut (Many OrB) (OrN y)) (sym c.whole)
      (cut_more OrB (OrN y) c.front c.rest (left_many c.front (s.within c.front c.first)) (right_marks y c.rest (t.marks_within y c.rest c.second)))

  pub strip_both : A1 [] → A2 [] → Strip A1 M1 B1 N1 → Strip A2 M2 B2 N2 → Strip SeqA SeqM OrB OrN
  strip_both n1 n2 s t = record {
    full = or_full s t;
    below = both_below n1 n2 s t;
    within = both_within s t;
    marks_below = both_marks_below n1 s t;
    marks_within = both_marks_within s t;
  }

  -- A stripped sequence whose right part alone spells the empty word: the last turn of the left part stands before the right part.

  left_turns : B2 [] → (u : List X) → Many B1 u → Many SeqB u
  left_turns n2 = many_map B1 SeqB (λ w b. cut_end B1 B2 w b n2)

  left_last : (A1 [] → ⊥) → Strip A1 M1 B1 N1 → (v : List X) → A1 v → (v ≡ []) ⊎ Last B1 v → Last B1 v
  left_last ne s v a (inl n) = absurd (ne (subst A1 n a))
  left_last ne s v a (inr l) = l

  last_of : (A1 [] → ⊥) → Strip A1 M1 B1 N1 → (v : List X) → A1 v → Last B1 v
  last_of ne s v a = left_last ne s v a (many_last B1 v (s.within v a))

  left_within : B2 [] → (v w : List X) → Last B1 v → B2 w → Many SeqB (v ++ w)
  left_within n2 v w l b = subst (Many SeqB) (sym (ap (λ s. s ++ w) l.whole ∙ append_assoc l.front l.rest w))
      (many_then SeqB l.front (l.rest ++ w) (left_turns n2 l.front l.before)
      (record { front = l.rest; rest = w; whole = refl; first = l.last; second = b }))

  left_marks_after : B2 [] → (y : ℕ) (v w : List X) → Last B1 v → N2 y w → Cut (Many SeqB) (SeqN y) (v ++ w)
  left_marks_after n2 y v w l n = record {
    front = l.front;
    rest = l.rest ++ w;
    whole = ap (λ s. s ++ w) l.whole ∙ append_assoc l.front l.rest w;
    first = left_turns n2 l.front l.before;
    second = inr (record { front = l.rest; rest = w; whole = refl; first = l.last; second = n });
  }

  left_marks_within : B2 [] → (A1 [] → ⊥) → Strip A1 M1 B1 N1 → Same A2 M2 B2 N2 → (y : ℕ) (u : List X) → SeqM y u → Cut (Many SeqB) (SeqN y) u
  left_marks_within n2 ne s t y u (inl h) =
      cut_map (Many B1) (N1 y) (Many SeqB) (SeqN y) (left_turns n2) (λ w n. inl n) u (s.marks_within y u h)
  left_marks_within n2 ne s t y u (inr c) = subst (Cut (Many SeqB) (SeqN y)) (sym c.whole)
      (left_marks_after n2 y c.front c.rest (last_of ne s c.front c.first) (t.marks_to y c.rest c.second))

  pub strip_left : A2 [] → (A1 [] → ⊥) → Strip A1 M1 B1 N1 → Same A2 M2 B2 N2 → Strip SeqA SeqM SeqB SeqN
  strip_left n2 ne s t = record {
    full = λ u c e. full_front c.front c.rest (s.full c.front c.first) (sym c.whole ∙ e);
    below = cut_map B1 B2 A1 A2 s.below t.from;
    within = λ u c. subst (Many SeqB) (sym c.whole)
        (left_within (t.to [] n2) c.front c.rest (last_of ne s c.front c.first) (t.to c.rest c.second));
    marks_below = seq_marks_below s.below s.marks_below t.marks_from;
    marks_within = left_marks_within (t.to [] n2) ne s t;
  }

  -- A stripped sequence whose left part alone spells the empty word: the first turn of the right part stands behind the left part.

  right_turns : B1 [] → (u : List X) → Many B2 u → Many SeqB u
  right_turns n1 = many_map B2 SeqB (λ w b. cut_now B1 B2 w n1 b)

  right_first : B1 [] → (v w : List X) → B1 v → Many B2 w → (w ≡ []) ⊎ Many SeqB (v ++ w)
  right_first n1 v _ a (none w e) = inl e
  right_first n1 v _ a (more w p q e ne b m) = inr (subst (Many SeqB) (append_assoc v p q ∙ ap (λ s. v ++ s) (sym e))
      (many_front SeqB (v ++ p) q (record { front = v; rest = p; whole = refl; first = a; second = b }) (right_turns n1 q m)))

  right_within : (A2 [] → ⊥) → (v w : List X) → A2 w → (w ≡ []) ⊎ Many SeqB (v ++ w) → Many SeqB (v ++ w)
  right_within ne v w a (inl n) = absurd (ne (subst A2 n a))
  right_within ne v w a (inr m) = m

  right_marked : B1 [] → (y : ℕ) (v p q : List X) → B1 v → N2 y q → (p ≡ []) ⊎ Many SeqB (v ++ p) → Cut (Many SeqB) (SeqN y) (v ++ (p ++ q))
  right_marked n1 y v p q a n (inl e) = cut_now (Many SeqB) (SeqN y) (v ++ (p ++ q)) (many_nil SeqB)
      (inr (record { front = v; rest = q; whole = ap (λ s. v ++ (s ++ q)) e; first = a; second = n }))
  right_marked n1 y v p q a n (inr m) = record {
    front = v ++ p;
    rest = q;
    whole = sym (append_assoc v p q);
    first = m;
    second = inr (cut_now B1 (N2 y) q n1 n);
  }

  right_marks_after : B1 [] → (y : ℕ) (v w : List X) → B1 v → Cut (Many B2) (N2 y) w → Cut (Many SeqB) (SeqN y) (v ++ w)
  right_marks_after n1 y v w a c = subst (λ s. Cut (Many SeqB) (SeqN y) (v ++ s)) (sym c.whole)
      (right_marked n1 y v c.front c.rest a c.second (right_first n1 v c.front a c.first))

  right_marks_within : B1 [] → Same A1 M1 B1 N1 → Strip A2 M2 B2 N2 → (y : ℕ) (u : List X) → SeqM y u → Cut (Many SeqB) (SeqN y) u
  right_marks_within n1 s t y u (inl h) = cut_now (Many SeqB) (SeqN y) u (many_nil SeqB) (inl (s.marks_to y u h))
  right_marks_within n1 s t y u (inr c) = subst (Cut (Many SeqB) (SeqN y)) (sym c.whole)
      (right_marks_after n1 y c.front c.rest (s.to c.front c.first) (t.marks_within y c.rest c.second))

  pub strip_right : A1 [] → (A2 [] → ⊥) → Same A1 M1 B1 N1 → Strip A2 M2 B2 N2 → Strip SeqA SeqM SeqB SeqN
  strip_right n1 ne s t = record {
    full = λ u c e. full_rest c.front c.rest (t.full c.rest c.second) (sym c.whole ∙ e);
    below = cut_map B1 B2 A1 A2 s.from t.below;
    within = λ u c. subst (Many SeqB) (sym c.whole) (right_within ne c.front c.rest c.second
        (right_first (s.to [] n1) c.front c.rest (s.to c.front c.first) (t.within c.rest c.second)));
    marks_below = seq_marks_below s.from s.marks_from t.marks_below;
    marks_within = right_marks_within (s.to [] n1) s t;
  }

  -- A sequence none of whose words is empty, as its left part's are not.
  pub strip_neither : (A1 [] → ⊥) → Same A1 M1 B1 N1 → Same A2 M2 B2 N2 → Strip SeqA SeqM SeqB SeqN
  strip_neither ne s t =
      strip_same SeqA SeqM SeqB SeqN (same_seq s t) (λ c. ne (cut_nil A1 A2 c.front c.rest c.whole c.first c.second).0)
