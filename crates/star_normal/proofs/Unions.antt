-- The normal form of statements has their words, their languages and their leaves.
use Rattle.std.proofs.Common.{◌≡◌, ◌⊎◌, ◌↔◌, ℕ, ◌+◌, ◌≤◌, Bool, true, false, ◌||◌, IsTrue, List, [], ◌∷◌, ◌++◌, length, map, flat_map, refl, sym, ap, ◌∙◌, subst, inl, inr, arith, append_assoc, append-nil, length-append}
use Rattle.rx_lang.specs.Expression.{Expr, symbol, sequence, union, star, plus, optional, marked, repeated}
use Rattle.std.proofs.lemmas.List.{length-map}
use Rattle.rx_lang.specs.Copies.{IsItself, copied, numbered, all_numbered, occurrences}
use Rattle.rx_lang.specs.Meaning.{EndsIn, Spells, Marks, SomeMarks}
use Rattle.star_normal.specs.Trees.{FlaggedTree, alt, leaves, TreeSpells, TreeMarks, WholeSpells, WholeMarks}
use Rattle.star_normal.specs.Normal.{nullable, held, normal, united, scanned, normal_form}
use Rattle.star_normal.specs.Shapes.{HasNoRepeat, NeverScans, tree_numbered, rest_part, scan_part}
use Rattle.star_normal.specs.Laws.{SomeSpells, HasWords, PartHasWords, HasLanguages}
use Rattle.star_normal.specs.Assembly.{IsNormal}
use Rattle.star_normal.proofs.Flagged.{or_split, or_first, or_second}
use Rattle.star_normal.proofs.Forms.{nullable_holds, forms}
use Rattle.star_normal.proofs.Exact.{exact_normal}
use Rattle.star_normal.proofs.OwnStrip.{are_stripped}
use Rattle.star_normal.proofs.Numbered.{leaves_normal, normal_numbered}
use Rattle.star_normal.proofs.Copied.{HaveNoRepeats, no_repeat_united}
use Rattle.star_normal.proofs.NeverScan as never

-- Unions.

module _ {X : Type 0} (Is : ℕ → X → Type 0) where
  only : {A : Type 0} → A ⊎ ⊥ → A
  only (inl h) = h
  only (inr h) = absurd h

  or_left : (A B C : Type 0) → (A ⊎ B) ⊎ C → A ⊎ (B ⊎ C)
  or_left A B C (inl (inl h)) = inl h
  or_left A B C (inl (inr h)) = inr (inl h)
  or_left A B C (inr h) = inr (inr h)

  or_right : (A B C : Type 0) → A ⊎ (B ⊎ C) → (A ⊎ B) ⊎ C
  or_right A B C (inl h) = inl (inl h)
  or_right A B C (inr (inl h)) = inl (inr h)
  or_right A B C (inr (inr h)) = inr h

  united_spells : (e : Expr) (es : List Expr) (u : List X) → Spells Is (united e es) u ↔ SomeSpells Is (e ∷ es) u
  united_spells e [] u = (λ h. inl h, λ h. only h)
  united_spells e (f ∷ es) u =
      let rec : Spells Is (united (union e f) es) u ↔ SomeSpells Is (union e f ∷ es) u = united_spells (union e f) es u in
      (λ h. or_left (Spells Is e u) (Spells Is f u) (SomeSpells Is es u) (rec.0 h), λ h. rec.1 (or_right (Spells Is e u) (Spells Is f u) (SomeSpells Is es u) h))

  united_marks : (e : Expr) (es : List Expr) (y : ℕ) (u : List X) → Marks Is (united e es) y u ↔ SomeMarks Is (e ∷ es) y u
  united_marks e [] y u = (λ h. inl h, λ h. only h)
  united_marks e (f ∷ es) y u =
      let rec : Marks Is (united (union e f) es) y u ↔ SomeMarks Is (union e f ∷ es) y u = united_marks (union e f) es y u in
      (λ h. or_left (Marks Is e y u) (Marks Is f y u) (SomeMarks Is es y u) (rec.0 h), λ h. rec.1 (or_right (Marks Is e y u) (Marks Is f y u) (SomeMarks Is es y u) h))

  pub union_words : (e : Expr) (es : List Expr) → HasNoRepeat e → HaveNoRepeats es → HasWords Is (e ∷ es) (normal false (united e es))
  union_words e es p q =
      let s = forms Is false (united e es) (no_repeat_united e es p q) in
      record {
        spells = λ u. let w = united_spells e es u in (λ h. w.0 (s.from u h), λ h. s.to u (w.1 h));
        marks = λ y u. let w = united_marks e es y u in (λ h. w.0 (s.marks_from y u h), λ h. s.marks_to y u (w.1 h));
      }

united_occurrences : (e : Expr) (es : List Expr) → occurrences (united e es) ≡ occurrences e ++ flat_map occurrences es
united_occurrences e [] = sym (append-nil (occurrences e))
united_occurrences e (f ∷ es) = united_occurrences (union e f) es ∙ append_assoc (occurrences e) (occurrences f) (flat_map occurrences es)

pub union_leaves : (e : Expr) (es : List Expr) → HasNoRepeat e → HaveNoRepeats es → leaves (normal false (united e es)) ≡ flat_map occurrences (e ∷ es)
union_leaves e es p q = leaves_normal false (united e es) (no_repeat_united e es p q) ∙ united_occurrences e es

united_numbered : (k : ℕ) (e : Expr) (es : List Expr) → numbered k (united e es) ≡ united (numbered k e) (all_numbered (k + length (occurrences e)) es)
united_numbered k e [] = refl
united_numbered k e (f ∷ es) =
    united_numbered k (union e f) es
    ∙ ap (λ n. united (union (numbered k e) (numbered (k + length (occurrences e)) f)) (all_numbered n es)) (omega (arith, length-append (occurrences e) (occurrences f)))

numbered_plain : (k : ℕ) (e : Expr) → HasNoRepeat e → HasNoRepeat (numbered k e)
numbered_plain k (symbol s) p = tt
numbered_plain k (sequence f g) p = (numbered_plain k f p.0, numbered_plain (k + length (occurrences f)) g p.1)
numbered_plain k (union f g) p = (numbered_plain k f p.0, numbered_plain (k + length (occurrences f)) g p.1)
numbered_plain k (star f) p = numbered_plain k f p
numbered_plain k (plus f) p = numbered_plain k f p
numbered_plain k (optional f) p = numbered_plain k f p
numbered_plain k (marked f y) p = numbered_plain k f p
numbered_plain k (repeated f m n) p = absurd p

all_plain : (k : ℕ) (es : List Expr) → HaveNoRepeats es → HaveNoRepeats (all_numbered k es)
all_plain k [] p = tt
all_plain k (e ∷ es) p = (numbered_plain k e p.0, all_plain (k + length (occurrences e)) es p.1)

-- with each occurrence as a letter of its own
pub union_letters : (k : ℕ) (e : Expr) (es : List Expr) → HasNoRepeat e → HaveNoRepeats es → HasWords IsItself (all_numbered k (e ∷ es)) (tree_numbered k (normal false (united e es)))
union_letters k e es p q =
    subst (HasWords IsItself (all_numbered k (e ∷ es))) (sym (ap (normal false) (united_numbered k e es)) ∙ normal_numbered k false (united e es) (no_repeat_united e es p q))
    (union_words IsItself (numbered k e) (all_numbered (k + length (occurrences e)) es) (numbered_plain k e p) (all_plain (k + length (occurrences e)) es q))

-- Statements and scans.

either_map : (A B C D : Type 0) → (A → C) → (B → D) → A ⊎ B → C ⊎ D
either_map A B C D f g (inl h) = inl (f h)
either_map A B C D f g (inr h) = inr (g h)

first_only : (A B : Type 0) → (B → ⊥) → A ⊎ B → A
first_only A B h (inl a) = a
first_only A B h (inr b) = absurd (h b)

second_only : (A B : Type 0) → (A → ⊥) → A ⊎ B → B
second_only A B h (inl a) = absurd (h a)
second_only A B h (inr b) = b

module _ {X : Type 0} where
  ends_map : (P Q : List X → Type 0) → ((u : List X) → P u → Q u) → (u : List X) → EndsIn P u → EndsIn Q u
  ends_map P Q f u c = record { front = c.front; rest = c.rest; whole = c.whole; first = c.first; second = f c.rest c.second }

  ends_iff : (P Q : List X → Type 0) → ((u : List X) → P u ↔ Q u) → (u : List X) → EndsIn P u ↔ EndsIn Q u
  ends_iff P Q h u = (ends_map P Q (λ w. (h w).0) u, ends_map Q P (λ w. (h w).1) u)

  no_ends : (P : List X → Type 0) → ((u : List X) → P u → ⊥) → (u : List X) → EndsIn P u → ⊥
  no_ends P h u c = h c.rest c.second

  module _ (Is : ℕ → X → Type 0) where
    statements_alone : (es : List Expr) (t : FlaggedTree) → NeverScans t → HasWords Is es t → HasLanguages Is es [] t
    statements_alone es t n w = record {
      spells = λ u. (
        λ h. inl ((w.spells u).0 (subst (λ A. A) (never.whole_spells Is t n u) h)),
        λ h. subst (λ A. A) (sym (never.whole_spells Is t n u)) ((w.spells u).1 (first_only _ _ (no_ends (SomeSpells Is []) (λ v k. k) u) h)),
      );
      marks = λ y u. (
        λ h. inl ((w.marks y u).0 (subst (λ A. A) (never.whole_marks Is t n y u) h)),
        λ h. subst (λ A. A) (sym (never.whole_marks Is t n y u)) ((w.marks y u).1 (first_only _ _ (no_ends (SomeMarks Is [] y) (λ v k. k) u) h)),
      );
    }

    scans_alone : (ss : List Expr) (t : FlaggedTree) → NeverScans t → HasWords Is ss t → HasLanguages Is [] ss (scanned t)
    scans_alone ss t n w = record {
      spells = λ u. (
        λ h. inr ((ends_iff (TreeSpells Is t) (SomeSpells Is ss) w.spells u).0 (subst (λ A. A) (never.scanned_spells Is t n u) h)),
        λ h. subst (λ A. A) (sym (never.scanned_spells Is t n u)) ((ends_iff (TreeSpells Is t) (SomeSpells Is ss) w.spells u).1 (second_only _ _ (λ k. k) h)),
      );
      marks = λ y u. (
        λ h. inr ((ends_iff (TreeMarks Is t y) (SomeMarks Is ss y) (w.marks y) u).0 (subst (λ A. A) (never.scanned_marks Is t n y u) h)),
        λ h. subst (λ A. A) (sym (never.scanned_marks Is t n y u)) ((ends_iff (TreeMarks Is t y) (SomeMarks Is ss y) (w.marks y) u).1 (second_only _ _ (λ k. k) h)),
      );
    }

    module _ (es ss : List Expr) (e : Bool) (l r : FlaggedTree) (v : HasWords Is es l) (w : HasWords Is ss r)
        (yes : IsTrue e → TreeSpells Is l [] ⊎ TreeSpells Is r []) where
      both_spells : (u : List X) → WholeSpells Is (alt (held e) l (scanned r)) u ↔ ((IsTrue e × (u ≡ [])) ⊎ (TreeSpells Is l u ⊎ EndsIn (TreeSpells Is r) u))
      both_spells u =
          let same : WholeSpells Is (alt (held e) l (scanned r)) u ≡ ((IsTrue e × (u ≡ [])) ⊎ (TreeSpells Is l u ⊎ EndsIn (TreeSpells Is (scanned r)) u)) = rw (never.scanned_top r) refl in
          let inner : EndsIn (TreeSpells Is (scanned r)) u ↔ EndsIn (TreeSpells Is r) u =
          ends_iff (TreeSpells Is (scanned r)) (TreeSpells Is r) (λ z. (λ h. subst (λ A. A) (never.blind_spells Is r z) h, λ h. subst (λ A. A) (sym (never.blind_spells Is r z)) h)) u in (
            λ h. either_map _ _ _ _ (λ k. k) (either_map _ _ _ _ (λ k. k) inner.0) (subst (λ A. A) same h),
            λ h. subst (λ A. A) (sym same) (either_map _ _ _ _ (λ k. k) (either_map _ _ _ _ (λ k. k) inner.1) h),
          )

      empty_now : (u : List X) → (u ≡ []) → TreeSpells Is l [] ⊎ TreeSpells Is r [] → TreeSpells Is l u ⊎ EndsIn (TreeSpells Is r) u
      empty_now u n (inl h) = inl (subst (TreeSpells Is l) (sym n) h)
      empty_now u n (inr h) = inr (record { front = u; rest = []; whole = sym (append-nil u); first = tt; second = h })

      without_empty : (u : List X) → (IsTrue e × (u ≡ [])) ⊎ (TreeSpells Is l u ⊎ EndsIn (TreeSpells Is r) u) → TreeSpells Is l u ⊎ EndsIn (TreeSpells Is r) u
      without_empty u (inl h) = empty_now u h.1 (yes h.0)
      without_empty u (inr h) = h

      both_marks : (y : ℕ) (u : List X) → WholeMarks Is (alt (held e) l (scanned r)) y u ↔ (TreeMarks Is l y u ⊎ EndsIn (TreeMarks Is r y) u)
      both_marks y u =
          let inner : EndsIn (TreeMarks Is (scanned r) y) u ↔ EndsIn (TreeMarks Is r y) u =
          ends_iff (TreeMarks Is (scanned r) y) (TreeMarks Is r y) (λ z. (λ h. subst (λ A. A) (never.blind_marks Is r y z) h, λ h. subst (λ A. A) (sym (never.blind_marks Is r y z)) h)) u in
          let same : never.Reads Is (held e) l (scanned r) true y u ≡ WholeMarks Is (alt (held e) l (scanned r)) y u = rw (never.scanned_top r) refl in (
            λ h. either_map _ _ _ _ (λ k. k) inner.0 (never.read_from Is e l (scanned r) y u (subst (λ A. A) (sym same) h)),
            λ h. subst (λ A. A) same (never.read_to Is e l (scanned r) y u (either_map _ _ _ _ (λ k. k) inner.1 h)),
          )

      both_languages : HasLanguages Is es ss (alt (held e) l (scanned r))
      both_languages = record {
        spells = λ u. (
          λ h. either_map _ _ _ _ (v.spells u).0 (ends_iff (TreeSpells Is r) (SomeSpells Is ss) w.spells u).0 (without_empty u ((both_spells u).0 h)),
          λ h. (both_spells u).1 (inr (either_map _ _ _ _ (v.spells u).1 (ends_iff (TreeSpells Is r) (SomeSpells Is ss) w.spells u).1 h)),
        );
        marks = λ y u. (
          λ h. either_map _ _ _ _ (v.marks y u).0 (ends_iff (TreeMarks Is r y) (SomeMarks Is ss y) (w.marks y) u).0 ((both_marks y u).0 h),
          λ h. (both_marks y u).1 (either_map _ _ _ _ (v.marks y u).1 (ends_iff (TreeMarks Is r y) (SomeMarks Is ss y) (w.marks y) u).1 h),
        );
      }

    null_union : (e : Expr) (es : List Expr) → HasNoRepeat e → HaveNoRepeats es → IsTrue (nullable (united e es)) → TreeSpells Is (normal false (united e es)) []
    null_union e es p q h = let n : HasNoRepeat (united e es) = no_repeat_united e es p q in (forms Is false (united e es) n).to [] ((nullable_holds Is (united e es) n).yes h)

    union_null : (e : Expr) (es : List Expr) → HasNoRepeat e → HaveNoRepeats es → TreeSpells Is (normal false (united e es)) [] → IsTrue (nullable (united e es))
    union_null e es p q h = let n : HasNoRepeat (united e es) = no_repeat_united e es p q in (nullable_holds Is (united e es) n).no ((forms Is false (united e es) n).from [] h)

    or_yes : (a b : Bool) (P Q : Type 0) → (IsTrue a → P) → (IsTrue b → Q) → IsTrue a ⊎ IsTrue b → P ⊎ Q
    or_yes a b P Q f g (inl h) = inl (f h)
    or_yes a b P Q f g (inr h) = inr (g h)

    pub form_languages : (es ss : List Expr) → HaveNoRepeats es → HaveNoRepeats ss → 1 ≤ length (es ++ ss) → HasLanguages Is es ss (normal_form es ss)
    form_languages [] [] p q some = absurd (omega arith)
    form_languages (e ∷ es) [] p q some = statements_alone (e ∷ es) (normal false (united e es)) (never.never_normal false (united e es)) (union_words Is e es p.0 p.1)
    form_languages [] (s ∷ ss) p q some = scans_alone (s ∷ ss) (normal false (united s ss)) (never.never_normal false (united s ss)) (union_words Is s ss q.0 q.1)
    form_languages (e ∷ es) (s ∷ ss) p q some =
        both_languages (e ∷ es) (s ∷ ss) (nullable (united e es) || nullable (united s ss)) (normal false (united e es)) (normal false (united s ss))
        (union_words Is e es p.0 p.1) (union_words Is s ss q.0 q.1)
        (λ h. or_yes (nullable (united e es)) (nullable (united s ss)) _ _ (null_union e es p.0 p.1) (null_union s ss q.0 q.1) (or_split (nullable (united e es)) (nullable (united s ss)) h))

-- Leaves.

pub form_leaves : (es ss : List Expr) → HaveNoRepeats es → HaveNoRepeats ss → 1 ≤ length (es ++ ss) → leaves (normal_form es ss) ≡ flat_map occurrences es ++ flat_map occurrences ss
form_leaves [] [] p q some = absurd (omega arith)
form_leaves (e ∷ es) [] p q some = union_leaves e es p.0 p.1 ∙ sym (append-nil (flat_map occurrences (e ∷ es)))
form_leaves [] (s ∷ ss) p q some = never.scanned_leaves (normal false (united s ss)) ∙ union_leaves s ss q.0 q.1
form_leaves (e ∷ es) (s ∷ ss) p q some = rw (never.scanned_leaves (normal false (united s ss)), union_leaves e es p.0 p.1, union_leaves s ss q.0 q.1) refl

-- The two parts, with each occurrence as a letter of its own.

scanned_words : (es : List Expr) (t : FlaggedTree) → HasWords IsItself es t → HasWords IsItself es (scanned t)
scanned_words es t w = record {
  spells = λ u. (λ h. (w.spells u).0 (subst (λ A. A) (never.blind_spells IsItself t u) h), λ h. subst (λ A. A) (sym (never.blind_spells IsItself t u)) ((w.spells u).1 h));
  marks = λ y u. (λ h. (w.marks y u).0 (subst (λ A. A) (never.blind_marks IsItself t y u) h), λ h. subst (λ A. A) (sym (never.blind_marks IsItself t y u)) ((w.marks y u).1 h));
}

pub form_letters : (es ss : List Expr) → HaveNoRepeats es → HaveNoRepeats ss → 1 ≤ length (es ++ ss)
    → PartHasWords IsItself (all_numbered 0 es) (rest_part (tree_numbered 0 (normal_form es ss)))
form_letters [] [] p q some = absurd (omega arith)
form_letters (e ∷ es) [] p q some =
    rw (never.rest_whole (tree_numbered 0 (normal false (united e es))) (never.never_numbered 0 (normal false (united e es)) (never.never_normal false (united e es)))) (union_letters 0 e es p.0 p.1)
form_letters [] (s ∷ ss) p q some = rw (never.scanned_numbered 0 (normal false (united s ss)), never.scanned_rest (tree_numbered 0 (normal false (united s ss)))) refl
form_letters (e ∷ es) (s ∷ ss) p q some =
    let k : ℕ = 0 + length (leaves (normal false (united e es))) in
    rw (never.scanned_numbered k (normal false (united s ss)), never.scanned_top (tree_numbered k (normal false (united s ss)))) (union_letters 0 e es p.0 p.1)

pub form_scan_letters : (es ss : List Expr) → HaveNoRepeats es → HaveNoRepeats ss → 1 ≤ length (es ++ ss)
    → PartHasWords IsItself (all_numbered (length (flat_map occurrences es)) ss) (scan_part (tree_numbered 0 (normal_form es ss)))
form_scan_letters [] [] p q some = absurd (omega arith)
form_scan_letters (e ∷ es) [] p q some =
    rw (never.scan_none (tree_numbered 0 (normal false (united e es))) (never.never_numbered 0 (normal false (united e es)) (never.never_normal false (united e es)))) refl
form_scan_letters [] (s ∷ ss) p q some =
    rw (never.scanned_numbered 0 (normal false (united s ss)), never.scanned_part (tree_numbered 0 (normal false (united s ss))))
    (scanned_words (all_numbered 0 (s ∷ ss)) (tree_numbered 0 (normal false (united s ss))) (union_letters 0 s ss q.0 q.1))
form_scan_letters (e ∷ es) (s ∷ ss) p q some =
    let k : ℕ = 0 + length (leaves (normal false (united e es))) in
    let at : length (flat_map occurrences (e ∷ es)) ≡ k = omega (arith, ap length (union_leaves e es p.0 p.1)) in
    rw (at, never.scanned_numbered k (normal false (united s ss)), never.scanned_top (tree_numbered k (normal false (united s ss))))
    (scanned_words (all_numbered k (s ∷ ss)) (tree_numbered k (normal false (united s ss))) (union_letters k s ss q.0 q.1))

-- What the type of a tree keeps.

or_no : (a b : Bool) (P Q : Type 0) → (P → IsTrue a) → (Q → IsTrue b) → P ⊎ Q → IsTrue (a || b)
or_no a b P Q f g (inl h) = or_first a b (f h)
or_no a b P Q f g (inr h) = or_second a b (g h)

base_empty : (a b : Bool) (P Q : Type 0) → (P → IsTrue a) → (Q → IsTrue b) → (IsTrue (a || b) × (◌≡◌ {A = List ℕ} [] [])) ⊎ (P ⊎ Q) → IsTrue (a || b)
base_empty a b P Q f g (inl h) = h.0
base_empty a b P Q f g (inr h) = or_no a b P Q f g h

pub form_normal : (es ss : List Expr) → HaveNoRepeats es → HaveNoRepeats ss → 1 ≤ length (es ++ ss) → length (leaves (normal_form es ss)) ≤ 4096 → IsNormal (normal_form es ss)
form_normal [] [] p q some few = absurd (omega arith)
form_normal (e ∷ es) [] p q some few =
    let n : HasNoRepeat (united e es) = no_repeat_united e es p.0 p.1 in
    record { few = few; stripped = are_stripped false (united e es) n; exact = exact_normal IsItself false (united e es) n; scan = never.one_scan (normal false (united e es)) (never.never_normal false (united e es)) }
form_normal [] (s ∷ ss) p q some few =
    let n : HasNoRepeat (united s ss) = no_repeat_united s ss q.0 q.1 in
    let t : FlaggedTree = normal false (united s ss) in
    record { few = few; stripped = never.scanned_stripped t (are_stripped false (united s ss) n); exact = never.scanned_exact IsItself t (exact_normal IsItself false (united s ss) n); scan = never.scanned_one t (never.never_normal false (united s ss)) }
form_normal (e ∷ es) (s ∷ ss) p q some few =
    let m : HasNoRepeat (united e es) = no_repeat_united e es p.0 p.1 in
    let n : HasNoRepeat (united s ss) = no_repeat_united s ss q.0 q.1 in
    let l : FlaggedTree = normal false (united e es) in
    let r : FlaggedTree = normal false (united s ss) in
    record {
      few = few;
      stripped = (λ h. cc, are_stripped false (united e es) m, never.scanned_stripped r (are_stripped false (united s ss) n));
      exact = (
        (
          λ h. inl (h, refl),
          λ h. base_empty (nullable (united e es)) (nullable (united s ss)) (TreeSpells IsItself l []) (TreeSpells IsItself (scanned r) [])
              (union_null IsItself e es p.0 p.1) (λ k. union_null IsItself s ss q.0 q.1 (subst (λ A. A) (never.blind_spells IsItself r []) k)) h,
        ),
        exact_normal IsItself false (united e es) m,
        never.scanned_exact IsItself r (exact_normal IsItself false (united s ss) n),
      );
      scan = (
        never.never_normal false (united e es),
        inr (refl, record { loops = refl; marks = λ y. refl; eps_marks = λ y. refl }, never.scanned_at_top r (never.never_normal false (united s ss))),
      );
    }

pub copied_some : (es ss : List Expr) → 1 ≤ length (es ++ ss) → 1 ≤ length (map copied es ++ map copied ss)
copied_some es ss some = omega (arith, some, length-append es ss, length-append (map copied es) (map copied ss), length-map es copied, length-map ss copied)
