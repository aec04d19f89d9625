-- Counted repeats and their copies spell and mark the same words, and have the same occurrences.
use Rattle.std.proofs.Common.{◌≡◌, ◌⊎◌, ℕ, zero, suc, pred, ◌≤◌, List, [], ◌++◌, refl, sym, ap, ◌∙◌, subst, inl, inr, arith, append-nil}
use Rattle.rx_lang.specs.Expression.{Expr, symbol, sequence, union, star, plus, optional, marked, repeated}
use Rattle.rx_lang.specs.Meaning.{Cut, Repeats, RepeatMarks, Spells, Marks}
use Rattle.rx_lang.specs.Copies.{copies, copied, IsBounded, times, occurrences}
use Rattle.rx_lang.specs.Laws.{CopiesMean}
use Rattle.rx_lang.proofs.Loops.{cut_map}
use Rattle.rx_lang.proofs.Alike.{Within, Alike, Under, within_itself, within_next, sequence_within, union_within, star_within, plus_within, optional_within, marked_within, repeated_within}

module _ {X : Type 0} (P Q : List X → Type 0) where
  one_word : (m : ℕ) → m ≡ 0 → Under P (Cut P (Repeats P m 0))
  one_word m e u h = record { front = u; rest = []; whole = sym (append-nil u); first = h; second = (e, refl) }

  word_one : (m : ℕ) → Under (Cut P (Repeats P m 0)) P
  word_one m u h = subst P (sym (h.whole ∙ ap (λ t. h.front ++ t) h.second.1 ∙ append-nil h.front)) h.first

  one_option : Under (λ u. (u ≡ []) ⊎ P u) (Repeats P 0 1)
  one_option u (inl e) = inl (refl, e)
  one_option u (inr h) = inr (one_word 0 refl u h)

  option_one : Under (Repeats P 0 1) (λ u. (u ≡ []) ⊎ P u)
  option_one u (inl e) = inl e.1
  option_one u (inr h) = inr (word_one 0 u h)

  more_options : (n : ℕ) (S : List X → Type 0) → Under S (Repeats P 0 n) → Under (λ u. (u ≡ []) ⊎ Cut P S u) (Repeats P 0 (suc n))
  more_options n S f u (inl e) = inl (refl, e)
  more_options n S f u (inr h) = inr (cut_map P S P (Repeats P 0 n) (λ v k. k) f u h)

  options_more : (n : ℕ) (S : List X → Type 0) → Under (Repeats P 0 n) S → Under (Repeats P 0 (suc n)) (λ u. (u ≡ []) ⊎ Cut P S u)
  options_more n S f u (inl e) = inl e.1
  options_more n S f u (inr h) = inr (cut_map P (Repeats P 0 n) P S (λ v k. k) f u h)

  -- a word that is due before further ones
  word_first : (m n : ℕ) → Under (Repeats P (suc m) (suc n)) (Cut P (Repeats P m n))
  word_first m n u (inl e) = absurd (omega (arith, e.0))
  word_first m n u (inr h) = h

  one_mark : Under (RepeatMarks P Q 1) Q
  one_mark u (inl h) = h
  one_mark u (inr h) = absurd h.second

  more_marks : (n : ℕ) (S : List X → Type 0) → Under S (RepeatMarks P Q n) → Under (λ u. Q u ⊎ Cut P S u) (RepeatMarks P Q (suc n))
  more_marks n S f u (inl h) = inl h
  more_marks n S f u (inr h) = inr (cut_map P S P (RepeatMarks P Q n) (λ v k. k) f u h)

  marks_more : (n : ℕ) (S : List X → Type 0) → Under (RepeatMarks P Q n) S → Under (RepeatMarks P Q (suc n)) (λ u. Q u ⊎ Cut P S u)
  marks_more n S f u (inl h) = inl h
  marks_more n S f u (inr h) = inr (cut_map P (RepeatMarks P Q n) P S (λ v k. k) f u h)

module _ {X : Type 0} (Is : ℕ → X → Type 0) (f : Expr) where
  copies_within : (m n : ℕ) → m ≤ suc n → Within Is (copies m n f) (repeated f m (suc n))
  copies_within zero zero few = record { spells = one_option (Spells Is f) (Spells Is f); marks = λ y u h. inl h }
  copies_within (suc m) zero few =
      record { spells = λ u h. inr (one_word (Spells Is f) (Spells Is f) m (omega arith) u h); marks = λ y u h. inl h }
  copies_within zero (suc n) few =
      let h : Within Is (copies zero n f) (repeated f zero (suc n)) = copies_within zero n (omega arith) in
      record {
        spells = more_options (Spells Is f) (Spells Is f) (suc n) (Spells Is (copies zero n f)) h.spells;
        marks = λ y. more_marks (Spells Is f) (Marks Is f y) (suc n) (Marks Is (copies zero n f) y) (h.marks y);
      }
  copies_within (suc m) (suc n) few =
      let h : Within Is (copies m n f) (repeated f m (suc n)) = copies_within m n (omega arith) in
      record {
        spells = λ u k. inr (cut_map (Spells Is f) (Spells Is (copies m n f)) (Spells Is f) (Repeats (Spells Is f) m (suc n)) (λ v p. p) h.spells u k);
        marks = λ y. more_marks (Spells Is f) (Marks Is f y) (suc n) (Marks Is (copies m n f) y) (h.marks y);
      }

  within_copies : (m n : ℕ) → m ≤ suc n → Within Is (repeated f m (suc n)) (copies m n f)
  within_copies zero zero few = record { spells = option_one (Spells Is f) (Spells Is f); marks = λ y. one_mark (Spells Is f) (Marks Is f y) }
  within_copies (suc m) zero few = record {
    spells = λ u h. word_one (Spells Is f) (Spells Is f) m u (word_first (Spells Is f) (Spells Is f) m 0 u h);
    marks = λ y. one_mark (Spells Is f) (Marks Is f y);
  }
  within_copies zero (suc n) few =
      let h : Within Is (repeated f zero (suc n)) (copies zero n f) = within_copies zero n (omega arith) in
      record {
        spells = options_more (Spells Is f) (Spells Is f) (suc n) (Spells Is (copies zero n f)) h.spells;
        marks = λ y. marks_more (Spells Is f) (Marks Is f y) (suc n) (Marks Is (copies zero n f) y) (h.marks y);
      }
  within_copies (suc m) (suc n) few =
      let h : Within Is (repeated f m (suc n)) (copies m n f) = within_copies m n (omega arith) in
      record {
        spells = λ u k.
            cut_map (Spells Is f) (Repeats (Spells Is f) m (suc n)) (Spells Is f) (Spells Is (copies m n f)) (λ v p. p) h.spells u
            (word_first (Spells Is f) (Spells Is f) m (suc n) u k);
        marks = λ y. marks_more (Spells Is f) (Marks Is f y) (suc n) (Marks Is (copies m n f) y) (h.marks y);
      }

  -- at most once
  pub once_alike : (m : ℕ) → m ≤ 1 → Alike Is (repeated f m 1) (copies m 0 f)
  once_alike m few = record { there = within_copies m 0 few; back = copies_within m 0 few }

module _ {X : Type 0} (Is : ℕ → X → Type 0) where
  repeat_within : (f g : Expr) (m n : ℕ) → m ≤ n → 1 ≤ n → Within Is f g → Within Is (copies m (pred n) f) (repeated g m n)
  repeat_within f g m zero few some a = absurd (omega arith)
  repeat_within f g m (suc n) few some a =
      within_next Is (copies m n f) (repeated f m (suc n)) (repeated g m (suc n)) (copies_within Is f m n few) (repeated_within Is f g m (suc n) a)

  within_repeat : (f g : Expr) (m n : ℕ) → m ≤ n → 1 ≤ n → Within Is g f → Within Is (repeated g m n) (copies m (pred n) f)
  within_repeat f g m zero few some a = absurd (omega arith)
  within_repeat f g m (suc n) few some a =
      within_next Is (repeated g m (suc n)) (repeated f m (suc n)) (copies m n f) (repeated_within Is g f m (suc n) a) (within_copies Is f m n few)

  copied_alike : (e : Expr) → IsBounded e → Alike Is (copied e) e
  copied_alike (symbol s) h = record { there = within_itself Is (symbol s); back = within_itself Is (symbol s) }
  copied_alike (sequence f g) h =
      let a : Alike Is (copied f) f = copied_alike f h.0 in
      let b : Alike Is (copied g) g = copied_alike g h.1 in
      record { there = sequence_within Is (copied f) (copied g) f g a.there b.there; back = sequence_within Is f g (copied f) (copied g) a.back b.back }
  copied_alike (union f g) h =
      let a : Alike Is (copied f) f = copied_alike f h.0 in
      let b : Alike Is (copied g) g = copied_alike g h.1 in
      record { there = union_within Is (copied f) (copied g) f g a.there b.there; back = union_within Is f g (copied f) (copied g) a.back b.back }
  copied_alike (star f) h =
      let a : Alike Is (copied f) f = copied_alike f h in
      record { there = star_within Is (copied f) f a.there; back = star_within Is f (copied f) a.back }
  copied_alike (plus f) h =
      let a : Alike Is (copied f) f = copied_alike f h in
      record { there = plus_within Is (copied f) f a.there; back = plus_within Is f (copied f) a.back }
  copied_alike (optional f) h =
      let a : Alike Is (copied f) f = copied_alike f h in
      record { there = optional_within Is (copied f) f a.there; back = optional_within Is f (copied f) a.back }
  copied_alike (marked f y) h =
      let a : Alike Is (copied f) f = copied_alike f h in
      record { there = marked_within Is (copied f) f y a.there; back = marked_within Is f (copied f) y a.back }
  copied_alike (repeated f m n) h =
      let a : Alike Is (copied f) f = copied_alike f h.3 in
      record { there = repeat_within (copied f) f m n h.0 h.1 a.there; back = within_repeat (copied f) f m n h.0 h.1 a.back }

  pub copies_mean : (e : Expr) → IsBounded e → CopiesMean Is e
  copies_mean e h =
      let a : Alike Is (copied e) e = copied_alike e h in
      record {
        spells = λ u. (a.there.spells u, a.back.spells u);
        marks = λ y u. (a.there.marks y u, a.back.marks y u);
      }

copies_occurrences : (m n : ℕ) (f : Expr) → occurrences (copies m n f) ≡ times (suc n) (occurrences f)
copies_occurrences zero zero f = sym (append-nil (occurrences f))
copies_occurrences (suc m) zero f = sym (append-nil (occurrences f))
copies_occurrences zero (suc n) f = ap (λ t. occurrences f ++ t) (copies_occurrences zero n f)
copies_occurrences (suc m) (suc n) f = ap (λ t. occurrences f ++ t) (copies_occurrences m n f)

repeat_occurrences : (f : Expr) (m n : ℕ) → 1 ≤ n → occurrences (copied f) ≡ occurrences f
    → occurrences (copies m (pred n) (copied f)) ≡ times n (occurrences f)
repeat_occurrences f m zero some e = absurd (omega arith)
repeat_occurrences f m (suc n) some e = copies_occurrences m n (copied f) ∙ ap (times (suc n)) e

pub copies_have_occurrences : (e : Expr) → IsBounded e → occurrences (copied e) ≡ occurrences e
copies_have_occurrences (symbol s) h = refl
copies_have_occurrences (sequence f g) h = let a = copies_have_occurrences f h.0 in let b = copies_have_occurrences g h.1 in cc
copies_have_occurrences (union f g) h = let a = copies_have_occurrences f h.0 in let b = copies_have_occurrences g h.1 in cc
copies_have_occurrences (star f) h = copies_have_occurrences f h
copies_have_occurrences (plus f) h = copies_have_occurrences f h
copies_have_occurrences (optional f) h = copies_have_occurrences f h
copies_have_occurrences (marked f y) h = copies_have_occurrences f h
copies_have_occurrences (repeated f m n) h = repeat_occurrences f m n h.1 (copies_have_occurrences f h.3)
