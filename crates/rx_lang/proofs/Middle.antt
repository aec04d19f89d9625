-- A word of many words is told by the one that covers a letter in its middle.
use Rattle.std.proofs.Common.{◌≡◌, ◌≢◌, ◌↔◌, ◌∙◌, ℕ, zero, suc, ◌+◌, ◌-◌, ◌<◌, ◌≤◌, Bool, true, false, List, [], ◌∷◌, ◌++◌, length, take, drop, refl, sym, ap, subst, inl, inr, arith, length-append, append_assoc, append-nil}
use Rattle.std.proofs.lemmas.Bool.{cases_lt}
use Rattle.std.proofs.lemmas.List.{take-map, drop-map, length-map, nil_from_length}
use Rattle.std.proofs.Math.Seq.{take-append_seam, drop-append_seam}
use Rattle.rx_lang.specs.declared.vector.Vector.{Vector}
use Rattle.rx_lang.specs.Vector.{Bits, bits_of}
use Rattle.rx_lang.specs.Expression.{Expr, repeated, sequence, star}
use Rattle.rx_lang.specs.Meaning.{Cut, Many, none, more, Spells}
use Rattle.rx_lang.specs.Specification.{MatchesSymbol}
use Rattle.rx_lang.specs.Tables.{Tables}
use Rattle.rx_lang.specs.Around.{ManyAround}
use Rattle.rx_lang.specs.VectorWords.{SpellsWord, word_bits}
use Rattle.rx_lang.specs.Wrapped.{wrap}
use Rattle.rx_lang.proofs.Words.{many_joins}
use Rattle.rx_lang.proofs.Loops.{many_plus, plus_many, wrap_empty, wrap_less, wrap_split}
use Rattle.rx_lang.proofs.Cuts.{cut_at}

module _ {X : Type 0} (P : List X → Type 0) where
  -- words of P before the one that covers the letter at this index, and behind it
  record Covered (middle : ℕ) (u : List X) : Type 0 where
    pub front : List X
    pub one : List X
    pub further : List X
    pub whole : u ≡ front ++ (one ++ further)
    pub before : length front ≤ middle
    pub behind : middle < length front + length one
    pub many : Many P front
    pub is : P one
    pub rest : Many P further

  covered : (u : List X) → Many P u → (middle : ℕ) → middle < length u → Covered middle u
  covered _ (none u e) middle lt = absurd (omega (arith, ap length e))
  covered _ (more u v w e ne p m) middle lt = elim (cases_lt middle (length v)) [
    | inl in_first ↦ record {
      front = [];
      one = v;
      further = w;
      whole = e;
      before = omega arith;
      behind = omega arith;
      many = none [] refl;
      is = p;
      rest = m;
    }
    | inr past ↦
        let size : length u ≡ length v + length w = ap length e ∙ length-append v w in
        let h : Covered (middle - length v) w = covered w m (middle - length v) (omega arith) in
        let longer : length (v ++ h.front) ≡ length v + length h.front = length-append v h.front in
        record {
          front = v ++ h.front;
          one = h.one;
          further = h.further;
          whole = e ∙ ap (λ t. v ++ t) h.whole ∙ sym (append_assoc v h.front (h.one ++ h.further));
          before = omega (arith, h.before);
          behind = omega (arith, h.behind);
          many = (many_joins P).front v h.front p h.many;
          is = h.is;
          rest = h.rest;
        }
  ]

  many_behind_many : (u : List X) → Cut (Many P) (Many P) u → Many P u
  many_behind_many u h = subst (Many P) (sym h.whole) ((many_joins P).behind h.front h.rest h.first h.second)

module _ (tables : Tables) (e : Expr) where
  pub many_around : (word : List Vector) (n least : ℕ) → ManyAround tables e (take n word) (drop n word) least → SpellsWord tables (star e) word
  many_around word n least h =
      many_behind_many (Spells (MatchesSymbol tables.symbols) e) (word_bits tables word)
      (cut_at (bits_of (length tables.lines)) (Many (Spells (MatchesSymbol tables.symbols) e)) (Many (Spells (MatchesSymbol tables.symbols) e)) word n h.many
      (plus_many (Spells (MatchesSymbol tables.symbols) e) (word_bits tables (drop n word))
      (cut_at (bits_of (length tables.lines)) (Spells (MatchesSymbol tables.symbols) e) (Many (Spells (MatchesSymbol tables.symbols) e)) (drop n word)
      h.size h.one h.further)))

  pub around_many : (word : List Vector) (middle : ℕ) → middle < length word → SpellsWord tables (star e) word
      → ((n : ℕ) → n ≤ middle → ManyAround tables e (take n word) (drop n word) (middle - n + 1) → ⊥) → ⊥
  around_many word middle lt many nowhere =
      let letters : length (word_bits tables word) ≡ length word = length-map word (bits_of (length tables.lines)) in
      let h : Covered (Spells (MatchesSymbol tables.symbols) e) middle (word_bits tables word)
      = covered (Spells (MatchesSymbol tables.symbols) e) (word_bits tables word) many middle (omega arith) in
      let front : take (length h.front) (word_bits tables word) ≡ h.front
      = ap (take (length h.front)) h.whole ∙ take-append_seam h.front (h.one ++ h.further) in
      let back : drop (length h.front) (word_bits tables word) ≡ h.one ++ h.further
      = ap (drop (length h.front)) h.whole ∙ drop-append_seam h.front (h.one ++ h.further) in
      let behind : word_bits tables (drop (length h.front) word) ≡ h.one ++ h.further
      = sym (drop-map (bits_of (length tables.lines)) (length h.front) word) ∙ back in
      let one : word_bits tables (take (length h.one) (drop (length h.front) word)) ≡ h.one
      = sym (take-map (bits_of (length tables.lines)) (length h.one) (drop (length h.front) word)) ∙ ap (take (length h.one)) behind
      ∙ take-append_seam h.one h.further in
      let further : word_bits tables (drop (length h.one) (drop (length h.front) word)) ≡ h.further
      = sym (drop-map (bits_of (length tables.lines)) (length h.one) (drop (length h.front) word)) ∙ ap (drop (length h.one)) behind
      ∙ drop-append_seam h.one h.further in
      let size : length (drop (length h.front) word) ≡ length h.one + length h.further
      = sym (length-map (drop (length h.front) word) (bits_of (length tables.lines))) ∙ ap length behind ∙ length-append h.one h.further in
      nowhere (length h.front) h.before (record {
        size = length h.one;
        enough = omega (arith, h.behind, h.before);
        within = omega arith;
        many = subst (Many (Spells (MatchesSymbol tables.symbols) e)) (sym front ∙ take-map (bits_of (length tables.lines)) (length h.front) word) h.many;
        one = subst (Spells (MatchesSymbol tables.symbols) e) (sym one) h.is;
        further = subst (Many (Spells (MatchesSymbol tables.symbols) e)) (sym further) h.rest;
      })

  front_nothing : (v w : List Bits) → [] ≡ v ++ w → v ≡ []
  front_nothing [] w e = refl
  front_nothing (x ∷ v) w e = cc

  nothing : (word : List Vector) → length word ≡ 0 → word_bits tables word ≡ []
  nothing word empty = ap (word_bits tables) (nil_from_length word empty)

  something : (word : List Vector) → length word ≢ 0 → word_bits tables word ≡ [] → ⊥
  something word some empty = some (sym (length-map word (bits_of (length tables.lines))) ∙ ap length empty)

  pub many_nothing : (word : List Vector) → length word ≡ 0 → SpellsWord tables (star e) word
  many_nothing word no_letter = none (word_bits tables word) (nothing word no_letter)

  -- the empty word, and each longer one, under a sign
  pub wrapped_nothing : (l : Bool) (word : List Vector) → length word ≡ 0 → SpellsWord tables (wrap l true e) word
  wrapped_nothing l word empty = subst (Spells (MatchesSymbol tables.symbols) (wrap l true e)) (sym (nothing word empty)) (wrap_empty (MatchesSymbol tables.symbols) l e)

  pub unwrapped_nothing : (l : Bool) (word : List Vector) → length word ≡ 0 → SpellsWord tables (wrap l false e) word ↔ SpellsWord tables e word
  unwrapped_nothing false word empty = (λ h. h, λ h. h)
  unwrapped_nothing true word empty = (
    λ h. subst (Spells (MatchesSymbol tables.symbols) e) (front_nothing h.front h.rest (sym (nothing word empty) ∙ h.whole) ∙ sym (nothing word empty)) h.first,
    λ h. record { front = word_bits tables word; rest = []; whole = sym (append-nil (word_bits tables word)); first = h; second = none [] refl },
  )

  pub wrapped_once : (m : Bool) (word : List Vector) → length word ≢ 0 → SpellsWord tables (wrap false m e) word ↔ SpellsWord tables e word
  wrapped_once m word some = (
    λ h. elim (wrap_split (MatchesSymbol tables.symbols) false m e (word_bits tables word) h) [ inl k ↦ absurd (something word some k.1) | inr k ↦ k ],
    λ h. wrap_less (MatchesSymbol tables.symbols) false m e (word_bits tables word) h,
  )

  pub wrapped_many : (m : Bool) (word : List Vector) → length word ≢ 0 → SpellsWord tables (wrap true m e) word ↔ SpellsWord tables (star e) word
  wrapped_many m word some = (
    λ h. elim (wrap_split (MatchesSymbol tables.symbols) true m e (word_bits tables word) h) [
      | inl k ↦ absurd (something word some k.1)
      | inr k ↦ plus_many (Spells (MatchesSymbol tables.symbols) e) (word_bits tables word) k
    ],
    λ h. elim (many_plus (Spells (MatchesSymbol tables.symbols) e) (word_bits tables word) h) [
      | inl k ↦ absurd (something word some k)
      | inr k ↦ wrap_less (MatchesSymbol tables.symbols) true m e (word_bits tables word) k
    ],
  )

  word_nothing : (word : List Vector) → word_bits tables word ≡ [] → length word ≡ 0
  word_nothing word h = sym (length-map word (bits_of (length tables.lines))) ∙ ap length h

  -- a counted repeat is left out, has come to its end, or goes on with a word
  pub repeat_left_out : (m n : ℕ) (word : List Vector) → (m ≡ 0) × (length word ≡ 0) → SpellsWord tables (repeated e m n) word
  repeat_left_out m zero word h = (h.0, nothing word h.1)
  repeat_left_out m (suc n) word h = inl (h.0, nothing word h.1)

  pub repeat_at_end : (m n : ℕ) (word : List Vector) → ((m ≡ 0) × (length word ≡ 0) → ⊥) → n ≡ 0 → SpellsWord tables (repeated e m n) word → ⊥
  repeat_at_end m zero word due at h = due (h.0, word_nothing word h.1)
  repeat_at_end m (suc n) word due at h = absurd (omega arith)

  pub repeat_goes_on : (m n k : ℕ) (word : List Vector) → ((m ≡ 0) × (length word ≡ 0) → ⊥) → n ≡ suc k
      → SpellsWord tables (sequence e (repeated e (m - 1) k)) word ↔ SpellsWord tables (repeated e m n) word
  repeat_goes_on zero n k word due at = rw at (
    λ h. inr h,
    λ h. elim h [ inl p ↦ absurd (due (refl, word_nothing word p.1)) | inr p ↦ p ],
  )
  repeat_goes_on (suc m) n k word due at =
      let same : suc m - 1 ≡ m = omega arith in
      rw (at, same) (λ h. inr h, λ h. elim h [ inl p ↦ absurd (omega (arith, p.0)) | inr p ↦ p ])
