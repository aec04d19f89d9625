-- What the words over occurrences read: with the symbols of the occurrences an expression spells and marks what its numbered form
-- reads.
use Rattle.std.proofs.Common.{◌≡◌, ◌⊎◌, ◌↔◌, ℕ, zero, suc, ◌+◌, List, [], ◌∷◌, ◌++◌, length, get_or, refl, sym, ap, ◌∙◌, subst, inl, inr, append_assoc, length-append, arith}
use Rattle.rx_lang.specs.Expression.{Expr, symbol, sequence, union, star, plus, optional, marked, repeated}
use Rattle.rx_lang.specs.Meaning.{Cut, Many, none, more, Spells, Marks}
use Rattle.rx_lang.specs.Copies.{IsItself, numbered, occurrences}
use Rattle.star_normal.specs.Shapes.{HasNoRepeat}
use Rattle.position_nfa.specs.Reached.{ReadsLetters}

-- the same words
abbrev pub Same : {X : Type 0} → (List X → Type 0) → (List X → Type 0) → Type 0
Same P Q = (u : _) → P u ↔ Q u

module _ {X : Type 0} where
  pub same_to : (P Q S : List X → Type 0) → Same P Q → Same Q S → Same P S
  same_to P Q S a b u = (λ p. (b u).0 ((a u).0 p), λ s. (a u).1 ((b u).1 s))

  pub same_back : (P Q : List X → Type 0) → Same P Q → Same Q P
  same_back P Q a u = ((a u).1, (a u).0)

  same_or : (P Q S T : List X → Type 0) → Same P S → Same Q T → Same (λ u. P u ⊎ Q u) (λ u. S u ⊎ T u)
  same_or P Q S T a b u = (λ h. to h, λ h. from h)
    where
      to : P u ⊎ Q u → S u ⊎ T u
      to (inl p) = inl ((a u).0 p)
      to (inr q) = inr ((b u).0 q)

      from : S u ⊎ T u → P u ⊎ Q u
      from (inl s) = inl ((a u).1 s)
      from (inr t) = inr ((b u).1 t)

  same_cut : (P Q S T : List X → Type 0) → Same P S → Same Q T → Same (Cut P Q) (Cut S T)
  same_cut P Q S T a b u = (
    λ c. record { front = c.front; rest = c.rest; whole = c.whole; first = (a c.front).0 c.first; second = (b c.rest).0 c.second },
    λ c. record { front = c.front; rest = c.rest; whole = c.whole; first = (a c.front).1 c.first; second = (b c.rest).1 c.second },
  )

  many_map : (P Q : List X → Type 0) → ((u : List X) → P u → Q u) → (u : List X) → Many P u → Many Q u
  many_map P Q f _ (none u e) = none u e
  many_map P Q f _ (more u v w e ne p m) = more u v w e ne (f v p) (many_map P Q f w m)

  same_many : (P Q : List X → Type 0) → Same P Q → Same (Many P) (Many Q)
  same_many P Q a u = (many_map P Q (λ v. (a v).0) u, many_map Q P (λ v. (a v).1) u)

module _ {X : Type 0} (R : ℕ → X → Type 0) where
  -- a word of P reads the letters
  pub record Image (P : List ℕ → Type 0) (u : List X) : Type 0 where
    pub word : List ℕ
    pub is : P word
    pub reads : ReadsLetters R word u

  pub reads_append : (a b : List ℕ) (u v : List X) → ReadsLetters R a u → ReadsLetters R b v → ReadsLetters R (a ++ b) (u ++ v)
  reads_append [] b [] v h g = g
  reads_append [] b (x ∷ u) v h g = absurd h
  reads_append (q ∷ a) b [] v h g = absurd h
  reads_append (q ∷ a) b (x ∷ u) v h g = (h.0, reads_append a b u v h.1 g)

  pub record Split (a b : List ℕ) (u : List X) : Type 0 where
    pub front : List X
    pub rest : List X
    pub whole : u ≡ front ++ rest
    pub first : ReadsLetters R a front
    pub second : ReadsLetters R b rest

  pub reads_split : (a b : List ℕ) (u : List X) → ReadsLetters R (a ++ b) u → Split a b u
  reads_split [] b u h = record { front = []; rest = u; whole = refl; first = tt; second = h }
  reads_split (q ∷ a) b [] h = absurd h
  reads_split (q ∷ a) b (x ∷ u) h =
      let s = reads_split a b u h.1 in
      record { front = x ∷ s.front; rest = s.rest; whole = ap (λ l. x ∷ l) s.whole; first = (h.0, s.first); second = s.second }

  pub reads_none : (w : List ℕ) → ReadsLetters R w [] → w ≡ []
  reads_none [] h = refl
  reads_none (q ∷ w) h = absurd h

  pub none_reads : (u : List X) → ReadsLetters R [] u → u ≡ []
  none_reads [] h = refl
  none_reads (x ∷ u) h = absurd h

  image_or : (P Q : List ℕ → Type 0) → Same (λ u. Image P u ⊎ Image Q u) (Image (λ w. P w ⊎ Q w))
  image_or P Q u = (λ h. to h, λ h. from h.word h.is h.reads)
    where
      to : Image P u ⊎ Image Q u → Image (λ w. P w ⊎ Q w) u
      to (inl h) = record { word = h.word; is = inl h.is; reads = h.reads }
      to (inr h) = record { word = h.word; is = inr h.is; reads = h.reads }

      from : (w : List ℕ) → P w ⊎ Q w → ReadsLetters R w u → Image P u ⊎ Image Q u
      from w (inl p) r = inl (record { word = w; is = p; reads = r })
      from w (inr q) r = inr (record { word = w; is = q; reads = r })

  image_none : Same (λ u. u ≡ []) (Image (λ w. w ≡ []))
  image_none u = (
    λ e. record { word = []; is = refl; reads = subst (ReadsLetters R []) (sym e) tt },
    λ h. none_reads u (subst (λ w. ReadsLetters R w u) h.is h.reads),
  )

  image_both : (A : Type 0) (P : List ℕ → Type 0) → Same (λ u. A × Image P u) (Image (λ w. A × P w))
  image_both A P u = (λ h. record { word = h.1.word; is = (h.0, h.1.is); reads = h.1.reads }, λ h. (h.is.0, record { word = h.word; is = h.is.1; reads = h.reads }))

  image_cut : (P Q : List ℕ → Type 0) → Same (Cut (Image P) (Image Q)) (Image (Cut P Q))
  image_cut P Q u = (
    λ c. record {
      word = c.first.word ++ c.second.word;
      is = record { front = c.first.word; rest = c.second.word; whole = refl; first = c.first.is; second = c.second.is };
      reads = subst (ReadsLetters R (c.first.word ++ c.second.word)) (sym c.whole) (reads_append c.first.word c.second.word c.front c.rest c.first.reads c.second.reads);
    },
    λ h.
        let s = reads_split h.is.front h.is.rest u (subst (λ w. ReadsLetters R w u) h.is.whole h.reads) in
        record {
          front = s.front;
          rest = s.rest;
          whole = s.whole;
          first = record { word = h.is.front; is = h.is.first; reads = s.first };
          second = record { word = h.is.rest; is = h.is.second; reads = s.second };
        },
  )

  to_many : (P : List ℕ → Type 0) (u : List X) → Many (Image P) u → Image (Many P) u
  to_many P _ (none u e) = record { word = []; is = none [] refl; reads = subst (ReadsLetters R []) (sym e) tt }
  to_many P _ (more u v w e ne p m) =
      let h = to_many P w m in
      record {
        word = p.word ++ h.word;
        is = more (p.word ++ h.word) p.word h.word refl (λ z. ne (none_reads v (subst (λ t. ReadsLetters R t v) z p.reads))) p.is h.is;
        reads = subst (ReadsLetters R (p.word ++ h.word)) (sym e) (reads_append p.word h.word v w p.reads h.reads);
      }

  from_many : (P : List ℕ → Type 0) (w : List ℕ) → Many P w → (u : List X) → ReadsLetters R w u → Many (Image P) u
  from_many P _ (none w e) u r = none u (none_reads u (subst (λ t. ReadsLetters R t u) e r))
  from_many P _ (more w a b e ne p m) u r =
      let s = reads_split a b u (subst (λ t. ReadsLetters R t u) e r) in
      more u s.front s.rest s.whole (λ z. ne (reads_none a (subst (ReadsLetters R a) z s.first))) (record { word = a; is = p; reads = s.first }) (from_many P b m s.rest s.second)

  image_many : (P : List ℕ → Type 0) → Same (Many (Image P)) (Image (Many P))
  image_many P u = (to_many P u, λ h. from_many P h.word h.is u h.reads)

  -- how the images of parts make that of the whole

  pub or_image : (S T : List X → Type 0) (P Q : List ℕ → Type 0) → Same S (Image P) → Same T (Image Q) → Same (λ u. S u ⊎ T u) (Image (λ w. P w ⊎ Q w))
  or_image S T P Q a b = same_to (λ u. S u ⊎ T u) (λ u. Image P u ⊎ Image Q u) (Image (λ w. P w ⊎ Q w)) (same_or S T (Image P) (Image Q) a b) (image_or P Q)

  cut_image : (S T : List X → Type 0) (P Q : List ℕ → Type 0) → Same S (Image P) → Same T (Image Q) → Same (Cut S T) (Image (Cut P Q))
  cut_image S T P Q a b = same_to (Cut S T) (Cut (Image P) (Image Q)) (Image (Cut P Q)) (same_cut S T (Image P) (Image Q) a b) (image_cut P Q)

  many_image : (S : List X → Type 0) (P : List ℕ → Type 0) → Same S (Image P) → Same (Many S) (Image (Many P))
  many_image S P a = same_to (Many S) (Many (Image P)) (Image (Many P)) (same_many S (Image P) a) (image_many P)

  both_image : (A : Type 0) (S : List X → Type 0) (P : List ℕ → Type 0) → Same S (Image P) → Same (λ u. A × S u) (Image (λ w. A × P w))
  both_image A S P a = same_to (λ u. A × S u) (λ u. A × Image P u) (Image (λ w. A × P w)) (λ u. (λ h. (h.0, (a u).0 h.1), λ h. (h.0, (a u).1 h.1))) (image_both A P)

  pub never_image : Same {X = X} (λ u. ⊥) (Image (λ w. ⊥))
  never_image u = (λ h. absurd h, λ h. absurd h.is)

-- ---- expressions

-- These are the symbols of the occurrences from number k on.
pub record IsNamed (symbols : List ℕ) (k : ℕ) (own : List ℕ) : Type 0 where
  pub before : List ℕ
  pub behind : List ℕ
  pub whole : symbols ≡ before ++ (own ++ behind)
  pub size : length before ≡ k

pub named_first : (symbols : List ℕ) (k : ℕ) (f g : List ℕ) → IsNamed symbols k (f ++ g) → IsNamed symbols k f
named_first symbols k f g h = record {
  before = h.before;
  behind = g ++ h.behind;
  whole = h.whole ∙ ap (λ l. h.before ++ l) (append_assoc f g h.behind);
  size = h.size;
}

pub named_second : (symbols : List ℕ) (k : ℕ) (f g : List ℕ) → IsNamed symbols k (f ++ g) → IsNamed symbols (k + length f) g
named_second symbols k f g h = record {
  before = h.before ++ f;
  behind = h.behind;
  whole = h.whole ∙ ap (λ l. h.before ++ l) (append_assoc f g h.behind) ∙ sym (append_assoc h.before f (g ++ h.behind));
  size = omega (arith, length-append h.before f, h.size);
}

entry_behind : (before rest : List ℕ) (s k : ℕ) → length before ≡ k → get_or (before ++ (s ∷ rest)) k 0 ≡ s
entry_behind [] rest s k e = subst (λ j. get_or (s ∷ rest) j 0 ≡ s) e refl
entry_behind (b ∷ before) rest s zero e = absurd (omega (arith, e))
entry_behind (b ∷ before) rest s (suc k) e = entry_behind before rest s k (omega (arith, e))

module _ {X : Type 0} (Is : ℕ → X → Type 0) (symbols : List ℕ) where
  abbrev R : ℕ → X → Type 0
  R q x = Is (get_or symbols q 0) x

  symbol_image : (k s : ℕ) → IsNamed symbols k (s ∷ []) → Same (Spells Is (symbol s)) (Image R (Spells IsItself (symbol k)))
  symbol_image k s h u =
      let e : get_or symbols k 0 ≡ s = ap (λ l. get_or l k 0) h.whole ∙ entry_behind h.before h.behind s k h.size in (
        λ a. record { word = k ∷ []; is = (k, refl, refl); reads = subst (ReadsLetters R (k ∷ [])) (sym a.1) (subst (λ t. Is t a.0) (sym e) a.2, tt) },
        λ a. one u (subst (λ w. ReadsLetters R w u) (a.is.1 ∙ ap (λ q. q ∷ []) (sym a.is.2)) a.reads) e,
      )
    where
      one : (u : List X) → ReadsLetters R (k ∷ []) u → get_or symbols k 0 ≡ s → (x : X) × (u ≡ x ∷ []) × Is s x
      one [] r e = absurd r
      one (x ∷ []) r e = (x, refl, subst (λ t. Is t x) e r.0)
      one (x ∷ (y ∷ u)) r e = absurd r.1

  abbrev SpellsAt : ℕ → Expr → List ℕ → Type 0
  SpellsAt k e = Spells IsItself (numbered k e)

  abbrev MarksAt : ℕ → Expr → ℕ → List ℕ → Type 0
  MarksAt k e = Marks IsItself (numbered k e)

  pub spells_image : (k : ℕ) (e : Expr) → HasNoRepeat e → IsNamed symbols k (occurrences e) → Same (Spells Is e) (Image R (Spells IsItself (numbered k e)))
  spells_image k (symbol s) p h = symbol_image k s h
  spells_image k (sequence f g) p h =
      cut_image R (Spells Is f) (Spells Is g) (SpellsAt k f) (SpellsAt (k + length (occurrences f)) g)
      (spells_image k f p.0 (named_first symbols k (occurrences f) (occurrences g) h))
      (spells_image (k + length (occurrences f)) g p.1 (named_second symbols k (occurrences f) (occurrences g) h))
  spells_image k (union f g) p h =
      or_image R (Spells Is f) (Spells Is g) (SpellsAt k f) (SpellsAt (k + length (occurrences f)) g)
      (spells_image k f p.0 (named_first symbols k (occurrences f) (occurrences g) h))
      (spells_image (k + length (occurrences f)) g p.1 (named_second symbols k (occurrences f) (occurrences g) h))
  spells_image k (star f) p h = many_image R (Spells Is f) (SpellsAt k f) (spells_image k f p h)
  spells_image k (plus f) p h =
      let a = spells_image k f p h in
      cut_image R (Spells Is f) (Many (Spells Is f)) (SpellsAt k f) (Many (SpellsAt k f)) a (many_image R (Spells Is f) (SpellsAt k f) a)
  spells_image k (optional f) p h = or_image R (λ u. u ≡ []) (Spells Is f) (λ w. w ≡ []) (SpellsAt k f) (image_none R) (spells_image k f p h)
  spells_image k (marked f y) p h = spells_image k f p h
  spells_image k (repeated f m n) p h = absurd p

  pub marks_image : (k : ℕ) (e : Expr) → HasNoRepeat e → IsNamed symbols k (occurrences e) → (y : ℕ) → Same (Marks Is e y) (Image R (Marks IsItself (numbered k e) y))
  marks_image k (symbol s) p h y = never_image R
  marks_image k (sequence f g) p h y =
      let first = named_first symbols k (occurrences f) (occurrences g) h in
      let second = named_second symbols k (occurrences f) (occurrences g) h in
      or_image R (Marks Is f y) (Cut (Spells Is f) (Marks Is g y)) (MarksAt k f y) (Cut (SpellsAt k f) (MarksAt (k + length (occurrences f)) g y))
      (marks_image k f p.0 first y)
      (cut_image R (Spells Is f) (Marks Is g y) (SpellsAt k f) (MarksAt (k + length (occurrences f)) g y) (spells_image k f p.0 first)
      (marks_image (k + length (occurrences f)) g p.1 second y))
  marks_image k (union f g) p h y =
      or_image R (Marks Is f y) (Marks Is g y) (MarksAt k f y) (MarksAt (k + length (occurrences f)) g y)
      (marks_image k f p.0 (named_first symbols k (occurrences f) (occurrences g) h) y)
      (marks_image (k + length (occurrences f)) g p.1 (named_second symbols k (occurrences f) (occurrences g) h) y)
  marks_image k (star f) p h y =
      cut_image R (Many (Spells Is f)) (Marks Is f y) (Many (SpellsAt k f)) (MarksAt k f y) (many_image R (Spells Is f) (SpellsAt k f) (spells_image k f p h)) (marks_image k f p h y)
  marks_image k (plus f) p h y =
      cut_image R (Many (Spells Is f)) (Marks Is f y) (Many (SpellsAt k f)) (MarksAt k f y) (many_image R (Spells Is f) (SpellsAt k f) (spells_image k f p h)) (marks_image k f p h y)
  marks_image k (optional f) p h y = marks_image k f p h y
  marks_image k (marked f z) p h y =
      or_image R (λ u. (z ≡ y) × Spells Is f u) (Marks Is f y) (λ w. (z ≡ y) × SpellsAt k f w) (MarksAt k f y)
      (both_image R (z ≡ y) (Spells Is f) (SpellsAt k f) (spells_image k f p h)) (marks_image k f p h y)
  marks_image k (repeated f m n) p h y = absurd p
