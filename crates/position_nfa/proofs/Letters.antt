-- With which letters words begin and end, and which pairs stand in them: of cuts, of loops, and of nodes.
use Rattle.std.proofs.Common.{◌≡◌, ◌≢◌, ◌⊎◌, ◌↔◌, ℕ, Bool, true, false, IsTrue, List, [], ◌∷◌, ◌++◌, refl, sym, ap, ◌∙◌, subst, inl, inr, append_assoc, append-nil}
use Rattle.rx_lang.specs.Meaning.{Cut, Many, none, more}
use Rattle.rx_lang.specs.Positions.{BeginsWith, EndsWith, HasPair}
use Rattle.star_normal.specs.Trees.{Flags, Turns, Words}

-- ---- where letters stand in two words, one behind the other

-- the first letter

abbrev pub FirstPlace : List ℕ → List ℕ → List ℕ → ℕ → Type 0
FirstPlace rest v w q = ((r : List ℕ) × (v ≡ q ∷ r)) ⊎ ((v ≡ []) × (w ≡ q ∷ rest))

first_place : (rest v w : List ℕ) (q : ℕ) → q ∷ rest ≡ v ++ w → FirstPlace rest v w q
first_place rest [] w q e = inr (refl, sym e)
first_place rest (x ∷ v) w q e = inl (v, let h : x ≡ q = cc in ap (λ y. y ∷ v) h)

-- the last letter

abbrev pub LastPlace : List ℕ → List ℕ → List ℕ → ℕ → Type 0
LastPlace front v w p = ((f : List ℕ) × (v ≡ f ++ p ∷ []) × (w ≡ [])) ⊎ ((f : List ℕ) × (w ≡ f ++ p ∷ []))

last_more : (x : ℕ) (front v w : List ℕ) (p : ℕ) → LastPlace front v w p → LastPlace (x ∷ front) (x ∷ v) w p
last_more x front v w p (inl h) = inl (x ∷ h.0, ap (λ l. x ∷ l) h.1, h.2)
last_more x front v w p (inr h) = inr h

pub none_left : (v w : List ℕ) → [] ≡ v ++ w → (v ≡ []) × (w ≡ [])
none_left [] w e = (refl, sym e)
none_left (x ∷ v) w e = cc

last_place : (front v w : List ℕ) (p : ℕ) → front ++ p ∷ [] ≡ v ++ w → LastPlace front v w p
last_place front [] w p e = inr (front, sym e)
last_place [] (x ∷ v) w p e =
    let h : x ≡ p = cc in
    let n : [] ≡ v ++ w = cc in
    let both = none_left v w n in
    inl ([], ap (λ y. y ∷ v) h ∙ ap (λ l. p ∷ l) both.0, both.1)
last_place (y ∷ front) (x ∷ v) w p e =
    let h : y ≡ x = cc in
    let n : front ++ p ∷ [] ≡ v ++ w = cc in
    subst (λ z. LastPlace (z ∷ front) (x ∷ v) w p) (sym h) (last_more x front v w p (last_place front v w p n))

-- two letters, one right behind the other

pub data PairPlace (v w : List ℕ) (p q : ℕ) : Type 0 where
  in_first : (f r : List ℕ) → v ≡ f ++ p ∷ q ∷ r → PairPlace v w p q
  between : (f r : List ℕ) → v ≡ f ++ p ∷ [] → w ≡ q ∷ r → PairPlace v w p q
  in_second : (f r : List ℕ) → w ≡ f ++ p ∷ q ∷ r → PairPlace v w p q

pair_more : (x : ℕ) (v w : List ℕ) (p q : ℕ) → PairPlace v w p q → PairPlace (x ∷ v) w p q
pair_more x v w p q (in_first f r e) = in_first (x ∷ f) r (ap (λ l. x ∷ l) e)
pair_more x v w p q (between f r e g) = between (x ∷ f) r (ap (λ l. x ∷ l) e) g
pair_more x v w p q (in_second f r e) = in_second f r e

pub pair_place : (front rest v w : List ℕ) (p q : ℕ) → front ++ p ∷ q ∷ rest ≡ v ++ w → PairPlace v w p q
pair_place front rest [] w p q e = in_second front rest (sym e)
pair_place [] rest (x ∷ []) w p q e =
    let h : x ≡ p = cc in
    let n : w ≡ q ∷ rest = cc in
    between [] rest (ap (λ y. y ∷ []) h) n
pair_place [] rest (x ∷ y ∷ v) w p q e =
    let h : x ≡ p = cc in
    let g : y ≡ q = cc in
    in_first [] v (ap (λ z. z ∷ y ∷ v) h ∙ ap (λ z. p ∷ z ∷ v) g)
pair_place (z ∷ front) rest (x ∷ v) w p q e =
    let n : front ++ p ∷ q ∷ rest ≡ v ++ w = cc in
    pair_more x v w p q (pair_place front rest v w p q n)

-- ---- languages

-- the language has a word
abbrev pub HasWord : (List ℕ → Type 0) → Type 0
HasWord P = (u : List ℕ) × P u

module _ (P Q : List ℕ → Type 0) where
  begins_cut_by : (rest v w : List ℕ) (q : ℕ) → P v → Q w → FirstPlace rest v w q → BeginsWith P q ⊎ (P [] × BeginsWith Q q)
  begins_cut_by rest v w q a b (inl h) = inl (h.0, subst P h.1 a)
  begins_cut_by rest v w q a b (inr h) = inr (subst P h.0 a, (rest, subst Q h.1 b))

  pub begins_cut : (q : ℕ) → BeginsWith (Cut P Q) q → BeginsWith P q ⊎ (P [] × BeginsWith Q q)
  begins_cut q h = let c = h.1 in begins_cut_by h.0 c.front c.rest q c.first c.second (first_place h.0 c.front c.rest q c.whole)

  pub begins_first : (q : ℕ) → HasWord Q → BeginsWith P q → BeginsWith (Cut P Q) q
  begins_first q some h = (h.0 ++ some.0, record { front = q ∷ h.0; rest = some.0; whole = refl; first = h.1; second = some.1 })

  pub begins_second : (q : ℕ) → P [] → BeginsWith Q q → BeginsWith (Cut P Q) q
  begins_second q empty h = (h.0, record { front = []; rest = q ∷ h.0; whole = refl; first = empty; second = h.1 })

  ends_cut_by : (front v w : List ℕ) (p : ℕ) → P v → Q w → LastPlace front v w p → (EndsWith P p × Q []) ⊎ EndsWith Q p
  ends_cut_by front v w p a b (inl h) = inl ((h.0, subst P h.1 a), subst Q h.2 b)
  ends_cut_by front v w p a b (inr h) = inr (h.0, subst Q h.1 b)

  pub ends_cut : (p : ℕ) → EndsWith (Cut P Q) p → (EndsWith P p × Q []) ⊎ EndsWith Q p
  ends_cut p h = let c = h.1 in ends_cut_by h.0 c.front c.rest p c.first c.second (last_place h.0 c.front c.rest p c.whole)

  pub ends_first : (p : ℕ) → Q [] → EndsWith P p → EndsWith (Cut P Q) p
  ends_first p empty h = (h.0, record { front = h.0 ++ p ∷ []; rest = []; whole = sym (append-nil (h.0 ++ p ∷ [])); first = h.1; second = empty })

  pub ends_second : (p : ℕ) → HasWord P → EndsWith Q p → EndsWith (Cut P Q) p
  ends_second p some h =
      (some.0 ++ h.0, record { front = some.0; rest = h.0 ++ p ∷ []; whole = append_assoc some.0 h.0 (p ∷ []); first = some.1; second = h.1 })

  abbrev pub PairInCut : ℕ → ℕ → Type 0
  PairInCut p q = HasPair P p q ⊎ ((EndsWith P p × BeginsWith Q q) ⊎ HasPair Q p q)

  pub pair_cut_by : (v w : List ℕ) (p q : ℕ) → P v → Q w → PairPlace v w p q → PairInCut p q
  pair_cut_by v w p q a b (in_first f r e) = inl (f, r, subst P e a)
  pair_cut_by v w p q a b (between f r e g) = inr (inl ((f, subst P e a), (r, subst Q g b)))
  pair_cut_by v w p q a b (in_second f r e) = inr (inr (f, r, subst Q e b))

  pub pair_cut : (p q : ℕ) → HasPair (Cut P Q) p q → PairInCut p q
  pair_cut p q h = let c = h.2 in pair_cut_by c.front c.rest p q c.first c.second (pair_place h.0 h.1 c.front c.rest p q c.whole)

  pub pair_first : (p q : ℕ) → HasWord Q → HasPair P p q → HasPair (Cut P Q) p q
  pair_first p q some h = (
    h.0,
    h.1 ++ some.0,
    record {
      front = h.0 ++ p ∷ q ∷ h.1;
      rest = some.0;
      whole = sym (append_assoc h.0 (p ∷ q ∷ h.1) some.0);
      first = h.2;
      second = some.1;
    },
  )

  pub pair_between : (p q : ℕ) → EndsWith P p → BeginsWith Q q → HasPair (Cut P Q) p q
  pair_between p q a b = (
    a.0,
    b.0,
    record {
      front = a.0 ++ p ∷ [];
      rest = q ∷ b.0;
      whole = sym (append_assoc a.0 (p ∷ []) (q ∷ b.0));
      first = a.1;
      second = b.1;
    },
  )

  pub pair_second : (p q : ℕ) → HasWord P → HasPair Q p q → HasPair (Cut P Q) p q
  pair_second p q some h = (
    some.0 ++ h.0,
    h.1,
    record {
      front = some.0;
      rest = h.0 ++ p ∷ q ∷ h.1;
      whole = append_assoc some.0 h.0 (p ∷ q ∷ h.1);
      first = some.1;
      second = h.2;
    },
  )

module _ (B : List ℕ → Type 0) where
  -- words one after another

  begins_many_by : (rest v w : List ℕ) (q : ℕ) → B v → v ≢ [] → FirstPlace rest v w q → BeginsWith B q
  begins_many_by rest v w q b ne (inl h) = (h.0, subst B h.1 b)
  begins_many_by rest v w q b ne (inr h) = absurd (ne h.0)

  begins_many_at : (u rest : List ℕ) (q : ℕ) → Many B u → q ∷ rest ≡ u → BeginsWith B q
  begins_many_at _ rest q (none u e) k = let n : q ∷ rest ≡ [] = k ∙ e in cc
  begins_many_at _ rest q (more u v w e ne b m) k = begins_many_by rest v w q b ne (first_place rest v w q (k ∙ e))

  pub begins_many : (q : ℕ) → BeginsWith (Many B) q → BeginsWith B q
  begins_many q h = begins_many_at (q ∷ h.0) h.0 q h.1 refl

  pub full_end : (front : List ℕ) (p : ℕ) → front ++ p ∷ [] ≡ [] → ⊥
  full_end [] p e = cc
  full_end (x ∷ front) p e = cc

  ends_many_by : (front v w : List ℕ) (p : ℕ) → B v → ((f : List ℕ) → f ++ p ∷ [] ≡ w → EndsWith B p) → LastPlace front v w p → EndsWith B p
  ends_many_by front v w p b rec (inl h) = (h.0, subst B h.1 b)
  ends_many_by front v w p b rec (inr h) = rec h.0 (sym h.1)

  ends_many_at : (u front : List ℕ) (p : ℕ) → Many B u → front ++ p ∷ [] ≡ u → EndsWith B p
  ends_many_at _ front p (none u e) k = absurd (full_end front p (k ∙ e))
  ends_many_at _ front p (more u v w e ne b m) k =
      ends_many_by front v w p b (λ f g. ends_many_at w f p m g) (last_place front v w p (k ∙ e))

  pub ends_many : (p : ℕ) → EndsWith (Many B) p → EndsWith B p
  ends_many p h = ends_many_at (h.0 ++ p ∷ []) h.0 p h.1 refl

  abbrev pub PairInLoop : ℕ → ℕ → Type 0
  PairInLoop p q = HasPair B p q ⊎ (EndsWith B p × BeginsWith B q)

  full_pair : (front rest : List ℕ) (p q : ℕ) → front ++ p ∷ q ∷ rest ≡ [] → ⊥
  full_pair [] rest p q e = cc
  full_pair (x ∷ front) rest p q e = cc

  pair_many_by : (v w : List ℕ) (p q : ℕ) → B v → Many B w → ((f r : List ℕ) → f ++ p ∷ q ∷ r ≡ w → PairInLoop p q) → PairPlace v w p q → PairInLoop p q
  pair_many_by v w p q b m rec (in_first f r e) = inl (f, r, subst B e b)
  pair_many_by v w p q b m rec (between f r e g) = inr ((f, subst B e b), begins_many_at w r q m (sym g))
  pair_many_by v w p q b m rec (in_second f r e) = rec f r (sym e)

  pair_many_at : (u front rest : List ℕ) (p q : ℕ) → Many B u → front ++ p ∷ q ∷ rest ≡ u → PairInLoop p q
  pair_many_at _ front rest p q (none u e) k = absurd (full_pair front rest p q (k ∙ e))
  pair_many_at _ front rest p q (more u v w e ne b m) k =
      pair_many_by v w p q b m (λ f r g. pair_many_at w f r p q m g) (pair_place front rest v w p q (k ∙ e))

  pub pair_many : (p q : ℕ) → HasPair (Many B) p q → PairInLoop p q
  pair_many p q h = pair_many_at (h.0 ++ p ∷ q ∷ h.1) h.0 h.1 p q h.2 refl

  -- ---- turns

  pub one_turn : (loops : Bool) (u : List ℕ) → B u → Turns loops B u
  one_turn true u b = record { front = u; rest = []; whole = sym (append-nil u); first = b; second = none [] refl }
  one_turn false u b = b

  begins_turns_by : (q : ℕ) → BeginsWith B q ⊎ (B [] × BeginsWith (Many B) q) → BeginsWith B q
  begins_turns_by q (inl h) = h
  begins_turns_by q (inr h) = begins_many q h.1

  begins_turns : (loops : Bool) (q : ℕ) → BeginsWith (Turns loops B) q → BeginsWith B q
  begins_turns true q h = begins_turns_by q (begins_cut B (Many B) q h)
  begins_turns false q h = h

  ends_turns_by : (p : ℕ) → (EndsWith B p × Many B []) ⊎ EndsWith (Many B) p → EndsWith B p
  ends_turns_by p (inl h) = h.0
  ends_turns_by p (inr h) = ends_many p h

  ends_turns : (loops : Bool) (p : ℕ) → EndsWith (Turns loops B) p → EndsWith B p
  ends_turns true p h = ends_turns_by p (ends_cut B (Many B) p h)
  ends_turns false p h = h

  pair_turns_by : (p q : ℕ) → HasPair B p q ⊎ ((EndsWith B p × BeginsWith (Many B) q) ⊎ HasPair (Many B) p q) → PairInLoop p q
  pair_turns_by p q (inl h) = inl h
  pair_turns_by p q (inr (inl h)) = inr (h.0, begins_many q h.1)
  pair_turns_by p q (inr (inr h)) = pair_many p q h

  abbrev pub PairInTurns : Bool → ℕ → ℕ → Type 0
  PairInTurns loops p q = HasPair B p q ⊎ ((loops ≡ true) × EndsWith B p × BeginsWith B q)

  pair_looped : (p q : ℕ) → PairInLoop p q → PairInTurns true p q
  pair_looped p q (inl h) = inl h
  pair_looped p q (inr h) = inr (refl, h.0, h.1)

  pair_turns : (loops : Bool) (p q : ℕ) → HasPair (Turns loops B) p q → PairInTurns loops p q
  pair_turns true p q h = pair_looped p q (pair_turns_by p q (pair_cut B (Many B) p q h))
  pair_turns false p q h = inl h

  some_many : (q : ℕ) (rest : List ℕ) → B (q ∷ rest) → Many B (q ∷ rest)
  some_many q rest b = more (q ∷ rest) (q ∷ rest) [] (sym (append-nil (q ∷ rest))) (λ e. cc) b (none [] refl)

  pair_again : (loops : Bool) (p q : ℕ) → loops ≡ true → EndsWith B p → BeginsWith B q → HasPair (Turns loops B) p q
  pair_again true p q h a b = pair_between B (Many B) p q a (b.0, some_many q b.0 b.1)
  pair_again false p q h a b = cc

  -- ---- nodes

  module _ (f : Flags) where
    word_begins : (q : ℕ) (rest : List ℕ) → Words f B (q ∷ rest) → BeginsWith B q
    word_begins q rest (inl h) = let e = h.1 in cc
    word_begins q rest (inr t) = begins_turns f.loops q (rest, t)

    pub node_begins : (q : ℕ) → BeginsWith (Words f B) q → BeginsWith B q
    node_begins q h = word_begins q h.0 h.1

    pub begins_node : (q : ℕ) → BeginsWith B q → BeginsWith (Words f B) q
    begins_node q h = (h.0, inr (one_turn f.loops (q ∷ h.0) h.1))

    word_ends : (front : List ℕ) (p : ℕ) → Words f B (front ++ p ∷ []) → EndsWith B p
    word_ends front p (inl h) = absurd (full_end front p h.1)
    word_ends front p (inr t) = ends_turns f.loops p (front, t)

    pub node_ends : (p : ℕ) → EndsWith (Words f B) p → EndsWith B p
    node_ends p h = word_ends h.0 p h.1

    pub ends_node : (p : ℕ) → EndsWith B p → EndsWith (Words f B) p
    ends_node p h = (h.0, inr (one_turn f.loops (h.0 ++ p ∷ []) h.1))

    word_pair : (front rest : List ℕ) (p q : ℕ) → Words f B (front ++ p ∷ q ∷ rest) → PairInTurns f.loops p q
    word_pair front rest p q (inl h) = absurd (full_pair front rest p q h.1)
    word_pair front rest p q (inr t) = pair_turns f.loops p q (front, rest, t)

    pub node_pair : (p q : ℕ) → HasPair (Words f B) p q → PairInTurns f.loops p q
    node_pair p q h = word_pair h.0 h.1 p q h.2

    turns_pair : (p q : ℕ) → HasPair (Turns f.loops B) p q → HasPair (Words f B) p q
    turns_pair p q h = (h.0, h.1, inr h.2)

    pub pair_node : (p q : ℕ) → PairInTurns f.loops p q → HasPair (Words f B) p q
    pair_node p q (inl h) = (h.0, h.1, inr (one_turn f.loops (h.0 ++ p ∷ q ∷ h.1) h.2))
    pair_node p q (inr h) = turns_pair p q (pair_again f.loops p q h.0 h.1 h.2)
