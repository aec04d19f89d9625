-- States are reached one from another by pairs of occurrences, and the languages are what leads to the states that show them.
use Rattle.std.proofs.Common.{◌≡◌, ◌⊎◌, ℕ, ◌<◌, ◌≤◌, List, [], ◌∷◌, ◌++◌, length, refl, sym, ap, ◌∙◌, subst, inl, inr, append_assoc, append-nil, arith}
use Rattle.rx_lang.specs.Vector.{Bits}
use Rattle.rx_lang.specs.Meaning.{SomeMarks}
use Rattle.rx_lang.specs.Specification.{Specification, MatchesSymbol, Language}
use Rattle.rx_lang.specs.Positions.{BeginsWith, EndsWith, HasPair, State, start, scan_start, after, occurrence_symbols, expr_letters, scan_letters, IsSpelled, IsMarked, LeadsTo, ShowsMark}
use Rattle.position_nfa.specs.Reached.{ReadsLetters, ReadsTo, ReadsVector, VectorsLeadTo, GoesOnWith, IsShown, IsReadByPairs}
use Rattle.position_nfa.proofs.Swaps.{not_nil}
use Rattle.position_nfa.proofs.LocalWords.{IsLocal}
use Rattle.position_nfa.proofs.Images.{Same, Image, reads_append, reads_none, none_reads}

-- a word is empty or has a last letter
ends : (w : List ℕ) → (w ≡ []) ⊎ ((f : List ℕ) × (p : ℕ) × (w ≡ f ++ p ∷ []))
ends [] = inl refl
ends (x ∷ w) = more (ends w)
  where
    more : (w ≡ []) ⊎ ((f : List ℕ) × (p : ℕ) × (w ≡ f ++ p ∷ [])) → (x ∷ w ≡ []) ⊎ ((f : List ℕ) × (p : ℕ) × (x ∷ w ≡ f ++ p ∷ []))
    more (inl e) = inr ([], x, ap (λ l. x ∷ l) e)
    more (inr h) = inr (x ∷ h.0, h.1, ap (λ l. x ∷ l) h.2)

-- where a cut leaves the last letter
last_cut : {X : Type 0} (u : List X) (x : X) (v w : List X) → u ++ x ∷ [] ≡ v ++ w → (w ≡ []) ⊎ ((t : List X) × (w ≡ t ++ x ∷ []) × (u ≡ v ++ t))
last_cut u x [] w e = inr (u, sym e, refl)
last_cut [] x (y ∷ []) w e = let n : w ≡ [] = cc in inl n
last_cut [] x (y ∷ (z ∷ v)) w e = cc
last_cut (z ∷ u) x (y ∷ v) w e =
    let h : z ≡ y = cc in
    let n : u ++ x ∷ [] ≡ v ++ w = cc in
    more (last_cut u x v w n) h
  where
    more : (w ≡ []) ⊎ ((t : List _) × (w ≡ t ++ x ∷ []) × (u ≡ v ++ t)) → z ≡ y → (w ≡ []) ⊎ ((t : List _) × (w ≡ t ++ x ∷ []) × (z ∷ u ≡ y ∷ (v ++ t)))
    more (inl n) h = inl n
    more (inr k) h = inr (k.0, k.1, ap (λ l. z ∷ l) k.2 ∙ ap (λ a. a ∷ (v ++ k.0)) h)

module _ {X : Type 0} (R : ℕ → X → Type 0) where
  reads_last : (f : List ℕ) (q : ℕ) (u : List X) (x : X) → ReadsLetters R (f ++ q ∷ []) (u ++ x ∷ []) → ReadsLetters R f u × R q x
  reads_last [] q [] x h = (tt, h.0)
  reads_last [] q (y ∷ []) x h = absurd h.1
  reads_last [] q (y ∷ (z ∷ u)) x h = absurd h.1
  reads_last (p ∷ f) q [] x h = absurd (not_nil f q [] (reads_none R (f ++ q ∷ []) h.1))
  reads_last (p ∷ f) q (y ∷ u) x h = let t = reads_last f q u x h.1 in ((h.0, t.0), t.1)

  never_at_once : (P : List ℕ → Type 0) (q : ℕ) → ReadsTo R P q [] → ⊥
  never_at_once P q c = not_nil c.front q [] (reads_none R (c.front ++ q ∷ []) c.reads)

  module _ (lo hi : ℕ) (P : List ℕ → Type 0) (M : ℕ → List ℕ → Type 0) (a : IsLocal lo hi P M) where
    begun : (q : ℕ) (x : X) → BeginsWith P q → R q x → ReadsTo R P q (x ∷ [])
    begun q x b r = record { front = []; rest = b.0; word = b.1; reads = (r, tt) }

    comes_on : (p q : ℕ) (u : List X) (x : X) → ReadsTo R P p u → HasPair P p q → R q x → ReadsTo R P q (u ++ x ∷ [])
    comes_on p q u x c h r = record {
      front = c.front ++ p ∷ [];
      rest = h.1;
      word = subst P (sym (append_assoc c.front (p ∷ []) (q ∷ h.1))) (a.swaps p c.front c.rest h.0 (q ∷ h.1) c.word h.2);
      reads = reads_append R (c.front ++ p ∷ []) (q ∷ []) u (x ∷ []) c.reads (r, tt);
    }

    -- the first letter, or one behind another
    record CameFrom (u : List X) (x : X) (p q : ℕ) : Type 0 where
      comes : ReadsTo R P p u
      pair : HasPair P p q

    came_from : (q : ℕ) (u : List X) (x : X) → ReadsTo R P q (u ++ x ∷ []) → R q x × (((u ≡ []) × BeginsWith P q) ⊎ ((p : ℕ) × CameFrom u x p q))
    came_from q u x c = let r = reads_last c.front q u x c.reads in (r.1, by (ends c.front) r.0)
      where
        by : (c.front ≡ []) ⊎ ((f : List ℕ) × (p : ℕ) × (c.front ≡ f ++ p ∷ [])) → ReadsLetters R c.front u → ((u ≡ []) × BeginsWith P q) ⊎ ((p : ℕ) × CameFrom u x p q)
        by (inl e) r = inl (none_reads R u (subst (λ l. ReadsLetters R l u) e r), (c.rest, subst (λ l. P (l ++ q ∷ c.rest)) e c.word))
        by (inr h) r =
            let whole : P (h.0 ++ h.1 ∷ q ∷ c.rest) = subst P (append_assoc h.0 (h.1 ∷ []) (q ∷ c.rest)) (subst (λ l. P (l ++ q ∷ c.rest)) h.2 c.word) in
            inr (
              h.1,
              record {
                comes = record { front = h.0; rest = q ∷ c.rest; word = whole; reads = subst (λ l. ReadsLetters R l u) h.2 r };
                pair = (h.0, c.rest, whole);
              },
            )

    comes_within : (q : ℕ) (u : List X) → ReadsTo R P q u → (lo ≤ q) × (q < hi)
    comes_within q u c = a.uses q c.front c.rest c.word

    -- a word that was marked is read to a state that shows the mark
    marked_at : (y : ℕ) (u : List X) → Image R (M y) u → ((u ≡ []) × M y []) ⊎ ((q : ℕ) × ReadsTo R P q u × EndsWith (M y) q)
    marked_at y u h = by (ends h.word)
      where
        by : (h.word ≡ []) ⊎ ((f : List ℕ) × (p : ℕ) × (h.word ≡ f ++ p ∷ [])) → ((u ≡ []) × M y []) ⊎ ((q : ℕ) × ReadsTo R P q u × EndsWith (M y) q)
        by (inl e) = inl (none_reads R u (subst (λ l. ReadsLetters R l u) e h.reads), subst (M y) e h.is)
        by (inr k) =
            let m : M y (k.0 ++ k.1 ∷ []) = subst (M y) k.2 h.is in
            let on = a.goes_on y (k.0 ++ k.1 ∷ []) m in
            inr (
              k.1,
              record {
                front = k.0;
                rest = on.0;
                word = subst P (append_assoc k.0 (k.1 ∷ []) on.0) on.1;
                reads = subst (λ l. ReadsLetters R l u) k.2 h.reads;
              },
              (k.0, m),
            )

    at_mark : (y q : ℕ) (u : List X) → ReadsTo R P q u → EndsWith (M y) q → Image R (M y) u
    at_mark y q u c m = record { word = c.front ++ q ∷ []; is = a.mark_swaps y q c.front c.rest m.0 [] c.word m.1; reads = c.reads }

-- The letters of the `expr` statements lie below a number, and those of the `scan` statements from it on.
module _ (spec : Specification) (middle : ℕ) (exprs : IsLocal 0 middle (IsSpelled (expr_letters spec)) (IsMarked (expr_letters spec)))
    (scans : IsLocal middle (length (occurrence_symbols spec)) (IsSpelled (scan_letters spec)) (IsMarked (scan_letters spec))) where
  abbrev R : ℕ → Bits → Type 0
  R = ReadsVector spec

  abbrev E : List ℕ → Type 0
  E = IsSpelled (expr_letters spec)

  abbrev ME : ℕ → List ℕ → Type 0
  ME = IsMarked (expr_letters spec)

  abbrev C : List ℕ → Type 0
  C = IsSpelled (scan_letters spec)

  abbrev MC : ℕ → List ℕ → Type 0
  MC = IsMarked (scan_letters spec)

  abbrev n : ℕ
  n = length (occurrence_symbols spec)

  none_reached : (q : ℕ) → VectorsLeadTo spec [] (after q) → ⊥
  none_reached q (inl c) = never_at_once R E q c
  none_reached q (inr h) = ended h.front h.rest h.whole h.second
    where
      ended : (v w : List Bits) → [] ≡ v ++ w → ReadsTo R C q w → ⊥
      ended [] w e c = never_at_once R C q (subst (ReadsTo R C q) (sym e) c)
      ended (x ∷ v) w e c = cc

  pair_within_exprs : (p q : ℕ) → HasPair E p q → p < middle
  pair_within_exprs p q h = (exprs.uses p h.0 (q ∷ h.1) h.2).1

  pair_within_scans : (p q : ℕ) → HasPair C p q → middle ≤ p
  pair_within_scans p q h = (scans.uses p h.0 (q ∷ h.1) h.2).0

  to_next : (u : List Bits) (x : Bits) (q : ℕ) → VectorsLeadTo spec (u ++ x ∷ []) (after q) → GoesOnWith spec u x q
  to_next u x q (inl c) = let k = came_from R 0 middle E ME exprs q u x c in by k.0 k.1
    where
      by : R q x → ((u ≡ []) × BeginsWith E q) ⊎ ((p : ℕ) × CameFrom R 0 middle E ME exprs u x p q) → GoesOnWith spec u x q
      by r (inl h) = record { state = start; reached = h.0; leads = h.1; reads = r }
      by r (inr h) = record { state = after h.0; reached = inl h.1.comes; leads = inl h.1.pair; reads = r }
  to_next u x q (inr h) = at_rest (last_cut u x h.front h.rest h.whole)
    where
      by : (t : List Bits) → u ≡ h.front ++ t → R q x → ((t ≡ []) × BeginsWith C q) ⊎ ((p : ℕ) × CameFrom R middle n C MC scans t x p q) → GoesOnWith spec u x q
      by t e r (inl k) = record { state = scan_start; reached = tt; leads = k.1; reads = r }
      by t e r (inr k) = record {
        state = after k.0;
        reached = inr (record { front = h.front; rest = t; whole = e; first = tt; second = k.1.comes });
        leads = inr k.1.pair;
        reads = r;
      }

      at_rest : (h.rest ≡ []) ⊎ ((t : List Bits) × (h.rest ≡ t ++ x ∷ []) × (u ≡ h.front ++ t)) → GoesOnWith spec u x q
      at_rest (inl e) = absurd (never_at_once R C q (subst (ReadsTo R C q) e h.second))
      at_rest (inr k) = let c = came_from R middle n C MC scans q k.0 x (subst (ReadsTo R C q) k.1 h.second) in by k.0 k.2 c.0 c.1

  next_by : (u : List Bits) (x : Bits) (q : ℕ) (state : State) → VectorsLeadTo spec u state → LeadsTo spec state q → R q x → VectorsLeadTo spec (u ++ x ∷ []) (after q)
  next_by u x q start reached leads r = inl (subst (λ l. ReadsTo R E q (l ++ x ∷ [])) (sym reached) (begun R 0 middle E ME exprs q x leads r))
  next_by u x q scan_start reached leads r =
      inr (record { front = u; rest = x ∷ []; whole = refl; first = tt; second = begun R middle n C MC scans q x leads r })
  next_by u x q (after p) (inl c) (inl h) r = inl (comes_on R 0 middle E ME exprs p q u x c h r)
  next_by u x q (after p) (inl c) (inr h) r =
      absurd (omega (arith, (comes_within R 0 middle E ME exprs p u c).1, pair_within_scans p q h))
  next_by u x q (after p) (inr k) (inl h) r =
      absurd (omega (arith, (comes_within R middle n C MC scans p k.rest k.second).0, pair_within_exprs p q h))
  next_by u x q (after p) (inr k) (inr h) r = inr (record {
    front = k.front;
    rest = k.rest ++ x ∷ [];
    whole = ap (λ l. l ++ x ∷ []) k.whole ∙ append_assoc k.front k.rest (x ∷ []);
    first = tt;
    second = comes_on R middle n C MC scans p q k.rest x k.second h r;
  })

  reached_below : (u : List Bits) (q : ℕ) → VectorsLeadTo spec u (after q) → q < n
  reached_below u q (inl c) = omega (arith, (comes_within R 0 middle E ME exprs q u c).1, scans.order)
  reached_below u q (inr k) = (comes_within R middle n C MC scans q k.rest k.second).1

  module _ (of_exprs : (y : ℕ) → Same (SomeMarks (MatchesSymbol spec.symbols) spec.statements y) (Image R (ME y)))
      (of_scans : (y : ℕ) → Same (SomeMarks (MatchesSymbol spec.symbols) spec.scans y) (Image R (MC y))) where
    to_shown : (y : ℕ) (u : List Bits) → Language spec y u → IsShown spec u y
    to_shown y u (inl m) = by (marked_at R 0 middle E ME exprs y u ((of_exprs y u).0 m))
      where
        by : ((u ≡ []) × ME y []) ⊎ ((q : ℕ) × ReadsTo R E q u × EndsWith (ME y) q) → IsShown spec u y
        by (inl h) = record { state = start; reached = h.0; shows = h.1 }
        by (inr h) = record { state = after h.0; reached = inl h.1; shows = inl h.2 }
    to_shown y u (inr k) = by (marked_at R middle n C MC scans y k.rest ((of_scans y k.rest).0 k.second))
      where
        by : ((k.rest ≡ []) × MC y []) ⊎ ((q : ℕ) × ReadsTo R C q k.rest × EndsWith (MC y) q) → IsShown spec u y
        by (inl h) = record { state = scan_start; reached = tt; shows = h.1 }
        by (inr h) = record {
          state = after h.0;
          reached = inr (record { front = k.front; rest = k.rest; whole = k.whole; first = tt; second = h.1 });
          shows = inr h.2;
        }

    shown_by : (y : ℕ) (u : List Bits) (state : State) → VectorsLeadTo spec u state → ShowsMark spec state y → Language spec y u
    shown_by y u start reached shows = inl ((of_exprs y u).1 (record { word = []; is = shows; reads = subst (ReadsLetters R []) (sym reached) tt }))
    shown_by y u scan_start reached shows = inr (record {
      front = u;
      rest = [];
      whole = sym (append-nil u);
      first = tt;
      second = (of_scans y []).1 (record { word = []; is = shows; reads = tt });
    })
    shown_by y u (after q) (inl c) (inl m) = inl ((of_exprs y u).1 (at_mark R 0 middle E ME exprs y q u c m))
    shown_by y u (after q) (inl c) (inr m) =
        absurd (omega (arith, (comes_within R 0 middle E ME exprs q u c).1, (scans.mark_uses y q m.0 [] m.1).0))
    shown_by y u (after q) (inr k) (inl m) =
        absurd (omega (arith, (comes_within R middle n C MC scans q k.rest k.second).0, (exprs.mark_uses y q m.0 [] m.1).1))
    shown_by y u (after q) (inr k) (inr m) = inr (record {
      front = k.front;
      rest = k.rest;
      whole = k.whole;
      first = tt;
      second = (of_scans y k.rest).1 (at_mark R middle n C MC scans y q k.rest k.second m);
    })

    pub read_by_pairs : IsReadByPairs spec
    read_by_pairs = record {
      none = none_reached;
      next = λ u x q. (to_next u x q, λ h. next_by u x q h.state h.reached h.leads h.reads);
      below = reached_below;
      language = λ y u. (to_shown y u, λ h. shown_by y u h.state h.reached h.shows);
    }
