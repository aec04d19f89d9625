-- An expression whose occurrences are letters of their own spells and marks the words that go from letter to letter as some of
-- its words do (Glushkov, 1961).
use Rattle.std.proofs.Common.{◌≡◌, ◌⊎◌, ℕ, ◌+◌, ◌<◌, ◌≤◌, List, [], ◌∷◌, ◌++◌, length, refl, sym, ap, ◌∙◌, subst, inl, inr, append_assoc, append-nil, length-append, arith}
use Rattle.rx_lang.specs.Expression.{Expr, symbol, sequence, union, star, plus, optional, marked, repeated}
use Rattle.rx_lang.specs.Meaning.{Cut, Many, none, Spells, Marks}
use Rattle.rx_lang.specs.Copies.{IsItself, numbered, occurrences}
use Rattle.star_normal.specs.Shapes.{HasNoRepeat}
use Rattle.position_nfa.proofs.Swaps.{Uses, Swaps, not_nil, cut_swaps, first_swaps, left_swaps, right_swaps, or_swaps, cut_uses, or_uses, wider, many_uses, many_swaps, loop_swaps, plus_many, many_plus, many_join, many_one, last_plus}

-- The letters of all words that are spelled or marked lie in the range, each marked word goes on to one that is spelled, and all
-- go from letter to letter as some do.
pub record IsLocal (lo hi : ℕ) (S : List ℕ → Type 0) (M : ℕ → List ℕ → Type 0) : Type 0 where
  pub order : lo ≤ hi
  pub uses : Uses lo hi S
  pub mark_uses : (y : ℕ) → Uses lo hi (M y)
  pub swaps : Swaps S S
  pub mark_swaps : (y : ℕ) → Swaps S (M y)
  pub goes_on : (y : ℕ) (w : List ℕ) → M y w → (z : List ℕ) × S (w ++ z)

module _ (lo mid hi : ℕ) (S T : List ℕ → Type 0) (M N : ℕ → List ℕ → Type 0) (a : IsLocal lo mid S M) (b : IsLocal mid hi T N) where
  first_uses : (P : List ℕ → Type 0) → Uses lo mid P → Uses lo hi P
  first_uses P = wider lo mid lo hi P (omega arith) b.order

  second_uses : (P : List ℕ → Type 0) → Uses mid hi P → Uses lo hi P
  second_uses P = wider mid hi lo hi P a.order (omega arith)

  local_cut : (t : List ℕ) → T t → IsLocal lo hi (Cut S T) (λ y w. M y w ⊎ Cut S (N y) w)
  local_cut t has = record {
    order = omega (arith, a.order, b.order);
    uses = cut_uses lo hi S T (first_uses S a.uses) (second_uses T b.uses);
    mark_uses = λ y. or_uses lo hi (M y) (Cut S (N y)) (first_uses (M y) (a.mark_uses y))
        (cut_uses lo hi S (N y) (first_uses S a.uses) (second_uses (N y) (b.mark_uses y)));
    swaps = cut_swaps lo mid hi S T T a.uses b.uses b.uses a.swaps b.swaps;
    mark_swaps = λ y. or_swaps (Cut S T) (M y) (Cut S (N y)) (first_swaps lo mid hi S T (M y) b.uses (a.mark_uses y) (a.mark_swaps y))
        (cut_swaps lo mid hi S T (N y) a.uses b.uses (b.mark_uses y) a.swaps (b.mark_swaps y));
    goes_on = λ y w m. on y w m;
  }
    where
      on : (y : ℕ) (w : List ℕ) → M y w ⊎ Cut S (N y) w → (z : List ℕ) × Cut S T (w ++ z)
      on y w (inl m) =
          let h = a.goes_on y w m in
          (h.0 ++ t, record { front = w ++ h.0; rest = t; whole = sym (append_assoc w h.0 t); first = h.1; second = has })
      on y w (inr m) =
          let h = b.goes_on y m.rest m.second in
          (h.0, record { front = m.front; rest = m.rest ++ h.0; whole = ap (λ l. l ++ h.0) m.whole ∙ append_assoc m.front m.rest h.0; first = m.first; second = h.1 })

  pub local_or : IsLocal lo hi (λ w. S w ⊎ T w) (λ y w. M y w ⊎ N y w)
  local_or = record {
    order = omega (arith, a.order, b.order);
    uses = or_uses lo hi S T (first_uses S a.uses) (second_uses T b.uses);
    mark_uses = λ y. or_uses lo hi (M y) (N y) (first_uses (M y) (a.mark_uses y)) (second_uses (N y) (b.mark_uses y));
    swaps = or_swaps (λ w. S w ⊎ T w) S T (left_swaps lo mid hi S T S b.uses a.uses a.swaps) (right_swaps lo mid hi S T T a.uses b.uses b.swaps);
    mark_swaps = λ y. or_swaps (λ w. S w ⊎ T w) (M y) (N y) (left_swaps lo mid hi S T (M y) b.uses (a.mark_uses y) (a.mark_swaps y))
        (right_swaps lo mid hi S T (N y) a.uses (b.mark_uses y) (b.mark_swaps y));
    goes_on = λ y w m. on y w m;
  }
    where
      on : (y : ℕ) (w : List ℕ) → M y w ⊎ N y w → (z : List ℕ) × (S (w ++ z) ⊎ T (w ++ z))
      on y w (inl m) = let h = a.goes_on y w m in (h.0, inl h.1)
      on y w (inr m) = let h = b.goes_on y w m in (h.0, inr h.1)

module _ (lo hi : ℕ) (S : List ℕ → Type 0) (M : ℕ → List ℕ → Type 0) (a : IsLocal lo hi S M) where
  loop_uses : (y : ℕ) → Uses lo hi (Cut (Many S) (M y))
  loop_uses y = cut_uses lo hi (Many S) (M y) (many_uses S lo hi a.uses) (a.mark_uses y)

  -- a mark within a turn goes on to the end of the turn
  turn_goes_on : (y : ℕ) (w : List ℕ) → Cut (Many S) (M y) w → (z : List ℕ) × Cut (Many S) S (w ++ z)
  turn_goes_on y w m =
      let h = a.goes_on y m.rest m.second in
      (h.0, record { front = m.front; rest = m.rest ++ h.0; whole = ap (λ l. l ++ h.0) m.whole ∙ append_assoc m.front m.rest h.0; first = m.first; second = h.1 })

  loop_end : (w : List ℕ) → Cut (Many S) S w → Many S w
  loop_end w c = subst (Many S) (sym c.whole) (many_join S c.front c.rest c.first (many_one S c.rest c.second))

  local_star : IsLocal lo hi (Many S) (λ y. Cut (Many S) (M y))
  local_star = record {
    order = a.order;
    uses = many_uses S lo hi a.uses;
    mark_uses = loop_uses;
    swaps = many_swaps S a.swaps;
    mark_swaps = λ y. loop_swaps S a.swaps (M y) (a.mark_swaps y);
    goes_on = λ y w m. let h = turn_goes_on y w m in (h.0, loop_end (w ++ h.0) h.1);
  }

  local_plus : IsLocal lo hi (Cut S (Many S)) (λ y. Cut (Many S) (M y))
  local_plus = record {
    order = a.order;
    uses = cut_uses lo hi S (Many S) a.uses (many_uses S lo hi a.uses);
    mark_uses = loop_uses;
    swaps = λ x u v front rest s t. many_plus S (u ++ x ∷ rest) (not_nil u x rest)
        (many_swaps S a.swaps x u v front rest (plus_many S (u ++ x ∷ v) s) (plus_many S (front ++ x ∷ rest) t));
    mark_swaps = λ y x u v front rest s m. loop_swaps S a.swaps (M y) (a.mark_swaps y) x u v front rest (plus_many S (u ++ x ∷ v) s) m;
    goes_on = λ y w m. let h = turn_goes_on y w m in (h.0, last_plus S (w ++ h.0) h.1);
  }

  local_optional : IsLocal lo hi (λ w. (w ≡ []) ⊎ S w) M
  local_optional = record {
    order = a.order;
    uses = λ x u v s. a.uses x u v (full u x v s);
    mark_uses = a.mark_uses;
    swaps = λ x u v front rest s t. inr (a.swaps x u v front rest (full u x v s) (full front x rest t));
    mark_swaps = λ y x u v front rest s m. a.mark_swaps y x u v front rest (full u x v s) m;
    goes_on = λ y w m. let h = a.goes_on y w m in (h.0, inr h.1);
  }
    where
      full : (u : List ℕ) (x : ℕ) (v : List ℕ) → (u ++ x ∷ v ≡ []) ⊎ S (u ++ x ∷ v) → S (u ++ x ∷ v)
      full u x v (inl e) = absurd (not_nil u x v e)
      full u x v (inr s) = s

  local_marked : (z : ℕ) → IsLocal lo hi S (λ y w. ((z ≡ y) × S w) ⊎ M y w)
  local_marked z = record {
    order = a.order;
    uses = a.uses;
    mark_uses = λ y x u v m. used y x u v m;
    swaps = a.swaps;
    mark_swaps = λ y x u v front rest s m. swapped y x u v front rest s m;
    goes_on = λ y w m. on y w m;
  }
    where
      used : (y x : ℕ) (u v : List ℕ) → ((z ≡ y) × S (u ++ x ∷ v)) ⊎ M y (u ++ x ∷ v) → (lo ≤ x) × (x < hi)
      used y x u v (inl h) = a.uses x u v h.1
      used y x u v (inr h) = a.mark_uses y x u v h

      swapped : (y x : ℕ) (u v front rest : List ℕ) → S (u ++ x ∷ v) → ((z ≡ y) × S (front ++ x ∷ rest)) ⊎ M y (front ++ x ∷ rest)
          → ((z ≡ y) × S (u ++ x ∷ rest)) ⊎ M y (u ++ x ∷ rest)
      swapped y x u v front rest s (inl h) = inl (h.0, a.swaps x u v front rest s h.1)
      swapped y x u v front rest s (inr h) = inr (a.mark_swaps y x u v front rest s h)

      on : (y : ℕ) (w : List ℕ) → ((z ≡ y) × S w) ⊎ M y w → (r : List ℕ) × S (w ++ r)
      on y w (inl h) = ([], subst S (sym (append-nil w)) h.1)
      on y w (inr h) = a.goes_on y w h

-- ---- one letter

one_alone : (u v : List ℕ) (x k : ℕ) → u ++ x ∷ v ≡ k ∷ [] → (u ≡ []) × (x ≡ k) × (v ≡ [])
one_alone [] v x k e = (refl, cc, cc)
one_alone (y ∷ []) v x k e = cc
one_alone (y ∷ (z ∷ u)) v x k e = cc

local_symbol : (k : ℕ) → IsLocal k (k + 1) (λ u. (x : ℕ) × (u ≡ x ∷ []) × IsItself k x) (λ y w. ⊥)
local_symbol k = record {
  order = omega arith;
  uses = λ x u v s. let h = one_alone u v x s.0 s.1 in let e : x ≡ k = h.1 ∙ sym s.2 in (omega (arith, e), omega (arith, e));
  mark_uses = λ y x u v m. absurd m;
  swaps = λ x u v front rest s t.
      let h = one_alone u v x s.0 s.1 in
      let g = one_alone front rest x t.0 t.1 in
      (x, ap (λ l. l ++ x ∷ rest) h.0 ∙ ap (λ l. x ∷ l) g.2, sym (h.1 ∙ sym s.2));
  mark_swaps = λ y x u v front rest s m. absurd m;
  goes_on = λ y w m. absurd m;
}

-- ---- expressions

-- every expression spells a word
spelled_word : (k : ℕ) (e : Expr) → HasNoRepeat e → (w : List ℕ) × Spells IsItself (numbered k e) w
spelled_word k (symbol s) p = (k ∷ [], (k, refl, refl))
spelled_word k (sequence f g) p =
    let a = spelled_word k f p.0 in
    let b = spelled_word (k + length (occurrences f)) g p.1 in
    (a.0 ++ b.0, record { front = a.0; rest = b.0; whole = refl; first = a.1; second = b.1 })
spelled_word k (union f g) p = let a = spelled_word k f p.0 in (a.0, inl a.1)
spelled_word k (star f) p = ([], none [] refl)
spelled_word k (plus f) p =
    let a = spelled_word k f p in
    (a.0, record { front = a.0; rest = []; whole = sym (append-nil a.0); first = a.1; second = none [] refl })
spelled_word k (optional f) p = ([], inl refl)
spelled_word k (marked f y) p = spelled_word k f p
spelled_word k (repeated f m n) p = absurd p

abbrev end : ℕ → Expr → ℕ
end k e = k + length (occurrences e)

abbrev IsLocalAt : ℕ → Expr → Type 0
IsLocalAt k e = IsLocal k (end k e) (Spells IsItself (numbered k e)) (Marks IsItself (numbered k e))

joined : (k : ℕ) (f g : List ℕ) → (k + length f) + length g ≡ k + length (f ++ g)
joined k f g = omega (arith, length-append f g)

pub local_at : (k : ℕ) (e : Expr) → HasNoRepeat e → IsLocalAt k e
local_at k (symbol s) p = local_symbol k
local_at k (sequence f g) p =
    let mid : ℕ = end k f in
    let word = spelled_word mid g p.1 in
    subst (λ hi. IsLocal k hi (Spells IsItself (numbered k (sequence f g))) (Marks IsItself (numbered k (sequence f g)))) (joined k (occurrences f) (occurrences g))
    (local_cut k mid (end mid g) (Spells IsItself (numbered k f)) (Spells IsItself (numbered mid g)) (Marks IsItself (numbered k f)) (Marks IsItself (numbered mid g))
    (local_at k f p.0) (local_at mid g p.1) word.0 word.1)
local_at k (union f g) p =
    let mid : ℕ = end k f in
    subst (λ hi. IsLocal k hi (Spells IsItself (numbered k (union f g))) (Marks IsItself (numbered k (union f g)))) (joined k (occurrences f) (occurrences g))
    (local_or k mid (end mid g) (Spells IsItself (numbered k f)) (Spells IsItself (numbered mid g)) (Marks IsItself (numbered k f)) (Marks IsItself (numbered mid g))
    (local_at k f p.0) (local_at mid g p.1))
local_at k (star f) p = local_star k (end k f) (Spells IsItself (numbered k f)) (Marks IsItself (numbered k f)) (local_at k f p)
local_at k (plus f) p = local_plus k (end k f) (Spells IsItself (numbered k f)) (Marks IsItself (numbered k f)) (local_at k f p)
local_at k (optional f) p = local_optional k (end k f) (Spells IsItself (numbered k f)) (Marks IsItself (numbered k f)) (local_at k f p)
local_at k (marked f y) p = local_marked k (end k f) (Spells IsItself (numbered k f)) (Marks IsItself (numbered k f)) (local_at k f p) y
local_at k (repeated f m n) p = absurd p
