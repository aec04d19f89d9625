-- Languages in which what may stand behind a letter does not depend on what stands before it.
use Rattle.std.proofs.Common.{◌≡◌, ◌≢◌, ◌⊎◌, ℕ, ◌<◌, ◌≤◌, List, [], ◌∷◌, ◌++◌, refl, sym, ap, ◌∙◌, subst, inl, inr, append_assoc, append-nil, arith}
use Rattle.rx_lang.specs.Meaning.{Cut, Many, none, more}

-- the letters of its words are from the first number on and below the second
abbrev pub Uses : ℕ → ℕ → (List ℕ → Type 0) → Type 0
Uses lo hi P = (x : ℕ) (u v : List ℕ) → P (u ++ x ∷ v) → (lo ≤ x) × (x < hi)

-- Where words of S and of M have a letter, the front of the one and the rest of the other make a word of M.
abbrev pub Swaps : (List ℕ → Type 0) → (List ℕ → Type 0) → Type 0
Swaps S M = (x : ℕ) (u v front rest : List ℕ) → S (u ++ x ∷ v) → M (front ++ x ∷ rest) → M (u ++ x ∷ rest)

-- ---- where a letter stands in two words, one behind the other

data Place (u : List ℕ) (x : ℕ) (v a b : List ℕ) : Type 0 where
  in_front : (r : List ℕ) → a ≡ u ++ x ∷ r → v ≡ r ++ b → Place u x v a b
  in_rest : (f : List ℕ) → u ≡ a ++ f → b ≡ f ++ x ∷ v → Place u x v a b

place_more : (z : ℕ) (u : List ℕ) (x : ℕ) (v a b : List ℕ) → Place u x v a b → Place (z ∷ u) x v (z ∷ a) b
place_more z u x v a b (in_front r e g) = in_front r (ap (λ l. z ∷ l) e) g
place_more z u x v a b (in_rest f e g) = in_rest f (ap (λ l. z ∷ l) e) g

place : (u : List ℕ) (x : ℕ) (v a b : List ℕ) → u ++ x ∷ v ≡ a ++ b → Place u x v a b
place u x v [] b e = in_rest u refl (sym e)
place [] x v (y ∷ a) b e =
    let h : y ≡ x = cc in
    let n : v ≡ a ++ b = cc in
    in_front a (ap (λ z. z ∷ a) h) n
place (z ∷ u) x v (y ∷ a) b e =
    let h : z ≡ y = cc in
    let n : u ++ x ∷ v ≡ a ++ b = cc in
    subst (λ t. Place (z ∷ u) x v (t ∷ a) b) h (place_more z u x v a b (place u x v a b n))

pub not_nil : (u : List ℕ) (x : ℕ) (v : List ℕ) → u ++ x ∷ v ≢ []
not_nil [] x v = λ e. cc
not_nil (y ∷ u) x v = λ e. cc

-- ---- one after another

module _ (lo mid hi : ℕ) (P G Q : List ℕ → Type 0) (first : Uses lo mid P) (second : Uses mid hi G) where
  module _ (third : Uses mid hi Q) (same : Swaps P P) (rests : Swaps G Q) where
    cut_by : (x : ℕ) (u v front rest : List ℕ) (c : Cut P G (u ++ x ∷ v)) (d : Cut P Q (front ++ x ∷ rest))
        → Place u x v c.front c.rest → Place front x rest d.front d.rest → Cut P Q (u ++ x ∷ rest)
    cut_by x u v front rest c d (in_front r e g) (in_front s k h) = record {
      front = u ++ x ∷ s;
      rest = d.rest;
      whole = ap (λ t. u ++ x ∷ t) h ∙ sym (append_assoc u (x ∷ s) d.rest);
      first = same x u r front s (subst P e c.first) (subst P k d.first);
      second = d.second;
    }
    cut_by x u v front rest c d (in_front r e g) (in_rest s k h) =
        let a = first x u r (subst P e c.first) in
        let b = third x s rest (subst Q h d.second) in
        absurd (omega (arith, a.1, b.0))
    cut_by x u v front rest c d (in_rest f e g) (in_front s k h) =
        let a = second x f v (subst G g c.second) in
        let b = first x front s (subst P k d.first) in
        absurd (omega (arith, a.0, b.1))
    cut_by x u v front rest c d (in_rest f e g) (in_rest s k h) = record {
      front = c.front;
      rest = f ++ x ∷ rest;
      whole = ap (λ t. t ++ x ∷ rest) e ∙ append_assoc c.front f (x ∷ rest);
      first = c.first;
      second = rests x f v s rest (subst G g c.second) (subst Q h d.second);
    }

    pub cut_swaps : Swaps (Cut P G) (Cut P Q)
    cut_swaps x u v front rest c d = cut_by x u v front rest c d (place u x v c.front c.rest c.whole) (place front x rest d.front d.rest d.whole)

module _ (lo mid hi : ℕ) (P G M : List ℕ → Type 0) (second : Uses mid hi G) (marks : Uses lo mid M) (same : Swaps P M) where
  first_by : (x : ℕ) (u v front rest : List ℕ) (c : Cut P G (u ++ x ∷ v)) → M (front ++ x ∷ rest) → Place u x v c.front c.rest → M (u ++ x ∷ rest)
  first_by x u v front rest c m (in_front r e g) = same x u r front rest (subst P e c.first) m
  first_by x u v front rest c m (in_rest f e g) =
      let a = second x f v (subst G g c.second) in
      let b = marks x front rest m in
      absurd (omega (arith, a.0, b.1))

  pub first_swaps : Swaps (Cut P G) M
  first_swaps x u v front rest c m = first_by x u v front rest c m (place u x v c.front c.rest c.whole)

  pub left_swaps : Swaps (λ w. P w ⊎ G w) M
  left_swaps x u v front rest (inl p) m = same x u v front rest p m
  left_swaps x u v front rest (inr g) m = absurd (omega (arith, (second x u v g).0, (marks x front rest m).1))

pub right_swaps : (lo mid hi : ℕ) (P G M : List ℕ → Type 0) → Uses lo mid P → Uses mid hi M → Swaps G M → Swaps (λ w. P w ⊎ G w) M
right_swaps lo mid hi P G M first marks same x u v front rest (inl p) m = absurd (omega (arith, (first x u v p).1, (marks x front rest m).0))
right_swaps lo mid hi P G M first marks same x u v front rest (inr g) m = same x u v front rest g m

pub or_swaps : (S M N : List ℕ → Type 0) → Swaps S M → Swaps S N → Swaps S (λ w. M w ⊎ N w)
or_swaps S M N m n x u v front rest s (inl h) = inl (m x u v front rest s h)
or_swaps S M N m n x u v front rest s (inr h) = inr (n x u v front rest s h)

-- ---- letters

module _ (lo hi : ℕ) (P Q : List ℕ → Type 0) (first : Uses lo hi P) (second : Uses lo hi Q) where
  uses_by : (x : ℕ) (u v : List ℕ) (c : Cut P Q (u ++ x ∷ v)) → Place u x v c.front c.rest → (lo ≤ x) × (x < hi)
  uses_by x u v c (in_front r e g) = first x u r (subst P e c.first)
  uses_by x u v c (in_rest f e g) = second x f v (subst Q g c.second)

  pub cut_uses : Uses lo hi (Cut P Q)
  cut_uses x u v c = uses_by x u v c (place u x v c.front c.rest c.whole)

  pub or_uses : Uses lo hi (λ w. P w ⊎ Q w)
  or_uses x u v (inl p) = first x u v p
  or_uses x u v (inr q) = second x u v q

pub wider : (lo hi low top : ℕ) (P : List ℕ → Type 0) → low ≤ lo → hi ≤ top → Uses lo hi P → Uses low top P
wider lo hi low top P below above uses x u v p = let h = uses x u v p in (omega (arith, h.0, below), omega (arith, h.1, above))

-- ---- words one after another

module _ (P : List ℕ → Type 0) where
  pub many_front : (v w : List ℕ) → P v → Many P w → Many P (v ++ w)
  many_front [] w p m = m
  many_front (x ∷ v) w p m = more ((x ∷ v) ++ w) (x ∷ v) w refl (λ e. cc) p m

  pub many_join : (v w : List ℕ) → Many P v → Many P w → Many P (v ++ w)
  many_join _ w (none v e) n = rw e n
  many_join _ w (more u v t e ne p m) n =
      more (u ++ w) v (t ++ w) (ap (λ s. s ++ w) e ∙ append_assoc v t w) ne p (many_join t w m n)

  -- the turn in which the letter stands
  record Turn (u : List ℕ) (x : ℕ) (v : List ℕ) : Type 0 where
    before : List ℕ
    inner : List ℕ
    rest : List ℕ
    later : List ℕ
    fronts : u ≡ before ++ inner
    rests : v ≡ rest ++ later
    earlier : Many P before
    here : P (inner ++ x ∷ rest)
    further : Many P later

  behind : (a f : List ℕ) (x : ℕ) (u v : List ℕ) → a ≢ [] → P a → u ≡ a ++ f → Turn f x v → Turn u x v
  behind a f x u v ne p e t = record {
    before = a ++ t.before;
    inner = t.inner;
    rest = t.rest;
    later = t.later;
    fronts = e ∙ ap (λ s. a ++ s) t.fronts ∙ sym (append_assoc a t.before t.inner);
    rests = t.rests;
    earlier = more (a ++ t.before) a t.before refl ne p t.earlier;
    here = t.here;
    further = t.further;
  }

  turn_front : (a b r : List ℕ) (x : ℕ) (u v : List ℕ) → P a → Many P b → a ≡ u ++ x ∷ r → v ≡ r ++ b → Turn u x v
  turn_front a b r x u v p m e g = record {
    before = [];
    inner = u;
    rest = r;
    later = b;
    fronts = refl;
    rests = g;
    earlier = none [] refl;
    here = subst P e p;
    further = m;
  }

  turn : (w : List ℕ) → Many P w → (u : List ℕ) (x : ℕ) (v : List ℕ) → w ≡ u ++ x ∷ v → Turn u x v
  turn _ (none w e) u x v g = absurd (not_nil u x v (sym g ∙ e))
  turn _ (more w a b e ne p m) u x v g =
      elim (place u x v a b (sym g ∙ e)) as (λ h. Turn u x v) [
        | in_front r k h ↦ turn_front a b r x u v p m k h
        | in_rest f k h ↦ behind a f x u v ne p k (turn b m f x v h)
      ]

  pub many_uses : (lo hi : ℕ) → Uses lo hi P → Uses lo hi (Many P)
  many_uses lo hi uses x u v m = let t = turn (u ++ x ∷ v) m u x v refl in uses x t.inner t.rest t.here

  module _ (same : Swaps P P) where
    pub many_swaps : Swaps (Many P) (Many P)
    many_swaps x u v front rest m n =
        let t = turn (u ++ x ∷ v) m u x v refl in
        let s = turn (front ++ x ∷ rest) n front x rest refl in
        let one : P (t.inner ++ x ∷ s.rest) = same x t.inner t.rest s.inner s.rest t.here s.here in
        let whole : t.before ++ ((t.inner ++ x ∷ s.rest) ++ s.later) ≡ u ++ x ∷ rest =
        ap (λ l. t.before ++ l) (append_assoc t.inner (x ∷ s.rest) s.later) ∙ sym (append_assoc t.before t.inner (x ∷ (s.rest ++ s.later)))
        ∙ ap (λ l. l ++ x ∷ (s.rest ++ s.later)) (sym t.fronts) ∙ ap (λ l. u ++ x ∷ l) (sym s.rests) in
        subst (Many P) whole (many_join t.before ((t.inner ++ x ∷ s.rest) ++ s.later) t.earlier (many_front (t.inner ++ x ∷ s.rest) s.later one s.further))

    module _ (Q : List ℕ → Type 0) (marks : Swaps P Q) where
      loop_by : (x : ℕ) (u v front rest : List ℕ) → Many P (u ++ x ∷ v) → (d : Cut (Many P) Q (front ++ x ∷ rest)) → Place front x rest d.front d.rest
          → Cut (Many P) Q (u ++ x ∷ rest)
      loop_by x u v front rest m d (in_front s k h) = record {
        front = u ++ x ∷ s;
        rest = d.rest;
        whole = ap (λ t. u ++ x ∷ t) h ∙ sym (append_assoc u (x ∷ s) d.rest);
        first = many_swaps x u v front s m (subst (Many P) k d.first);
        second = d.second;
      }
      loop_by x u v front rest m d (in_rest s k h) =
          let t = turn (u ++ x ∷ v) m u x v refl in
          record {
            front = t.before;
            rest = t.inner ++ x ∷ rest;
            whole = ap (λ l. l ++ x ∷ rest) t.fronts ∙ append_assoc t.before t.inner (x ∷ rest);
            first = t.earlier;
            second = marks x t.inner t.rest s rest t.here (subst Q h d.second);
          }

      pub loop_swaps : Swaps (Many P) (Cut (Many P) Q)
      loop_swaps x u v front rest m d = loop_by x u v front rest m d (place front x rest d.front d.rest d.whole)

  pub plus_many : (u : List ℕ) → Cut P (Many P) u → Many P u
  plus_many u c = subst (Many P) (sym c.whole) (many_front c.front c.rest c.first c.second)

  pub many_plus : (u : List ℕ) → u ≢ [] → Many P u → Cut P (Many P) u
  many_plus _ ne (none u e) = absurd (ne e)
  many_plus _ ne (more u v w e full p m) = record { front = v; rest = w; whole = e; first = p; second = m }

  pub many_one : (u : List ℕ) → P u → Many P u
  many_one u p = subst (Many P) (append-nil u) (many_front u [] p (none [] refl))

  -- one word of P behind many is one before many
  last_first : (v w : List ℕ) → Many P v → P w → Cut P (Many P) (v ++ w)
  last_first _ w (none v e) p = record { front = w; rest = []; whole = ap (λ t. t ++ w) e ∙ sym (append-nil w); first = p; second = none [] refl }
  last_first _ w (more u v t e ne q m) p = record {
    front = v;
    rest = t ++ w;
    whole = ap (λ s. s ++ w) e ∙ append_assoc v t w;
    first = q;
    second = many_join t w m (many_one w p);
  }

  pub last_plus : (u : List ℕ) → Cut (Many P) P u → Cut P (Many P) u
  last_plus u c = subst (Cut P (Many P)) (sym c.whole) (last_first c.front c.rest c.first c.second)
