-- Signs on signs: a chain of them spells and marks what one sign does.
use Rattle.std.proofs.Common.{◌≡◌, ◌≢◌, ◌⊎◌, ◌↔◌, ℕ, Bool, true, false, ◌&&◌, ◌||◌, IsTrue, List, [], ◌++◌, refl, sym, ap, ◌∙◌, subst, inl, inr, append_assoc, append-nil}
use Rattle.rx_lang.specs.Expression.{Expr, marked}
use Rattle.rx_lang.specs.Meaning.{Cut, Many, none, more, Spells, Marks}
use Rattle.rx_lang.specs.Wrapped.{wrap}
use Rattle.rx_lang.proofs.Words.{many_joins}

module _ {X : Type 0} where
  pub many_plus : (P : List X → Type 0) (u : List X) → Many P u → (u ≡ []) ⊎ Cut P (Many P) u
  many_plus P _ (none u e) = inl e
  many_plus P _ (more u v w e ne p m) = inr (record { front = v; rest = w; whole = e; first = p; second = m })

  pub plus_many : (P : List X → Type 0) (u : List X) → Cut P (Many P) u → Many P u
  plus_many P u h = subst (Many P) (sym h.whole) ((many_joins P).front h.front h.rest h.first h.second)

  pub many_one : (P : List X → Type 0) (u : List X) → P u → Many P u
  many_one P u p = subst (Many P) (append-nil u) ((many_joins P).front u [] p (none [] refl))

  pub many_flat : (P Q : List X → Type 0) → ((v : List X) → Q v → Many P v) → (u : List X) → Many Q u → Many P u
  many_flat P Q each _ (none u e) = none u e
  many_flat P Q each _ (more u v w e ne q m) = subst (Many P) (sym e) ((many_joins P).behind v w (each v q) (many_flat P Q each w m))

  pub plus_one : (P : List X → Type 0) (u : List X) → P u → Cut P (Many P) u
  plus_one P u p = record { front = u; rest = []; whole = sym (append-nil u); first = p; second = none [] refl }

  -- words of P and then more words of P
  pub plus_behind : (P : List X → Type 0) (v w : List X) → Cut P (Many P) v → Many P w → Cut P (Many P) (v ++ w)
  plus_behind P v w h m = record {
    front = h.front;
    rest = h.rest ++ w;
    whole = ap (λ t. t ++ w) h.whole ∙ append_assoc h.front h.rest w;
    first = h.first;
    second = (many_joins P).behind h.rest w h.second m;
  }

  -- one word of P behind many is one word of P before many
  last_first : (P : List X → Type 0) (v w : List X) → Many P v → P w → Cut P (Many P) (v ++ w)
  last_first P _ w (none v e) p = subst (λ t. Cut P (Many P) (t ++ w)) (sym e) (plus_one P w p)
  last_first P _ w (more u v t e ne q m) p = record {
    front = v;
    rest = t ++ w;
    whole = ap (λ s. s ++ w) e ∙ append_assoc v t w;
    first = q;
    second = plus_many P (t ++ w) (last_first P t w m p);
  }

  last_plus : (P : List X → Type 0) (u : List X) → Cut (Many P) P u → Cut P (Many P) u
  last_plus P u h = subst (Cut P (Many P)) (sym h.whole) (last_first P h.front h.rest h.first h.second)

  first_last : (P : List X → Type 0) (v w : List X) → P v → Many P w → Cut (Many P) P (v ++ w)
  first_last P v _ p (none w e) = record {
    front = [];
    rest = v;
    whole = ap (λ t. v ++ t) e ∙ append-nil v;
    first = none [] refl;
    second = p;
  }
  first_last P v _ p (more u t w e ne q m) =
      let h : Cut (Many P) P (t ++ w) = first_last P t w q m in
      record {
        front = v ++ h.front;
        rest = h.rest;
        whole = ap (λ s. v ++ s) (e ∙ h.whole) ∙ sym (append_assoc v h.front h.rest);
        first = (many_joins P).front v h.front p h.first;
        second = h.second;
      }

  plus_last : (P : List X → Type 0) (u : List X) → Cut P (Many P) u → Cut (Many P) P u
  plus_last P u h = subst (Cut (Many P) P) (sym h.whole) (first_last P h.front h.rest h.first h.second)

  pub cut_map : (P Q S T : List X → Type 0) → ((v : List X) → P v → S v) → ((v : List X) → Q v → T v) → (u : List X) → Cut P Q u → Cut S T u
  cut_map P Q S T f g u h = record { front = h.front; rest = h.rest; whole = h.whole; first = f h.front h.first; second = g h.rest h.second }

  cut_behind : (P Q : List X → Type 0) (u : List X) → Cut (Many P) (Cut (Many P) Q) u → Cut (Many P) Q u
  cut_behind P Q u h = record {
    front = h.front ++ h.second.front;
    rest = h.second.rest;
    whole = h.whole ∙ ap (λ t. h.front ++ t) h.second.whole ∙ sym (append_assoc h.front h.second.front h.second.rest);
    first = (many_joins P).behind h.front h.second.front h.first h.second.first;
    second = h.second.second;
  }

  cut_nothing : (P Q : List X → Type 0) (u : List X) → Q u → Cut (Many P) Q u
  cut_nothing P Q u q = record { front = []; rest = u; whole = refl; first = none [] refl; second = q }

module _ {X : Type 0} (Is : ℕ → X → Type 0) where
  pub wrap_empty : (l : Bool) (f : Expr) → Spells Is (wrap l true f) []
  wrap_empty false f = inl refl
  wrap_empty true f = none [] refl

  pub wrap_split : (l e : Bool) (f : Expr) (u : List X) → Spells Is (wrap l e f) u → (IsTrue e × (u ≡ [])) ⊎ Spells Is (wrap l false f) u
  wrap_split false false f u h = inr h
  wrap_split true false f u h = inr h
  wrap_split false true f u (inl e) = inl (refl, e)
  wrap_split false true f u (inr h) = inr h
  wrap_split true true f u h = elim (many_plus (Spells Is f) u h) [ inl e ↦ inl (refl, e) | inr p ↦ inr p ]

  pub wrap_less : (l e : Bool) (f : Expr) (u : List X) → Spells Is (wrap l false f) u → Spells Is (wrap l e f) u
  wrap_less false false f u h = h
  wrap_less true false f u h = h
  wrap_less false true f u h = inr h
  wrap_less true true f u h = plus_many (Spells Is f) u h

  wrap_more : (l e : Bool) (f : Expr) (u : List X) → Spells Is (wrap l e f) u → Spells Is (wrap l true f) u
  wrap_more l e f u h = elim (wrap_split l e f u h) [
    | inl k ↦ subst (Spells Is (wrap l true f)) (sym k.1) (wrap_empty l f)
    | inr k ↦ wrap_less l true f u k
  ]

  wrap_plus : (l : Bool) (f : Expr) (u : List X) → Spells Is (wrap l false f) u → Spells Is (wrap true false f) u
  wrap_plus false f u h = plus_one (Spells Is f) u h
  wrap_plus true f u h = h

  wrap_one : (l e : Bool) (f : Expr) (u : List X) → Spells Is f u → Spells Is (wrap l e f) u
  wrap_one false e f u h = wrap_less false e f u h
  wrap_one true e f u h = wrap_less true e f u (plus_one (Spells Is f) u h)

  many_wrapped : (l e : Bool) (f : Expr) (u : List X) → Spells Is (wrap l e f) u → Many (Spells Is f) u
  many_wrapped l e f u h = elim (wrap_split l e f u h) [
    | inl k ↦ none u k.1
    | inr k ↦ plus_many (Spells Is f) u (wrap_plus l f u k)
  ]

  many_out : (l e : Bool) (f : Expr) (u : List X) → Many (Spells Is (wrap l e f)) u → Many (Spells Is f) u
  many_out l e f u m = many_flat (Spells Is f) (Spells Is (wrap l e f)) (many_wrapped l e f) u m

  many_in : (l e : Bool) (f : Expr) (u : List X) → Many (Spells Is f) u → Many (Spells Is (wrap l e f)) u
  many_in l e f u m =
      many_flat (Spells Is (wrap l e f)) (Spells Is f) (λ v p. many_one (Spells Is (wrap l e f)) v (wrap_one l e f v p)) u m

  plus_out_parts : (l e : Bool) (f : Expr) (v w : List X) → Spells Is (wrap l e f) v → Many (Spells Is f) w → Spells Is (wrap true e f) (v ++ w)
  plus_out_parts l false f v w p m =
      plus_behind (Spells Is f) v w (wrap_plus l f v (elim (wrap_split l false f v p) [ inl k ↦ absurd (let e = k.0 in cc) | inr k ↦ k ])) m
  plus_out_parts l true f v w p m = (many_joins (Spells Is f)).behind v w (many_wrapped l true f v p) m

  plus_out : (l e : Bool) (f : Expr) (u : List X) → Spells Is (wrap true false (wrap l e f)) u → Spells Is (wrap true e f) u
  plus_out l e f u h =
      subst (Spells Is (wrap true e f)) (sym h.whole) (plus_out_parts l e f h.front h.rest h.first (many_out l e f h.rest h.second))

  plus_in : (l e : Bool) (f : Expr) (u : List X) → Spells Is (wrap true e f) u → Spells Is (wrap true false (wrap l e f)) u
  plus_in l false f u h =
      cut_map (Spells Is f) (Many (Spells Is f)) (Spells Is (wrap l false f)) (Many (Spells Is (wrap l false f))) (wrap_one l false f) (many_in l false f) u h
  plus_in l true f u h = record {
    front = [];
    rest = u;
    whole = refl;
    first = wrap_empty l f;
    second = many_in l true f u h;
  }

  pub spells_out : (l e m n : Bool) (f : Expr) (u : List X) → Spells Is (wrap l e (wrap m n f)) u → Spells Is (wrap (l || m) (e || n) f) u
  spells_out false false m n f u h = h
  spells_out false true m n f u (inl e) = subst (Spells Is (wrap m true f)) (sym e) (wrap_empty m f)
  spells_out false true m n f u (inr h) = wrap_more m n f u h
  spells_out true false m n f u h = plus_out m n f u h
  spells_out true true m n f u h = many_out m n f u h

  pub spells_in : (l e m n : Bool) (f : Expr) (u : List X) → Spells Is (wrap (l || m) (e || n) f) u → Spells Is (wrap l e (wrap m n f)) u
  spells_in false false m n f u h = h
  spells_in false true m n f u h = elim (wrap_split m true f u h) [ inl k ↦ inl k.1 | inr k ↦ inr (wrap_less m n f u k) ]
  spells_in true false m n f u h = plus_in m n f u h
  spells_in true true m n f u h = many_in m n f u h

  -- a mark changes no word
  pub unmarked_spells : (l e : Bool) (f : Expr) (z : ℕ) (u : List X) → Spells Is (wrap l e (marked f z)) u ↔ Spells Is (wrap l e f) u
  unmarked_spells false false f z u = (λ h. h, λ h. h)
  unmarked_spells false true f z u = (λ h. h, λ h. h)
  unmarked_spells true false f z u = (λ h. h, λ h. h)
  unmarked_spells true true f z u = (λ h. h, λ h. h)

  marks_any : (l e : Bool) (f : Expr) (y : ℕ) (u : List X) → Marks Is (wrap l e f) y u ↔ Marks Is (wrap l false f) y u
  marks_any false false f y u = (λ h. h, λ h. h)
  marks_any false true f y u = (λ h. h, λ h. h)
  marks_any true false f y u = (λ h. h, λ h. h)
  marks_any true true f y u = (λ h. h, λ h. h)

  pub marks_out : (l m n : Bool) (f : Expr) (y : ℕ) (u : List X) → Marks Is (wrap l false (wrap m n f)) y u → Marks Is (wrap (l || m) false f) y u
  marks_out false m n f y u h = (marks_any m n f y u).0 h
  marks_out true false n f y u h =
      cut_map (Many (Spells Is (wrap false n f))) (Marks Is (wrap false n f) y) (Many (Spells Is f)) (Marks Is f y)
      (many_out false n f) (λ v k. (marks_any false n f y v).0 k) u h
  marks_out true true n f y u h =
      cut_behind (Spells Is f) (Marks Is f y) u
      (cut_map (Many (Spells Is (wrap true n f))) (Marks Is (wrap true n f) y) (Many (Spells Is f)) (Cut (Many (Spells Is f)) (Marks Is f y))
      (many_out true n f) (λ v k. (marks_any true n f y v).0 k) u h)

  pub marks_in : (l m n : Bool) (f : Expr) (y : ℕ) (u : List X) → Marks Is (wrap (l || m) false f) y u → Marks Is (wrap l false (wrap m n f)) y u
  marks_in false m n f y u h = (marks_any m n f y u).1 h
  marks_in true false n f y u h =
      cut_map (Many (Spells Is f)) (Marks Is f y) (Many (Spells Is (wrap false n f))) (Marks Is (wrap false n f) y)
      (many_in false n f) (λ v k. (marks_any false n f y v).1 k) u h
  marks_in true true n f y u h = cut_nothing (Spells Is (wrap true n f)) (Marks Is (wrap true n f) y) u ((marks_any true n f y u).1 h)

  -- What a mark of output z adds below a sign.
  mark_out : (l : Bool) (f : Expr) (y z : ℕ) (u : List X) → Marks Is (wrap l false (marked f z)) y u
      → ((z ≡ y) × Spells Is (wrap l false f) u) ⊎ Marks Is (wrap l false f) y u
  mark_out false f y z u h = h
  mark_out true f y z u h = elim h.second [
    | inl k ↦ inl (k.0, last_plus (Spells Is f) u (record { front = h.front; rest = h.rest; whole = h.whole; first = h.first; second = k.1 }))
    | inr k ↦ inr (record { front = h.front; rest = h.rest; whole = h.whole; first = h.first; second = k })
  ]

  mark_in : (l : Bool) (f : Expr) (y : ℕ) (u : List X) → Spells Is (wrap l false f) u → Marks Is (wrap l false (marked f y)) y u
  mark_in false f y u h = inl (refl, h)
  mark_in true f y u h =
      cut_map (Many (Spells Is f)) (Spells Is f) (Many (Spells Is f)) (Marks Is (marked f y) y) (λ v k. k) (λ v k. inl (refl, k)) u
      (plus_last (Spells Is f) u h)

  mark_keep : (l : Bool) (f : Expr) (y z : ℕ) (u : List X) → Marks Is (wrap l false f) y u → Marks Is (wrap l false (marked f z)) y u
  mark_keep false f y z u h = inr h
  mark_keep true f y z u h = cut_map (Many (Spells Is f)) (Marks Is f y) (Many (Spells Is f)) (Marks Is (marked f z) y) (λ v k. k) (λ v k. inr k) u h

  -- What a word is marked by: the words below the signs where a mark was passed, or the marks below.
  abbrev pub MarkedBelow : Bool → Bool → Bool → Expr → ℕ → List X → Type 0
  MarkedBelow m l e f y u = (IsTrue m × Spells Is (wrap l e f) u) ⊎ Marks Is (wrap l false f) y u

  pub below_sign : (m l e k n : Bool) (f : Expr) (y : ℕ) (u : List X) → MarkedBelow m l e (wrap k n f) y u ↔ MarkedBelow m (l || k) (e || n) f y u
  below_sign m l e k n f y u = (
    λ h. elim h [ inl p ↦ inl (p.0, spells_out l e k n f u p.1) | inr p ↦ inr (marks_out l k n f y u p) ],
    λ h. elim h [ inl p ↦ inl (p.0, spells_in l e k n f u p.1) | inr p ↦ inr (marks_in l k n f y u p) ],
  )

  pub below_other : (m l e : Bool) (f : Expr) (y z : ℕ) (u : List X) → z ≢ y → MarkedBelow m l e (marked f z) y u ↔ MarkedBelow m l e f y u
  below_other m l e f y z u ne = (
    λ h. elim h [
      | inl p ↦ inl (p.0, (unmarked_spells l e f z u).0 p.1)
      | inr p ↦ elim (mark_out l f y z u p) [ inl k ↦ absurd (ne k.0) | inr k ↦ inr k ]
    ],
    λ h. elim h [ inl p ↦ inl (p.0, (unmarked_spells l e f z u).1 p.1) | inr p ↦ inr (mark_keep l f y z u p) ],
  )

  both : (e m : Bool) → IsTrue (e && m) → IsTrue e × IsTrue m
  both true m h = (refl, h)
  both false m h = absurd (let e = h in cc)

  own_out : (m l e : Bool) (f : Expr) (y : ℕ) (u : List X) → MarkedBelow m l e (marked f y) y u → MarkedBelow true l (e && m) f y u
  own_out m l e f y u (inr p) = elim (mark_out l f y y u p) [ inl k ↦ inl (refl, wrap_less l (e && m) f u k.1) | inr k ↦ inr k ]
  own_out true l e f y u (inl p) = elim (wrap_split l e f u ((unmarked_spells l e f y u).0 p.1)) [
    | inl k ↦ inl (refl, let t : IsTrue (e && true) = (rw (let s = k.0 in s) refl) in rw (let s = t in s, k.1) (wrap_empty l f))
    | inr k ↦ inl (refl, wrap_less l (e && true) f u k)
  ]
  own_out false l e f y u (inl p) = absurd (let s = p.0 in cc)

  own_in : (m l e : Bool) (f : Expr) (y : ℕ) (u : List X) → MarkedBelow true l (e && m) f y u → MarkedBelow m l e (marked f y) y u
  own_in m l e f y u (inr p) = inr (mark_keep l f y y u p)
  own_in m l e f y u (inl p) = elim (wrap_split l (e && m) f u p.1) [
    | inl k ↦ inl ((both e m k.0).1, (unmarked_spells l e f y u).1 (rw ((both e m k.0).0, k.1) (wrap_empty l f)))
    | inr k ↦ inr (mark_in l f y u k)
  ]

  pub below_own : (m l e : Bool) (f : Expr) (y : ℕ) (u : List X) → MarkedBelow m l e (marked f y) y u ↔ MarkedBelow true l (e && m) f y u
  below_own m l e f y u = (own_out m l e f y u, own_in m l e f y u)
