-- One symbol more, of a new number.
use Rattle.std.proofs.Common.{◌≡◌, ◌≢◌, ℕ, suc, zero, ◌+◌, ◌<◌, Bool, true, false, cond, ◌==◌, List, [], ◌∷◌, ◌++◌, length, get_or, Option, Some, None, inl, inr, refl, sym, ◌∙◌, ap, subst, length-append, arith}
use Rattle.std.proofs.lemmas.Bool.{eqb-true, eqb-false}
use Rattle.cif_drawing.specs.declared.ink.Symbol.{Symbol}
use Rattle.cif_drawing.specs.Numbers.{IsIndex, IsIndexOf}
use Rattle.cif_drawing.proofs.Lists.{among_cases, among_at}

before_last : (symbols : List Symbol) (s d : Symbol) (k : ℕ) → k < length symbols → get_or (symbols ++ s ∷ []) k d ≡ get_or symbols k d
before_last [] s d k h = absurd (omega arith)
before_last (r ∷ rs) s d zero h = refl
before_last (r ∷ rs) s d (suc k) h = before_last rs s d k (omega arith)

at_last : (symbols : List Symbol) (s d : Symbol) → get_or (symbols ++ s ∷ []) (length symbols) d ≡ s
at_last [] s d = refl
at_last (r ∷ rs) s d = at_last rs s d

-- below the end, or at it
by_place : {P : Type 0} (j n : ℕ) → j < n + 1 → (j < n → P) → (j ≡ n → P) → P
by_place zero zero h low end = end refl
by_place zero (suc n) h low end = low (omega arith)
by_place (suc j) zero h low end = absurd (omega arith)
by_place (suc j) (suc n) h low end = by_place j n (omega arith) (λ l. low (omega arith)) (λ e. end (ap (λ (k : ℕ). suc k) e))

longer : (symbols : List Symbol) (s : Symbol) → length (symbols ++ s ∷ []) ≡ length symbols + 1
longer symbols s = length-append symbols (s ∷ [])

last_index : (symbols : List Symbol) (s : Symbol) (n : ℕ) → IsIndexOf symbols s.number None → s.number ≡ n → IsIndex (symbols ++ s ∷ []) n (length symbols)
last_index symbols s n new e = record {
  within = omega (arith, longer symbols s);
  has = λ d. ap (λ (r : Symbol). r.number) (at_last symbols s d) ∙ e;
  alone = λ j d l f. by_place j (length symbols) (omega (arith, longer symbols s))
      (λ k. absurd (new (get_or symbols j d) (among_at symbols j d k) (sym (ap (λ (r : Symbol). r.number) (before_last symbols s d j k)) ∙ (f ∙ sym e))))
      (λ g. g);
}

index_stays : (symbols : List Symbol) (s : Symbol) (n k : ℕ) → IsIndex symbols n k → s.number ≢ n → IsIndex (symbols ++ s ∷ []) n k
index_stays symbols s n k h other = record {
  within = omega (arith, longer symbols s, h.within);
  has = λ d. ap (λ (r : Symbol). r.number) (before_last symbols s d k h.within) ∙ h.has d;
  alone = λ j d l f. by_place j (length symbols) (omega (arith, longer symbols s))
      (λ m. h.alone j d m (sym (ap (λ (r : Symbol). r.number) (before_last symbols s d j m)) ∙ f))
      (λ g. let P : ℕ → Type 0 = λ i. (get_or (symbols ++ s ∷ []) i d).number ≡ n in
      absurd (other (sym (ap (λ (r : Symbol). r.number) (at_last symbols s d)) ∙ subst P g f)));
}

none_stays : (symbols : List Symbol) (s : Symbol) (n : ℕ) → IsIndexOf symbols n None → s.number ≢ n → IsIndexOf (symbols ++ s ∷ []) n None
none_stays symbols s n h other = λ r i f.
    elim (among_cases symbols (s ∷ []) r i) [
      | inl j ↦ h r j f
      | inr j ↦ elim j [ inl e ↦ other (ap (λ (v : Symbol). v.number) e ∙ f) | inr m ↦ m ]
    ]

index_by : (symbols : List Symbol) (s : Symbol) (n : ℕ) (old : Option ℕ) (t : Bool) → (s.number == n) ≡ t → IsIndexOf symbols s.number None → IsIndexOf symbols n old
    → IsIndexOf (symbols ++ s ∷ []) n (cond t (Some (length symbols)) old)
index_by symbols s n old true e new h = last_index symbols s n new (eqb-true s.number n e)
index_by symbols s n None false e new h = none_stays symbols s n h (eqb-false s.number n e)
index_by symbols s n (Some k) false e new h = index_stays symbols s n k h (eqb-false s.number n e)

pub pushed_index : (symbols : List Symbol) (s : Symbol) (n : ℕ) (old new : Option ℕ) → IsIndexOf symbols s.number None → IsIndexOf symbols n old
    → new ≡ cond (s.number == n) (Some (length symbols)) old → IsIndexOf (symbols ++ s ∷ []) n new
pushed_index symbols s n old new fresh h e =
    let P : Option ℕ → Type 0 = λ o. IsIndexOf (symbols ++ s ∷ []) n o in
    subst P (sym e) (index_by symbols s n old (s.number == n) refl fresh h)
