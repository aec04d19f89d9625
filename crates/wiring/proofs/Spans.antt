-- The spans of a column, and which of them crosses a border.
use Rattle.std.proofs.Common.{◌≡◌, ◌≢◌, ℕ, ◌+◌, ◌<◌, ◌≤◌, inl, inr, Bool, true, false, ◌&&◌, ◌||◌, cond, leb, List, [], ◌∷◌, Option, Some, None, find, is_some, refl, sym, ap, ap₂, ◌∙◌, subst, arith}
use Rattle.std.specs.List.{list_any, AllByRecursion}
use Rattle.std.proofs.lemmas.Bool.{cases_lt, and_from, and_parts, and_right, le-leb, lt-leb, leb-true, cond-true, cond-false}
use Rattle.std.proofs.lemmas.Option.{same_Some}
use Rattle.wiring.specs.Wirings.{Span, crosses}
use Rattle.wiring.specs.WiringNets.{AreSpans, IsOneOf, PassesRow}

-- The span lies in a column of so many rows, and its net is below the count.
pub record IsSpan (rows count : ℕ) (s : Span) : Type 0 where
  pub upward : s.first ≤ s.last
  pub inside : s.last ≤ rows
  pub net : s.net < count

-- The span crosses the border north or south of the row.
pub record Touches (row : ℕ) (s : Span) : Type 0 where
  pub to_row : s.first ≤ row + 1
  pub from_row : row ≤ s.last

-- A span of those crosses the border.
pub record CrossedBy (border : ℕ) (spans : List Span) (s : Span) : Type 0 where
  pub among : IsOneOf spans s
  pub begun : s.first ≤ border
  pub not_over : border ≤ s.last

crosses_from : (border : ℕ) (s : Span) → s.first ≤ border → border ≤ s.last → crosses border s ≡ true
crosses_from border s l u = and_from (leb s.first border) (leb border s.last) (le-leb s.first border l) (le-leb border s.last u)

found_first : (border : ℕ) (s t : Span) (spans : List Span) → t ≡ s → crosses border t ≡ true → CrossedBy border (t ∷ spans) s
found_first border s t spans e h =
    let p = and_parts (leb t.first border) (leb border t.last) h in
    let l : t.first ≤ border = leb-true t.first border p.0 in
    let u : border ≤ t.last = leb-true border t.last p.1 in
    record { among = inl e; begun = subst (λ (x : Span). x.first ≤ border) e l; not_over = subst (λ (x : Span). border ≤ x.last) e u }

pub found : (border : ℕ) (spans : List Span) (s : Span) → find (crosses border) spans ≡ Some s → CrossedBy border spans s
found border [] s e = absurd (cc)
found border (t ∷ spans) s e = by_test (crosses border t) refl e (found border spans s)
  where
    by_test : (k : Bool) → crosses border t ≡ k → cond k (Some t) (find (crosses border) spans) ≡ Some s
        → (find (crosses border) spans ≡ Some s → CrossedBy border spans s) → CrossedBy border (t ∷ spans) s
    by_test true h f rest = found_first border s t spans (same_Some t s f) h
    by_test false h f rest = let r = rest f in record { among = inr r.among; begun = r.begun; not_over = r.not_over }

pub any_found : (border : ℕ) (spans : List Span) → list_any (crosses border) spans ≡ is_some (find (crosses border) spans)
any_found border [] = refl
any_found border (t ∷ spans) = by_test (crosses border t) (any_found border spans)
  where
    by_test : (k : Bool) → list_any (crosses border) spans ≡ is_some (find (crosses border) spans)
        → (k || list_any (crosses border) spans) ≡ is_some (cond k (Some t) (find (crosses border) spans))
    by_test true rest = refl
    by_test false rest = rest

pub some_is : (o : Option Span) → is_some o ≡ true → (s : Span) × (o ≡ Some s)
some_is None h = absurd (cc)
some_is (Some s) h = (s, refl)

pub none_found : (o : Option Span) → is_some o ≡ false → o ≡ None
none_found None h = refl
none_found (Some s) h = absurd (cc)

-- ---- spans that are apart

module _ (rows count : ℕ) where
  pub record IsSpanFrom (from : ℕ) (s : Span) : Type 0 where
    pub is_span : IsSpan rows count s
    pub behind : from ≤ s.first

  pub span_of : (from : ℕ) (spans : List Span) (s : Span) → AreSpans rows count from spans → IsOneOf spans s → IsSpanFrom from s
  span_of from [] s h o = absurd o
  span_of from (t ∷ spans) s h (inl e) =
      subst (IsSpanFrom from) e (record { is_span = record { upward = h.1; inside = h.2; net = h.3 }; behind = h.0 })
  span_of from (t ∷ spans) s h (inr o) =
      let rest = span_of (t.last + 2) spans s h.4 o in
      let a = h.0 in
      let b = h.1 in
      let c = rest.behind in
      record { is_span = rest.is_span; behind = omega arith }

  pub find_at : (from border : ℕ) (spans : List Span) (s : Span) → AreSpans rows count from spans → IsOneOf spans s
      → s.first ≤ border → border ≤ s.last → find (crosses border) spans ≡ Some s
  find_at from border [] s h o l u = absurd o
  find_at from border (t ∷ spans) s h (inl e) l u =
      let k : crosses border t ≡ true = subst (λ (x : Span). crosses border x ≡ true) (sym e) (crosses_from border s l u) in
      cond-true (crosses border t) (Some t) (find (crosses border) spans) k ∙ ap (λ (x : Span). Some x) e
  find_at from border (t ∷ spans) s h (inr o) l u =
      let b = (span_of (t.last + 2) spans s h.4 o).behind in
      let k : crosses border t ≡ false = and_right (leb t.first border) (leb border t.last) (lt-leb border t.last (omega arith)) in
      cond-false (crosses border t) (Some t) (find (crosses border) spans) k ∙ find_at (t.last + 2) border spans s h.4 o l u

  -- No two spans cross borders of one row.
  pub one_span : (from row : ℕ) (spans : List Span) (s t : Span) → AreSpans rows count from spans → IsOneOf spans s → IsOneOf spans t
      → Touches row s → Touches row t → s ≡ t
  one_span from row [] s t h o p a b = absurd o
  one_span from row (u ∷ spans) s t h (inl e) (inl f) a b = sym e ∙ f
  one_span from row (u ∷ spans) s t h (inl e) (inr p) a b =
      let c = (span_of (u.last + 2) spans t h.4 p).behind in
      let d : u.last ≡ s.last = ap (λ (x : Span). x.last) e in
      let x = a.from_row in
      let y = b.to_row in
      absurd (omega arith)
  one_span from row (u ∷ spans) s t h (inr o) (inl f) a b =
      let c = (span_of (u.last + 2) spans s h.4 o).behind in
      let d : u.last ≡ t.last = ap (λ (x : Span). x.last) f in
      let x = b.from_row in
      let y = a.to_row in
      absurd (omega arith)
  one_span from row (u ∷ spans) s t h (inr o) (inr p) a b = one_span (u.last + 2) row spans s t h.4 o p a b

-- ---- spans that pass a row

first_passes : (a b : ℕ) → a ≢ b + 1 → leb a b ≡ leb a (b + 1)
first_passes a b h = elim (cases_lt b a) [
  | inl l ↦ lt-leb a b l ∙ sym (lt-leb a (b + 1) (omega arith))
  | inr l ↦ le-leb a b l ∙ sym (le-leb a (b + 1) (omega arith))
]

last_passes : (a b : ℕ) → a ≢ b → leb b a ≡ leb (b + 1) a
last_passes a b h = elim (cases_lt b a) [
  | inl l ↦ le-leb b a (omega arith) ∙ sym (le-leb (b + 1) a (omega arith))
  | inr l ↦ lt-leb b a (omega arith) ∙ sym (lt-leb (b + 1) a (omega arith))
]

pub passes_row : (row : ℕ) (spans : List Span) → AllByRecursion (PassesRow row) spans
    → list_any (crosses row) spans ≡ list_any (crosses (row + 1)) spans
passes_row row [] h = refl
passes_row row (s ∷ spans) h =
    ap₂ ◌||◌ (ap₂ ◌&&◌ (first_passes s.first row h.0.0) (last_passes s.last row h.0.1)) (passes_row row spans h.1)
