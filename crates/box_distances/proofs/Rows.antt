-- Boxes that begin above another one, row by row.
use Rattle.std.proofs.Common.{◌≡◌, ◌↔◌, ◌⊎◌, inl, inr, ℕ, ◌<◌, ◌≤◌, ◌+◌, ℤ, pos, ◌+ℤ◌, ◌-ℤ◌, ◌≤ℤ◌, ◌<ℤ◌, List, [], ◌∷◌, ◌++◌, length, get_or, refl, sym, ap, subst, arith}
use Rattle.std.proofs.lemmas.Int.{ints, by_lt_z}
use Rattle.geom.specs.declared.layer.Layer.TheVariants.{Diffusion}
use Rattle.geom.specs.Squares.{BoxShape}
use Rattle.geom.specs.Rows.{Among}
use Rattle.canonical_boxes.specs.Canonical.{IsAt}
use Rattle.canonical_boxes.specs.Standing.{BeginsAmong}
use Rattle.box_distances.specs.declared.pairs.NearPair.{NearPair}
use Rattle.box_distances.specs.Near.{AddsRow, AddsAbove, IsAbove, IsAbovePair}
use Rattle.box_distances.proofs.Lists.{among_push, among_left, among_last, at_of, at_one, by_order}

abbrev pub pair : ℕ → ℕ → NearPair
pair one other = record { one = one; other = other }

pub pair_is : (p : NearPair) (i j : ℕ) → p.one ≡ i → p.other ≡ j → pair i j ≡ p
pair_is p i j e f = let r : pair i j ≡ pair p.one p.other = rw (e, f) refl in r

abbrev blank : BoxShape
blank = record { layer = Diffusion; x1 = pos 0; y1 = pos 0; x2 = pos 0; y2 = pos 0 }

-- ---- one row

-- the pairs before, and those of this box with others from one number up to two more
abbrev pub RowSoFar : ℕ → ℕ → ℕ → ℕ → List NearPair → List NearPair → Type 0
RowSoFar one first now end before found = (p : NearPair) → Among found p
    ↔ (Among before p ⊎ ((p.one ≡ one) × (first ≤ p.other) × (p.other < now) × (p.other < end)))

pub no_row : (one first end : ℕ) (before : List NearPair) → RowSoFar one first first end before before
no_row one first end before p = (
  (λ i. inl i),
  (λ h. elim h [ inl i ↦ i | inr k ↦ absurd (omega (arith, k.1, k.2)) ]),
)

pub row_more : (one first now end : ℕ) (before found after : List NearPair) → first ≤ now → now < end → after ≡ found ++ pair one now ∷ []
    → RowSoFar one first now end before found → RowSoFar one first (now + 1) end before after
row_more one first now end before found after from to e h p =
    let P : List NearPair → Type 0 = λ l. Among l p in (
      (λ i. elim (among_push found (pair one now) p (subst P e i)) [
        | inl old ↦ elim ((h p).0 old) [
          | inl k ↦ inl k
          | inr k ↦ inr (k.0, k.1, omega (arith, k.2), k.3)
        ]
        | inr same ↦
            let l : one ≡ p.one = ap (λ (v : NearPair). v.one) same in
            let u : now ≡ p.other = ap (λ (v : NearPair). v.other) same in
            inr (sym l, omega arith, omega arith, omega arith)
      ]),
      (λ k. subst P (sym e) (elim k [
        | inl old ↦ among_left found (pair one now ∷ []) p ((h p).1 (inl old))
        | inr k ↦ by_order p.other now
            (λ l. among_left found (pair one now ∷ []) p ((h p).1 (inr (k.0, k.1, l, k.3))))
            (λ u. among_last found (pair one now) p (pair_is p one now k.0 u))
            (λ l. absurd (omega (arith, k.2)))
      ])),
    )

pub row_is : (n : List BoxShape) (one first now end : ℕ) (y from to : ℤ) (before found : List NearPair) → end ≤ length n → end ≤ now
    → ((k : ℕ) (b : BoxShape) → IsAt n k b → ((first ≤ k) × (k < end)) ↔ BeginsAmong b y from to)
    → RowSoFar one first now end before found → AddsRow n one y from to before found
row_is n one first now end y from to before found fits past numbers h p = (
  (λ i. elim ((h p).0 i) [
    | inl old ↦ inl old
    | inr k ↦
        let b : BoxShape = get_or n p.other blank in
        let at : IsAt n p.other b = at_of n p.other blank (omega (arith, k.3)) in
        inr (k.0, (b, at, (numbers p.other b at).0 (k.1, k.3)))
  ]),
  (λ k. elim k [
    | inl old ↦ (h p).1 (inl old)
    | inr k ↦
        let two = (numbers p.other k.1.0 k.1.1).1 k.1.2 in
        (h p).1 (inr (k.0, two.0, omega (arith, two.1), two.1))
  ]),
)

-- ---- row by row

-- The second box begins fewer than so many rows above the first, so near in columns.
pub record Gapped (reach gap : ℤ) (a b : BoxShape) : Type 0 where
  pub bottom : a.y2 ≤ℤ b.y1
  pub top : b.y1 <ℤ (a.y2 +ℤ gap)
  pub left : (a.x1 -ℤ reach) <ℤ b.x2
  pub right : b.x1 <ℤ (a.x2 +ℤ reach)

abbrev pub GapsSoFar : ℤ → ℤ → BoxShape → List BoxShape → ℕ → List NearPair → List NearPair → Type 0
GapsSoFar reach gap a n one before found = (p : NearPair) → Among found p
    ↔ (Among before p ⊎ ((p.one ≡ one) × ((b : BoxShape) × IsAt n p.other b × Gapped reach gap a b)))

pub no_gap : (reach gap : ℤ) (a : BoxShape) (n : List BoxShape) (one : ℕ) (before : List NearPair) → gap ≤ℤ pos 0
    → GapsSoFar reach gap a n one before before
no_gap reach gap a n one before e p = (
  (λ i. inl i),
  (λ h. elim h [
    | inl i ↦ i
    | inr k ↦
        let low : (a.y2 ≤ℤ k.1.0.y1) = k.1.2.bottom in
        let high : (k.1.0.y1 <ℤ (a.y2 +ℤ gap)) = k.1.2.top in
        absurd (omega (arith, ints))
  ]),
)

pub gap_more : (reach gap : ℤ) (a : BoxShape) (n : List BoxShape) (one : ℕ) (before found after : List NearPair) → pos 0 ≤ℤ gap
    → AddsRow n one (a.y2 +ℤ gap) (a.x1 -ℤ reach) (a.x2 +ℤ reach) found after
    → GapsSoFar reach gap a n one before found → GapsSoFar reach (gap +ℤ pos 1) a n one before after
gap_more reach gap a n one before found after some adds h p = (
  (λ i. elim ((adds p).0 i) [
    | inl old ↦ elim ((h p).0 old) [
      | inl k ↦ inl k
      | inr k ↦
          let g = k.1.2 in
          let high : (k.1.0.y1 <ℤ (a.y2 +ℤ gap)) = g.top in
          inr (k.0, (k.1.0, k.1.1, record { bottom = g.bottom; top = omega (arith, ints); left = g.left; right = g.right }))
    ]
    | inr k ↦
        let g = k.1.2 in
        let row : k.1.0.y1 ≡ a.y2 +ℤ gap = g.row in
        inr (k.0, (k.1.0, k.1.1, record { bottom = omega (arith, ints); top = omega (arith, ints); left = g.left; right = g.right }))
  ]),
  (λ k. elim k [
    | inl old ↦ (adds p).1 (inl ((h p).1 (inl old)))
    | inr k ↦
        let g = k.1.2 in
        let high : (k.1.0.y1 <ℤ (a.y2 +ℤ (gap +ℤ pos 1))) = g.top in
        by_lt_z k.1.0.y1 (a.y2 +ℤ gap)
        (λ l. (adds p).1 (inl ((h p).1 (inr (k.0, (k.1.0, k.1.1, record { bottom = g.bottom; top = l; left = g.left; right = g.right }))))))
        (λ l. (adds p).1 (inr (k.0, (k.1.0, k.1.1, record { row = omega (arith, ints); left = g.left; right = g.right }))))
  ]),
)

pub gaps_are : (reach gap : ℤ) (a : BoxShape) (n : List BoxShape) (one : ℕ) (before found : List NearPair) → reach ≤ℤ gap → gap ≤ℤ reach
    → GapsSoFar reach gap a n one before found → AddsAbove reach a n one before found
gaps_are reach gap a n one before found l g h p = (
  (λ i. elim ((h p).0 i) [
    | inl old ↦ inl old
    | inr k ↦
        let d = k.1.2 in
        let high : (k.1.0.y1 <ℤ (a.y2 +ℤ gap)) = d.top in
        inr (k.0, (k.1.0, k.1.1, record { bottom = d.bottom; top = omega (arith, ints); left = d.left; right = d.right }))
  ]),
  (λ k. elim k [
    | inl old ↦ (h p).1 (inl old)
    | inr k ↦
        let d = k.1.2 in
        let high : (k.1.0.y1 <ℤ (a.y2 +ℤ reach)) = d.top in
        (h p).1 (inr (k.0, (k.1.0, k.1.1, record { bottom = d.bottom; top = omega (arith, ints); left = d.left; right = d.right })))
  ]),
)

-- ---- box by box

abbrev pub AboveSoFar : ℤ → List BoxShape → List BoxShape → ℕ → List NearPair → Type 0
AboveSoFar reach m n k found = (p : NearPair) → Among found p ↔ ((p.one < k) × IsAbovePair reach m n p)

pub none_above : (reach : ℤ) (m n : List BoxShape) → AboveSoFar reach m n 0 []
none_above reach m n p = ((λ h. absurd h), (λ h. absurd (omega (arith, h.0))))

pub above_more : (reach : ℤ) (m n : List BoxShape) (k : ℕ) (a : BoxShape) (before after : List NearPair) → IsAt m k a → AboveSoFar reach m n k before
    → AddsAbove reach a n k before after → AboveSoFar reach m n (k + 1) after
above_more reach m n k a before after at h adds p = (
  (λ i. elim ((adds p).0 i) [
    | inl old ↦ let two = (h p).0 old in (omega (arith, two.0), two.1)
    | inr new ↦
        let P : ℕ → Type 0 = λ i. IsAt m i a in
        (omega (arith, new.0), record { one = a; other = new.1.0; first = subst P (sym new.0) at; second = new.1.1; above = new.1.2 })
  ]),
  (λ q. by_order p.one k
      (λ l. (adds p).1 (inl ((h p).1 (l, q.1))))
      (λ e.
      let w = q.1 in
      let P : ℕ → Type 0 = λ i. IsAt m i w.one in
      let same : w.one ≡ a = at_one m k w.one a (subst P e w.first) at in
      let Q : BoxShape → Type 0 = λ v. IsAbove reach v w.other in
      (adds p).1 (inr (e, (w.other, w.second, subst Q same w.above))))
      (λ l. absurd (omega (arith, q.0)))),
)
