-- The boxes of a canonical list are runs of its squares.
use Rattle.std.proofs.Common.{◌≡◌, ℕ, ℤ, pos, ◌-ℤ◌, ◌≤ℤ◌, ◌<ℤ◌, List, inl, inr, subst, sym, arith}
use Rattle.std.proofs.lemmas.Int.{ints}
use Rattle.geom.specs.Squares.{BoxShape}
use Rattle.geom.specs.Merged.{InRow}
use Rattle.geom.specs.Rows.{Among, Over, IsRun}
use Rattle.canonical_boxes.specs.Canonical.{IsCanonical, IsAt}
use Rattle.canonical_boxes.proofs.Lists.{Numbered, among_at, at_one}
use Rattle.canonical_boxes.proofs.Parted.{OverBy, over_by, over_of, one_or_parted}

module _ (m : List BoxShape) (h : IsCanonical m) (b : BoxShape) (i : Among m b) (y : ℤ) (r : InRow b y) where
  -- no square of the set lies right beside the box in this row
  beside : (x : ℤ) → (x ≡ b.x1 -ℤ pos 1) → Over m x y → ⊥
  beside x e over =
      let wide : (b.x1 <ℤ b.x2) = (h.boxes b i).across.order in
      let c : OverBy m x y = over_by m x y over in
      let n : Numbered m b = among_at m b i in
      let k : Numbered m c.box = among_at m c.box c.among in
      let left : (c.box.x1 ≤ℤ x) = c.inside.left in
      let right : (x <ℤ c.box.x2) = c.inside.right in
      elim (one_or_parted m h n.number k.number b c.box n.at k.at) [
        | inl same ↦
            let P : ℕ → Type 0 = λ z. IsAt m z c.box in
            let one : b ≡ c.box = at_one m n.number b c.box n.at (subst P (sym same) k.at) in
            let Q : BoxShape → Type 0 = λ d. d.x1 ≤ℤ x in
            let low : (b.x1 ≤ℤ x) = subst Q (sym one) left in
            omega (arith, ints)
        | inr apart ↦ elim (apart y r (record { bottom = c.inside.bottom; top = c.inside.top })) [
          | inl z ↦ omega (arith, ints)
          | inr z ↦ omega (arith, ints)
        ]
      ]

  behind : Over m b.x2 y → ⊥
  behind over =
      let wide : (b.x1 <ℤ b.x2) = (h.boxes b i).across.order in
      let c : OverBy m b.x2 y = over_by m b.x2 y over in
      let n : Numbered m b = among_at m b i in
      let k : Numbered m c.box = among_at m c.box c.among in
      let left : (c.box.x1 ≤ℤ b.x2) = c.inside.left in
      let right : (b.x2 <ℤ c.box.x2) = c.inside.right in
      elim (one_or_parted m h n.number k.number b c.box n.at k.at) [
        | inl same ↦
            let P : ℕ → Type 0 = λ z. IsAt m z c.box in
            let one : b ≡ c.box = at_one m n.number b c.box n.at (subst P (sym same) k.at) in
            let Q : BoxShape → Type 0 = λ d. b.x2 <ℤ d.x2 in
            let low : (b.x2 <ℤ b.x2) = subst Q (sym one) right in
            omega (arith, ints)
        | inr apart ↦ elim (apart y r (record { bottom = c.inside.bottom; top = c.inside.top })) [
          | inl z ↦ omega (arith, ints)
          | inr z ↦ omega (arith, ints)
        ]
      ]

  pub runs_of : IsRun (Over m) y b.x1 b.x2
  runs_of = record {
    covered = λ x from to. over_of m b x y i (record { left = from; right = to; bottom = r.bottom; top = r.top });
    left = beside (b.x1 -ℤ pos 1) (omega (arith, ints));
    right = behind;
  }
