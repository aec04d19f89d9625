-- The boxes of a canonical list by their numbers.
use Rattle.std.proofs.Common.{◌≡◌, ◌≢◌, ℕ, ℤ, ◌<ℤ◌, List, sym, ap, arith, subst}
use Rattle.std.proofs.lemmas.Int.{ints}
use Rattle.geom.specs.Squares.{BoxShape}
use Rattle.geom.specs.Rows.{Over}
use Rattle.canonical_boxes.specs.Canonical.{BeginsBefore, AreMerged, IsCanonical, IsAt}
use Rattle.canonical_boxes.specs.Located.{IsOver}
use Rattle.canonical_boxes.specs.Laws.{AreNumbered}
use Rattle.canonical_boxes.proofs.Lists.{Numbered, among_at, at_among, at_one, by_order, pair_at}
use Rattle.canonical_boxes.proofs.Parted.{OverBy, over_by, over_of, same_number}

number_over : (m : List BoxShape) (x y : ℤ) → Over m x y → (i : ℕ) × IsOver m x y i
number_over m x y h =
    let o : OverBy m x y = over_by m x y h in
    let n : Numbered m o.box = among_at m o.box o.among in
    (n.number, record { box = o.box; at = n.at; inside = o.inside })

not_stacked : (m : List BoxShape) → IsCanonical m → (i j : ℕ) (a b : BoxShape) → IsAt m i a → IsAt m j b → a.x1 ≡ b.x1 → a.x2 ≡ b.x2 → a.y2 ≢ b.y1
not_stacked m h i j a b p q left right edge = by_order i j
    (λ k. (pair_at AreMerged m i j a b h.merged p q k left right).0 edge)
    (λ e.
    let S : ℕ → Type 0 = λ n. IsAt m n b in
    let one : a ≡ b = at_one m i a b p (subst S (sym e) q) in
    let tall : (a.y1 <ℤ a.y2) = (h.boxes a (at_among m i a p)).upward.order in
    let low : a.y1 ≡ b.y1 = ap (λ (d : BoxShape). d.y1) one in
    absurd (omega (arith, ints)))
    (λ k. (pair_at AreMerged m j i b a h.merged q p k (sym left) (sym right)).1 edge)

pub numbered : AreNumbered
numbered = record {
  covers = λ m i x y o. over_of m o.box x y (at_among m i o.box o.at) o.inside;
  number = number_over;
  one = λ m h i j x y o p. same_number m h i j o.box p.box x y o.at p.at o.inside p.inside;
  box = λ m h i b at. h.boxes b (at_among m i b at);
  order = λ m h i j a b p q k. pair_at BeginsBefore m i j a b h.order p q k;
  merged = not_stacked;
}
