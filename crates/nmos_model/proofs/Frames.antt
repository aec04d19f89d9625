-- The least rectangle round boxes, one after another, and what its frame holds.
use Rattle.std.proofs.Common.{◌≡◌, ◌⊎◌, inl, inr, ℕ, ◌<◌, ◌≤◌, ◌+◌, ◌*◌, ℤ, pos, ◌+ℤ◌, ◌≤ℤ◌, arith, refl, sym, subst, ◌∙◌, Bool, true, false, cond, Option, None, Some, IfSome, IfNone, List, [], ◌∷◌, ◌++◌}
use Rattle.std.specs.Int.{int_min, int_max}
use Rattle.std.proofs.lemmas.Int.{ints, int_min_is, int_max_is}
use Rattle.std.proofs.Math.Nat.{le-mul_of_pos_right, mul_comm}
use Rattle.geom.specs.Rows.{Among}
use Rattle.geom.specs.Squares.{BoxShape, IsBox, IsSide}
use Rattle.nmos_model.proofs.Common.{among_either, among_before, among_last}
use Rattle.nmos_model.specs.declared.raster.Frame.{Frame}
use Rattle.nmos_model.specs.declared.frame.Extent.{Extent}
use Rattle.nmos_model.specs.Extents.{LiesIn, IsExtent, IsTooWide, IsFramed, IsFrameOf, edges_of, around}

one_of : (t : Bool) (a b : ℤ) → (cond t b a ≡ a) ⊎ (cond t b a ≡ b)
one_of true a b = inr refl
one_of false a b = inl refl

other_of : (t : Bool) (a b : ℤ) → (cond t a b ≡ a) ⊎ (cond t a b ≡ b)
other_of true a b = inl refl
other_of false a b = inr refl

min_one : (a b : ℤ) → (int_min a b ≡ a) ⊎ (int_min a b ≡ b)
min_one a b = one_of _ a b

max_one : (a b : ℤ) → (int_max a b ≡ a) ⊎ (int_max a b ≡ b)
max_one a b = other_of _ a b

min_first : (a b c : ℤ) → a ≤ℤ c → int_min a b ≤ℤ c
min_first a b c le = let is = int_min_is a b in omega (arith, ints, is)

min_second : (a b c : ℤ) → b ≤ℤ c → int_min a b ≤ℤ c
min_second a b c le = let is = int_min_is a b in omega (arith, ints, is)

max_first : (a b c : ℤ) → c ≤ℤ a → c ≤ℤ int_max a b
max_first a b c le = let is = int_max_is a b in omega (arith, ints, is)

max_second : (a b c : ℤ) → c ≤ℤ b → c ≤ℤ int_max a b
max_second a b c le = let is = int_max_is a b in omega (arith, ints, is)

le_refl : (a : ℤ) → a ≤ℤ a
le_refl a = omega (arith, ints)

lies_in_edges : (b : BoxShape) → LiesIn (edges_of b) b
lies_in_edges b = record { left = omega (arith, ints); right = omega (arith, ints); bottom = omega (arith, ints); top = omega (arith, ints) }

pub one_box : (b : BoxShape) → IsExtent (b ∷ []) (edges_of b)
one_box b = record {
  all = λ c w. elim w [ inl same ↦ subst (λ d. LiesIn (edges_of b) d) same (lies_in_edges b) | inr none ↦ elim none [ ] ];
  left = (b, inl refl, refl);
  right = (b, inl refl, refl);
  bottom = (b, inl refl, refl);
  top = (b, inl refl, refl);
}

module _ (boxes : List BoxShape) (e : Extent) (c : BoxShape) (least : IsExtent boxes e) where
  -- an edge of the new rectangle is one of a box's
  edge : (of : BoxShape → ℤ) (old new : ℤ) → (b : BoxShape) × Among boxes b × (of b ≡ old) → (new ≡ old) ⊎ (new ≡ of c)
      → (b : BoxShape) × Among (boxes ++ c ∷ []) b × (of b ≡ new)
  edge of old new (b, w, is) (inl same) = (b, among_before boxes c b w, is ∙ sym same)
  edge of old new (b, w, is) (inr same) = (c, among_last boxes c, sym same)

  old_lies : (b : BoxShape) → LiesIn e b → LiesIn (around e (edges_of c)) b
  old_lies b i = record {
    left = min_first e.x1 c.x1 b.x1 i.left;
    right = max_first e.x2 c.x2 b.x2 i.right;
    bottom = min_first e.y1 c.y1 b.y1 i.bottom;
    top = max_first e.y2 c.y2 b.y2 i.top;
  }

  new_lies : LiesIn (around e (edges_of c)) c
  new_lies = record {
    left = min_second e.x1 c.x1 c.x1 (le_refl c.x1);
    right = max_second e.x2 c.x2 c.x2 (le_refl c.x2);
    bottom = min_second e.y1 c.y1 c.y1 (le_refl c.y1);
    top = max_second e.y2 c.y2 c.y2 (le_refl c.y2);
  }

  pub one_more_box : IsExtent (boxes ++ c ∷ []) (around e (edges_of c))
  one_more_box = record {
    all = λ b w. elim (among_either boxes c b w) [
      | inl same ↦ subst (λ d. LiesIn (around e (edges_of c)) d) same new_lies
      | inr v ↦ old_lies b (least.all b v)
    ];
    left = edge (λ b. b.x1) e.x1 (int_min e.x1 c.x1) least.left (min_one e.x1 c.x1);
    right = edge (λ b. b.x2) e.x2 (int_max e.x2 c.x2) least.right (max_one e.x2 c.x2);
    bottom = edge (λ b. b.y1) e.y1 (int_min e.y1 c.y1) least.bottom (min_one e.y1 c.y1);
    top = edge (λ b. b.y2) e.y2 (int_max e.y2 c.y2) least.top (max_one e.y2 c.y2);
  }

-- the rectangle so far and one more box
pub grown_extent : (extent : Option Extent) (boxes : List BoxShape) (c : BoxShape) (result : Extent)
    → IfSome extent (IsExtent boxes) → IfNone extent (boxes ≡ []) → (extent ≡ None → result ≡ edges_of c)
    → ((e : Extent) → extent ≡ Some e → result ≡ around e (edges_of c)) → IsExtent (boxes ++ c ∷ []) result
grown_extent None boxes c result some none first more = rw (none, first refl) (one_box c)
grown_extent (Some e) boxes c result some none first more = rw (more e refl) (one_more_box boxes e c some)

pub valid_more : (boxes : List BoxShape) (c : BoxShape) → IsBox c → ((b : BoxShape) → Among boxes b → IsBox b)
    → (b : BoxShape) → Among (boxes ++ c ∷ []) b → IsBox b
valid_more boxes c new old b w = elim (among_either boxes c b w) [ inl same ↦ subst IsBox same new | inr v ↦ old b v ]

-- ---- the frame

module _ (boxes : List BoxShape) (e : Extent) (least : IsExtent boxes e) (valid : (b : BoxShape) → Among boxes b → IsBox b) where
  pub side_across : IsSide e.x1 e.x2
  side_across =
      let one = least.left in let other = least.right in
      let left = (valid one.0 one.1).across in let right = (valid other.0 other.1).across in
      let in_left = (least.all one.0 one.1).right in
      let first = left.first in let last = right.last in let order = left.order in
      let x1 = one.2 in let x2 = other.2 in
      record { first = omega (arith, ints); order = omega (arith, ints); last = omega (arith, ints) }

  pub side_upward : IsSide e.y1 e.y2
  side_upward =
      let one = least.bottom in let other = least.top in
      let low = (valid one.0 one.1).upward in let high = (valid other.0 other.1).upward in
      let in_low = (least.all one.0 one.1).top in
      let first = low.first in let last = high.last in let order = low.order in
      let y1 = one.2 in let y2 = other.2 in
      record { first = omega (arith, ints); order = omega (arith, ints); last = omega (arith, ints) }

module _ (boxes : List BoxShape) (e : Extent) (least : IsExtent boxes e) where
  -- the least rectangle is one
  same_edges : (f : Extent) → IsExtent boxes f → (f.x1 ≡ e.x1) × (f.x2 ≡ e.x2) × (f.y1 ≡ e.y1) × (f.y2 ≡ e.y2)
  same_edges f other =
      let l = other.left in let l2 = least.left in let a = (least.all l.0 l.1).left in let b = (other.all l2.0 l2.1).left in let p = l.2 in let q = l2.2 in
      let r = other.right in let r2 = least.right in let c = (least.all r.0 r.1).right in let d = (other.all r2.0 r2.1).right in let s = r.2 in let t = r2.2 in
      let m = other.bottom in let m2 = least.bottom in let g = (least.all m.0 m.1).bottom in let h = (other.all m2.0 m2.1).bottom in let u = m.2 in let v = m2.2 in
      let n = other.top in let n2 = least.top in let i = (least.all n.0 n.1).top in let k = (other.all n2.0 n2.1).top in let w = n.2 in let z = n2.2 in
      (omega (arith, ints), omega (arith, ints), omega (arith, ints), omega (arith, ints))

  pub narrow : (frame : Frame) → IsFramed e frame → IsTooWide boxes → ⊥
  narrow frame framed wide =
      let same = same_edges wide.extent wide.least in
      let a = same.0 in let b = same.1 in let c = same.2 in let d = same.3 in
      let across = wide.wide.across in let upward = wide.wide.upward in
      let across2 = framed.across in let upward2 = framed.upward in
      let width : wide.wide.width ≡ framed.width = omega (arith, ints) in
      let height : wide.wide.height ≡ framed.height = omega (arith, ints) in
      let product : wide.wide.width * wide.wide.height ≡ framed.width * framed.height = rw (width, height) refl in
      let many = wide.wide.many in let few = framed.few in
      omega (arith, product, many, few)

  wide_enough : (from to : ℤ) (n : ℕ) → IsSide from to → to ≡ from +ℤ pos n → 0 < n
  wide_enough from to n side is = let order = side.order in omega (arith, ints)

  pub framed_frame : (frame : Frame) → IsSide e.x1 e.x2 → IsSide e.y1 e.y2 → IsFramed e frame → IsFrameOf boxes frame
  framed_frame frame across upward framed = record {
    holds = λ b w.
        let i = least.all b w in
        let l = i.left in let r = i.right in let d = i.bottom in let u = i.top in
        let a = framed.across in let h = framed.upward in let x = framed.left in let y = framed.bottom in
        let columns = framed.columns in let rows = framed.rows in
        record { left = omega (arith, ints); right = omega (arith, ints); bottom = omega (arith, ints); top = omega (arith, ints) };
    few = by_sides framed.width framed.height (wide_enough e.x1 e.x2 framed.width across framed.across) (wide_enough e.y1 e.y2 framed.height upward framed.upward)
        framed.columns framed.rows framed.few;
    some = let rows = framed.rows in omega arith;
    near =
        let first = across.first in let last = across.last in let low = upward.first in let high = upward.last in
        let a = framed.across in let h = framed.upward in let x = framed.left in let y = framed.bottom in
        let columns = framed.columns in let rows = framed.rows in
        record { left = omega (arith, ints); right = omega (arith, ints); bottom = omega (arith, ints); top = omega (arith, ints) };
  }
    where
      by_sides : (w h : ℕ) → 0 < w → 0 < h → frame.width ≡ w + 2 → frame.height ≡ h + 2 → w * h ≤ 4000000 → frame.width * frame.height ≤ 20000004
      by_sides w h pw ph columns rows few =
          let by_width = le-mul_of_pos_right w ph in
          let by_height = le-mul_of_pos_right h pw in
          let turned = mul_comm w h in
          let product : (w + 2) * (h + 2) ≡ w * h + 2 * w + 2 * h + 4 = omega arith in
          rw (columns, rows) (omega (arith, product, by_width, by_height, turned))
