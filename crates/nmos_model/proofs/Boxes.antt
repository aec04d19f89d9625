-- Boxes that are painted into a frame.
use Rattle.std.proofs.Common.{◌≡◌, ◌↔◌, inl, inr, ℕ, zero, suc, ◌<◌, ◌≤◌, ◌+◌, ◌-◌, ℤ, pos, negsuc, ◌+ℤ◌, ◌-ℤ◌, ◌≤ℤ◌, arith, refl, sym, List, [], ◌∷◌, ◌++◌, length, get_or}
use Rattle.std.proofs.lemmas.Int.{ints}
use Rattle.geom.specs.declared.layer.Layer.{Layer}
use Rattle.geom.specs.Rows.{Among}
use Rattle.geom.specs.Squares.{BoxShape, Inside, Covered}
use Rattle.nmos_model.specs.declared.raster.Cover.{Cover}
use Rattle.nmos_model.specs.declared.raster.Frame.{Frame}
use Rattle.nmos_model.specs.declared.raster.Stretch.{Stretch}
use Rattle.nmos_model.specs.Rasters.{IsAmong, Paints, Holds, ShowsBoxes, StandsAt, IsInner, number_of}
use Rattle.nmos_model.proofs.Places.{one_place}

module _ (frame : Frame) (b : BoxShape) (columns rows : Stretch)
    (left : b.x1 ≡ frame.x +ℤ pos columns.from) (right : b.x2 ≡ frame.x +ℤ pos columns.to)
    (bottom : b.y1 ≡ frame.y +ℤ pos rows.from) (top : b.y2 ≡ frame.y +ℤ pos rows.to)
    (within : columns.to ≤ frame.width) where
  module _ (x y : ℤ) (column row : ℕ) (at : StandsAt frame x y column row) where
    inside_among : Inside b x y → IsAmong frame.width columns rows (number_of frame.width column row)
    inside_among i =
        let across = at.across in let upward = at.upward in
        let l = i.left in let r = i.right in let d = i.bottom in let u = i.top in
        let low : columns.from ≤ column = omega (arith, ints) in
        let high : column < columns.to = omega (arith, ints) in
        (row, (omega (arith, ints), omega (arith, ints)), omega arith, omega arith)

    among_inside : IsAmong frame.width columns rows (number_of frame.width column row) → Inside b x y
    among_inside (other, in_rows, from, to) =
        let across = at.across in let upward = at.upward in let c = at.column_within in
        let gap = cut _ _ from in
        let same = one_place frame.width row other column gap.0 c (let e = gap.1 in omega arith) gap.1 in
        let e = gap.1 in let rows_same = same.0 in let lower = in_rows.0 in let upper = in_rows.1 in let column_same = same.1 in
        record { left = omega (arith, ints); right = omega (arith, ints); bottom = omega (arith, ints); top = omega (arith, ints) }
      where
        cut : (a b : ℕ) → a + columns.from ≤ b → (place : ℕ) × (b ≡ a + place)
        cut a b le = (b - a, omega arith)

  pub shows_more : (boxes : List BoxShape) (old new : List Cover) → Paints (IsAmong frame.width columns rows) b.layer old new
      → ShowsBoxes frame boxes old → ShowsBoxes frame (b ∷ boxes) new
  shows_more boxes old new paints shows layer x y column row at =
      let now = paints (number_of frame.width column row) layer in
      let before = shows layer x y column row at in (
        λ e. elim (now.0 e) [ inl f ↦ inr (before.0 f) | inr p ↦ inl (p.1, among_inside x y column row at p.0) ],
        λ h. now.1 (elim h [ inl i ↦ inr (inside_among x y column row at i.1, i.0) | inr c ↦ inl (before.1 c) ]),
      )

-- ---- all boxes

-- the squares that one more box covers
pub covered_more : (boxes : List BoxShape) (b : BoxShape) (layer : Layer) (x y : ℤ)
    → Covered (boxes ++ b ∷ []) layer x y ↔ Covered (b ∷ boxes) layer x y
covered_more [] b layer x y = (λ h. h, λ h. h)
covered_more (c ∷ cs) b layer x y =
    let rest = covered_more cs b layer x y in (
      λ h. elim h [
        | inl i ↦ inr (inl i)
        | inr r ↦ elim (rest.0 r) [ inl i ↦ inl i | inr s ↦ inr (inr s) ]
      ],
      λ h. elim h [
        | inl i ↦ inr (rest.1 (inl i))
        | inr r ↦ elim r [ inl i ↦ inl i | inr s ↦ inr (rest.1 (inr s)) ]
      ],
    )

pub shows_same : (frame : Frame) (boxes others : List BoxShape) (squares : List Cover)
    → ((layer : Layer) (x y : ℤ) → Covered others layer x y ↔ Covered boxes layer x y) → ShowsBoxes frame boxes squares
    → ShowsBoxes frame others squares
shows_same frame boxes others squares same shows layer x y column row at =
    let is = shows layer x y column row at in
    let cover = same layer x y in
    (λ e. cover.1 (is.0 e), λ h. is.1 (cover.0 h))

by_sign : (o x d : ℤ) → x ≡ o +ℤ d → o ≤ℤ x → (n : ℕ) × (x ≡ o +ℤ pos n)
by_sign o x (pos n) e le = (n, e)
by_sign o x (negsuc n) e le = absurd (omega (arith, ints))

-- how far it is from an edge
pub distance : (o x : ℤ) → o ≤ℤ x → (n : ℕ) × (x ≡ o +ℤ pos n)
distance o x le = by_sign o x (x -ℤ o) (omega (arith, ints)) le

-- each square of a box of the frame stands inside
pub stands_inside : (frame : Frame) (boxes : List BoxShape) → ((b : BoxShape) → Among boxes b → Holds frame b)
    → (layer : Layer) (x y : ℤ) → Covered boxes layer x y
    → (column : ℕ) × (row : ℕ) × StandsAt frame x y column row × IsInner frame column row
stands_inside frame [] holds layer x y h = absurd h
stands_inside frame (b ∷ bs) holds layer x y (inr h) = stands_inside frame bs (λ c i. holds c (inr i)) layer x y h
stands_inside frame (b ∷ bs) holds layer x y (inl h) =
    let inside = h.1 in
    let held = holds b (inl refl) in
    let x1 = inside.left in let x2 = inside.right in let y1 = inside.bottom in let y2 = inside.top in
    let l = held.left in let r = held.right in let d = held.bottom in let u = held.top in
    let across = distance frame.x x (omega (arith, ints)) in
    let upward = distance frame.y y (omega (arith, ints)) in
    let x_is = across.1 in let y_is = upward.1 in (
      across.0,
      upward.0,
      record { across = x_is; upward = y_is; column_within = omega (arith, ints); row_within = omega (arith, ints) },
      record { left = omega (arith, ints); right = omega (arith, ints); bottom = omega (arith, ints); top = omega (arith, ints) },
    )

pub among_at : (boxes : List BoxShape) (at : ℕ) (b : BoxShape) → at < length boxes → b ≡ get_or boxes at b → Among boxes b
among_at [] at b lt e = absurd (omega arith)
among_at (c ∷ cs) zero b lt e = inl (sym e)
among_at (c ∷ cs) (suc at) b lt e = inr (among_at cs at b (omega arith) e)
