-- The box of boxes whose squares lie in so many columns and rows of tiles is no larger than these.
use Rattle.std.proofs.Common.{ℕ, ◌*◌, ◌≤◌, ℤ, pos, ◌+ℤ◌, ◌-ℤ◌, List, arith}
use Rattle.std.proofs.lemmas.Int.{ints}
use Rattle.geom.specs.declared.layer.Layer.{Layer}
use Rattle.geom.specs.declared.chip.Rect.{Rect}
use Rattle.geom.specs.Squares.{BoxShape, Covered}
use Rattle.geom.specs.Chips.{HoldsInTiles, InRect, IsBoxOf}
use Rattle.rxc_program.proofs.PlanSquares.{LiesInTiles}
use Rattle.rxc_program.proofs.TileBoxes.{tile_edge, tiles_box}

module _ (boxes : List BoxShape) (cols rows : ℕ) (lies : LiesInTiles (Covered boxes) cols rows) where
  holds : (layer : Layer) (x y : ℤ) → Covered boxes layer x y → InRect (tiles_box cols rows) x y
  holds layer x y covered =
      let left = lies.left layer x y covered in
      let right = lies.right layer x y covered in
      let bottom = lies.bottom layer x y covered in
      let top = lies.top layer x y covered in
      record { left = left; right = omega (arith, ints, right); bottom = bottom; top = omega (arith, ints, top) }

  all_held : HoldsInTiles boxes (tiles_box cols rows)
  all_held = record {
    left = record { tiles = pos 0; edge = omega (arith, ints) };
    right = tile_edge cols;
    bottom = record { tiles = pos 0; edge = omega (arith, ints) };
    top = tile_edge rows;
    holds = holds;
  }

  module _ (r : Rect) (is : IsBoxOf boxes r) (layer : Layer) (x y : ℤ) (covered : Covered boxes layer x y) where
    within : InRect r x y
    within = is.holder.holds layer x y covered

    pub width_within : r.width ≤ 14 * cols
    width_within =
        let left = within.left in
        let right = within.right in
        let first = is.least (tiles_box cols rows) all_held r.x y
        (record { left = omega (arith, ints); right = omega (arith, ints, left, right); bottom = within.bottom; top = within.top }) in
        let last = is.least (tiles_box cols rows) all_held ((r.x +ℤ pos r.width) -ℤ pos 1) y
        (record { left = omega (arith, ints, left, right); right = omega (arith, ints); bottom = within.bottom; top = within.top }) in
        let low = first.left in
        let high = last.right in
        omega (arith, ints, low, high)

    pub height_within : r.height ≤ 14 * rows
    height_within =
        let bottom = within.bottom in
        let top = within.top in
        let first = is.least (tiles_box cols rows) all_held x r.y
        (record { left = within.left; right = within.right; bottom = omega (arith, ints); top = omega (arith, ints, bottom, top) }) in
        let last = is.least (tiles_box cols rows) all_held x ((r.y +ℤ pos r.height) -ℤ pos 1)
        (record { left = within.left; right = within.right; bottom = omega (arith, ints, bottom, top); top = omega (arith, ints) }) in
        let low = first.bottom in
        let high = last.top in
        omega (arith, ints, low, high)
