-- The rectangle round boxes.
use Rattle.std.proofs.Common.{◌≡◌, inl, inr, ℤ, pos, ◌+ℤ◌, ◌-ℤ◌, ◌*ℤ◌, ◌≤ℤ◌, ◌<ℤ◌, List, [], ◌∷◌, refl, sym, ap, subst, arith}
use Rattle.std.proofs.lemmas.Int.{ints}
use Rattle.geom.specs.declared.layer.Layer.{Layer}
use Rattle.geom.specs.declared.chip.Rect.{Rect}
use Rattle.geom.specs.Squares.{BoxShape, Covered, Inside}
use Rattle.geom.specs.Rows.{Among}
use Rattle.geom.specs.Chips.{InRect, HoldsInTiles, IsBoxOf}
use Rattle.chip_box.specs.declared.extent.Extent.{Extent}
use Rattle.chip_box.specs.Extents.{IsOrdered, Surrounds, IsEdgeBefore, IsEdgeBehind}

-- the box of a covered square
box_over : (boxes : List BoxShape) (layer : Layer) (x y : ℤ) → Covered boxes layer x y → (b : BoxShape) × Among boxes b × Inside b x y
box_over [] layer x y h = absurd h
box_over (b ∷ boxes) layer x y (inl h) = (b, inl refl, h.1)
box_over (b ∷ boxes) layer x y (inr h) = let k = box_over boxes layer x y h in (k.0, inr k.1, k.2)

-- a square of one of the boxes
covers : (boxes : List BoxShape) (b : BoxShape) → Among boxes b → (x y : ℤ) → Inside b x y → Covered boxes b.layer x y
covers [] b among x y inside = absurd among
covers (first ∷ boxes) b (inl is) x y inside = inl (ap (λ (c : BoxShape). c.layer) is, subst (λ c. Inside c x y) (sym is) inside)
covers (first ∷ boxes) b (inr among) x y inside = inr (covers boxes b among x y inside)

-- an edge of tiles that is not behind a number is not behind the last one before it
before_it : (v edge tiles other more : ℤ) → edge ≡ pos 14 *ℤ tiles → v <ℤ (edge +ℤ pos 14) → other ≡ pos 14 *ℤ more → other ≤ℤ v → other ≤ℤ edge
before_it v edge tiles other more e high f low = omega (arith, ints, e, high, f, low)

behind_it : (v edge tiles other more : ℤ) → edge ≡ pos 14 *ℤ tiles → (edge -ℤ pos 14) <ℤ v → other ≡ pos 14 *ℤ more → v ≤ℤ other → edge ≤ℤ other
behind_it v edge tiles other more e low f high = omega (arith, ints, e, low, f, high)

module _ (boxes : List BoxShape) (e : Extent) (r : Rect) (s : Surrounds boxes e) (west : IsEdgeBefore e.west r.x) (south : IsEdgeBefore e.south r.y)
    (east : IsEdgeBehind e.east (r.x +ℤ pos r.width)) (north : IsEdgeBehind e.north (r.y +ℤ pos r.height)) where
  holds : (layer : Layer) (x y : ℤ) → Covered boxes layer x y → InRect r x y
  holds layer x y h =
      let b = box_over boxes layer x y h in
      let left = b.2.left in
      let right = b.2.right in
      let bottom = b.2.bottom in
      let top = b.2.top in
      let w = s.west b.0 b.1 in
      let d = s.south b.0 b.1 in
      let a = s.east b.0 b.1 in
      let u = s.north b.0 b.1 in
      let w_low = west.low in
      let d_low = south.low in
      let a_high = east.high in
      let u_high = north.high in
      record {
        left = omega (arith, ints, left, w, w_low);
        right = omega (arith, ints, right, a, a_high);
        bottom = omega (arith, ints, bottom, d, d_low);
        top = omega (arith, ints, top, u, u_high);
      }

  -- the corners of a box that reaches an edge are in each rectangle that holds the boxes
  first_in : (other : Rect) → HoldsInTiles boxes other → (b : BoxShape) → Among boxes b → IsOrdered b → InRect other b.x1 b.y1
  first_in other h b among ordered =
      let across = ordered.0 in
      let upward = ordered.1 in
      h.holds b.layer b.x1 b.y1 (covers boxes b among b.x1 b.y1
      (record { left = omega (arith, ints); right = across; bottom = omega (arith, ints); top = upward }))

  last_in : (other : Rect) → HoldsInTiles boxes other → (b : BoxShape) → Among boxes b → IsOrdered b → InRect other (b.x2 -ℤ pos 1) (b.y2 -ℤ pos 1)
  last_in other h b among ordered =
      let across = ordered.0 in
      let upward = ordered.1 in
      h.holds b.layer (b.x2 -ℤ pos 1) (b.y2 -ℤ pos 1) (covers boxes b among (b.x2 -ℤ pos 1) (b.y2 -ℤ pos 1)
      (record { left = omega (arith, ints, across); right = omega (arith, ints); bottom = omega (arith, ints, upward); top = omega (arith, ints) }))

  least : (other : Rect) → HoldsInTiles boxes other → (x y : ℤ) → InRect r x y → InRect other x y
  least other h x y within =
      let w = s.westernmost in
      let d = s.southernmost in
      let a = s.easternmost in
      let u = s.northernmost in
      let w_in = (first_in other h w.0 w.1 w.2).left in
      let d_in = (first_in other h d.0 d.1 d.2).bottom in
      let a_in = (last_in other h a.0 a.1 a.2).right in
      let u_in = (last_in other h u.0 u.1 u.2).top in
      let w_is = w.3 in
      let d_is = d.3 in
      let a_is = a.3 in
      let u_is = u.3 in
      let left =
      before_it e.west r.x west.tiles.tiles other.x h.left.tiles west.tiles.edge west.high h.left.edge
      (omega (arith, ints, w_in, w_is)) in
      let bottom =
      before_it e.south r.y south.tiles.tiles other.y h.bottom.tiles south.tiles.edge south.high h.bottom.edge
      (omega (arith, ints, d_in, d_is)) in
      let right =
      behind_it e.east (r.x +ℤ pos r.width) east.tiles.tiles (other.x +ℤ pos other.width) h.right.tiles east.tiles.edge east.low h.right.edge
      (omega (arith, ints, a_in, a_is)) in
      let top =
      behind_it e.north (r.y +ℤ pos r.height) north.tiles.tiles (other.y +ℤ pos other.height) h.top.tiles north.tiles.edge north.low h.top.edge
      (omega (arith, ints, u_in, u_is)) in
      let x_low = within.left in
      let x_high = within.right in
      let y_low = within.bottom in
      let y_high = within.top in
      record {
        left = omega (arith, ints, left, x_low);
        right = omega (arith, ints, right, x_high);
        bottom = omega (arith, ints, bottom, y_low);
        top = omega (arith, ints, top, y_high);
      }

  pub is_box : IsBoxOf boxes r
  is_box = record {
    holder = record { left = west.tiles; right = east.tiles; bottom = south.tiles; top = north.tiles; holds = holds };
    least = least;
  }

-- what was measured has a width and a height
pub is_wide : (boxes : List BoxShape) (e : Extent) → Surrounds boxes e → (e.west <ℤ e.east) × (e.south <ℤ e.north)
is_wide boxes e s =
    let b = s.westernmost in
    let across = b.2.0 in
    let upward = b.2.1 in
    let w = s.west b.0 b.1 in
    let d = s.south b.0 b.1 in
    let a = s.east b.0 b.1 in
    let u = s.north b.0 b.1 in
    (omega (arith, ints, across, w, a), omega (arith, ints, upward, d, u))
