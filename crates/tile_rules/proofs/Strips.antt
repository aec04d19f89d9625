-- What squares behind the sides of tiles tell of ports, and how they are joined across the sides.
use Rattle.std.proofs.Common.{◌≡◌, ℕ, ◌<◌, ℤ, pos, ◌+ℤ◌, ◌≤ℤ◌, ◌<ℤ◌, IsTrue, inl, inr, sym, arith}
use Rattle.std.proofs.lemmas.Int.{ints}
use Rattle.geom.specs.declared.layer.Layer.{Layer}
use Rattle.geom.specs.Squares.{Covered}
use Rattle.geom.specs.Conduction.{Drawing, ShareSide, Leads}
use Rattle.geom.specs.Conduction.Leads.{step}
use Rattle.micro_tiles.specs.declared.side.Side.{Side}
use Rattle.micro_tiles.specs.declared.side.Side.TheVariants.{North, East, South, West}
use Rattle.micro_tiles.specs.Sides.{Carries, opposite}
use Rattle.micro_tiles.specs.Shapes.{IsInner}
use Rattle.micro_tiles.specs.Strips.{behind_x, behind_y, Behind, leads_out}
use Rattle.micro_tiles.specs.Table.{port_at}
use Rattle.lambda_rules.specs.Classes.{AreWithin}
use Rattle.stick_grid.specs.Plans.{Plan, local_x, local_y}
use Rattle.tile_rules.proofs.Steps.{chain, back}
use Rattle.tile_rules.proofs.Tiled.{Tiled, LiesIn, boxes_at, west_of, south_of, in_table, place_of, drawn_at, lies_at, covers_here, joined_here}
use Rattle.tile_rules.proofs.Near.{IsBehind, InCorner, IsBeyond, AreNear, near_of}
use Rattle.tile_rules.proofs.Near.Lie.{together, across, corner}

-- What lies so far from all borders lies behind no side.
pub not_behind : (side : Side) (x y : ℤ) → IsInner (pos 3) x y → IsBehind side x y → ⊥
not_behind North x y i b = let e = b.upward in let to = b.to in omega (arith, ints, i.top)
not_behind East x y i b = let e = b.across in let to = b.to in omega (arith, ints, i.right)
not_behind South x y i b = let e = b.upward in let to = b.to in omega (arith, ints, i.bottom)
not_behind West x y i b = let e = b.across in let to = b.to in omega (arith, ints, i.left)

-- The port of the side carries the layer, and the place is one of a strip.
record InStrip (plan : Plan) (row col : ℕ) (side : Side) (layer : Layer) (place : ℤ) : Type 0 where
  carried : Carries (port_at (plan.tile row col) side) layer
  from : pos 5 ≤ℤ place
  to : place <ℤ pos 9

-- the square 6 of the side of a tile
abbrev sixth_x : Side → ℕ → ℤ
sixth_x side col = behind_x side (pos 0) (pos 6) +ℤ west_of col

abbrev sixth_y : Plan → Side → ℕ → ℤ
sixth_y plan side row = behind_y side (pos 0) (pos 6) +ℤ south_of plan row

-- The squares 6 of two tiles share the common side.
sixths_meet : (plan : Plan) (side : Side) (row col r c : ℕ) → row < plan.rows → r < plan.rows → IsBeyond side row col r c
    → ShareSide (sixth_x side col) (sixth_y plan side row) (sixth_x (opposite side) c) (sixth_y plan (opposite side) r)
sixths_meet plan North row col r c is_row is_r beyond = let e = beyond.0 in let f = beyond.1 in inl (omega (arith, ints), inl (omega (arith, ints)))
sixths_meet plan East row col r c is_row is_r beyond = let e = beyond.0 in let f = beyond.1 in inr (omega (arith, ints), inl (omega (arith, ints)))
sixths_meet plan South row col r c is_row is_r beyond = let e = beyond.0 in let f = beyond.1 in inl (omega (arith, ints), inr (omega (arith, ints)))
sixths_meet plan West row col r c is_row is_r beyond = let e = beyond.0 in let f = beyond.1 in inr (omega (arith, ints), inr (omega (arith, ints)))

module _ (Drawn : Drawing) (t : Tiled Drawn) where
  in_strip : (row col : ℕ) (side : Side) (layer : Layer) (x y : ℤ) → row < t.plan.rows → col < t.plan.cols → IsTrue (leads_out layer)
      → Covered (boxes_at t.plan row col) layer x y → (b : IsBehind side x y) → InStrip t.plan row col side layer b.place
  in_strip row col side layer x y is_row is_col out h b =
      let strip = t.facts.strips (t.plan.tile row col) side layer (in_table Drawn t row col is_row is_col) out in
      let there : Behind (boxes_at t.plan row col) layer side b.depth b.place = rw (← b.across, ← b.upward) h in
      let border = (strip.straight b.depth b.place b.from b.to).0 there in
      record { carried = strip.carried b.place border; from = strip.from b.place border; to = strip.to b.place border }

  -- The corners of tiles are empty.
  pub no_corner : (row col : ℕ) (layer : Layer) (x y : ℤ) → LiesIn t.plan row col x y → IsTrue (leads_out layer) → Drawn layer x y
      → InCorner (local_x col x) (local_y t.plan row y) → ⊥
  no_corner row col layer x y lies out h k =
      let here = (covers_here Drawn t row col x y lies layer).0 h in
      let s = in_strip row col k.side layer (local_x col x) (local_y t.plan row y) lies.is_row lies.is_col out here k.behind in
      let from = s.from in
      let to = s.to in
      elim k.far [ inl low ↦ omega (arith, ints) | inr high ↦ omega (arith, ints) ]

  -- The port of a side behind which a layer lies carries it.
  pub carried : (row col : ℕ) (side : Side) (layer : Layer) (x y : ℤ) → LiesIn t.plan row col x y → IsTrue (leads_out layer) → Drawn layer x y
      → IsBehind side (local_x col x) (local_y t.plan row y) → Carries (port_at (t.plan.tile row col) side) layer
  carried row col side layer x y lies out h b =
      let here = (covers_here Drawn t row col x y lies layer).0 h in
      (in_strip row col side layer (local_x col x) (local_y t.plan row y) lies.is_row lies.is_col out here b).carried

  -- Neighbours carry the same.
  pub ports_meet : (side : Side) (row col r c : ℕ) → row < t.plan.rows → col < t.plan.cols → r < t.plan.rows → c < t.plan.cols
      → IsBeyond side row col r c → port_at (t.plan.tile row col) side ≡ port_at (t.plan.tile r c) (opposite side)
  ports_meet North row col r c is_row is_col is_r is_c beyond =
      let e = beyond.0 in
      rw (beyond.0, beyond.1) (sym (t.known.southward r col (omega arith) is_col))
  ports_meet East row col r c is_row is_col is_r is_c beyond =
      let e = beyond.1 in
      rw (beyond.0, beyond.1) (t.known.eastward row col is_row (omega arith))
  ports_meet South row col r c is_row is_col is_r is_c beyond =
      let e = beyond.0 in
      rw (beyond.0, beyond.1) (t.known.southward row col (omega arith) is_col)
  ports_meet West row col r c is_row is_col is_r is_c beyond =
      let e = beyond.1 in
      rw (beyond.0, beyond.1) (sym (t.known.eastward row c is_row (omega arith)))

  -- A side whose port carries a layer has it at square 6.
  sixth : (row col : ℕ) (side : Side) (layer : Layer) → row < t.plan.rows → col < t.plan.cols → IsTrue (leads_out layer)
      → Carries (port_at (t.plan.tile row col) side) layer → Behind (boxes_at t.plan row col) layer side (pos 0) (pos 6)
  sixth row col side layer is_row is_col out c =
      (t.facts.strips (t.plan.tile row col) side layer (in_table Drawn t row col is_row is_col) out).sixth c

  -- from a square of the layer to the square 6 of such a side
  to_sixth : (row col : ℕ) (side : Side) (layer : Layer) (x y : ℤ) → LiesIn t.plan row col x y → IsTrue (leads_out layer) → Drawn layer x y
      → Carries (port_at (t.plan.tile row col) side) layer → Leads (Drawn layer) x y (sixth_x side col) (sixth_y t.plan side row)
  to_sixth row col side layer x y lies out h c =
      let there = sixth row col side layer lies.is_row lies.is_col out c in
      joined_here Drawn t layer row col x y (sixth_x side col) (sixth_y t.plan side row) lies
      (lies_at Drawn t row col lies.is_row lies.is_col layer (behind_x side (pos 0) (pos 6)) (behind_y side (pos 0) (pos 6)) there) h
      (drawn_at Drawn t row col lies.is_row lies.is_col layer (behind_x side (pos 0) (pos 6)) (behind_y side (pos 0) (pos 6)) there)

  -- Squares of a layer behind a common side are joined.
  joined_across : (layer : Layer) (side : Side) (row col r c : ℕ) (x y u v : ℤ) → LiesIn t.plan row col x y → LiesIn t.plan r c u v
      → IsTrue (leads_out layer) → Drawn layer x y → Drawn layer u v → IsBeyond side row col r c
      → IsBehind side (local_x col x) (local_y t.plan row y) → Leads (Drawn layer) x y u v
  joined_across layer side row col r c x y u v lies other out h k beyond b =
      let here = carried row col side layer x y lies out h b in
      let meet = ports_meet side row col r c lies.is_row lies.is_col other.is_row other.is_col beyond in
      let there : Carries (port_at (t.plan.tile r c) (opposite side)) layer = rw (← meet) here in
      let facing = opposite side in
      let two = drawn_at Drawn t r c other.is_row other.is_col layer (behind_x facing (pos 0) (pos 6)) (behind_y facing (pos 0) (pos 6))
      (sixth r c facing layer other.is_row other.is_col out there) in
      let p = sixth_x side col in
      let q = sixth_y t.plan side row in
      let s = sixth_x (opposite side) c in
      let w = sixth_y t.plan (opposite side) r in
      chain (Drawn layer) x y p q u v (to_sixth row col side layer x y lies out h here)
      (step p q s w u v (sixths_meet t.plan side row col r c lies.is_row other.is_row beyond) two
      (back (Drawn layer) u v s w k (to_sixth r c (opposite side) layer u v other out k there)))

  -- Squares of a layer that leads over sides are joined, if they are near each other.
  pub near_joined : (layer : Layer) (x y u v : ℤ) → IsTrue (leads_out layer) → Drawn layer x y → Drawn layer u v → AreWithin 3 x y u v
      → Leads (Drawn layer) x y u v
  near_joined layer x y u v out h k within =
      let p = place_of Drawn t layer x y h in
      let q = place_of Drawn t layer u v k in
      by_places p.row p.col q.row q.col p.lies q.lies (near_of t.plan p.row p.col q.row q.col x y u v p.lies q.lies within)
    where
      by_places : (row col r c : ℕ) → LiesIn t.plan row col x y → LiesIn t.plan r c u v → AreNear t.plan row col r c x y u v
          → Leads (Drawn layer) x y u v
      by_places row col r c lies other (together e f) =
          let there : LiesIn t.plan row col u v = rw (e, f) other in
          joined_here Drawn t layer row col x y u v lies there h k
      by_places row col r c lies other (across side beyond b d) = joined_across layer side row col r c x y u v lies other out h k beyond b
      by_places row col r c lies other (corner b) = absurd (no_corner row col layer x y lies out h b)
