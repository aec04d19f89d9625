-- What is near a channel: no cut, and implant only where the channel has some. Poly and diffusion that are near each other make a channel.
use Rattle.std.proofs.Common.{◌≡◌, ℕ, ℤ, pos, ◌+ℤ◌, Option, Some, None, refl, arith}
use Rattle.std.proofs.lemmas.Int.{ints}
use Rattle.geom.specs.declared.layer.Layer.TheVariants.{Diffusion, Poly, Cut, Implant}
use Rattle.geom.specs.Squares.{BoxShape, Inside, Covered}
use Rattle.geom.specs.Conduction.{Drawing, IsChannel, Leads}
use Rattle.micro_tiles.specs.declared.side.Port.{Port}
use Rattle.micro_tiles.specs.Sides.{Carries, opposite}
use Rattle.micro_tiles.specs.declared.device.Mode.{Mode}
use Rattle.micro_tiles.specs.declared.device.Mode.TheVariants.{Enhancement, Depletion}
use Rattle.micro_tiles.specs.declared.device.Transistor.{Transistor}
use Rattle.micro_tiles.specs.Regions.{IsImplanted, channel_box}
use Rattle.micro_tiles.specs.Shapes.{IsInner}
use Rattle.micro_tiles.specs.Table.{is_transpose, port_at, transistor_at}
use Rattle.stick_grid.specs.Plans.{local_x, local_y}
use Rattle.lambda_rules.specs.Classes.{AreWithin}
use Rattle.tile_rules.proofs.Partners.{turned}
use Rattle.tile_rules.proofs.Moved.{within_grown}
use Rattle.tile_rules.proofs.Tiled.{Tiled, LiesIn, boxes_at, west_of, south_of}
use Rattle.tile_rules.proofs.Tiled.{in_table, place_of, drawn_at, lies_at, covers_here, channel_here, joined_here}
use Rattle.tile_rules.proofs.Near.{AreNear, near_of}
use Rattle.tile_rules.proofs.Near.Lie.{together, across, corner}
use Rattle.tile_rules.proofs.Strips.{not_behind, no_corner, carried, ports_meet}
use Rattle.tile_rules.proofs.Channels.{deep}

unlike_ports : (p q : Port) → p ≡ q → Carries p Poly → Carries q Diffusion → ⊥
unlike_ports p q e poly diffusion = cc

none_and_some : (o : Option Transistor) (one : Transistor) → o ≡ None → o ≡ Some one → ⊥
none_and_some o one e f = cc

-- a channel square to which a square of poly leads in poly, and one of diffusion in diffusion
pub record CommonSquare (Drawn : Drawing) (x y u v : ℤ) : Type 0 where
  pub p : ℤ
  pub q : ℤ
  pub poly : Leads (Drawn Poly) x y p q
  pub diffusion : Leads (Drawn Diffusion) u v p q

module _ (Drawn : Drawing) (t : Tiled Drawn) where
  -- A square near a channel square lies in its tile.
  one_tile : (row col r c : ℕ) (x y u v : ℤ) → IsChannel Drawn x y → LiesIn t.plan row col x y → LiesIn t.plan r c u v → AreWithin 3 x y u v
      → (row ≡ r) × (col ≡ c)
  one_tile row col r c x y u v is lies other within =
      by (near_of t.plan row col r c x y u v lies other within)
      ((t.facts.inside (t.plan.tile row col) (in_table Drawn t row col lies.is_row lies.is_col)).channel (local_x col x) (local_y t.plan row y)
      ((channel_here Drawn t row col x y lies).0 is))
    where
      by : AreNear t.plan row col r c x y u v → IsInner (pos 3) (local_x col x) (local_y t.plan row y) → (row ≡ r) × (col ≡ c)
      by (together e f) inner = (e, f)
      by (across side beyond b d) inner = absurd (not_behind side (local_x col x) (local_y t.plan row y) inner b)
      by (corner k) inner = absurd (not_behind k.side (local_x col x) (local_y t.plan row y) inner k.behind)

  -- the tile of a channel square, in which another square lies too
  record SharedTile (x y u v : ℤ) : Type 0 where
    row : ℕ
    col : ℕ
    channel_lies : LiesIn t.plan row col x y
    other_lies : LiesIn t.plan row col u v
    one : Transistor
    has : transistor_at (t.plan.tile row col) ≡ Some one

  shared : (x y : ℤ) → IsChannel Drawn x y → (r c : ℕ) (u v : ℤ) → LiesIn t.plan r c u v → AreWithin 3 u v x y → SharedTile x y u v
  shared x y is r c u v other within =
      let place = place_of Drawn t Diffusion x y is.diffusion in
      let lies = place.lies in
      let same = one_tile place.row place.col r c x y u v is lies other (turned 3 u v x y within) in
      let found = t.facts.channels (t.plan.tile place.row place.col) (local_x place.col x) (local_y t.plan place.row y)
      (in_table Drawn t place.row place.col lies.is_row lies.is_col) ((channel_here Drawn t place.row place.col x y lies).0 is) in
      record { row = place.row; col = place.col; channel_lies = lies; other_lies = rw (same.0, same.1) other; one = found.0; has = found.1 }

  -- No cut is near a channel.
  pub cut_far : (x y u v : ℤ) → Drawn Cut x y → IsChannel Drawn u v → AreWithin 3 x y u v → ⊥
  cut_far x y u v h is within =
      let place = place_of Drawn t Cut x y h in
      let s = shared u v is place.row place.col x y place.lies within in
      let row = s.row in
      let col = s.col in
      let lies = s.other_lies in
      let contact = t.facts.contacts (t.plan.tile row col) (local_x col x) (local_y t.plan row y) (in_table Drawn t row col lies.is_row lies.is_col)
      ((covers_here Drawn t row col x y lies Cut).0 h) in
      none_and_some (transistor_at (t.plan.tile row col)) s.one contact.1 s.has

  -- A channel near implant has implant.
  pub implant_near : (x y u v : ℤ) → Drawn Implant x y → IsChannel Drawn u v → AreWithin 3 x y u v → Drawn Implant u v
  implant_near x y u v h is within =
      let place = place_of Drawn t Implant x y h in
      let s = shared u v is place.row place.col x y place.lies within in
      let row = s.row in
      let col = s.col in
      let lies = s.channel_lies in
      let whole = t.facts.whole (t.plan.tile row col) s.one (in_table Drawn t row col lies.is_row lies.is_col) s.has in
      (covers_here Drawn t row col u v lies Implant).1
      (by row col s.one.mode whole.implant
      ((covers_here Drawn t row col x y s.other_lies Implant).0 h)
      ((whole.channel (local_x col u) (local_y t.plan row v)).0 ((channel_here Drawn t row col u v lies).0 is)))
    where
      by : (row col : ℕ) (mode : Mode) {r : BoxShape} → IsImplanted mode (boxes_at t.plan row col) r
          → Covered (boxes_at t.plan row col) Implant (local_x col x) (local_y t.plan row y) → Inside r (local_x col u) (local_y t.plan row v)
          → Covered (boxes_at t.plan row col) Implant (local_x col u) (local_y t.plan row v)
      by row col Enhancement none there i = absurd (none (local_x col x) (local_y t.plan row y) there)
      by row col Depletion {r} all there i = all (local_x col u) (local_y t.plan row v) (within_grown 2 r (local_x col u) (local_y t.plan row v) i)

  -- Poly and diffusion of one tile share its channel.
  in_one_tile : (row col : ℕ) (x y u v : ℤ) → LiesIn t.plan row col x y → LiesIn t.plan row col u v → Drawn Poly x y → Drawn Diffusion u v
      → CommonSquare Drawn x y u v
  in_one_tile row col x y u v lies other h k =
      let tile = t.plan.tile row col in
      let below = in_table Drawn t row col lies.is_row lies.is_col in
      let found = t.facts.apart tile (local_x col x) (local_y t.plan row y) (local_x col u) (local_y t.plan row v) below
      ((covers_here Drawn t row col x y lies Poly).0 h) ((covers_here Drawn t row col u v other Diffusion).0 k) in
      let r = channel_box found.0.mode (is_transpose tile) in
      let d = deep found.0.mode (is_transpose tile) in
      let c = ((t.facts.whole tile found.0 below found.1).channel r.x1 r.y1).1
      (record { left = omega (arith, ints); right = d.across; bottom = omega (arith, ints); top = d.upward }) in
      let corner = lies_at Drawn t row col lies.is_row lies.is_col Poly r.x1 r.y1 c.poly in
      let p = r.x1 +ℤ west_of col in
      let q = r.y1 +ℤ south_of t.plan row in
      record {
        p = p;
        q = q;
        poly = joined_here Drawn t Poly row col x y p q lies corner h (drawn_at Drawn t row col lies.is_row lies.is_col Poly r.x1 r.y1 c.poly);
        diffusion = joined_here Drawn t Diffusion row col u v p q other corner k
            (drawn_at Drawn t row col lies.is_row lies.is_col Diffusion r.x1 r.y1 c.diffusion);
      }

  -- Poly and diffusion near each other lie in one tile, and so share its channel.
  pub poly_near : (x y u v : ℤ) → Drawn Poly x y → Drawn Diffusion u v → AreWithin 3 x y u v → CommonSquare Drawn x y u v
  poly_near x y u v h k within =
      let p = place_of Drawn t Poly x y h in
      let q = place_of Drawn t Diffusion u v k in
      by p.row p.col q.row q.col p.lies q.lies (near_of t.plan p.row p.col q.row q.col x y u v p.lies q.lies within)
    where
      by : (row col r c : ℕ) → LiesIn t.plan row col x y → LiesIn t.plan r c u v → AreNear t.plan row col r c x y u v → CommonSquare Drawn x y u v
      by row col r c lies other (together e f) = in_one_tile row col x y u v lies (rw (e, f) other) h k
      by row col r c lies other (across side beyond b d) =
          absurd (unlike_ports (port_at (t.plan.tile row col) side) (port_at (t.plan.tile r c) (opposite side))
          (ports_meet Drawn t side row col r c lies.is_row lies.is_col other.is_row other.is_col beyond)
          (carried Drawn t row col side Poly x y lies refl h b)
          (carried Drawn t r c (opposite side) Diffusion u v other refl k d))
      by row col r c lies other (corner b) = absurd (no_corner Drawn t row col Poly x y lies refl h b)
