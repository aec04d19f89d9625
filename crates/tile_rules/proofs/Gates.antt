-- Each channel region is that of a transistor whose gate reaches over both sides without a terminal.
use Rattle.std.proofs.Common.{◌≡◌, ℕ, ◌<◌, ℤ, not, Bool, true, false, IsFalse, Some, refl, sym}
use Rattle.geom.specs.declared.layer.Layer.TheVariants.{Diffusion, Poly}
use Rattle.geom.specs.Squares.{BoxShape, Inside}
use Rattle.geom.specs.Conduction.{Drawing, IsChannel}
use Rattle.micro_tiles.specs.declared.side.Side.{Side}
use Rattle.micro_tiles.specs.declared.side.Side.TheVariants.{North, East, South, West}
use Rattle.micro_tiles.specs.declared.device.Transistor.{Transistor}
use Rattle.micro_tiles.specs.Regions.{channel_box, is_end}
use Rattle.micro_tiles.specs.Table.{is_transpose, transistor_at}
use Rattle.nmos_model.specs.declared.channel.Channel.{Channel}
use Rattle.nmos_model.specs.Channels.{rectangle_of}
use Rattle.stick_grid.specs.Plans.{local_x, local_y}
use Rattle.stick_grid.specs.Transistors.{channel_at}
use Rattle.lambda_rules.specs.Classes.{IsClass}
use Rattle.lambda_rules.specs.Rules.{IsAll, IsBarePoly, IsWhole, overhang}
use Rattle.tile_rules.proofs.Moved.{strip, strip_moved, strip_grown}
use Rattle.tile_rules.proofs.Tiled.{Tiled, west_of, south_of, covers_here}
use Rattle.tile_rules.proofs.Channels.{deep, of_tile, region, whole, lies_round, region_is}
use Rattle.tile_rules.proofs.Rounds.{first_at}

module _ (Drawn : Drawing) (t : Tiled Drawn) (row col : ℕ) (is_row : row < t.plan.rows) (is_col : col < t.plan.cols) (one : Transistor)
    (has : transistor_at (t.plan.tile row col) ≡ Some one) where
  abbrev r : BoxShape
  r = channel_box one.mode (is_transpose (t.plan.tile row col))

  abbrev c : Channel
  c = channel_at t.plan row col one

  -- Along a side without a terminal lie two lines of poly.
  bare : (side : Side) → IsFalse (is_end (is_transpose (t.plan.tile row col)) side) → IsAll (strip (rectangle_of c) side) (IsBarePoly Drawn)
  bare side edge x y i =
      let j = strip_moved (west_of col) (south_of t.plan row) r side x y i in
      let d = deep one.mode (is_transpose (t.plan.tile row col)) in
      let round = strip_grown r side (local_x col x) (local_y t.plan row y) d.across d.upward j in
      let lies = lies_round Drawn t row col is_row is_col one has x y round in
      let w = whole Drawn t row col is_row is_col one has in
      record {
        poly = (covers_here Drawn t row col x y lies Poly).1 (w.overhang side (local_x col x) (local_y t.plan row y) edge j);
        bare = λ diffusion. w.bare side (local_x col x) (local_y t.plan row y) edge j ((covers_here Drawn t row col x y lies Diffusion).0 diffusion);
      }

  -- the channel of a basic tile's transistor, or of a transpose's
  abbrev turned : Bool → Channel
  turned transpose = record c { upright = not transpose }

  overhangs : (transpose : Bool) → is_transpose (t.plan.tile row col) ≡ transpose
      → IsAll (overhang (turned transpose)).0 (IsBarePoly Drawn) × IsAll (overhang (turned transpose)).1 (IsBarePoly Drawn)
  overhangs false e = (bare West (rw e refl), bare East (rw e refl))
  overhangs true e = (bare South (rw e refl), bare North (rw e refl))

  whole_at : (x y : ℤ) → Inside (rectangle_of c) x y → IsClass (IsChannel Drawn) x y → IsWhole Drawn x y
  whole_at x y inside is =
      let found = region Drawn t row col is_row is_col one has in
      let at = first_at (IsChannel Drawn) (rectangle_of c) x y inside (region_is Drawn c x y found inside) is in
      let over = overhangs (is_transpose (t.plan.tile row col)) refl in
      record { channel = c; across = sym at.0; upward = sym at.1; transistor = found; first = over.0; second = over.1 }

pub gates_whole : (Drawn : Drawing) (t : Tiled Drawn) (x y : ℤ) → IsClass (IsChannel Drawn) x y → IsWhole Drawn x y
gates_whole Drawn t x y is =
    let o = of_tile Drawn t x y is.holds.inside in
    whole_at Drawn t o.row o.col o.is_row o.is_col o.transistor o.has x y o.inside is
