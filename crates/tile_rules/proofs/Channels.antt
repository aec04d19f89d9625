-- The channel regions of a drawing of tiles are the channels of its tiles' transistors.
use Rattle.std.proofs.Common.{◌≡◌, ◌↔◌, ℕ, ◌<◌, ℤ, pos, ◌≤ℤ◌, ◌<ℤ◌, Bool, true, false, Some, arith}
use Rattle.std.proofs.lemmas.Int.{ints}
use Rattle.geom.specs.Squares.{BoxShape, Inside}
use Rattle.geom.specs.Conduction.{Drawing, IsChannel, Leads}
use Rattle.micro_tiles.specs.declared.device.Mode.{Mode}
use Rattle.micro_tiles.specs.declared.device.Mode.TheVariants.{Enhancement, Depletion}
use Rattle.micro_tiles.specs.declared.device.Transistor.{Transistor}
use Rattle.micro_tiles.specs.Regions as regions
use Rattle.micro_tiles.specs.Regions.{channel_box}
use Rattle.micro_tiles.specs.Shapes.{IsInner}
use Rattle.micro_tiles.specs.Table.{is_transpose, transistor_at}
use Rattle.nmos_model.specs.declared.channel.Channel.{Channel}
use Rattle.nmos_model.specs.Channels.{IsTransistor, rectangle_of}
use Rattle.stick_grid.specs.Plans.{Covers, local_x, local_y}
use Rattle.stick_grid.specs.Transistors.{channel_at}
use Rattle.lambda_rules.specs.Rules.{grown}
use Rattle.tile_rules.proofs.Steps.{chain, back}
use Rattle.tile_rules.proofs.Alike.{channel, transistor}
use Rattle.tile_rules.proofs.Tiled.{Tiled, LiesIn, in_table}

-- A square of a region, and the transistor whose channel it is.
pub record OfTile (Drawn : Drawing) (t : Tiled Drawn) (x y : ℤ) : Type 0 where
  pub row : ℕ
  pub col : ℕ
  pub transistor : Transistor
  pub is_row : row < t.plan.rows
  pub is_col : col < t.plan.cols
  pub has : transistor_at (t.plan.tile row col) ≡ Some transistor
  pub inside : Inside (rectangle_of (channel_at t.plan row col transistor)) x y

-- The rectangle has squares, all at least 3 from the border of a tile.
pub record IsDeep (r : BoxShape) : Type 0 where
  pub left : pos 3 ≤ℤ r.x1
  pub across : r.x1 <ℤ r.x2
  pub right : r.x2 ≤ℤ pos 11
  pub bottom : pos 3 ≤ℤ r.y1
  pub upward : r.y1 <ℤ r.y2
  pub top : r.y2 ≤ℤ pos 11

pub deep : (mode : Mode) (transpose : Bool) → IsDeep (channel_box mode transpose)
deep Enhancement false = grind (arith, ints)
deep Enhancement true = grind (arith, ints)
deep Depletion false = grind (arith, ints)
deep Depletion true = grind (arith, ints)

-- Two squares more on each side lie in the tile.
deep_inner : (r : BoxShape) (x y : ℤ) → IsDeep r → Inside (grown 2 r) x y → IsInner (pos 0) x y
deep_inner r x y d i = record {
  left = omega (arith, ints, d.left, i.left);
  right = omega (arith, ints, d.right, i.right);
  bottom = omega (arith, ints, d.bottom, i.bottom);
  top = omega (arith, ints, d.top, i.top);
}

module _ (Drawn : Drawing) (t : Tiled Drawn) where
  pub of_tile : (x y : ℤ) → IsChannel Drawn x y → OfTile Drawn t x y
  of_tile x y h =
      let c = t.facts.of_tiles t.plan x y t.known (channel Drawn (Covers t.plan) t.alike x y h) in
      record { row = c.row; col = c.col; transistor = c.transistor; is_row = c.is_row; is_col = c.is_col; has = c.has; inside = c.inside }

  module _ (row col : ℕ) (is_row : row < t.plan.rows) (is_col : col < t.plan.cols) (one : Transistor)
      (has : transistor_at (t.plan.tile row col) ≡ Some one) where
    -- its channel, in the tile
    abbrev gate : BoxShape
    gate = channel_box one.mode (is_transpose (t.plan.tile row col))

    pub region : IsTransistor Drawn (channel_at t.plan row col one)
    region = transistor (Covers t.plan) Drawn (λ layer x y. ((t.alike layer x y).1, (t.alike layer x y).0)) (channel_at t.plan row col one)
        (t.facts.placed t.plan row col one t.known is_row is_col has).region

    pub whole : regions.IsTransistor (t.plan.tile row col) one gate
    whole = t.facts.whole (t.plan.tile row col) one (in_table Drawn t row col is_row is_col) has

    -- Squares no more than 2 from the channel lie in the tile.
    pub lies_round : (x y : ℤ) → Inside (grown 2 gate) (local_x col x) (local_y t.plan row y) → LiesIn t.plan row col x y
    lies_round x y i = record {
      is_row = is_row;
      is_col = is_col;
      inner = deep_inner gate (local_x col x) (local_y t.plan row y) (deep one.mode (is_transpose (t.plan.tile row col))) i;
    }

-- The region of a square of a transistor's channel is the whole channel.
pub region_is : (Drawn : Drawing) (c : Channel) (x y : ℤ) → IsTransistor Drawn c → Inside (rectangle_of c) x y
    → (u v : ℤ) → Leads (IsChannel Drawn) x y u v ↔ Inside (rectangle_of c) u v
region_is Drawn c x y is inside u v =
    let S = IsChannel Drawn in
    let path = (is.full.squares x y).1 inside in (
      λ p. (is.full.squares u v).0 (chain S c.x1 c.y1 x y u v path p),
      λ i. chain S x y c.x1 c.y1 u v (back S c.x1 c.y1 x y is.full.channel path) ((is.full.squares u v).1 i),
    )
