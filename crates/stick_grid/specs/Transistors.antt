-- The channels of plans are the channels of their tiles.
use Rattle.std.specs.Prelude.{◌≡◌, ℕ, ◌-◌, ◌*◌, ◌<◌, ℤ, pos, ◌+ℤ◌, not, Bool, true, false, Option, Some, option_map}
use Rattle.geom.specs.Squares.{Inside}
use Rattle.geom.specs.Conduction.{IsChannel}
use Rattle.micro_tiles.specs.declared.device.Mode.{Mode}
use Rattle.micro_tiles.specs.declared.device.Mode.TheVariants.{Enhancement, Depletion}
use Rattle.micro_tiles.specs.declared.device.Transistor.{Transistor}
use Rattle.micro_tiles.specs.Table.{is_transpose, transistor_at}
use Rattle.micro_tiles.specs.Regions.{channel_box}
use Rattle.nmos_model.specs.declared.channel.Channel.{Channel}
use Rattle.nmos_model.specs.Channels.{IsTransistor, gate_of, first_of, second_of, rectangle_of}
use Rattle.stick_grid.specs.Plans.{Plan, IsPlan, Covers}
use Rattle.stick_grid.specs.Pieces.{Piece, IsIn}

-- the transistor is a depletion device
abbrev pub is_depletion : Mode → Bool
is_depletion Enhancement = false
is_depletion Depletion = true

-- the channel of the transistor, in the tile of this row and column
abbrev pub channel_at : Plan → ℕ → ℕ → Transistor → Channel
channel_at plan row col transistor = record {
  x1 = pos (14 * col) +ℤ (channel_box transistor.mode (is_transpose (plan.tile row col))).x1;
  y1 = pos (14 * (plan.rows - 1 - row)) +ℤ (channel_box transistor.mode (is_transpose (plan.tile row col))).y1;
  x2 = pos (14 * col) +ℤ (channel_box transistor.mode (is_transpose (plan.tile row col))).x2;
  y2 = pos (14 * (plan.rows - 1 - row)) +ℤ (channel_box transistor.mode (is_transpose (plan.tile row col))).y2;
  upright = not (is_transpose (plan.tile row col));
  depletion = is_depletion transistor.mode;
}

-- the channel of the tile in this row and column, if it has a transistor
abbrev pub tile_channel : Plan → ℕ → ℕ → Option Channel
tile_channel plan row col = option_map (channel_at plan row col) (transistor_at (plan.tile row col))

-- a net of the tile in this row and column
abbrev pub piece : ℕ → ℕ → ℕ → Piece
piece row col net = record { row = row; col = col; net = net }

-- The channel of the tile is a channel of the plan, with its gate and terminals on these nets of the tile.
pub record IsPlaced (plan : Plan) (row col : ℕ) (transistor : Transistor) : Type 0 where
  pub region : IsTransistor (Covers plan) (channel_at plan row col transistor)
  pub gate : IsIn plan (gate_of (channel_at plan row col transistor)) (piece row col transistor.gate)
  pub first : IsIn plan (first_of (channel_at plan row col transistor)) (piece row col transistor.first)
  pub second : IsIn plan (second_of (channel_at plan row col transistor)) (piece row col transistor.second)

abbrev pub TransistorsArePlaced : Type 0
TransistorsArePlaced = (plan : Plan) (row col : ℕ) (transistor : Transistor) → IsPlan plan → row < plan.rows → col < plan.cols
    → transistor_at (plan.tile row col) ≡ Some transistor → IsPlaced plan row col transistor

-- The channel is that of the transistor of a tile of the plan, with its gate and terminals on nets of the tile.
pub record IsOfTile (plan : Plan) (c : Channel) : Type 0 where
  pub row : ℕ
  pub col : ℕ
  pub transistor : Transistor
  pub is_row : row < plan.rows
  pub is_col : col < plan.cols
  pub has : transistor_at (plan.tile row col) ≡ Some transistor
  pub channel : c ≡ channel_at plan row col transistor
  pub placed : IsPlaced plan row col transistor

-- The square lies in the channel of a tile of the plan.
pub record InChannel (plan : Plan) (x y : ℤ) : Type 0 where
  pub row : ℕ
  pub col : ℕ
  pub transistor : Transistor
  pub is_row : row < plan.rows
  pub is_col : col < plan.cols
  pub has : transistor_at (plan.tile row col) ≡ Some transistor
  pub inside : Inside (rectangle_of (channel_at plan row col transistor)) x y

abbrev pub ChannelsAreOfTiles : Type 0
ChannelsAreOfTiles = (plan : Plan) (x y : ℤ) → IsPlan plan → IsChannel (Covers plan) x y → InChannel plan x y
