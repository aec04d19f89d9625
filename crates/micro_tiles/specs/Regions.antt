-- The transistors of tiles, on squares.
use Rattle.std.specs.Prelude.{◌≡◌, ◌↔◌, ℕ, ◌<◌, ℤ, pos, ◌+ℤ◌, ◌-ℤ◌, Bool, true, false, IsTrue, IsFalse, List, Option, Some, option_map, if◌then◌else◌}
use Rattle.geom.specs.declared.layer.Layer.TheVariants.{Diffusion, Poly, Implant}
use Rattle.geom.specs.Squares.{BoxShape, Inside, Covered}
use Rattle.micro_tiles.specs.declared.side.Side.{Side}
use Rattle.micro_tiles.specs.declared.side.Side.TheVariants.{North, East, South, West}
use Rattle.micro_tiles.specs.declared.device.Mode.{Mode}
use Rattle.micro_tiles.specs.declared.device.Mode.TheVariants.{Enhancement, Depletion}
use Rattle.micro_tiles.specs.declared.device.Transistor.{Transistor}
use Rattle.geom.specs.Conduction.{IsChannel, Conducts}
use Rattle.micro_tiles.specs.Boxes.{box}
use Rattle.micro_tiles.specs.Nets.{square_net}
use Rattle.micro_tiles.specs.Table.{tile_count, is_transpose, boxes, transistor_at}

-- the next lines of squares along a side of a rectangle, as long as the side
abbrev pub beside : BoxShape → Side → ℤ → BoxShape
beside r North lines = record r { y1 = r.y2; y2 = r.y2 +ℤ lines }
beside r East lines = record r { x1 = r.x2; x2 = r.x2 +ℤ lines }
beside r South lines = record r { y1 = r.y1 -ℤ lines; y2 = r.y1 }
beside r West lines = record r { x1 = r.x1 -ℤ lines; x2 = r.x1 }

-- a rectangle and so many squares more on each side
abbrev pub grown : BoxShape → ℤ → BoxShape
grown r by = record r { x1 = r.x1 -ℤ by; y1 = r.y1 -ℤ by; x2 = r.x2 +ℤ by; y2 = r.y2 +ℤ by }

-- The terminals of a transistor lie north and south of its channel, those of a transpose west and east.
abbrev pub is_end : Bool → Side → Bool
is_end false North = true
is_end false South = true
is_end true West = true
is_end true East = true
is_end transpose side = false

-- the number of the net of the terminal at an end
abbrev pub end_net : Transistor → Side → ℕ
end_net transistor North = transistor.first
end_net transistor West = transistor.first
end_net transistor South = transistor.second
end_net transistor East = transistor.second

-- the extent of a channel between the terminals, and across
abbrev pub length_of : Bool → BoxShape → ℤ
length_of transpose r = if transpose then r.x2 -ℤ r.x1 else r.y2 -ℤ r.y1

abbrev pub width_of : Bool → BoxShape → ℤ
width_of transpose r = if transpose then r.y2 -ℤ r.y1 else r.x2 -ℤ r.x1

abbrev pub length_by : Mode → ℤ
length_by Enhancement = pos 2
length_by Depletion = pos 8

abbrev pub width_by : Mode → ℤ
width_by Enhancement = pos 4
width_by Depletion = pos 2

-- the channel of a transistor, and of its transpose
abbrev pub channel_box : Mode → Bool → BoxShape
channel_box Enhancement false = box Diffusion 5 6 9 8
channel_box Enhancement true = box Diffusion 6 5 8 9
channel_box Depletion false = box Diffusion 6 3 8 11
channel_box Depletion true = box Diffusion 3 6 11 8

-- the channel of the tile's transistor
abbrev pub channel_of : ℕ → Option BoxShape
channel_of tile = option_map (λ transistor. channel_box transistor.mode (is_transpose tile)) (transistor_at tile)

-- A depletion channel and two squares round it are under implant; there is none by an enhancement channel.
abbrev pub IsImplanted : Mode → List BoxShape → BoxShape → Type 0
IsImplanted Enhancement boxes r = (x y : ℤ) → Covered boxes Implant x y → ⊥
IsImplanted Depletion boxes r = (x y : ℤ) → Inside (grown r (pos 2)) x y → Covered boxes Implant x y

-- The channel of the tile is the whole rectangle, of the length and width of its mode. At its ends every neighbouring
-- square is conducting diffusion, on the net of the terminal there; at its other sides the next two lines are poly
-- without diffusion. The poly over it is the gate.
pub record IsTransistor (tile : ℕ) (transistor : Transistor) (r : BoxShape) : Type 0 where
  pub channel : (x y : ℤ) → IsChannel (Covered (boxes tile)) x y ↔ Inside r x y
  pub length : length_of (is_transpose tile) r ≡ length_by transistor.mode
  pub width : width_of (is_transpose tile) r ≡ width_by transistor.mode
  pub implant : IsImplanted transistor.mode (boxes tile) r
  pub gate : (x y : ℤ) → Inside r x y → square_net tile Poly x y ≡ transistor.gate
  pub terminal : (side : Side) (x y : ℤ) → IsTrue (is_end (is_transpose tile) side) → Inside (beside r side (pos 1)) x y → Conducts (Covered (boxes tile)) Diffusion x y
  pub net : (side : Side) (x y : ℤ) → IsTrue (is_end (is_transpose tile) side) → Inside (beside r side (pos 1)) x y
      → square_net tile Diffusion x y ≡ end_net transistor side
  pub overhang : (side : Side) (x y : ℤ) → IsFalse (is_end (is_transpose tile) side) → Inside (beside r side (pos 2)) x y → Covered (boxes tile) Poly x y
  pub bare : (side : Side) (x y : ℤ) → IsFalse (is_end (is_transpose tile) side) → Inside (beside r side (pos 2)) x y → Covered (boxes tile) Diffusion x y → ⊥

abbrev pub TransistorsAreWhole : Type 0
TransistorsAreWhole = (tile : ℕ) (transistor : Transistor) → tile < tile_count → transistor_at tile ≡ Some transistor
    → IsTransistor tile transistor (channel_box transistor.mode (is_transpose tile))

-- A tile with a channel has a transistor.
abbrev pub ChannelsAreTransistors : Type 0
ChannelsAreTransistors = (tile : ℕ) (x y : ℤ) → tile < tile_count → IsChannel (Covered (boxes tile)) x y
    → (transistor : Transistor) × (transistor_at tile ≡ Some transistor)
