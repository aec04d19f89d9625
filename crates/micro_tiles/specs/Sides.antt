-- The sides of tiles and what they carry.
use Rattle.std.specs.Prelude.{◌≡◌, Option, Some, None, Bool, true, false, IsTrue}
use Rattle.geom.specs.declared.layer.Layer.{Layer}
use Rattle.geom.specs.declared.layer.Layer.TheVariants.{Diffusion, Poly, Metal, Cut, Implant}
use Rattle.micro_tiles.specs.declared.side.Side.{Side}
use Rattle.micro_tiles.specs.declared.side.Side.TheVariants.{North, East, South, West}
use Rattle.micro_tiles.specs.declared.side.Port.{Port}

-- where the mirror over the diagonal from north-west to south-east takes the side
abbrev pub mirrored_side : Side → Side
mirrored_side North = West
mirrored_side East = South
mirrored_side South = East
mirrored_side West = North

-- where the other end of a straight wire from the side leads
abbrev pub opposite : Side → Side
opposite North = South
opposite East = West
opposite South = North
opposite West = East

-- The port carries the layer.
abbrev pub Carries : Port → Layer → Type 0
Carries port Metal = IsTrue port.metal
Carries port layer = port.other ≡ Some layer

-- two layers are one
abbrev pub same : Layer → Layer → Bool
same Diffusion Diffusion = true
same Poly Poly = true
same Metal Metal = true
same Cut Cut = true
same Implant Implant = true
same _ _ = false

-- the layer is this one
abbrev pub is_some_layer : Option Layer → Layer → Bool
is_some_layer None layer = false
is_some_layer (Some other) layer = same other layer

-- whether the port carries the layer
abbrev pub carries : Port → Layer → Bool
carries port Metal = port.metal
carries port layer = is_some_layer port.other layer
