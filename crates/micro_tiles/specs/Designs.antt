-- What a design has at its sides, its transistor, and the numbers of its nets.
use Rattle.std.specs.Prelude.{ℕ, Bool, true, false, Option, Some, None, if◌then◌else◌}
use Rattle.geom.specs.declared.layer.Layer.{Layer}
use Rattle.geom.specs.declared.layer.Layer.TheVariants as layers
use Rattle.micro_tiles.specs.declared.design.Arms.{Arms}
use Rattle.micro_tiles.specs.declared.design.Design.{Design}
use Rattle.micro_tiles.specs.declared.design.Design.TheVariants.{Empty, Metal, Poly, Crossing, Contact, Pass, Load}
use Rattle.micro_tiles.specs.declared.side.Side.{Side}
use Rattle.micro_tiles.specs.declared.side.Side.TheVariants.{North, East, South, West}
use Rattle.micro_tiles.specs.declared.side.Port.{Port}
use Rattle.micro_tiles.specs.declared.device.Transistor.{Transistor}
use Rattle.micro_tiles.specs.declared.device.Mode.TheVariants.{Enhancement, Depletion}

-- an arm leads to the side
abbrev pub arm_at : Arms → Side → Bool
arm_at arms North = arms.north
arm_at arms East = arms.east
arm_at arms South = arms.south
arm_at arms West = arms.west

-- the layer, where an arm of it leads to the side
abbrev pub led : Layer → Arms → Side → Option Layer
led layer arms side = if arm_at arms side then Some layer else None

-- a pass transistor has diffusion north and south, and its gate west
abbrev pub pass_layer : Side → Option Layer
pass_layer North = Some layers.Diffusion
pass_layer East = None
pass_layer South = Some layers.Diffusion
pass_layer West = Some layers.Poly

-- a load has diffusion north and south, and its gate east
abbrev pub load_layer : Side → Option Layer
load_layer North = Some layers.Diffusion
load_layer East = Some layers.Poly
load_layer South = Some layers.Diffusion
load_layer West = None

-- what the design has at the side
abbrev pub port_of : Design → Side → Port
port_of Empty side = record { metal = false; other = None }
port_of (Metal arms) side = record { metal = arm_at arms side; other = None }
port_of (Poly arms) side = record { metal = false; other = led layers.Poly arms side }
port_of (Crossing metal arms) side = record { metal = arm_at metal side; other = led layers.Poly arms side }
port_of (Contact metal layer arms) side = record { metal = arm_at metal side; other = led layer arms side }
port_of Pass side = record { metal = false; other = pass_layer side }
port_of Load side = record { metal = false; other = load_layer side }

-- wires of two layers meet under a cut
abbrev pub has_cut : Design → Bool
has_cut (Contact metal layer arms) = true
has_cut _ = false

-- the transistor of a design: its gate is net 1, its terminals are nets 2 and 3
abbrev pub transistor_of : Design → Option Transistor
transistor_of Pass = Some (record { mode = Enhancement; gate = 1; first = 2; second = 3 })
transistor_of Load = Some (record { mode = Depletion; gate = 1; first = 2; second = 3 })
transistor_of _ = None

-- the number of the terminal at the side
abbrev pub terminal : Side → ℕ
terminal North = 2
terminal West = 2
terminal South = 3
terminal East = 3

-- the number of the net of the layer, without a cut, at the side
abbrev pub uncut_net : Side → Layer → ℕ
uncut_net side layers.Metal = 0
uncut_net side layers.Poly = 1
uncut_net side _ = terminal side

-- the number of the net of the layer at the side of a tile of this design
abbrev pub side_net : Design → Side → Layer → ℕ
side_net design side layer = if has_cut design then 0 else uncut_net side layer
