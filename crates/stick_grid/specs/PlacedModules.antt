-- Modules in their places in a plan, which they cover, and the module that they make together.
use Rattle.std.specs.Prelude.{◌≡◌, ℕ, ◌+◌, ◌-◌, ◌<◌, ◌≤◌, List, map, flat_map, Some, option_map}
use Rattle.std.specs.List.{range_with_len}
use Rattle.geom.specs.declared.layer.Layer.{Layer}
use Rattle.micro_tiles.specs.declared.side.Side.{Side}
use Rattle.micro_tiles.specs.declared.side.Side.TheVariants.{North, East, South, West}
use Rattle.switch_net.specs.Circuit.{renamed_device}
use Rattle.switch_net.specs.declared.network.Device.{Device}
use Rattle.stick_grid.specs.Plans.{Plan}
use Rattle.stick_grid.specs.Pieces.{Piece}
use Rattle.stick_grid.specs.Transistors.{piece}
use Rattle.stick_grid.specs.Windows.{IsWindow}
use Rattle.stick_grid.specs.Modules.{Border, IsModule, row_along, col_along}

-- a module, the row and the column of its north-west corner in the whole, and the nets of the whole that its nets are
pub record PlacedModule : Type 0 where
  pub plan : Plan
  pub row : ℕ
  pub col : ℕ
  pub count : ℕ
  pub name : Piece → ℕ
  pub vdd : ℕ
  pub devices : List Device
  pub border : Border
  pub rename : ℕ → ℕ

-- It is a module and a part of the whole; its nets are nets of the whole, and its supply is that of the whole.
pub record IsPlaced (whole : Plan) (count vdd : ℕ) (m : PlacedModule) : Type 0 where
  pub is_module : IsModule m.plan m.count m.name m.vdd m.devices m.border
  pub window : IsWindow m.plan whole m.row m.col
  pub below : (net : ℕ) → net < m.count → m.rename net < count
  pub supply : m.rename m.vdd ≡ vdd

-- The place lies in the module.
pub record Holds (m : PlacedModule) (row col : ℕ) : Type 0 where
  pub from_row : m.row ≤ row
  pub to_row : row < m.row + m.plan.rows
  pub from_col : m.col ≤ col
  pub to_col : col < m.col + m.plan.cols

-- One module ends where another begins to the east of it, behind this place.
pub record StandBeside (modules : ℕ → PlacedModule) (n : ℕ) (k l row col : ℕ) : Type 0 where
  pub first_known : k < n
  pub second_known : l < n
  pub first_holds : Holds (modules k) row col
  pub second_holds : Holds (modules l) row (col + 1)
  pub first_ends : (modules k).col + (modules k).plan.cols ≡ col + 1
  pub second_begins : (modules l).col ≡ col + 1

-- One module ends where another begins to the south of it, below this place.
pub record StandAbove (modules : ℕ → PlacedModule) (n : ℕ) (k l row col : ℕ) : Type 0 where
  pub first_known : k < n
  pub second_known : l < n
  pub first_holds : Holds (modules k) row col
  pub second_holds : Holds (modules l) (row + 1) col
  pub first_ends : (modules k).row + (modules k).plan.rows ≡ row + 1
  pub second_begins : (modules l).row ≡ row + 1

-- the place along the side of the module at a place along the side of the whole
abbrev pub place_in : PlacedModule → Side → ℕ → ℕ
place_in m North place = place - m.col
place_in m East place = place - m.row
place_in m South place = place - m.col
place_in m West place = place - m.row

-- what leads out of the whole leads out of the module there
abbrev pub border_in : PlacedModule → Border
border_in m side place layer = option_map m.rename (m.border side (place_in m side place) layer)

-- a net of one of the modules
pub record ModuleNet : Type 0 where
  pub which : ℕ
  pub net : ℕ

-- the net of the whole that it is
abbrev pub whole_net : (ℕ → PlacedModule) → ModuleNet → ℕ
whole_net modules a = (modules a.which).rename a.net

-- The nets lead out to one another in a layer, from one module to the next one to the east.
pub record ModulesMeetEast (modules : ℕ → PlacedModule) (n : ℕ) (a b : ModuleNet) : Type 0 where
  pub row : ℕ
  pub col : ℕ
  pub layer : Layer
  pub beside : StandBeside modules n a.which b.which row col
  pub first : (modules a.which).border East (place_in (modules a.which) East row) layer ≡ Some a.net
  pub second : (modules b.which).border West (place_in (modules b.which) West row) layer ≡ Some b.net

-- They do so from one module to the next one to the south.
pub record ModulesMeetSouth (modules : ℕ → PlacedModule) (n : ℕ) (a b : ModuleNet) : Type 0 where
  pub row : ℕ
  pub col : ℕ
  pub layer : Layer
  pub above : StandAbove modules n a.which b.which row col
  pub first : (modules a.which).border South (place_in (modules a.which) South col) layer ≡ Some a.net
  pub second : (modules b.which).border North (place_in (modules b.which) North col) layer ≡ Some b.net

-- Nets of modules that meet, one after another, lead from the first to the second.
pub data ModulesJoin (modules : ℕ → PlacedModule) (n : ℕ) : ModuleNet → ModuleNet → Type 0 where
  same : (a : ModuleNet) → ModulesJoin modules n a a
  east : (a b c : ModuleNet) → ModulesMeetEast modules n a b → ModulesJoin modules n b c → ModulesJoin modules n a c
  west : (a b c : ModuleNet) → ModulesMeetEast modules n b a → ModulesJoin modules n b c → ModulesJoin modules n a c
  south : (a b c : ModuleNet) → ModulesMeetSouth modules n a b → ModulesJoin modules n b c → ModulesJoin modules n a c
  north : (a b c : ModuleNet) → ModulesMeetSouth modules n b a → ModulesJoin modules n b c → ModulesJoin modules n a c

-- Each place of the plan lies in one of the modules. Where one ends and another begins, the same nets of the whole lead out of both, in the
-- same layers. Each net of a module leads to one, the home, of its net of the whole.
pub record AreCovering (whole : Plan) (count vdd : ℕ) (modules : ℕ → PlacedModule) (n : ℕ) : Type 0 where
  pub some_row : 1 ≤ whole.rows
  pub some_col : 1 ≤ whole.cols
  pub placed : (k : ℕ) → k < n → IsPlaced whole count vdd (modules k)
  pub at : ℕ → ℕ → ℕ
  pub known : (row col : ℕ) → row < whole.rows → col < whole.cols → at row col < n
  pub holds : (row col : ℕ) → row < whole.rows → col < whole.cols → Holds (modules (at row col)) row col
  pub once : (k row col : ℕ) → k < n → Holds (modules k) row col → at row col ≡ k
  pub eastward : (k l row col : ℕ) (layer : Layer) → StandBeside modules n k l row col
      → border_in (modules k) East row layer ≡ border_in (modules l) West row layer
  pub southward : (k l row col : ℕ) (layer : Layer) → StandAbove modules n k l row col
      → border_in (modules k) South col layer ≡ border_in (modules l) North col layer
  pub home : ℕ → ModuleNet
  pub home_known : (net : ℕ) → net < count → (home net).which < n
  pub home_below : (net : ℕ) → net < count → (home net).net < (modules (home net).which).count
  pub bears : (net : ℕ) → net < count → whole_net modules (home net) ≡ net
  pub leads : (a : ModuleNet) → a.which < n → a.net < (modules a.which).count → ModulesJoin modules n a (home (whole_net modules a))

-- the net of the whole that a net of a tile is, by the module that holds the tile
abbrev pub name_in : PlacedModule → Piece → ℕ
name_in m p = m.rename (m.name (piece (p.row - m.row) (p.col - m.col) p.net))

abbrev pub whole_name : (ℕ → PlacedModule) → (ℕ → ℕ → ℕ) → Piece → ℕ
whole_name modules at p = name_in (modules (at p.row p.col)) p

-- the devices of the modules, on nets of the whole
abbrev pub devices_in : PlacedModule → List Device
devices_in m = map (renamed_device m.rename) m.devices

abbrev pub whole_devices : (ℕ → PlacedModule) → ℕ → List Device
whole_devices modules n = flat_map (λ k. devices_in (modules k)) (range_with_len 0 n)

abbrev pub whole_border : Plan → (ℕ → PlacedModule) → (ℕ → ℕ → ℕ) → Border
whole_border whole modules at side place layer = border_in (modules (at (row_along whole side place) (col_along whole side place))) side place layer

-- Modules that cover a plan make it a module, and so a plan whose neighbouring tiles meet, with the devices of all of them.
abbrev pub CoveringsAreModules : Type 0
CoveringsAreModules = (whole : Plan) (count vdd : ℕ) (modules : ℕ → PlacedModule) (n : ℕ) (c : AreCovering whole count vdd modules n)
    → IsModule whole count (whole_name modules c.at) vdd (whole_devices modules n) (whole_border whole modules c.at)
