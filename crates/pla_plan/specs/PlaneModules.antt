-- The network of an array: its terms, its sums and its part.
use Rattle.std.specs.Prelude.{ℕ, ◌+◌, List, ◌∷◌, ◌++◌, length, flat_map, None}
use Rattle.geom.specs.declared.layer.Layer.TheVariants as layers
use Rattle.micro_tiles.specs.declared.side.Side.TheVariants.{South}
use Rattle.switch_net.specs.declared.network.Device.{Device}
use Rattle.switch_net.specs.declared.network.Device.TheVariants.{Load}
use Rattle.stick_grid.specs.Pieces.{Piece}
use Rattle.stick_grid.specs.Modules.{Border, IsModule}
use Rattle.nor_net.specs.Netlist.{NorGate}
use Rattle.nor_net.specs.SwitchForm.{at, pull_downs}
use Rattle.nor_net.specs.Part.{part_devices}
use Rattle.gate_matrix.specs.Columns.{column_of}
use Rattle.gate_matrix.specs.MatrixNets.{wire_in}
use Rattle.pla_plan.specs.Planes.{PlaneTables, planes_plan}
use Rattle.pla_plan.specs.Fits.{IsArray}

-- a gate with its load
abbrev pub loaded_gate : ℕ → NorGate → List Device
loaded_gate gnd gate = Load (at gate.out) ∷ pull_downs gnd gate

abbrev pub planes_devices : PlaneTables → List Device
planes_devices planes =
    flat_map (loaded_gate planes.part.gnd) planes.terms ++ flat_map (loaded_gate planes.part.gnd) planes.sums
    ++ part_devices planes.part

-- Each net of the part leads out in poly, to the south in its column; nothing else does.
abbrev pub planes_border : List ℕ → Border
planes_border at South col layers.Poly = wire_in (column_of at col)
planes_border at _ _ _ = None

-- By these names of its nets the plan is a module of the part's nets and those of the terms.
pub record IsArrayModule (planes : PlaneTables) : Type 0 where
  pub name : Piece → ℕ
  pub is_module : IsModule (planes_plan planes) (planes.part.nets + length planes.terms) name planes.part.vdd (planes_devices planes)
      (planes_border planes.at)

-- The tiles of an array make its network: each term and each sum is a gate with its load, and the part has its nets, its devices and
-- its ports.
abbrev pub PlanesAreModules : Type 0
PlanesAreModules = (planes : PlaneTables) → IsArray planes → IsArrayModule planes
