-- A part that is drawn as a gate matrix is a module of its own.
use Rattle.std.specs.Prelude.{ℕ, List, None}
use Rattle.geom.specs.declared.layer.Layer.TheVariants as layers
use Rattle.micro_tiles.specs.declared.side.Side.TheVariants.{North, South}
use Rattle.stick_grid.specs.Tilings.{Tiling}
use Rattle.stick_grid.specs.Plans.{Plan, plan_of}
use Rattle.stick_grid.specs.Pieces.{Piece}
use Rattle.stick_grid.specs.Modules.{Border, IsModule}
use Rattle.nor_net.specs.Part.{PartTables, IsPart, part_devices}
use Rattle.gate_matrix.specs.Columns.{column_of}
use Rattle.gate_matrix.specs.Cells.{Matrix}
use Rattle.gate_matrix.specs.Drawn.{part_matrix, part_plan, FitsPart}
use Rattle.gate_matrix.specs.MatrixNets.{row_at, matrix_name, wire_in}

-- the net of the metal of a row
abbrev pub metal_in : Matrix → ℕ → ℕ
metal_in matrix row = (row_at matrix row).metal

-- the net of the part that a net of a tile is
abbrev pub part_name : PartTables → List ℕ → ℕ → ℕ → Piece → ℕ
part_name part at rows cols = matrix_name (metal_in (part_matrix part at rows cols)) at

-- Each net leads out in poly, to the north and to the south in its column; nothing else does.
abbrev pub part_border : List ℕ → Border
part_border at North col layers.Poly = wire_in (column_of at col)
part_border at South col layers.Poly = wire_in (column_of at col)
part_border at _ _ _ = None

-- The nets, the devices and the ports of the plan are the part's, which is drawn in so many rows and columns.
abbrev pub IsPartPlan : PartTables → List ℕ → ℕ → ℕ → Plan → Type 0
IsPartPlan part at rows cols plan = IsModule plan part.nets (part_name part at rows cols) part.vdd (part_devices part) (part_border at)

abbrev pub PartsAreModules : Type 0
PartsAreModules = (part : PartTables) (at : List ℕ) (rows cols : ℕ) → IsPart part → FitsPart part at rows cols
    → IsPartPlan part at rows cols (part_plan part at rows cols)

-- So are those of the grid.
abbrev pub IsPartGrid : PartTables → List ℕ → ℕ → ℕ → Tiling → Type 0
IsPartGrid part at rows cols grid = IsPartPlan part at rows cols (plan_of grid)
