-- A gate matrix with an open row, alone and above a row of poly.
use Rattle.std.specs.Prelude.{◌≡◌, ℕ, nat_lt, Bool, true, false, if◌then◌else◌, List, [], ◌∷◌, Some, None, is_some}
use Rattle.geom.specs.declared.layer.Layer.TheVariants as layers
use Rattle.micro_tiles.specs.declared.side.Side.TheVariants.{East, South}
use Rattle.micro_tiles.specs.Basics.{number_named}
use Rattle.switch_net.specs.declared.network.Device.{Device}
use Rattle.switch_net.specs.declared.network.Device.TheVariants as devices
use Rattle.nor_net.specs.SwitchForm.{at}
use Rattle.stick_grid.specs.Plans.{Plan}
use Rattle.stick_grid.specs.Pieces.{Piece}
use Rattle.stick_grid.specs.Modules.{Border, IsModule}
use Rattle.stick_grid.specs.PlainModules.{poly_tile}
use Rattle.gate_matrix.specs.declared.row.RowKind.TheVariants.{Start, Vdd, Load, Out, Middle, Bottom}
use Rattle.gate_matrix.specs.Rows.{MatrixRow, closed_row}
use Rattle.gate_matrix.specs.Columns.{column_of}
use Rattle.gate_matrix.specs.Cells.{Matrix, matrix_plan, matrix_tile}
use Rattle.gate_matrix.specs.MatrixNets.{matrix_name, matrix_border, wire_in}
use Rattle.gate_matrix.specs.Modules.{metal_in}

-- the row of an output that meets no net with a column
abbrev pub open_output : ℕ → List ℕ → MatrixRow
open_output net gated = record { kind = Out; metal = net; gated = gated; onward = true }

-- A gate whose input is net 1 and whose output, net 3, goes on to the east; nets 0 and 2 are the supplies. The nets begin in the first row.
abbrev pub open_gate : Matrix
open_gate = record {
  rows = closed_row Start 0 [] ∷ closed_row Vdd 0 [] ∷ closed_row Load 0 [] ∷ open_output 3 (1 ∷ []) ∷ closed_row Middle 0 (1 ∷ [])
      ∷ closed_row Bottom 2 (1 ∷ []) ∷ [];
  at = 2 ∷ 4 ∷ 6 ∷ [];
  cols = 9;
}

abbrev pub open_gate_devices : List Device
open_gate_devices = devices.Load (at 3) ∷ devices.Pass (at 1) (at 3) (at 2) ∷ []

-- It is a module of four nets, with a load and a pass device.
abbrev pub OpenGateIsModule : Type 0
OpenGateIsModule =
    IsModule (matrix_plan open_gate) 4 (matrix_name (metal_in open_gate) open_gate.at) 0 open_gate_devices
    (matrix_border open_gate (metal_in open_gate))

-- ---- the same above a row of poly

abbrev pub has_wire : ℕ → Bool
has_wire col = is_some (wire_in (column_of open_gate.at col))

-- the row in which the poly of its nets ends
abbrev pub ends_plan : Plan
ends_plan = record { rows = 1; cols = 9; tile = λ row col. number_named (poly_tile (has_wire col) false) }

abbrev pub ended_tile : ℕ → ℕ → ℕ
ended_tile row col = if nat_lt row 6 then matrix_tile open_gate row col else number_named (poly_tile (has_wire col) false)

abbrev pub ended_plan : Plan
ended_plan = record { rows = 7; cols = 9; tile = ended_tile }

-- Together they are a module of the same devices, of which one net alone leads out.
pub record EndedGateIsModule : Type 0 where
  pub name : Piece → ℕ
  pub border : Border
  pub is_module : IsModule ended_plan 4 name 0 open_gate_devices border
  pub out : border East 3 layers.Poly ≡ Some 3
  pub closed : (col : ℕ) → border South col layers.Poly ≡ None
