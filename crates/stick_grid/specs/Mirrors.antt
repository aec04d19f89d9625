-- Plans laid on their side: their mirror images over the diagonal from north-west to south-east.
use Rattle.std.specs.Prelude.{ℕ, ◌≤◌, List}
use Rattle.micro_tiles.specs.Sides.{mirrored_side}
use Rattle.micro_tiles.specs.Table.{transpose_of}
use Rattle.switch_net.specs.declared.network.Device.{Device}
use Rattle.stick_grid.specs.Plans.{Plan}
use Rattle.stick_grid.specs.Pieces.{Piece}
use Rattle.stick_grid.specs.Modules.{Border, IsModule}

abbrev pub mirrored_plan : Plan → Plan
mirrored_plan plan = record { rows = plan.cols; cols = plan.rows; tile = λ row col. transpose_of (plan.tile col row) }

-- where the mirror takes a net of a tile
abbrev pub mirrored_piece : Piece → Piece
mirrored_piece p = record { row = p.col; col = p.row; net = p.net }

abbrev pub mirrored_border : Border → Border
mirrored_border border side = border (mirrored_side side)

-- The mirror image of a module is a module of the same devices; its nets keep their names.
abbrev pub MirrorsAreModules : Type 0
MirrorsAreModules = (plan : Plan) (count : ℕ) (name : Piece → ℕ) (vdd : ℕ) (devices : List Device) (border : Border) → 1 ≤ plan.rows → 1 ≤ plan.cols
    → IsModule plan count name vdd devices border
    → IsModule (mirrored_plan plan) count (λ p. name (mirrored_piece p)) vdd devices (mirrored_border border)
