-- The row and the column are of the plane.
use Rattle.std.proofs.Common.{◌+◌, length, ap, ◌∙◌, arith}
use Rattle.gate_matrix.specs.Cells.{Matrix}
use Rattle.pla_plan.specs.Planes.{plane_rows}
use Rattle.pla_plan.proofs.Heights.{long_left, long_sums}
use Rattle.pla_plan.proofs.pla.Pla.plane_tile.Goals as goal

pub tile-requires-clause-is_row : goal.tile-requires-clause-is_row
tile-requires-clause-is_row c =
    let long = ap (λ (m : Matrix). length m.rows) c.self.invariant.left_is ∙ long_left c.self.inside.planes in
    let same = ap plane_rows c.self.view_is in
    omega arith

pub tile-requires-then-col-from-2-clause-is_row : goal.tile-requires-then-col-from-2-clause-is_row
tile-requires-then-col-from-2-clause-is_row c =
    let planes = c.self.inside.planes in
    let long = ap (λ (m : Matrix). length m.rows) c.self.invariant.right_is ∙ long_sums planes (length planes.terms + 2) planes.sums in
    let sums = ap length c.sums.ensures.gates in
    omega arith
