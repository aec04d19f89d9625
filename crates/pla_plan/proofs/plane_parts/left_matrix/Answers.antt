use Rattle.std.proofs.Common.{arith}
use Rattle.pla_plan.proofs.Wires.{left_wires}
use Rattle.pla_plan.proofs.plane_parts.left_matrix.Goals as goal

pub new-requires : goal.new-requires
new-requires c = rw (c.in_ok-at.ensures) (left_wires _ _ (omega arith))
