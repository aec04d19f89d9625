use Rattle.std.proofs.Common.{length, ap, arith}
use Rattle.pla_plan.proofs.Wires.{right_wires}
use Rattle.pla_plan.proofs.plane_parts.right_matrix.Goals as goal

pub new-requires : goal.new-requires
new-requires c = rw (c.in_ok-at.ensures) (right_wires _ _ (omega (arith, ap length c.terms.ensures.gates)))
