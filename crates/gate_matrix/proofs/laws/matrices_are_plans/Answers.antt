use Rattle.gate_matrix.proofs.MatrixPlans as plans
use Rattle.gate_matrix.proofs.laws.matrices_are_plans.Goals as goal

pub returns : goal.returns
returns c = plans.matrices_are_plans c.basic_tiles_are_named.ensures
