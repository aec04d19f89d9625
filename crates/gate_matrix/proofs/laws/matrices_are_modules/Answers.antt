use Rattle.gate_matrix.proofs.MatrixModules as modules
use Rattle.gate_matrix.proofs.laws.matrices_are_modules.Goals as goal

pub returns : goal.returns
returns c = modules.matrices_are_modules c.matrices_are_plans.ensures c.names_are_nets.ensures.paths
