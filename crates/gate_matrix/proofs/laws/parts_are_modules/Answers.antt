use Rattle.gate_matrix.proofs.PartModules as modules
use Rattle.gate_matrix.proofs.laws.parts_are_modules.Goals as goal

pub returns : goal.returns
returns c = modules.parts_are_modules c.matrices_are_modules.ensures
