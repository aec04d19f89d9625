use Rattle.pla_plan.proofs.ArrayFits.{is_array}
use Rattle.pla_plan.proofs.array_laws.automata_make_arrays.Goals as goal

pub returns : goal.returns
returns c = is_array
