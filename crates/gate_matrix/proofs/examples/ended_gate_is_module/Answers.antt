use Rattle.gate_matrix.proofs.EndedGate as gate
use Rattle.gate_matrix.proofs.examples.ended_gate_is_module.Goals as goal

pub returns : goal.returns
returns c = gate.ended_gate c.open_gate_is_module.ensures c.plain_modules.ensures.poly c.coverings_are_modules.ensures
