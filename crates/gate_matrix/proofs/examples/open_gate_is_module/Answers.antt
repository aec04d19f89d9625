use Rattle.gate_matrix.specs.Examples.{open_gate}
use Rattle.gate_matrix.specs.Modules.{metal_in}
use Rattle.gate_matrix.proofs.OpenGate.{open_nets}
use Rattle.gate_matrix.proofs.examples.open_gate_is_module.Goals as goal

pub returns : goal.returns
returns c = c.matrices_are_modules.ensures open_gate (metal_in open_gate) 4 0 open_nets
