use Rattle.gate_matrix.proofs.FilledColumns.{within}
use Rattle.gate_matrix.proofs.ColumnsOfNets.{wire_of, of_wire}
use Rattle.gate_matrix.proofs.laws.columns_are_of_nets.Goals as goal

pub returns : goal.returns
returns c at cols wires = record {
  inside = λ net few. within at cols 2 net wires few;
  wire = λ net few. wire_of at cols net wires few;
  net_of = λ net col is. of_wire at net col is;
}
