use Rattle.block_grid.specs.Changes.{rows_shifted, cols_shifted}
use Rattle.block_grid.proofs.Moves.{stands_moved}
use Rattle.block_grid.proofs.laws.insertion_moves_nodes.Goals as goal

pub returns : goal.returns
returns c = record {
  rows = λ s at by v. stands_moved (rows_shifted at by) s.nodes v;
  cols = λ s at by v. stands_moved (cols_shifted at by) s.nodes v;
}
