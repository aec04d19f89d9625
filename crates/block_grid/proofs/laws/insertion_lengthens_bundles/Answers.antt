use Rattle.block_grid.proofs.Lengthened.{rows_keep_blocks, cols_keep_blocks, new_rows, new_cols}
use Rattle.block_grid.proofs.laws.insertion_lengthens_bundles.Goals as goal

pub returns : goal.returns
returns c = record { rows_kept = rows_keep_blocks; cols_kept = cols_keep_blocks; rows_new = new_rows; cols_new = new_cols }
