use Rattle.gate_matrix.proofs.Chains.{long_rows}
use Rattle.gate_matrix.proofs.laws.parts_fill_rows.Goals as goal

pub returns : goal.returns
returns c part at rows cols fits = long_rows part rows fits.rows_fit
