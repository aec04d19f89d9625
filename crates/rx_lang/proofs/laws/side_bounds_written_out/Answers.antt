use Rattle.std.proofs.Common.{refl}
use Rattle.rx_lang.proofs.SquareLines.{four_squares}
use Rattle.rx_lang.proofs.laws.side_bounds_written_out.Goals as goal

pub returns : goal.returns
returns c = record { few = refl; four = four_squares }
