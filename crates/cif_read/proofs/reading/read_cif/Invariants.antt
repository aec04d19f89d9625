-- What is left of the text draws or is refused as the whole text is.
use Rattle.std.proofs.Common.{◌-◌, length}
use Rattle.cif_read.specs.Marks.{IsMark}
use Rattle.cif_read.specs.States.{state_of, IsReader}
use Rattle.cif_read.proofs.Stepping.{IsBehind}
use Rattle.cif_read.proofs.reading.read_cif.Given as goal

abbrev pub invariant-loop-reader : goal.invariant-loop-reader
invariant-loop-reader l = IsMark l.text l.mark × IsReader l.reader × IsBehind l.text l.mark.at (state_of l.reader)

abbrev pub decreases-loop-reader : goal.decreases-loop-reader
decreases-loop-reader l = length l.text - l.mark.at
