-- The sentence is followed up to a place.
use Rattle.std.proofs.Common.{◌-◌, length}
use Rattle.cif_syntax.proofs.Following.{Followed}
use Rattle.cif_syntax.proofs.sentence.sentence_end.Given as goal

abbrev pub invariant-loop-run : goal.invariant-loop-run
invariant-loop-run l = Followed l.text l.fn.from l.run

abbrev pub decreases-loop-run : goal.decreases-loop-run
decreases-loop-run l = length l.text - l.run.at
