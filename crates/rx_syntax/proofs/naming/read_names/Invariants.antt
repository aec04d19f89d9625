use Rattle.std.proofs.Common.{length, ◌-◌}
use Rattle.rx_syntax.proofs.NamesFollowed.{Named}
use Rattle.rx_syntax.proofs.naming.read_names.Given as goal

abbrev pub invariant-loop-at : goal.invariant-loop-at
invariant-loop-at l = Named l.version l.text l.most_leaves l.at l.state l.reading

abbrev pub decreases-loop-at : goal.decreases-loop-at
decreases-loop-at l = length l.text - l.at
