use Rattle.std.proofs.Common.{length, ◌-◌}
use Rattle.rx_syntax.proofs.Following.{Followed}
use Rattle.rx_syntax.proofs.shape.check_shape.Given as goal

abbrev pub invariant-loop-at : goal.invariant-loop-at
invariant-loop-at l = Followed l.version l.text l.at l.state

abbrev pub decreases-loop-at : goal.decreases-loop-at
decreases-loop-at l = length l.text - l.at
