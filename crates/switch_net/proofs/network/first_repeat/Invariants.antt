use Rattle.std.proofs.Common.{◌≡◌, [], take, drop}
use Rattle.switch_net.specs.Validity.{first_repeat}
use Rattle.switch_net.proofs.network.first_repeat.Given as goal

abbrev pub invariant-loop-at : goal.invariant-loop-at
invariant-loop-at l = first_repeat (take l.at l.pads) (drop l.at l.pads) ≡ first_repeat [] l.pads
