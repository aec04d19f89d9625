use Rattle.std.proofs.Common.{◌≡◌, [], take, drop}
use Rattle.switch_net.specs.SeenPads.{HasNames, HasNets}
use Rattle.switch_net.specs.Validity.{first_repeat}
use Rattle.switch_net.proofs.double_pad.first_double_pad.Given as goal

abbrev pub invariant-loop-at : goal.invariant-loop-at
invariant-loop-at l =
    (first_repeat (take l.at l.pads) (drop l.at l.pads) ≡ first_repeat [] l.pads)
    × HasNames l.seen.names (take l.at l.pads) × HasNets l.seen.nets (take l.at l.pads)
