-- The channels so far.
use Rattle.nmos_extract.proofs.Judged.{AreChannelsBelow}
use Rattle.nmos_extract.proofs.channels.with_terminals.Given as goal

abbrev pub invariant-loop-at : goal.invariant-loop-at
invariant-loop-at l = AreChannelsBelow l.boxes l.depletion l.diffusion l.terminals l.at l.channels.items
