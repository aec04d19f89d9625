-- The transistors of the boxes so far.
use Rattle.nmos_extract.proofs.Filled.{Filled}
use Rattle.nmos_extract.proofs.BoxTransistors.{IsMade}
use Rattle.nmos_extract.proofs.transistors.transistors_of.Given as goal

abbrev pub invariant-loop-at : goal.invariant-loop-at
invariant-loop-at l = Filled (IsMade l.squares l.alone l.covers l.held l.free) l.at l.found.items
