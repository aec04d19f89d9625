-- The regions so far.
use Rattle.nmos_extract.proofs.Judged.{AreRegionsBelow}
use Rattle.nmos_extract.proofs.regions.depletion_of.Given as goal

abbrev pub invariant-loop-at : goal.invariant-loop-at
invariant-loop-at l = AreRegionsBelow l.squares l.implant l.at l.depletion.items
