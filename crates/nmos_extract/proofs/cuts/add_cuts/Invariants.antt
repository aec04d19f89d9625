-- The links of the places so far.
use Rattle.nmos_extract.proofs.Adding.{AddsBelow}
use Rattle.nmos_extract.proofs.cuts.add_cuts.Given as goal

abbrev pub invariant-loop-at : goal.invariant-loop-at
invariant-loop-at l = AddsBelow l.places l.one l.other l.first l.at l.initial.links.items l.links.items
