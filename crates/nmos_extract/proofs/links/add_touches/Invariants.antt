-- The links of the touches so far.
use Rattle.std.proofs.Common.{take}
use Rattle.nmos_extract.proofs.Adding.{AddsOf}
use Rattle.nmos_extract.proofs.links.add_touches.Given as goal

abbrev pub invariant-loop-touch : goal.invariant-loop-touch
invariant-loop-touch l = AddsOf (take l.touch-index l.touch-items) l.first l.initial.links.items l.links.items
