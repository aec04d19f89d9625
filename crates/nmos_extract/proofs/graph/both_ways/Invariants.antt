-- The links so far, both ways.
use Rattle.std.proofs.Common.{take}
use Rattle.nmos_extract.specs.Graphs.{AreBothWays}
use Rattle.nmos_extract.proofs.graph.both_ways.Given as goal

abbrev pub invariant-loop-l : goal.invariant-loop-l
invariant-loop-l l = AreBothWays (take l.l-index l.links) l.both.items
