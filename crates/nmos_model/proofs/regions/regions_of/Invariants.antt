use Rattle.std.proofs.Common.{take}
use Rattle.nmos_model.specs.Lists.{Matched}
use Rattle.nmos_model.specs.Regions.{IsRegion}
use Rattle.nmos_model.proofs.regions.regions_of.Given as goal

abbrev pub invariant-loop-first : goal.invariant-loop-first
invariant-loop-first l = Matched (IsRegion l.squares) (take l.first-index l.firsts) l.regions.items
