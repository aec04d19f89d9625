-- The nets of the channels so far.
use Rattle.std.proofs.Common.{take}
use Rattle.nmos_model.specs.Lists.{Matched}
use Rattle.nmos_model.specs.Sites.{HasEnds}
use Rattle.nmos_model.proofs.ends.ends_of.Given as goal

abbrev pub invariant-loop-at : goal.invariant-loop-at
invariant-loop-at g l = Matched (HasEnds (g.N.SiteNets.net l.nets)) (take l.at l.channels) l.ends.items
