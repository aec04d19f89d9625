use Rattle.std.proofs.Common.{take}
use Rattle.nmos_model.specs.Lists.{Matched}
use Rattle.nmos_model.specs.Regions.{IsChannelOf}
use Rattle.nmos_model.proofs.terminals.with_terminals.Given as goal

abbrev pub invariant-loop-region : goal.invariant-loop-region
invariant-loop-region l = Matched (IsChannelOf l.squares) (take l.region-index l.regions) l.channels.items
