-- The nets of the sites so far.
use Rattle.std.proofs.Common.{◌≡◌, map, take}
use Rattle.nmos_model.specs.Sites.{site_net}
use Rattle.nmos_extract.specs.NetTables.{net_of}
use Rattle.nmos_extract.proofs.nets.NetsSiteNets.nets_at.Given as goal

abbrev pub invariant-loop-at : goal.invariant-loop-at
invariant-loop-at l = l.found.items ≡ map (site_net (net_of l.self)) (take l.at l.sites)
