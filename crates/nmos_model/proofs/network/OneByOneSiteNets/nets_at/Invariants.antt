-- The nets of the sites so far.
use Rattle.std.proofs.Common.{◌≡◌, map, take}
use Rattle.nmos_model.specs.Sites.{site_net}
use Rattle.nmos_model.proofs.network.OneByOneSiteNets.nets_at.Given as goal

abbrev pub invariant-loop-site : goal.invariant-loop-site
invariant-loop-site g l = l.found.items ≡ map (site_net (g.N.NetMap.net l.self.nets.now)) (take l.site-index l.sites)
