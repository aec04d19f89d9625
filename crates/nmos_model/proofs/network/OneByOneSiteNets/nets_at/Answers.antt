-- Each site adds its net.
use Rattle.std.proofs.Common.{[], ◌∷◌, ◌++◌, ◌∙◌, ap, Option, ℕ, pos}
use Rattle.geom.specs.declared.layer.Layer.TheVariants.{Diffusion}
use Rattle.nmos_model.specs.declared.sites.Site.{Site}
use Rattle.nmos_model.specs.Sites.{site_net}
use Rattle.nmos_model.proofs.AskedNets.{map_more}
use Rattle.nmos_model.proofs.network.OneByOneSiteNets.nets_at.Goals as goal

pub loop-site-preserved : goal.loop-site-preserved
loop-site-preserved g c =
    let net = g.N.NetMap.net c.args.self.now.nets.now in
    let blank : Site = record { layer = Diffusion; x = pos 0; y = pos 0 } in
    map_more (site_net net) c.args.sites.now c.loop-site.site-index blank c.loop-site.found.items _ c.loop-site-test.true
    (c.in_ok-push.ensures.items ∙ ap (λ (v : Option ℕ). c.loop-site.found.items ++ v ∷ []) c.net_at.ensures) c.loop-site.invariant
