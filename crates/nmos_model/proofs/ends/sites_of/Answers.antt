-- Each channel is near, and adds its sites.
use Rattle.std.proofs.Common.{[], ◌∷◌, ◌++◌, ◌∙◌, ap}
use Rattle.nmos_model.specs.declared.sites.Site.{Site}
use Rattle.nmos_model.specs.Sites.{first_site, gate_site, second_site}
use Rattle.nmos_model.proofs.AskedNets.{map_more}
use Rattle.nmos_model.proofs.ChannelDevices.{blank}
use Rattle.nmos_model.proofs.Matching.{among_get}
use Rattle.nmos_model.proofs.ends.sites_of.Goals as goal

pub first_site-requires : goal.first_site-requires
first_site-requires c = c.requires _ (among_get c.args.channels.now c.loop-channel.channel-index blank c.loop-channel-test.true)

pub second_site-requires : goal.second_site-requires
second_site-requires c = c.requires _ (among_get c.args.channels.now c.loop-channel.channel-index blank c.loop-channel-test.true)

pub loop-channel-preserved : goal.loop-channel-preserved
loop-channel-preserved c =
    let cs = c.args.channels.now in
    let i = c.loop-channel.channel-index in
    record {
      gates = map_more gate_site cs i blank c.loop-channel.gates.items _ c.loop-channel-test.true
          (c.in_ok-push.ensures.items ∙ ap (λ (v : Site). c.loop-channel.gates.items ++ v ∷ []) c.gate_site.ensures) c.loop-channel.invariant.gates;
      firsts = map_more first_site cs i blank c.loop-channel.firsts.items _ c.loop-channel-test.true
          (c.in_ok-push-2.ensures.items ∙ ap (λ (v : Site). c.loop-channel.firsts.items ++ v ∷ []) c.first_site.ensures) c.loop-channel.invariant.firsts;
      seconds = map_more second_site cs i blank c.loop-channel.seconds.items _ c.loop-channel-test.true
          (c.in_ok-push-3.ensures.items ∙ ap (λ (v : Site). c.loop-channel.seconds.items ++ v ∷ []) c.second_site.ensures) c.loop-channel.invariant.seconds;
    }
