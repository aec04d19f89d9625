use Rattle.std.proofs.Common.{◌-◌, ap, Some, ◌∙◌}
use Rattle.nmos_model.specs.Regions.{Raster, channel_link}
use Rattle.nmos_model.proofs.channel_squares.ChannelSquaresGraph.link.Goals as goal

pub returns-in-2 : goal.returns-in-2
returns-in-2 c =
    let width = ap (λ (v : Raster). v.frame.width) c.self.view_is in
    let target = c.saturating_sub-in-2.ensures ∙ ap (λ w. c.args.node - w) width in
    rw c.in-2.is (ap Some (c.link_to-in-2.ensures ∙ ap (channel_link c.args.self.now) target))
