use Rattle.std.proofs.Common.{◌-◌, ◌*◌, ap, Some, ◌∙◌}
use Rattle.nmos_model.specs.Conductors.{Squares, link_to}
use Rattle.nmos_model.proofs.conductors.ConductorsGraph.link.Goals as goal

-- src/conductors.rt:139:5
pub returns-in-2 : goal.returns-in-2
returns-in-2 c =
    let width = ap (λ (v : Squares). v.width) c.self.view_is in
    let target = c.saturating_sub-in-2.ensures ∙ ap (λ w. c.args.node - 3 * w) width in
    rw c.in-2.is (ap Some (c.link_to-in-2.ensures ∙ ap (link_to c.args.self.now) target))
