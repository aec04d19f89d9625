-- A point behind others.
use Rattle.std.proofs.Common.{◌||◌, not, Bool, ◌∙◌, ap}
use Rattle.cif_codes.proofs.PointCodes.{ends_push}
use Rattle.cif_codes.proofs.points.Corners.joined.Goals as goal

pub returns-in-Some : goal.returns-in-Some
returns-in-Some c = λ points e o.
    let r = ends_push points c.args.self.ends c.args.self.oblique c.args.point c.in-Some.ends.first c.in-Some.ends.last c.in-Some.is e o in
    (r.0, c.either-oblique.ensures ∙ (ap (λ (t : Bool). c.args.self.oblique || not t) c.is_axis_side-straight.ensures ∙ r.1))
