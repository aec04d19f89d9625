-- The sides of a polygon, the last one among them.
use Rattle.std.proofs.Common.{◌||◌, not, nat_lt, Bool, Option, ◌∙◌, ap, subst}
use Rattle.cif_codes.specs.declared.points.Ends.{Ends}
use Rattle.cif_codes.specs.Corners.{AreEnds}
use Rattle.cif_codes.proofs.PointCodes.{odd_ends, fewer}
use Rattle.cif_codes.proofs.points.Corners.is_odd.Goals as goal

pub returns-in-Some : goal.returns-in-Some
returns-in-Some c = λ points h.
    let E : Option Ends → Type 0 = λ v. AreEnds points v in
    let o = c.either-oblique.ensures ∙ ap (λ (t : Bool). c.args.self.oblique || not t) c.is_axis_side-straight.ensures in
    c.either.ensures ∙ (ap (λ (t : Bool). nat_lt c.args.self.count 4 || t) o
    ∙ odd_ends points c.args.self.count c.in-Some.ends.first c.in-Some.ends.last c.args.self.oblique (nat_lt c.args.self.count 4) h.count (subst E c.in-Some.is h.ends)
    h.oblique (fewer c.args.self.count))
