-- Two coordinates.
use Rattle.std.proofs.Common.{◌∷◌, refl}
use Rattle.geom.specs.CifCommands.{Signed}
use Rattle.cif_values.proofs.Standing.{stands_word}
use Rattle.cif_values.proofs.points.point_here.Goals as goal

pub returns-clause-parts : goal.returns-clause-parts
returns-clause-parts c = λ stop point parts h.
    let x = c.number_here-x.ensures.parts stop (Signed point.x) (Signed point.y ∷ parts) refl h in
    let y = c.number_here-y.ensures.parts stop (Signed point.y) parts refl x.1 in
    ((stands_word c.args.divisor point.x c.number_here-x.result.0 x.0, stands_word c.args.divisor point.y c.number_here-y.result.0 y.0), y.1)
