-- The number and the scale.
use Rattle.std.proofs.Common.{pos, ◌∷◌, codes, refl}
use Rattle.geom.specs.CifCommands.{Unsigned, scale_parts}
use Rattle.cif_values.proofs.Standing.{stands_word}
use Rattle.cif_values.proofs.openings.opening_here.Goals as goal

pub returns : goal.returns
returns c = λ stop n scale h.
    let l = c.behind_letters.ensures.parts stop (codes "DS") (Unsigned n ∷ scale_parts scale) refl h in
    let x = c.number_here-number.ensures.parts stop (Unsigned n) (scale_parts scale) refl l in
    record { number_is = stands_word c.args.divisor (pos n) c.number_here-number.result.0 x.0; scale_is = c.scale_here.ensures stop scale x.1 }
