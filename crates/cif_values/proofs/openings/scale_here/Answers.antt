-- The two numbers of a scale.
use Rattle.std.proofs.Common.{pos, [], ◌∷◌, Some, None, refl}
use Rattle.geom.specs.CifCommands.{Unsigned}
use Rattle.cif_values.proofs.Standing.{stands_word}
use Rattle.cif_values.proofs.openings.scale_here.Goals as goal

pub returns-in-Number : goal.returns-in-Number
returns-in-Number c = λ stop scale h. by c stop scale h
  where
    by : goal.returns-in-Number
    by c stop None h = absurd (c.in-Number.ensures.next stop [] h)
    by c stop (Some scale) h =
        let x = c.number_here-x.ensures.parts stop (Unsigned scale.times) (Unsigned scale.per ∷ []) refl h in
        let y = c.number_here-y.ensures.parts stop (Unsigned scale.per) [] refl x.1 in
        (stands_word c.args.divisor (pos scale.times) c.number_here-x.result.0 x.0, stands_word c.args.divisor (pos scale.per) c.number_here-y.result.0 y.0)
