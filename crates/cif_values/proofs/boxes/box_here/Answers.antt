-- The numbers of a box.
use Rattle.std.proofs.Common.{pos, ◌∷◌, ◌++◌, codes, refl}
use Rattle.geom.specs.CifCommands.{Unsigned, point_parts, direction_parts}
use Rattle.cif_values.proofs.Standing.{stands_word}
use Rattle.cif_values.proofs.boxes.box_here.Goals as goal

pub returns-clause-parts : goal.returns-clause-parts
returns-clause-parts c = λ stop along across centre direction h.
    let l = c.behind_letters.ensures.parts stop (codes "B") (Unsigned along ∷ Unsigned across ∷ point_parts centre ++ direction_parts direction) refl h in
    let a = c.number_here-along.ensures.parts stop (Unsigned along) (Unsigned across ∷ point_parts centre ++ direction_parts direction) refl l in
    let b = c.number_here-across.ensures.parts stop (Unsigned across) (point_parts centre ++ direction_parts direction) refl a.1 in
    let p = c.point_here-next.ensures.parts stop centre (direction_parts direction) b.1 in
    record {
      along_is = stands_word c.args.divisor (pos along) c.number_here-along.result.0 a.0;
      across_is = stands_word c.args.divisor (pos across) c.number_here-across.result.0 b.0;
      centre_is = p.0;
      direction_is = c.direction_here.ensures.parts stop direction p.1;
    }
