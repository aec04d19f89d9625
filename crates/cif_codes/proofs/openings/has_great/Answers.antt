-- The numbers of a definition.
use Rattle.std.proofs.Common.{◌||◌, Bool, Option, flat_map, sym, ◌∙◌, ap, subst}
use Rattle.std.specs.Bool.{Decides}
use Rattle.geom.specs.declared.point.Point.{Point}
use Rattle.geom.specs.CifCommands.{Opens, command_parts}
use Rattle.geom.specs.CifCodes.{SomeIs, IsTooGreat, part_numbers}
use Rattle.cif_values.specs.Values.{ScaleStands}
use Rattle.cif_codes.proofs.OpeningCodes.{great_some, great_none}
use Rattle.cif_codes.proofs.openings.has_great.Goals as goal

pub returns-in-Some : goal.returns-in-Some
returns-in-Some c = λ m n scale o.
    let S : Option Point → Type 0 = λ v. ScaleStands m scale v in
    let Q : Bool → Type 0 = λ v. Decides v (SomeIs IsTooGreat (flat_map part_numbers (command_parts (Opens n scale)))) in
    let e = c.either.ensures ∙ ap (λ (t : Bool). c.is_great-great.result || t) c.either-either_great.ensures in
    subst Q (sym e)
    (great_some m n scale c.in-Some.scale c.args.opening.number c.is_great-great.result c.is_great-times.result c.is_great-per.result o.number_is
    (subst S c.in-Some.is o.scale_is) c.is_great-great.ensures c.is_great-times.ensures c.is_great-per.ensures)

pub returns-in-None : goal.returns-in-None
returns-in-None c = λ m n scale o.
    let S : Option Point → Type 0 = λ v. ScaleStands m scale v in
    great_none m n scale c.args.opening.number c.is_great-great.result o.number_is (subst S c.in-None.is o.scale_is) c.is_great-great.ensures
