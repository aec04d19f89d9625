-- A closed definition has the number where an index is found.
use Rattle.std.proofs.Common.{◌≡◌, is_some, ◌∙◌, subst}
use Rattle.cif_drawing.specs.Parts.{DrawingParts, part_of}
use Rattle.cif_drawing.proofs.Numbers.{is_found}
use Rattle.cif_drawing.proofs.building.DrawingBuilder.is_defined.Goals as goal

pub returns : goal.returns
returns c =
    let P : DrawingParts → Type 0 = λ v. c.is_some.result ≡ is_some (part_of v c.args.number) in
    subst P c.self.view_is (c.is_some.ensures ∙ is_found c.self.inside.symbols c.args.number c.index_of.result c.self.invariant.drawing.symbols c.index_of.ensures)
