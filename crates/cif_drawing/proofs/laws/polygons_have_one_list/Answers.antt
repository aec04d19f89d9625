-- Both lists are that of the rows.
use Rattle.std.proofs.Common.{◌∙◌, sym}
use Rattle.cif_drawing.proofs.Polygons.{boxes_are}
use Rattle.cif_drawing.proofs.laws.polygons_have_one_list.Goals as goal

pub returns : goal.returns
returns c = λ layer points boxes others a b. boxes_are layer points boxes a ∙ sym (boxes_are layer points others b)
