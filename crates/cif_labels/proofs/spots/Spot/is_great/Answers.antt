-- Either number.
use Rattle.std.proofs.Common.{Bool, sym, subst}
use Rattle.std.specs.Bool.{Decides}
use Rattle.geom.specs.CifCodes.{HasGreatNumber}
use Rattle.cif_labels.proofs.Spotting.{great_words}
use Rattle.cif_labels.proofs.spots.Spot.is_great.Goals as goal

pub returns : goal.returns
returns c = λ behind h.
    let P : Bool → Type 0 = λ t. Decides t (HasGreatNumber behind) in
    subst P (sym c.either.ensures)
    (great_words behind c.args.self c.is_great_number.result c.is_great_number-2.result h (c.is_great_number.ensures h.x h.x_is) (c.is_great_number-2.ensures h.y h.y_is))
