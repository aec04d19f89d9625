-- Both coordinates.
use Rattle.std.proofs.Common.{[], ◌∷◌, pos, ◌*ℤ◌}
use Rattle.cif_labels.proofs.Spotting.{stands_word}
use Rattle.cif_labels.proofs.spots.is_off.Goals as goal

pub returns : goal.returns
returns c = λ x y s t.
    let one = c.with_coordinate-across.ensures [] [] x (c.none.ensures (record { times = 1; per = 1 })) (stands_word x c.args.point.x c.requires.x s) in
    (c.with_coordinate.ensures (x ∷ []) ((pos 2 *ℤ x) ∷ []) y one (stands_word y c.args.point.y c.requires.y t)).off
