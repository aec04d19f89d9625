-- The transformations by their kinds.
use Rattle.std.proofs.Common.{◌||◌, not, Bool, pos, ◌*ℤ◌, [], ◌∷◌, ◌++◌, flat_map, ◌∙◌, ap, subst}
use Rattle.geom.specs.CifCodes.{move_distances}
use Rattle.cif_values.specs.declared.moves.Move.{Move}
use Rattle.cif_values.specs.Values.{MoveStands}
use Rattle.cif_codes.specs.Scales.{ratio, grid_of}
use Rattle.cif_codes.proofs.Checking.{stands_word}
use Rattle.cif_codes.proofs.MoveCodes.{numbers_of, move_translates, move_mirrors_x, move_mirrors_y, move_rotates}
use Rattle.cif_codes.proofs.calls.MoveChecks.with_move.Goals as goal

pub returns-in-Translates : goal.returns-in-Translates
returns-in-Translates c = λ moves move h s.
    let M : Move → Type 0 = λ v. MoveStands (grid_of c.args.scale) move v in
    move_translates (ratio c.args.scale) (grid_of c.args.scale) moves move c.in-Translates.x c.in-Translates.y c.args.self c.with_coordinate-checks.result
    (subst M c.in-Translates.is s) h
    (λ x y u v. c.with_coordinate-checks.ensures (numbers_of moves ++ x ∷ []) (flat_map move_distances moves ++ (pos 2 *ℤ x) ∷ []) y
    (c.with_coordinate-first.ensures (numbers_of moves) (flat_map move_distances moves) x h.numbers (stands_word (grid_of c.args.scale) x c.in-Translates.x u)) (stands_word (grid_of c.args.scale) y c.in-Translates.y v))

pub returns-in-MirrorsX : goal.returns-in-MirrorsX
returns-in-MirrorsX c = λ moves move h s.
    let M : Move → Type 0 = λ v. MoveStands (grid_of c.args.scale) move v in
    move_mirrors_x (ratio c.args.scale) (grid_of c.args.scale) moves move c.args.self (subst M c.in-MirrorsX.is s) h

pub returns-in-MirrorsY : goal.returns-in-MirrorsY
returns-in-MirrorsY c = λ moves move h s.
    let M : Move → Type 0 = λ v. MoveStands (grid_of c.args.scale) move v in
    move_mirrors_y (ratio c.args.scale) (grid_of c.args.scale) moves move c.args.self (subst M c.in-MirrorsY.is s) h

pub returns-in-Rotates : goal.returns-in-Rotates
returns-in-Rotates c = λ moves move h s.
    let M : Move → Type 0 = λ v. MoveStands (grid_of c.args.scale) move v in
    move_rotates (ratio c.args.scale) (grid_of c.args.scale) moves move c.in-Rotates.a c.in-Rotates.b c.args.self c.with_number-checks.result c.either-oblique.result
    (c.either-oblique.ensures ∙ ap (λ (t : Bool). c.args.self.oblique || not t) c.is_along_axis-along.ensures)
    (subst M c.in-Rotates.is s) h
    (λ x y u v. c.with_number-checks.ensures (numbers_of moves ++ x ∷ []) (flat_map move_distances moves) y
    (c.with_number-first.ensures (numbers_of moves) (flat_map move_distances moves) x h.numbers (stands_word (grid_of c.args.scale) x c.in-Rotates.a u)) (stands_word (grid_of c.args.scale) y c.in-Rotates.b v))
