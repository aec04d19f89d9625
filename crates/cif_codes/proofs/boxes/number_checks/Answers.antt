-- One number after another.
use Rattle.std.proofs.Common.{pos, [], ◌∷◌, Option, subst}
use Rattle.geom.specs.declared.point.Point.{Point}
use Rattle.cif_values.specs.Values.{DirectionStands}
use Rattle.cif_codes.specs.Scales.{ratio, grid_of}
use Rattle.cif_codes.proofs.Checking.{stands_word}
use Rattle.cif_codes.proofs.BoxCodes.{four_numbers, numbers_some, numbers_none}
use Rattle.cif_codes.proofs.boxes.number_checks.Goals as goal

pub returns-in-Some : goal.returns-in-Some
returns-in-Some c = λ along across centre direction st.
    let D : Option Point → Type 0 = λ v. DirectionStands (grid_of c.args.scale) direction v in
    let m = grid_of c.args.scale in
    let none = c.none-none.ensures (ratio c.args.scale) in
    let one = c.with_number-one.ensures [] [] (pos along) none (stands_word m (pos along) c.args.sides.along st.along_is) in
    let two = c.with_number-two.ensures (pos along ∷ []) [] (pos across) one (stands_word m (pos across) c.args.sides.across st.across_is) in
    let three = c.with_number-three.ensures (pos along ∷ pos across ∷ []) [] centre.x two (stands_word m centre.x c.args.sides.centre.x st.centre_is.0) in
    let four = c.with_number-four.ensures (pos along ∷ pos across ∷ centre.x ∷ []) [] centre.y three (stands_word m centre.y c.args.sides.centre.y st.centre_is.1) in
    numbers_some (ratio c.args.scale) (grid_of c.args.scale) along across centre direction c.in-Some.d c.with_number.result (subst D c.in-Some.is st.direction_is)
    (λ p s. c.with_number.ensures (four_numbers along across centre (p.x ∷ [])) [] p.y
    (c.with_number-five.ensures (four_numbers along across centre []) [] p.x four (stands_word m p.x c.in-Some.d.x s.0)) (stands_word m p.y c.in-Some.d.y s.1))

pub returns-in-None : goal.returns-in-None
returns-in-None c = λ along across centre direction st.
    let D : Option Point → Type 0 = λ v. DirectionStands (grid_of c.args.scale) direction v in
    let m = grid_of c.args.scale in
    let none = c.none-none.ensures (ratio c.args.scale) in
    let one = c.with_number-one.ensures [] [] (pos along) none (stands_word m (pos along) c.args.sides.along st.along_is) in
    let two = c.with_number-two.ensures (pos along ∷ []) [] (pos across) one (stands_word m (pos across) c.args.sides.across st.across_is) in
    let three = c.with_number-three.ensures (pos along ∷ pos across ∷ []) [] centre.x two (stands_word m centre.x c.args.sides.centre.x st.centre_is.0) in
    let four = c.with_number-four.ensures (pos along ∷ pos across ∷ centre.x ∷ []) [] centre.y three (stands_word m centre.y c.args.sides.centre.y st.centre_is.1) in
    numbers_none (ratio c.args.scale) (grid_of c.args.scale) along across centre direction c.with_number-four.result (subst D c.in-None.is st.direction_is) four
