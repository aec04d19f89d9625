-- The numbers, and the edges by the direction.
use Rattle.std.proofs.Common.{◌≡◌, true, false, ℤ, pos, List, flat_map, refl, sym, ◌∙◌, subst, arith}
use Rattle.std.proofs.lemmas.Bool.{not-true, not-false}
use Rattle.geom.specs.CifCommands.{DrawsBox, command_parts}
use Rattle.geom.specs.CifDrawings.{direction_or_east}
use Rattle.geom.specs.CifShapes.{is_zero, is_along_axis}
use Rattle.geom.specs.CifCodes.{part_numbers}
use Rattle.cif_codes.specs.Scales.{ratio, grid_of}
use Rattle.cif_codes.specs.Checks.{Checked}
use Rattle.cif_codes.proofs.Checking.{stands_word, near_same}
use Rattle.cif_codes.proofs.BoxCodes.{exact_sides, distances_by}
use Rattle.cif_codes.proofs.boxes.box_checks.Goals as goal

pub returns-then-not-is_along : goal.returns-then-not-is_along
returns-then-not-is_along c = λ along across centre direction st.
    let numbers = flat_map part_numbers (command_parts (DrawsBox along across centre direction)) in
    let f : c.is_along.result ≡ false = grind arith in
    let e : is_along_axis (direction_or_east direction).x (direction_or_east direction).y ≡ false =
    sym (c.is_along.ensures (grid_of c.args.scale) direction st.direction_is) ∙ f in
    let P : List ℤ → Type 0 = λ l. Checked (ratio c.args.scale) numbers l c.number_checks-numbers.result in
    subst P (sym (distances_by along across centre direction false (is_zero (direction_or_east direction).y) e refl))
    (c.number_checks-numbers.ensures along across centre direction st)

pub returns-then-is_upright : goal.returns-then-is_upright
returns-then-is_upright c = λ along across centre direction st.
    let m = grid_of c.args.scale in
    let sides = c.args.sides in
    let near = c.requires.near in
    let numbers = flat_map part_numbers (command_parts (DrawsBox along across centre direction)) in
    let f : c.is_along.result ≡ true = grind arith in
    let e : is_along_axis (direction_or_east direction).x (direction_or_east direction).y ≡ true = sym (c.is_along.ensures m direction st.direction_is) ∙ f in
    let z : is_zero (direction_or_east direction).y ≡ false =
    not-true (is_zero (direction_or_east direction).y) (sym (c.is_upright.ensures m direction st.direction_is) ∙ c.if-is_upright.true) in
    let P : List ℤ → Type 0 = λ l. Checked (ratio c.args.scale) numbers l c.edge_checks.result in
    subst P (sym (distances_by along across centre direction true false e z))
    (c.edge_checks.ensures numbers centre across along (c.number_checks-numbers.ensures along across centre direction st) st.centre_is
    (stands_word m (pos across) sides.across st.across_is) (stands_word m (pos along) sides.along st.along_is)
    (λ n. (let x = exact_sides m along across centre direction sides st n in
    (x.0, near_same sides.across near.across_near ∙ x.2, near_same sides.along near.along_near ∙ x.1))))

pub returns-else-is_upright : goal.returns-else-is_upright
returns-else-is_upright c = λ along across centre direction st.
    let m = grid_of c.args.scale in
    let sides = c.args.sides in
    let near = c.requires.near in
    let numbers = flat_map part_numbers (command_parts (DrawsBox along across centre direction)) in
    let f : c.is_along.result ≡ true = grind arith in
    let e : is_along_axis (direction_or_east direction).x (direction_or_east direction).y ≡ true = sym (c.is_along.ensures m direction st.direction_is) ∙ f in
    let z : is_zero (direction_or_east direction).y ≡ true =
    not-false (is_zero (direction_or_east direction).y) (sym (c.is_upright.ensures m direction st.direction_is) ∙ c.if-is_upright.false) in
    let P : List ℤ → Type 0 = λ l. Checked (ratio c.args.scale) numbers l c.edge_checks-else-is_upright.result in
    subst P (sym (distances_by along across centre direction true true e z))
    (c.edge_checks-else-is_upright.ensures numbers centre along across (c.number_checks-numbers.ensures along across centre direction st) st.centre_is
    (stands_word m (pos along) sides.along st.along_is) (stands_word m (pos across) sides.across st.across_is)
    (λ n. (let x = exact_sides m along across centre direction sides st n in
    (x.0, near_same sides.along near.along_near ∙ x.1, near_same sides.across near.across_near ∙ x.2))))
