-- A coordinate more.
use Rattle.std.proofs.Common.{◌*ℤ◌, ℤ, pos, [], ◌∷◌, ◌++◌, sym, ◌∙◌, subst}
use Rattle.cif_values.specs.Numbers.{AreAlike}
use Rattle.cif_codes.specs.Scales.{grid_of}
use Rattle.cif_codes.proofs.Checking.{alike_double, same_double, double_word, stands_word}
use Rattle.cif_codes.proofs.checks.Checks.with_coordinate.Goals as goal

pub returns : goal.returns
returns c = λ numbers distances z h s.
    let m = grid_of c.args.scale in
    let e = double_word c.args.value c.requires.near in
    let P : ℤ → Type 0 = λ v. AreAlike (grid_of c.args.scale) (pos 2 *ℤ z) v in
    c.with_distance.ensures (numbers ++ z ∷ []) distances (pos 2 *ℤ z) (c.with_number-numbers.ensures numbers distances z h (stands_word (grid_of c.args.scale) z c.args.value s))
    (subst P (sym e) (alike_double (grid_of c.args.scale) z c.args.value s.alike)) (λ n. e ∙ same_double (grid_of c.args.scale) numbers z c.args.value s n)
