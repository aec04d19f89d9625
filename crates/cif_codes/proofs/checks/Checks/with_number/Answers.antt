-- A number more.
use Rattle.std.proofs.Common.{Bool, [], ◌∷◌, ◌++◌, sym, subst}
use Rattle.cif_codes.specs.Scales.{ratio, grid_of}
use Rattle.cif_codes.specs.Checks.{Checked}
use Rattle.cif_codes.proofs.Checking.{checked_number, great_word}
use Rattle.cif_codes.proofs.checks.Checks.with_number.Goals as goal

pub returns : goal.returns
returns c = λ numbers distances z h s.
    let P : Bool → Type 0 = λ t. Checked (ratio c.args.scale) (numbers ++ z ∷ []) distances (record { off = c.args.self.off; far = t }) in
    subst P (sym c.either-far.ensures)
    (checked_number (ratio c.args.scale) (grid_of c.args.scale) numbers distances c.args.self z c.args.value c.is_great-great.result
    (great_word (grid_of c.args.scale) z c.args.value c.is_great-great.result s c.is_great-great.ensures) h s)
