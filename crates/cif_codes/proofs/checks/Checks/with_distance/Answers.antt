-- A distance more.
use Rattle.std.proofs.Common.{Bool, [], ◌∷◌, ◌++◌, sym, subst, ◌||◌, arith}
use Rattle.cif_codes.specs.Scales.{ratio}
use Rattle.cif_codes.specs.Checks.{Checked}
use Rattle.cif_codes.proofs.Checking.{checked_distance, off_word, far_word}
use Rattle.cif_codes.proofs.checks.Checks.with_distance.Goals as goal

pub returns : goal.returns
returns c = λ numbers distances z h a e.
    let P : Bool → Type 0 = λ t. Checked (ratio c.args.scale) numbers (distances ++ z ∷ []) (record { off = c.args.self.off || c.is_off_grid-is_off.result; far = t }) in
    let Q : Bool → Type 0 = λ t. Checked (ratio c.args.scale) numbers (distances ++ z ∷ []) (record { off = t; far = c.either-far.result }) in
    subst Q (sym c.either-off.ensures) (subst P (sym c.either-far.ensures)
    (checked_distance (ratio c.args.scale) numbers distances c.args.self z c.args.twice c.is_off_grid-is_off.result c.is_far_off-is_far.result
    (omega (arith, c.requires.scale.some_per)) (off_word (ratio c.args.scale) c.args.twice c.is_off_grid-is_off.result c.requires.near c.is_off_grid-is_off.ensures)
    (far_word (ratio c.args.scale) c.args.twice c.is_far_off-is_far.result c.requires.near c.is_far_off-is_far.ensures) h a e))
