-- Either coordinate.
use Rattle.std.proofs.Common.{◌≡◌, Bool, ℤ, ◌||◌, ◌-ℤ◌, ◌∙◌, ap}
use mir.Syntax.{w64}
use mir.Val.{to_z, of_z}
use Rattle.geom.specs.CifShapes.{is_zero}
use Rattle.cif_codes.proofs.Bending.{zero_word}
use Rattle.cif_codes.proofs.bends.is_straight.Goals as goal

pub returns : goal.returns
returns c =
    let start = c.args.start in
    let stop = c.args.stop in
    let x = c.shares-across.ensures ∙ zero_word stop.x.value start.x.value c.requires.stop_across c.requires.start_across in
    let y = c.shares-upward.ensures ∙ zero_word stop.y.value start.y.value c.requires.stop_upward c.requires.start_upward in
    c.either.ensures
    ∙ (ap (λ (t : Bool). t || c.shares-upward.result) x ∙ ap (λ (t : Bool). is_zero (stop.x.value -ℤ start.x.value) || t) y)
