-- The least code of a call.
use Rattle.std.proofs.Common.{◌||◌, Bool, pos, ◌∷◌, flat_map, Option, sym, ◌∙◌, ap, subst}
use Rattle.geom.specs.declared.cif_code.CifCode.{CifCode}
use Rattle.geom.specs.CifCommands.{CifScale, CallsSymbol}
use Rattle.geom.specs.CifCodes.{move_distances}
use Rattle.cif_codes.specs.Scales.{ratio, grid_of}
use Rattle.cif_codes.specs.Checks.{Checked}
use Rattle.cif_codes.specs.Least.{IsLeastCode}
use Rattle.cif_codes.specs.Verdicts.{first_code, call_verdict}
use Rattle.cif_codes.proofs.Checking.{great_word}
use Rattle.cif_codes.proofs.MoveCodes.{numbers_of, checked_front, call_least}
use Rattle.cif_codes.proofs.calls.call_code.Goals as goal

pub returns : goal.returns
returns c = λ s n written e st h u d.
    let checks = c.args.moves.checks in
    let great = c.is_great-great.result in
    let P : CifScale → Type 0 =
    λ scale. Checked scale (pos n ∷ numbers_of written) (flat_map move_distances written) (record { off = c.args.moves.checks.off; far = c.is_great-great.result || c.args.moves.checks.far }) in
    let k = subst P (sym e)
    (checked_front (ratio c.args.scale) (grid_of c.args.scale) (numbers_of written) (flat_map move_distances written) checks (pos n) c.args.number great
    (great_word (grid_of c.args.scale) (pos n) c.args.number great st c.is_great-great.ensures) h.numbers st) in
    let Q : Option CifCode → Type 0 = λ v. IsLeastCode s (CallsSymbol n written) v in
    subst Q
    (sym (c.call_verdict_code.ensures
    ∙ ap (λ (t : Bool). first_code (call_verdict c.args.unknown c.args.moves.checks.off t c.args.moves.oblique c.args.deep)) c.either-far.ensures))
    (call_least s n written c.args.unknown checks.off (great || checks.far) c.args.moves.oblique c.args.deep u k.off k.far h.oblique d)
