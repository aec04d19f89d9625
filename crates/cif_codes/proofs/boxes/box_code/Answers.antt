-- The least code of a box.
use Rattle.std.proofs.Common.{◌≡◌, flat_map, Option, None, sym, subst}
use Rattle.std.specs.Bool.{Decides}
use Rattle.geom.specs.declared.layer.Layer.{Layer}
use Rattle.geom.specs.declared.cif_code.CifCode.{CifCode}
use Rattle.geom.specs.CifCommands.{CifScale, DrawsBox, command_parts}
use Rattle.geom.specs.CifCodes.{part_numbers, command_distances}
use Rattle.cif_codes.specs.Scales.{grid_of}
use Rattle.cif_codes.specs.Checks.{Checked}
use Rattle.cif_codes.specs.Least.{IsLeastCode}
use Rattle.cif_codes.proofs.BoxCodes.{box_least}
use Rattle.cif_codes.proofs.boxes.box_code.Goals as goal

pub returns : goal.returns
returns c = λ s along across centre direction l e st.
    let Q : Option CifCode → Type 0 = λ v. IsLeastCode s (DrawsBox along across centre direction) v in
    let B : Option Layer → Type 0 = λ v. Decides c.is_bare-bare.result (v ≡ None) in
    let P : CifScale → Type 0 =
    λ scale. Checked scale (flat_map part_numbers (command_parts (DrawsBox along across centre direction))) (command_distances (DrawsBox along across centre direction)) c.box_checks-checks.result in
    let k = subst P (sym e) (c.box_checks-checks.ensures along across centre direction st) in
    subst Q (sym c.shape_verdict_code.ensures)
    (box_least s along across centre direction c.is_bare-bare.result c.box_checks-checks.result.off c.box_checks-checks.result.far c.is_odd-odd.result
    (subst B (sym l) c.is_bare-bare.ensures) k.off k.far (c.is_odd-odd.ensures (grid_of c.args.scale) along across centre direction s st))
