-- The least code of a wire.
use Rattle.std.proofs.Common.{◌≡◌, Option, None, sym, subst}
use Rattle.std.specs.Bool.{Decides}
use Rattle.std.proofs.lemmas.Bool.Decides.{Decides-ltb}
use Rattle.geom.specs.declared.layer.Layer.{Layer}
use Rattle.geom.specs.declared.cif_code.CifCode.{CifCode}
use Rattle.geom.specs.CifCommands.{DrawsWire}
use Rattle.cif_codes.specs.Least.{IsLeastCode}
use Rattle.cif_codes.proofs.WireCodes.{wire_least}
use Rattle.cif_codes.proofs.wires.wire_code.Goals as goal

pub returns : goal.returns
returns c = λ s w points l h.
    let Q : Option CifCode → Type 0 = λ v. IsLeastCode s (DrawsWire w points) v in
    let B : Option Layer → Type 0 = λ v. Decides c.is_bare-bare.result (v ≡ None) in
    subst Q (sym c.shape_verdict_code.ensures)
    (wire_least s w points c.args.found c.is_bare-bare.result _ (subst B (sym l) c.is_bare-bare.ensures) h (Decides-ltb 4096 c.args.found.count))
