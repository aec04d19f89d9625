-- The least code of a layer.
use Rattle.std.proofs.Common.{◌≡◌, Option, None, sym, subst}
use Rattle.std.specs.Bool.{Decides}
use Rattle.geom.specs.declared.layer.Layer.{Layer}
use Rattle.geom.specs.declared.cif_code.CifCode.{CifCode}
use Rattle.geom.specs.CifCommands.{SetsLayer}
use Rattle.cif_codes.specs.Least.{IsLeastCode}
use Rattle.cif_codes.proofs.LayerCodes.{layer_least}
use Rattle.cif_codes.proofs.layers.layer_code.Goals as goal

pub returns : goal.returns
returns c = λ s name e.
    let Q : Option CifCode → Type 0 = λ v. IsLeastCode s (SetsLayer name) v in
    let B : Option Layer → Type 0 = λ v. Decides c.is_bare.result (v ≡ None) in
    subst Q (sym c.layer_verdict_code.ensures) (layer_least s name c.is_bare.result (subst B e c.is_bare.ensures))
