-- The least code of a polygon.
use Rattle.std.proofs.Common.{◌≡◌, Option, None, sym, subst}
use Rattle.std.specs.Bool.{Decides}
use Rattle.std.proofs.lemmas.Bool.Decides.{Decides-ltb}
use Rattle.geom.specs.declared.layer.Layer.{Layer}
use Rattle.geom.specs.declared.cif_code.CifCode.{CifCode}
use Rattle.geom.specs.CifCommands.{DrawsPolygon}
use Rattle.cif_codes.specs.Least.{IsLeastCode}
use Rattle.cif_codes.proofs.PointCodes.{polygon_least}
use Rattle.cif_codes.proofs.points.polygon_code.Goals as goal

pub returns : goal.returns
returns c = λ s m points l h.
    let Q : Option CifCode → Type 0 = λ v. IsLeastCode s (DrawsPolygon points) v in
    let B : Option Layer → Type 0 = λ v. Decides c.is_bare-bare.result (v ≡ None) in
    subst Q (sym c.shape_verdict_code.ensures)
    (polygon_least s m points c.args.corners c.is_bare-bare.result c.is_odd-odd.result _ (subst B (sym l) c.is_bare-bare.ensures) h
    (λ standing f. c.is_odd-odd.ensures standing f) (Decides-ltb 4096 c.args.corners.count))
