-- The layer of the name.
use Rattle.std.proofs.Common.{◌≡◌, List, ℕ, Option, Some, None, sym, ◌∙◌, subst}
use Rattle.geom.specs.declared.layer.Layer.{Layer}
use Rattle.geom.specs.declared.cif_code.CifCode.{CifCode}
use Rattle.geom.specs.declared.cif_code.CifCode.TheVariants.{C2}
use Rattle.geom.specs.CifCommands.{SetsLayer}
use Rattle.geom.specs.CifLabels.{layer_named}
use Rattle.geom.specs.CifDrawings.{CifState}
use Rattle.cif_kinds.specs.declared.kinds.CommandKind.TheVariants as kind
use Rattle.cif_codes.specs.Least.{IsLeastCode}
use Rattle.cif_figures.proofs.ByKind.{is_layer}
use Rattle.cif_figures.proofs.Places.{first_in}
use Rattle.cif_figures.proofs.Simple.{least_there, layer_leads}
use Rattle.cif_figures.proofs.layers.layer_set.Goals as goal

-- a name of no layer meets a code
unnamed : (s : CifState) (name : List ℕ) (found : Option Layer) (r : Option CifCode) → found ≡ layer_named name → found ≡ None → r ≡ None
    → IsLeastCode s (SetsLayer name) r → ⊥
unnamed s name found r l e f h =
    let P : Option CifCode → Type 0 = λ v. IsLeastCode s (SetsLayer name) v in
    (subst P f h) C2 (sym l ∙ e)

pub layer_here-layer-requires : goal.layer_here-layer-requires
layer_here-layer-requires c = first_in c.args.text.now c.args.first c.requires.0 kind.Layer c.requires.1

pub returns-in-Some-clause-fault : goal.returns-in-Some-clause-fault
returns-in-Some-clause-fault c = λ s end k.
    let n = is_layer k.stands.here.command k.kind_is in
    least_there s k.stands.here.command (SetsLayer n.0) c.layer_code.result (Some c.in-Some.code) n.1 c.in-Some.is
    (c.layer_code.ensures s n.0 (c.layer_here-layer.ensures k.from end k.stands n.0 n.1))

pub returns-in-Some-layer-clause-layer : goal.returns-in-Some-layer-clause-layer
returns-in-Some-layer-clause-layer c = λ s end k.
    let n = is_layer k.stands.here.command k.kind_is in
    let l = c.layer_here-layer.ensures k.from end k.stands n.0 n.1 in
    layer_leads s k.stands.here.command n.0 c.in-Some-layer.layer c.layer_here-layer.result c.layer_code.result n.1 l c.in-Some-layer.is c.in-None.is
    (c.layer_code.ensures s n.0 l)

pub returns-in-None-layer-clause-fault : goal.returns-in-None-layer-clause-fault
returns-in-None-layer-clause-fault c = λ s end k.
    let n = is_layer k.stands.here.command k.kind_is in
    let l = c.layer_here-layer.ensures k.from end k.stands n.0 n.1 in
    absurd (unnamed s n.0 c.layer_here-layer.result c.layer_code.result l c.in-None-layer.is c.in-None.is (c.layer_code.ensures s n.0 l))
