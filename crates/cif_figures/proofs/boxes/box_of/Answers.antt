-- The box, upright or not.
use Rattle.std.proofs.Common.{[], ◌∷◌, ◌∙◌, ap}
use Rattle.geom.specs.Squares.{BoxShape}
use Rattle.cif_figures.proofs.Boxing.{boxed_upright, boxed_flat}
use Rattle.cif_figures.proofs.boxes.box_of.Goals as goal

pub scaled_box-requires-clause-drawn : goal.scaled_box-requires-clause-drawn
scaled_box-requires-clause-drawn c =
    let k = c.requires.clear in
    (boxed_upright c.args.scale c.args.layer k.0 k.1 k.2 k.3 c.args.sides c.edges.result c.is_upright.result k.4 c.requires.near
    c.is_upright.ensures c.if-is_upright.true
    c.edges.ensures).drawn

pub scaled_box-requires-else-is_upright-clause-drawn : goal.scaled_box-requires-else-is_upright-clause-drawn
scaled_box-requires-else-is_upright-clause-drawn c =
    let k = c.requires.clear in
    (boxed_flat c.args.scale c.args.layer k.0 k.1 k.2 k.3 c.args.sides c.edges-else-is_upright.result c.is_upright.result k.4 c.requires.near
    c.is_upright.ensures
    c.if-is_upright.false c.edges-else-is_upright.ensures).drawn

pub returns-then-is_upright : goal.returns-then-is_upright
returns-then-is_upright c = λ along across centre direction k.
    ap (λ (b : BoxShape). b ∷ []) c.scaled_box.ensures
    ∙ (boxed_upright c.args.scale c.args.layer along across centre direction c.args.sides c.edges.result c.is_upright.result k c.requires.near
    c.is_upright.ensures
    c.if-is_upright.true c.edges.ensures).box

pub returns-else-is_upright : goal.returns-else-is_upright
returns-else-is_upright c = λ along across centre direction k.
    ap (λ (b : BoxShape). b ∷ []) c.scaled_box-else-is_upright.ensures
    ∙ (boxed_flat c.args.scale c.args.layer along across centre direction c.args.sides c.edges-else-is_upright.result c.is_upright.result k
    c.requires.near
    c.is_upright.ensures c.if-is_upright.false c.edges-else-is_upright.ensures).box
