-- The merged boxes of the layer come behind the others.
use Rattle.geom.specs.Squares.{Covered}
use Rattle.geom.specs.Rows.{Over, AreParts}
use Rattle.geom.proofs.Talls.{to_covered, from_covered, parts_along, whole}
use Rattle.geom.proofs.Layers.{layers_more}
use Rattle.geom.proofs.merging.add_layer.Goals as goal

pub returns : goal.returns
returns c =
    let a : AreParts (Over c.in_ok-columns.columns.items) c.args.layer c.in_ok-parts.parts.items = rw (← c.deref.ensures.value) c.in_ok-parts.ensures in
    let p : AreParts (Covered c.args.boxes.now c.args.layer) c.args.layer c.in_ok-parts.parts.items =
    parts_along (Over c.in_ok-columns.columns.items) (Covered c.args.boxes.now c.args.layer) c.args.layer c.in_ok-parts.parts.items
    (λ x r. to_covered c.args.boxes.now c.in_ok-chosen.chosen.items c.in_ok-columns.columns.items c.args.layer c.in_ok-chosen.ensures c.in_ok-columns.ensures x r)
    (λ x r. from_covered c.args.boxes.now c.in_ok-chosen.chosen.items c.in_ok-columns.columns.items c.args.layer c.in_ok-chosen.ensures c.in_ok-columns.ensures x r)
    a in
    rw (c.in_ok-extend_from_slice.ensures.items, c.deref-2.ensures.value)
    (layers_more c.args.boxes.now c.args.layer c.args.merged.now.items c.sort_by_row.new.boxes.items c.requires
    (whole (Covered c.args.boxes.now c.args.layer) c.args.layer c.in_ok-parts.parts.items c.in_ok-runs.runs.items p c.in_ok-runs.ensures c.sort_by_row.new.boxes.items c.in_ok-sort_by_row.ensures))
