-- The labels by the corner of the frame's block are the tree's.
use Rattle.std.proofs.Common.{◌≡◌, ℕ, ◌-◌, ◌*◌, ◌<◌, List, map, ap, subst, ◌∙◌}
use Rattle.std.specs.Prelude.{IfOk}
use Rattle.geom.specs.declared.chip.Label.{Label}
use Rattle.switch_net.specs.declared.network.Pad.{Pad}
use Rattle.block_grid.specs.Lines.{row_of, col_of}
use Rattle.channel_route.specs.Drawing.{place_in}
use Rattle.cell_network.specs.declared.numbering.Counts.{Counts}
use Rattle.cell_network.specs.Parts.{counts_of}
use Rattle.node_cell.specs.Blocks.{block_side}
use Rattle.tree_chip.specs.Labels.{label_at}
use Rattle.tree_chip.specs.TreePlans.{frame_pads}
use Rattle.tree_chip.proofs.LabelPlaces.{labels_same}
use Rattle.tree_chip.proofs.labels.tree_labels.Goals as goal

pub returns : goal.returns
returns c =
    let sheet = c.args.blocks.now in
    let tree = c.args.tree.now in
    let tables = c.args.spec.now in
    let counts = c.of-counts.ensures.counts in
    let west = c.corner_of-corner.result.west in
    let south = c.corner_of-corner.result.south in
    let side = c.block_side.ensures.side ∙ ap block_side counts in
    let node = ap (λ (k : Counts). k.nodes) counts in
    let pads = c.deref.ensures.value ∙ c.in_ok-pads.ensures ∙ ap (λ (k : Counts). frame_pads k tables) counts in
    let to_west =
    c.corner_of-corner.ensures.west ∙ ap (λ (n : ℕ). n * col_of (place_in sheet c.of-counts.result.nodes)) side
    ∙ ap (λ (v : ℕ). block_side (counts_of tree tables) * col_of (place_in sheet v)) node in
    let to_south =
    c.corner_of-corner.ensures.south ∙ ap (λ (n : ℕ). n * (sheet.rows - row_of (place_in sheet c.of-counts.result.nodes))) side
    ∙ ap (λ (v : ℕ). block_side (counts_of tree tables) * (sheet.rows - row_of (place_in sheet v))) node in
    let inside = subst (λ (v : ℕ). row_of (place_in sheet v) < sheet.rows) node c.corner_of-corner.ensures.inside in
    subst (λ (l : List Label). IfOk c.labels_of.result (λ labels. labels.items ≡ l))
    (ap (λ (ps : List Pad). map (label_at west south) ps) pads
    ∙ labels_same sheet tree tables west south to_west to_south inside (frame_pads (counts_of tree tables) tables)) c.labels_of.ensures
