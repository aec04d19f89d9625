-- The block is that of its kind.
use Rattle.std.proofs.Common.{ap, sym, ◌∙◌}
use Rattle.cell_network.specs.Parts.{counts_of, part_of}
use Rattle.node_cell.specs.BlockTiles.{block_plan}
use Rattle.node_cell.specs.Made.{form_plan, matrix_of}
use Rattle.node_cell.proofs.FormPlans.{ok_map, node_plan, frame_plan}
use Rattle.node_cell.proofs.tiles.BlockTiles.new.Goals as goal

pub returns-in_ok-form-in-Node : goal.returns-in_ok-form-in-Node
returns-in_ok-form-in-Node c =
    let tree = c.args.tree.now in
    let tables = c.args.spec.now in
    let v = c.in-Node.node in
    ok_map _ _ c.part_block.result c.part_block.ensures (λ block e.
    e ∙ ap (λ f. form_plan (counts_of tree tables) f (matrix_of (counts_of tree tables) (part_of tree tables v))) c.in_ok-form-in-Node.ensures
    ∙ node_plan tree tables v ∙ ap (block_plan tree tables) (sym c.in-Node.is))

pub returns-in-Frame : goal.returns-in-Frame
returns-in-Frame c =
    let tree = c.args.tree.now in
    let tables = c.args.spec.now in
    ok_map _ _ c.part_block-in-Frame.result c.part_block-in-Frame.ensures
    (λ block e. e ∙ frame_plan tree tables c.in-Frame.node ∙ ap (block_plan tree tables) (sym c.in-Frame.is))
