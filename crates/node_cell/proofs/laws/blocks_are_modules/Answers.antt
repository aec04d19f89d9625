use Rattle.node_cell.proofs.AllBlocks as blocks
use Rattle.node_cell.proofs.laws.blocks_are_modules.Goals as goal

pub returns : goal.returns
returns c =
    blocks.blocks_are_modules c.wirings_are_modules.ensures c.coverings_are_modules.ensures c.parts_are_modules.ensures c.parts_fill_rows.ensures
    c.columns_are_of_nets.ensures c.pieces_have_squares.ensures.ports c.trees_have_parts.ensures c.parts_have_shapes.ensures
