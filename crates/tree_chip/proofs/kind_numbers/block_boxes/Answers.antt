-- The boxes of the block's tiles, merged, draw its plan.
use Rattle.stick_grid.specs.Plans.{plan_of}
use Rattle.node_cell.specs.BlockTiles.{block_plan}
use Rattle.tree_chip.proofs.Numbering.{drawn_merged}
use Rattle.tree_chip.proofs.kind_numbers.block_boxes.Goals as goal

pub returns : goal.returns
returns c =
    drawn_merged (block_plan c.args.tree.now c.args.spec.now c.args.kind) (plan_of c.in_ok-grid.grid) c.in_ok-drawn.drawn.items
    c.in_ok-merged.merged.items
    c.in_ok-grid.ensures.same c.same_tiles_agree.ensures.plans c.in_ok-drawn.ensures.squares (rw c.deref.ensures.value at c.in_ok-merged.ensures)
