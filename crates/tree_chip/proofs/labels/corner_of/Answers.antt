-- The node's place is on the sheet.
use Rattle.std.proofs.Common.{◌<◌, subst}
use Rattle.block_grid.specs.Lines.{BlockPlace, row_of}
use Rattle.tree_chip.proofs.labels.corner_of.Goals as goal

pub returns-clause-inside : goal.returns-clause-inside
returns-clause-inside c =
    subst (λ (p : BlockPlace). row_of p < c.args.blocks.now.rows) c.place_of-row.ensures.place c.place_of-row.ensures.inside.0
