-- A block without boxes has no squares; the kind of another one has a number.
use Rattle.std.proofs.Common.{◌≡◌, [], arith}
use Rattle.std.proofs.lemmas.Grind.{common_steps}
use Rattle.node_cell.specs.BlockTiles.{block_plan}
use Rattle.tree_chip.proofs.Numbering.{none_drawn}
use Rattle.tree_chip.proofs.kind_numbers.number_of.Goals as goal

pub returns-then-is_empty-clause-numbered : goal.returns-then-is_empty-clause-numbered
returns-then-is_empty-clause-numbered c =
    let empty : c.in_ok-boxes.boxes.items ≡ [] = grind (arith, common_steps) in
    none_drawn [] c.in_ok-boxes.boxes.items (block_plan c.args.tree.now c.args.spec.now c.args.kind) empty c.in_ok-boxes.ensures
