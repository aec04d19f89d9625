-- The number of an earlier node, or of a block that is drawn now.
use Rattle.std.proofs.Common.{◌+◌, [], ◌∷◌, ◌++◌, sym, subst, arith}
use Rattle.block_grid.specs.declared.kind.BlockKind.{BlockKind}
use Rattle.node_cell.specs.Blocks.{IsBlockOf}
use Rattle.node_cell.specs.BlockTiles.{block_plan}
use Rattle.tree_chip.specs.KindNumbers.{AreCellNumbers, GainsKind}
use Rattle.tree_chip.specs.TreeChips.{IsNumbered}
use Rattle.tree_chip.proofs.Answered.{if_both}
use Rattle.tree_chip.proofs.OnSheet.{cell_is_block}
use Rattle.tree_chip.proofs.Numbering.{cell_more, cell_again}
use Rattle.tree_chip.proofs.kind_numbers.cell_number.Goals as goal

pub number_of-requires-clause-kind : goal.number_of-requires-clause-kind
number_of-requires-clause-kind c =
    subst (IsBlockOf c.args.tree.now) (sym c.cell_kind.ensures.kind) (cell_is_block c.args.tree.now c.args.node c.requires.node)

pub number_of-requires-clause-few : goal.number_of-requires-clause-few
number_of-requires-clause-few c = let few = c.requires.numbers.few in omega (arith, few, c.requires.node, c.cell_kind.ensures.few)

pub returns-in-Some : goal.returns-in-Some
returns-in-Some c =
    let earlier = rw c.in-Some.is at c.requires.earlier in
    cell_again c.args.tree.now c.args.spec.now c.args.kinds.now.items c.args.numbers.now c.args.node c.in-Some.at c.requires.numbers earlier.0
    earlier.1

pub returns-in-None : goal.returns-in-None
returns-in-None c =
    let tree = c.args.tree.now in
    let tables = c.args.spec.now in
    let numbers = c.args.numbers.now in
    let node = c.args.node in
    let old = c.args.kinds.now.items in
    let new = c.number_of.new.kinds.items in
    if_both (GainsKind old new) (IsNumbered new (block_plan tree tables c.cell_kind.result))
    (λ number. AreCellNumbers tree tables new (numbers ++ number ∷ []) (node + 1)) c.number_of.result
    (λ number gains numbered.
    cell_more tree tables old new numbers node number c.requires.numbers gains
    (subst (λ (k : BlockKind). IsNumbered new (block_plan tree tables k) number) c.cell_kind.ensures.kind numbered))
    c.number_of.ensures.gains c.number_of.ensures.numbered
