-- The numbers of all blocks make the chip.
use Rattle.std.proofs.Common.{ℕ, ◌*◌, List, Option, All, length, sym, ap, subst, ◌∙◌}
use Rattle.block_grid.specs.declared.kind.BlockKind.{BlockKind}
use Rattle.block_grid.specs.Sheets.{block_at}
use Rattle.node_cell.specs.Blocks.{block_side}
use Rattle.tree_chip.specs.TreeChips.{block_width}
use Rattle.tree_chip.specs.KindNumbers.{AreWireNumbers, IsCellWithin}
use Rattle.tree_chip.proofs.TreeEdges.{IsOrder}
use Rattle.tree_chip.proofs.Made.{all_within, chip_of, same_calls}
use Rattle.tree_chip.proofs.OnSheet.{is_block, kind_known}
use Rattle.tree_chip.proofs.Covering.{tree_chips_cover}
use Rattle.tree_chip.proofs.Within.{kinds_within}
use Rattle.tree_chip.proofs.drawing.chip.Goals as goal

pub calls-requires-clause-cells : goal.calls-requires-clause-cells
calls-requires-clause-cells c =
    let tree = c.args.tree.now in
    let is_tree = c.of-counts.ensures.tree in
    let order : IsOrder tree = record {
      once = c.each_node_stands_once.ensures.once tree is_tree;
      number = c.each_node_stands_once.ensures.number tree is_tree;
      inside = c.each_node_stands_once.ensures.inside tree is_tree;
    } in
    let places = c.in_ok-places.places.items in
    let all = all_within c.args.blocks.now tree c.requires.sheet order places c.in_ok-places.ensures in
    subst (λ (l : List (Option ℕ)). All (IsCellWithin (length l)) c.deref-2.result.now) (sym c.deref-4.ensures.value)
    (subst (λ (l : List BlockKind). All (IsCellWithin (length c.in_ok-cells.cells.items)) l) (sym c.deref-2.ensures.value)
    (subst (λ (n : ℕ). All (IsCellWithin n) places) (sym c.in_ok-cells.ensures.size) all))

pub returns-clause-blocks : goal.returns-clause-blocks
returns-clause-blocks c =
    let sheet = c.args.blocks.now in
    let tree = c.args.tree.now in
    let tables = c.args.spec.now in
    let is_tree = c.of-counts.ensures.tree in
    let order : IsOrder tree = record {
      once = c.each_node_stands_once.ensures.once tree is_tree;
      number = c.each_node_stands_once.ensures.number tree is_tree;
      inside = c.each_node_stands_once.ensures.inside tree is_tree;
    } in
    let places = c.in_ok-places.places.items in
    let first = c.cell_numbers.new.kinds.items in
    let kinds = c.wire_numbers.new.kinds.items in
    let cells = c.in_ok-cells.cells.items in
    let wires = c.in_ok-wires.wires.items in
    let numbered = subst (λ (l : List BlockKind). AreWireNumbers tree tables l first kinds wires 8) c.deref.ensures.value c.in_ok-wires.ensures in
    let width = ap (λ (n : ℕ). 14 * n) (c.block_side-width.ensures.side ∙ ap block_side c.of-counts.ensures.counts) in
    chip_of sheet tree tables c.requires.sheet order places c.in_ok-places.ensures first kinds cells wires c.in_ok-cells.ensures numbered
    c.in_ok-labels.labels.items c.merged_once.ensures c.in_ok-calls.calls.items
    (same_calls sheet c.in_ok-calls.calls.items (14 * c.block_side-width.result) (block_width tree tables) c.deref-3.result.now wires
    c.deref-4.result.now cells c.in_ok-calls.ensures width c.deref-3.ensures.value c.deref-4.ensures.value)
    c.new.result c.new.ensures

pub returns-clause-squares : goal.returns-clause-squares
returns-clause-squares c = tree_chips_cover c.args.blocks.now c.args.tree.now c.args.spec.now c.new.result (returns-clause-blocks c)

pub returns-clause-within : goal.returns-clause-within
returns-clause-within c =
    let sheet = c.args.blocks.now in
    let tree = c.args.tree.now in
    let is_tree = c.of-counts.ensures.tree in
    let order : IsOrder tree = record {
      once = c.each_node_stands_once.ensures.once tree is_tree;
      number = c.each_node_stands_once.ensures.number tree is_tree;
      inside = c.each_node_stands_once.ensures.inside tree is_tree;
    } in
    kinds_within c.tiles_keep_inside.ensures sheet tree c.args.spec.now
    (λ row col is_row is_col.
    (c.blocks_are_modules.ensures tree c.args.spec.now (block_at sheet row col) is_tree c.of-counts.ensures.specification c.requires.symbols
    (is_block tree (block_at sheet row col) (kind_known tree sheet c.requires.sheet order row col))).is_module.is_plan)
    c.new.result (returns-clause-blocks c)
