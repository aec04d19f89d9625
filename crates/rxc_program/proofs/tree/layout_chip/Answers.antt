use Rattle.std.proofs.Common.{◌≡◌, ◌+◌, ◌≤◌, length, ap, sym, subst, arith}
use Rattle.rx_lang.specs.Squares.{IsLevel}
use Rattle.rx_lang.specs.Tables.{specification}
use Rattle.star_normal.specs.Tables.{IsTree}
use Rattle.block_grid.specs.Sheets.{IsSheet}
use Rattle.tree_chip.specs.TreePlans.{IsSheetOf}
use Rattle.report_text.specs.Sizes.{blocks, leaves}
use Rattle.rxc_program.proofs.Levels.{levels_exist}
use Rattle.rxc_program.proofs.TreeCells.{sheet_of}
use Rattle.rxc_program.proofs.TreeFiles.{tree_layouts}
use Rattle.rxc_program.proofs.tree.layout_chip.Goals as goal

-- src/tree.rt
pub chip-requires-clause-sheet : goal.chip-requires-clause-sheet
chip-requires-clause-sheet c =
    sheet_of c.in_ok-tree.tree c.in_ok-blocks.blocks (subst IsSheet c.blocks-2.view_is c.blocks-2.invariant) c.in_ok-blocks.ensures.nodes
    c.in_ok-blocks.ensures.edges

pub returns : goal.returns
returns c =
    let tables = c.args.spec.now in
    let tree = c.in_ok-tree.tree in
    let sheet = c.in_ok-blocks.blocks in
    let made = c.in_ok-blocks.ensures in
    let is_tree : IsTree tree = subst IsTree c.tree.view_is c.tree.invariant in
    let is_sheet : IsSheetOf tree sheet = sheet_of tree sheet (subst IsSheet c.blocks-2.view_is c.blocks-2.invariant) made.nodes made.edges in
    let nodes = c.tables_have_the_leaves_of_their_trees.ensures.nodes tree is_tree in
    let counted = c.tables_have_the_leaves_of_their_trees.ensures.leaves tree is_tree in
    let named = ap length c.in_ok-tree.ensures.leaves in
    let some_leaves = is_tree.some_leaves in
    let few_leaves = is_tree.few_leaves in
    let some : 1 ≤ leaves (specification tables) = omega (arith, counted, named, some_leaves) in
    let few : blocks (specification tables) ≤ 8192 = omega (arith, counted, named, few_leaves) in
    let same : length tree.nodes + 1 ≡ blocks (specification tables) = omega (arith, nodes, counted, named) in
    let level = levels_exist (blocks (specification tables)) few in
    let room : IsLevel (length tree.nodes + 1) level.0 = subst (λ n. IsLevel n level.0) (sym same) level.1 in
    tree_layouts sheet tree tables c.requires.tables c.requires.lines c.requires.outputs c.chip_texts_draw.ensures c.rectangles_exist.ensures
    c.sides_bound_the_area.ensures level.0 level.1 level.2 some (made.rows level.0 room) (made.cols level.0 room)
    (c.trees_draw_cells.ensures.plan sheet tree tables is_tree c.requires.tables c.in_ok-tree.ensures.symbols is_sheet)
    (c.trees_recognise.ensures sheet tree tables is_tree c.requires.tables c.in_ok-tree.ensures.symbols is_sheet c.in_ok-cells_recognise.ensures)
    (λ chip. c.equal_drawings_are_alike.ensures.networks (record { blocks = sheet; tree = tree; spec = tables }) (record { chip = chip }))
    (λ chip. c.tiles_keep_rules.ensures (record { chip = chip }))
    c.chip.result c.chip.ensures.blocks c.chip.ensures.squares c.chip.ensures.few c.chip.ensures.within c.chip.ensures.labels
