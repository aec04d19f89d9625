-- The matrix fills the block.
use Rattle.std.proofs.Common.{◌≤◌, sym, subst}
use Rattle.nor_net.specs.Part.{PartTables}
use Rattle.cell_network.specs.declared.numbering.Counts.{Counts}
use Rattle.cell_network.specs.Parts.{part_of}
use Rattle.node_cell.specs.Made.{IsMade, FitsBlock}
use Rattle.node_cell.proofs.FormPlans.{is_made}
use Rattle.node_cell.proofs.tiles.part_block.Goals as goal

pub invariant_of-result : goal.invariant_of-result
invariant_of-result c =
    let tree = c.args.tree.now in
    let tables = c.args.spec.now in
    let room = c.parts_fit_blocks.ensures tree tables c.args.node c.of-counts.ensures.tree c.of-counts.ensures.specification c.requires.symbols c.requires.node in
    let counted = subst (λ (k : Counts). FitsBlock k (part_of tree tables c.args.node)) (sym c.of-counts.ensures.counts) room in
    let fits = subst (λ (p : PartTables). FitsBlock c.of-counts.result p) (sym c.in_ok-part.ensures) counted in
    let few = subst (λ (p : PartTables). p.nets ≤ 65536) c.part.view_is c.part.invariant.few_nets in
    subst (IsMade c.of-counts.result c.args.form) (sym c.in_ok-part-2.ensures)
    (is_made c.of-counts.result c.in_ok-part.part c.args.form c.of-counts.ensures.few c.parts_fill_rows.ensures fits few)
