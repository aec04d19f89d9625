-- Parts fit into the rows and columns that their blocks have for them.
use Rattle.std.proofs.Common.{◌≡◌, ℕ, ◌+◌, ◌*◌, ◌<◌, ◌≤◌, inl, inr, length, refl, subst, arith}
use Rattle.std.proofs.lemmas.Bool.{cases_lt}
use Rattle.rx_lang.specs.Tables.{Tables}
use Rattle.star_normal.specs.declared.node.NodeKind.{NodeKind}
use Rattle.star_normal.specs.declared.node.NodeKind.TheVariants.{Leaf, Seq, Alt}
use Rattle.star_normal.specs.Tables.{TreeTable}
use Rattle.nor_net.specs.Part.{PartTables}
use Rattle.gate_matrix.specs.PartRows.{height_of_part}
use Rattle.cell_network.specs.declared.numbering.Counts.{Counts}
use Rattle.cell_network.specs.Parts.{counts_of, node_at, part_of}
use Rattle.cell_network.specs.TreeParts.{AreParts, HaveShapes, TreesHaveParts, PartsHaveShapes}
use Rattle.node_cell.specs.Blocks.{block_side}
use Rattle.node_cell.specs.BlockTiles.{part_rows}
use Rattle.node_cell.specs.Made.{FitsBlock, PartsFitBlocks}
use Rattle.node_cell.proofs.Heights.{shape_height}
use Rattle.node_cell.proofs.Columns.{are_wires, many_places}

fits : (c : Counts) (part : PartTables) → 2 * part.nets + 2 ≤ block_side c → height_of_part part ≤ part_rows c → FitsBlock c part
fits c part room height = record {
  some_row = omega arith;
  rows_fit = height;
  wires = many_places part.nets;
  columns = are_wires part.nets (block_side c) (omega arith);
}

module _ (tree : TreeTable) (tables : Tables) (are : AreParts tree tables) (shapes : HaveShapes tree tables) where
  abbrev c : Counts
  c = counts_of tree tables

  node_fits : (v : ℕ) → v < length tree.nodes → FitsBlock c (part_of tree tables v)
  node_fits v below = by (node_at tree.nodes v).kind refl
    where
      room : 2 * (part_of tree tables v).nets + 2 ≤ block_side c
      room = let k = are.node_nets v below in omega arith

      by : (kind : NodeKind) → (node_at tree.nodes v).kind ≡ kind → FitsBlock c (part_of tree tables v)
      by (Leaf s) e =
          let high = shape_height (part_of tree tables v) 6 (length tables.outputs) 0 2 (shapes.leaf v s below e) in
          fits c (part_of tree tables v) room (omega arith)
      by (Seq left right) e =
          let high = shape_height (part_of tree tables v) 6 (length tables.outputs) 0 0 (shapes.pair v left right below (inl e)) in
          fits c (part_of tree tables v) room (omega arith)
      by (Alt left right) e =
          let high = shape_height (part_of tree tables v) 6 (length tables.outputs) 0 0 (shapes.pair v left right below (inr e)) in
          fits c (part_of tree tables v) room (omega arith)

  frame_fits : FitsBlock c (part_of tree tables (length tree.nodes))
  frame_fits =
      let frame = part_of tree tables (length tree.nodes) in
      let k = are.frame_nets in
      let high = shape_height frame (length tables.lines + length tables.symbols + length tables.outputs + 2) 0 (length tables.outputs) 2 shapes.frame in
      fits c frame (omega arith) (omega arith)

pub parts_fit : TreesHaveParts → PartsHaveShapes → PartsFitBlocks
parts_fit have shapes tree tables v is_tree spec symbols low =
    let are = have tree tables is_tree spec symbols in
    let tall = shapes tree tables is_tree spec symbols in
    elim (cases_lt v (length tree.nodes)) [
      | inl below ↦ node_fits tree tables are tall v below
      | inr high ↦
          let same : length tree.nodes ≡ v = omega (arith, low, high) in
          subst (λ (k : ℕ). FitsBlock (counts_of tree tables) (part_of tree tables k)) same (frame_fits tree tables are tall)
    ]
