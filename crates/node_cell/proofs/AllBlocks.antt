-- Each kind of block is a module.
use Rattle.star_normal.specs.Tables.{TreeTable}
use Rattle.rx_lang.specs.Tables.{Tables}
use Rattle.stick_grid.specs.Depicted.{PortsHaveSquares}
use Rattle.stick_grid.specs.PlacedModules.{CoveringsAreModules}
use Rattle.gate_matrix.specs.Columns.{ColumnsAreOfNets}
use Rattle.gate_matrix.specs.Drawn.{PartsFillRows}
use Rattle.gate_matrix.specs.Modules.{PartsAreModules}
use Rattle.wiring.specs.WiringNets.{WiringsAreModules}
use Rattle.block_grid.specs.declared.kind.BlockKind.{BlockKind}
use Rattle.block_grid.specs.declared.kind.BlockKind.TheVariants.{Empty, Horizontal, Vertical, Cross, Corner, Node as NodeBlock, Frame as FrameBlock}
use Rattle.cell_network.specs.TreeParts.{TreesHaveParts, PartsHaveShapes, AreParts, HaveShapes}
use Rattle.node_cell.specs.Blocks.{IsBlockOf}
use Rattle.node_cell.specs.BlockModules.{IsBlockModule, BlocksAreModules}
use Rattle.node_cell.proofs.WireModules.{empty_block, horizontal_block, vertical_block, cross_block, corner_block}
use Rattle.node_cell.proofs.NodeBlocks.{node_block, frame_block}

module _ (wirings : WiringsAreModules) (coverings : CoveringsAreModules) (parts : PartsAreModules) (fill : PartsFillRows) (columns : ColumnsAreOfNets)
    (ports : PortsHaveSquares) where
  each_kind : (tree : TreeTable) (tables : Tables) → AreParts tree tables → HaveShapes tree tables → (kind : BlockKind) → IsBlockOf tree kind
      → IsBlockModule tree tables kind
  each_kind tree tables are shapes Empty of = empty_block wirings tree tables
  each_kind tree tables are shapes Horizontal of = horizontal_block wirings tree tables
  each_kind tree tables are shapes Vertical of = vertical_block wirings tree tables
  each_kind tree tables are shapes Cross of = cross_block wirings tree tables
  each_kind tree tables are shapes (Corner turn) of = corner_block wirings tree tables turn
  each_kind tree tables are shapes (NodeBlock v) of = node_block wirings coverings parts fill columns tree tables are shapes v of
  each_kind tree tables are shapes (FrameBlock v) of = frame_block wirings coverings parts fill columns tree tables are shapes ports v of

  pub blocks_are_modules : TreesHaveParts → PartsHaveShapes → BlocksAreModules
  blocks_are_modules have shapes tree tables kind is_tree spec symbols of =
      each_kind tree tables (have tree tables is_tree spec symbols) (shapes tree tables is_tree spec symbols) kind of
