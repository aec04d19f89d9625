-- Blocks are modules: the nets, devices and sides of a block are those of its tiles.
use Rattle.std.specs.Prelude.{◌≡◌, ⊤, ℕ, ◌<◌, length, All}
use Rattle.geom.specs.declared.layer.Layer.TheVariants.{Poly}
use Rattle.rx_lang.specs.Tables.{Tables, IsSpecification}
use Rattle.star_normal.specs.Tables.{TreeTable, IsTree, whole}
use Rattle.star_normal.specs.Trees.{leaves}
use Rattle.micro_tiles.specs.declared.side.Side.TheVariants.{South}
use Rattle.stick_grid.specs.Plans.{Plan}
use Rattle.stick_grid.specs.Pieces.{Piece, IsIn}
use Rattle.stick_grid.specs.Depicted.{border_spot}
use Rattle.stick_grid.specs.Modules.{IsModule}
use Rattle.block_grid.specs.declared.kind.BlockKind.{BlockKind}
use Rattle.block_grid.specs.declared.kind.BlockKind.TheVariants.{Frame as FrameBlock}
use Rattle.cell_network.specs.Parts.{counts_of}
use Rattle.node_cell.specs.Blocks.{block_nets, block_devices, block_border, vdd_wire, wire_col, IsBlockOf}
use Rattle.node_cell.specs.BlockTiles.{block_plan}

-- The net has a spot of poly in the first row, in its column, where it leads on to the south.
pub record HasCapSpot (plan : Plan) (name : Piece → ℕ) (net : ℕ) : Type 0 where
  pub piece : Piece
  pub inside : IsIn plan (border_spot plan 0 (wire_col net) South Poly) piece
  pub bears : name piece ≡ net

-- In the frame's block each net has one.
abbrev pub HasCapSpots : TreeTable → Tables → BlockKind → (Piece → ℕ) → Type 0
HasCapSpots tree tables (FrameBlock v) name = (net : ℕ) → net < block_nets tree tables (FrameBlock v) → HasCapSpot (block_plan tree tables (FrameBlock v)) name net
HasCapSpots tree tables _ name = ⊤

-- The tiles of a block, by these names of its nets, are a module with the nets, the devices and the sides of its kind.
pub record IsBlockModule (tree : TreeTable) (tables : Tables) (kind : BlockKind) : Type 0 where
  pub name : Piece → ℕ
  pub is_module : IsModule (block_plan tree tables kind) (block_nets tree tables kind) name (vdd_wire (counts_of tree tables))
      (block_devices tree tables kind) (block_border tree tables kind)
  pub caps : HasCapSpots tree tables kind name

abbrev pub BlocksAreModules : Type 0
BlocksAreModules = (tree : TreeTable) (tables : Tables) (kind : BlockKind) → IsTree tree → IsSpecification tables
    → All (λ s. s < length tables.symbols) (leaves (whole tree)) → IsBlockOf tree kind → IsBlockModule tree tables kind
