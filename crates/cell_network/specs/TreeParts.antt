-- What the parts of a tree's nodes and of its frame are: parts whose supplies and clocks are wires, and what stands in them.
use Rattle.std.specs.Prelude.{◌≡◌, ℕ, ◌+◌, ◌*◌, ◌<◌, ◌≤◌, ◌⊎◌, length}
use Rattle.rx_lang.specs.Tables.{Tables, IsSpecification}
use Rattle.star_normal.specs.declared.node.NodeKind.TheVariants.{Leaf, Seq, Alt}
use Rattle.star_normal.specs.Tables.{TreeTable, IsTree}
use Rattle.nor_net.specs.Part.{IsPart}
use Rattle.nor_net.specs.PartShapes.{HasShape}
use Rattle.cell_network.specs.Parts.{counts_of, node_at, inn_wire, bundle, part_of}
use Rattle.cell_network.specs.Assembled.{HasSymbolsOf}

-- It is a part, whose supplies and clocks are its wires.
pub record IsWired (tree : TreeTable) (tables : Tables) (v : ℕ) : Type 0 where
  pub is_part : IsPart (part_of tree tables v)
  pub vdd : (part_of tree tables v).vdd ≡ inn_wire (counts_of tree tables) + 5
  pub gnd : (part_of tree tables v).gnd ≡ inn_wire (counts_of tree tables) + 6
  pub phi1 : (part_of tree tables v).phi1 ≡ inn_wire (counts_of tree tables) + 3
  pub phi2 : (part_of tree tables v).phi2 ≡ inn_wire (counts_of tree tables) + 4

-- The parts of the nodes and of the frame are parts. Each node's has seven nets behind its wires.
pub record AreParts (tree : TreeTable) (tables : Tables) : Type 0 where
  pub wired : (v : ℕ) → v ≤ length tree.nodes → IsWired tree tables v
  pub node_nets : (v : ℕ) → v < length tree.nodes → (part_of tree tables v).nets ≡ bundle (counts_of tree tables) + 7
  pub frame_nets : (part_of tree tables (length tree.nodes)).nets
      ≡ bundle (counts_of tree tables) + (2 * length tables.lines + length tables.outputs + 3)

-- A node has six gates with their load and at most one for each output without it, a leaf two transfers. The frame has a gate for
-- each line, symbol and output and two more, the loads of the outputs' shared wires, and two transfers.
pub record HaveShapes (tree : TreeTable) (tables : Tables) : Type 0 where
  pub leaf : (v s : ℕ) → v < length tree.nodes → (node_at tree.nodes v).kind ≡ Leaf s
      → HasShape (part_of tree tables v) 6 (length tables.outputs) 0 2
  pub pair : (v l r : ℕ) → v < length tree.nodes → ((node_at tree.nodes v).kind ≡ Seq l r) ⊎ ((node_at tree.nodes v).kind ≡ Alt l r)
      → HasShape (part_of tree tables v) 6 (length tables.outputs) 0 0
  pub frame : HasShape (part_of tree tables (length tree.nodes)) (length tables.lines + length tables.symbols + length tables.outputs + 2) 0
      (length tables.outputs) 2

abbrev pub TreesHaveParts : Type 0
TreesHaveParts = (tree : TreeTable) (tables : Tables) → IsTree tree → IsSpecification tables → HasSymbolsOf tree tables → AreParts tree tables

abbrev pub PartsHaveShapes : Type 0
PartsHaveShapes = (tree : TreeTable) (tables : Tables) → IsTree tree → IsSpecification tables → HasSymbolsOf tree tables → HaveShapes tree tables
