-- Parts meet at their ports: in the whole network a net of a port is the same on both sides.
use Rattle.std.specs.Prelude.{◌≡◌, ◌⊎◌, ℕ, Some, slice_get}
use Rattle.star_normal.specs.declared.node.Node.{Node}
use Rattle.star_normal.specs.declared.node.NodeKind.TheVariants.{Seq, Alt}
use Rattle.star_normal.specs.Tables.{TreeTable}
use Rattle.cell_network.specs.declared.numbering.Counts.{Counts}
use Rattle.cell_network.specs.declared.numbering.Numbering.{Numbering}
use Rattle.cell_network.specs.declared.part_net.PartNet.{PartNet}
use Rattle.cell_network.specs.declared.part_net.PartNet.TheVariants.{Symbol, Shared, In, Out, Reset, Begins, LeftOut, RightIn, RightOut}
use Rattle.cell_network.specs.Shapes.{number}
use Rattle.cell_network.specs.Parts.{node_at}
use Rattle.cell_network.specs.Home.{home, frame_home}

-- The wires of the part below are nets of the part above, where IN and OUT of the part below are these.
pub record MeetBy (above below : Numbering) (inn out : PartNet) : Type 0 where
  pub symbols : (s : ℕ) → number above (Symbol s) ≡ number below (Symbol s)
  pub shared : (y : ℕ) → number above (Shared y) ≡ number below (Shared y)
  pub reset : number above Reset ≡ number below Reset
  pub begins : number above inn ≡ number below In
  pub ends : number above out ≡ number below Out

-- Every part meets its parent's: the left part by the parent's own beginning, the right one by IN of that part, and the root
-- the frame.
pub record PartsMeet (c : Counts) (tree : TreeTable) : Type 0 where
  pub left : (v l r : ℕ) (node : Node) → slice_get tree.nodes v ≡ Some node → (node.kind ≡ Seq l r) ⊎ (node.kind ≡ Alt l r)
      → MeetBy (home c tree.nodes v node) (home c tree.nodes l (node_at tree.nodes l)) Begins LeftOut
  pub right : (v l r : ℕ) (node : Node) → slice_get tree.nodes v ≡ Some node → (node.kind ≡ Seq l r) ⊎ (node.kind ≡ Alt l r)
      → MeetBy (home c tree.nodes v node) (home c tree.nodes r (node_at tree.nodes r)) RightIn RightOut
  pub root : MeetBy (frame_home c tree.root) (home c tree.nodes tree.root (node_at tree.nodes tree.root)) In Out
