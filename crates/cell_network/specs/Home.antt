-- Where the nets of the parts stand in the whole network. A net is numbered by the part that drives it, in an order in which
-- a gate stands behind its inputs: supplies, clocks and pads of inputs; what the lines say; what has ended, from the
-- leaves up; what begins, from the root down; the outputs; and the storage nodes behind PHI1.
use Rattle.std.specs.Prelude.{◌≡◌, ◌<◌, ◌≤◌, length, slice_index_or, slice_set, ℕ, suc, ◌+◌, ◌-◌, ◌*◌, ◌==◌, if◌then◌else◌, List, [], ◌∷◌}
use Rattle.star_normal.specs.declared.node.Node.{Node}
use Rattle.star_normal.specs.declared.node.NodeKind.{NodeKind}
use Rattle.star_normal.specs.declared.node.NodeKind.TheVariants.{Leaf, Seq, Alt}
use Rattle.cell_network.specs.declared.numbering.Numbering.{Numbering}
use Rattle.cell_network.specs.declared.numbering.Counts.{Counts}

-- So few lines, symbols, outputs and nodes as specifications and their trees have.
pub record AreFew (c : Counts) : Type 0 where
  pub lines : c.lines ≤ 16
  pub symbols : c.symbols ≤ 32
  pub outputs : c.outputs ≤ 16
  pub nodes : c.nodes ≤ 8191

-- ---- nets of the whole

-- the first line, behind the supplies, the clocks and the reset
abbrev pub line_net : Counts → ℕ
line_net c = 5

abbrev pub complement_net : Counts → ℕ
complement_net c = 5 + c.lines

abbrev pub symbol_net : Counts → ℕ
symbol_net c = 5 + 2 * c.lines

-- the start register, and IN of the root behind it
abbrev pub start_net : Counts → ℕ
start_net c = 5 + 2 * c.lines + c.symbols

-- OUT of the node: its register, or whether a part of it has ended. The net before it is the register's stored node or the
-- complement of OUT.
abbrev pub end_net : Counts → ℕ → ℕ
end_net c v = 7 + 2 * c.lines + c.symbols + 2 * v

-- the complement of IN', then IN', and two nets more, of nodes from the last to the first
abbrev pub begin_net : Counts → ℕ → ℕ
begin_net c v = 7 + 2 * c.lines + c.symbols + 2 * c.nodes + 4 * (c.nodes - suc v)

abbrev pub shared_net : Counts → ℕ
shared_net c = 7 + 2 * c.lines + c.symbols + 6 * c.nodes

abbrev pub output_net : Counts → ℕ
output_net c = 7 + 2 * c.lines + c.symbols + 6 * c.nodes + c.outputs

-- the first storage node of the start register, and its complement; those of the nodes follow
abbrev pub master_net : Counts → ℕ
master_net c = 7 + 2 * c.lines + c.symbols + 6 * c.nodes + 2 * c.outputs

abbrev pub whole_nets : Counts → ℕ
whole_nets c = master_net c + 2 + 2 * c.nodes

-- ---- IN of a node

-- whether the node feeds the node v, and by which of its nets: the left part begins with it, the right one by IN of its own
abbrev pub pair_feeds : Counts → ℕ → ℕ → ℕ → ℕ → ℕ → ℕ
pair_feeds c k l r v found = if r == v then begin_net c k + 3 else if l == v then begin_net c k + 1 else found

abbrev pub feeds : Counts → ℕ → NodeKind → ℕ → ℕ → ℕ
feeds c k (Leaf s) v found = found
feeds c k (Seq l r) v found = pair_feeds c k l r v found
feeds c k (Alt l r) v found = pair_feeds c k l r v found

-- the net that feeds the node v, among nodes that are numbered from k on
abbrev pub fed_from : Counts → ℕ → List Node → ℕ → ℕ → ℕ
fed_from c k [] v found = found
fed_from c k (node ∷ nodes) v found = fed_from c (suc k) nodes v (feeds c k node.kind v found)

-- IN of the node: what its parent feeds it with, and for the root the start register
abbrev pub in_net : Counts → List Node → ℕ → ℕ
in_net c nodes v = fed_from c 0 nodes v (start_net c + 1)

-- the list of IN of every node, when the node has fed its parts
abbrev pub fed_nets : Counts → ℕ → NodeKind → List ℕ → List ℕ
fed_nets c k (Leaf s) nets = nets
fed_nets c k (Seq l r) nets = slice_set (slice_set nets l (begin_net c k + 1)) r (begin_net c k + 3)
fed_nets c k (Alt l r) nets = slice_set (slice_set nets l (begin_net c k + 1)) r (begin_net c k + 3)

-- the list has IN of every node
pub record AreInNets (c : Counts) (nodes : List Node) (nets : List ℕ) : Type 0 where
  pub size : length nets ≡ length nodes
  pub each : (v : ℕ) → v < length nodes → slice_index_or nets v 0 ≡ in_net c nodes v

-- ---- the nets of one part in the whole

abbrev pub home_numbers : Counts → ℕ → ℕ → ℕ → ℕ → Numbering
home_numbers c v inn left right = record {
  symbols = symbol_net c;
  shared = shared_net c;
  inn = inn;
  out = end_net c v + 1;
  reset = 4;
  vdd = 0;
  not_begins = begin_net c v;
  begins = begin_net c v + 1;
  not_symbol = begin_net c v + 2;
  source = begin_net c v + 3;
  master = master_net c + 2 + 2 * v;
  inverse = master_net c + 3 + 2 * v;
  stored = end_net c v;
  left_out = end_net c left + 1;
  right_in = begin_net c v + 3;
  right_out = end_net c right + 1;
  not_right = begin_net c v + 2;
  not_out = end_net c v;
  lines = line_net c;
  complements = complement_net c;
  outputs = output_net c;
}

abbrev pub home_of_kind : Counts → ℕ → ℕ → NodeKind → Numbering
home_of_kind c v inn (Leaf s) = home_numbers c v inn 0 0
home_of_kind c v inn (Seq l r) = home_numbers c v inn l r
home_of_kind c v inn (Alt l r) = home_numbers c v inn l r

-- the nets of the node's part
abbrev pub home : Counts → List Node → ℕ → Node → Numbering
home c nodes v node = home_of_kind c v (in_net c nodes v) node.kind

-- the nets of the frame's part, where IN and OUT are the root's
abbrev pub frame_home : Counts → ℕ → Numbering
frame_home c root = record {
  symbols = symbol_net c;
  shared = shared_net c;
  inn = start_net c + 1;
  out = end_net c root + 1;
  reset = 4;
  vdd = 0;
  not_begins = 0;
  begins = 0;
  not_symbol = 0;
  source = 0;
  master = master_net c;
  inverse = master_net c + 1;
  stored = start_net c;
  left_out = 0;
  right_in = 0;
  right_out = 0;
  not_right = 0;
  not_out = 0;
  lines = line_net c;
  complements = complement_net c;
  outputs = output_net c;
}
