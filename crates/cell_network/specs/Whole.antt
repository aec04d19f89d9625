-- The network of cells: the union of the parts of the frame and of all nodes, with its pads and orders of evaluation.
use Rattle.std.specs.Prelude.{ℕ, ◌+◌, ◌*◌, List, [], ◌∷◌, ◌++◌, length, map, flat_map, slice_index_or}
use Rattle.std.specs.List.{range_with_len}
use Rattle.rx_text.specs.declared.pad_name.Role.{Role}
use Rattle.rx_text.specs.declared.pad_name.Role.TheVariants.{Vdd, Gnd, Phi1, Phi2, Reset as ResetRole, Input as InputRole, Output as OutputRole}
use Rattle.rx_lang.specs.Tables.{Tables}
use Rattle.star_normal.specs.declared.node.Node.{Node}
use Rattle.star_normal.specs.Tables.{TreeTable}
use Rattle.switch_net.specs.Recognition.{plain_pad, named_pad}
use Rattle.switch_net.specs.declared.network.Pad.{Pad}
use Rattle.nor_net.specs.Netlist.{NorGate, Netlist}
use Rattle.nor_net.specs.SwitchForm.{at}
use Rattle.nor_net.specs.declared.gate.Transfer.{Transfer}
use Rattle.cell_network.specs.declared.part_net.PartNet.TheVariants.{Reset}
use Rattle.cell_network.specs.declared.numbering.Counts.{Counts}
use Rattle.cell_network.specs.Shapes.{numbered, register, kind_gates, kind_transfers, mark_gates, frame_gates}
use Rattle.cell_network.specs.Parts.{counts_of, node_at}
use Rattle.cell_network.specs.Home.{line_net, shared_net, output_net, master_net, whole_nets, home, frame_home}

-- ---- pads

abbrev pub plain : Role → ℕ → Pad
plain role net = record { name = plain_pad role; net = at net }

abbrev pub pad_at : Role → ℕ → List (List ℕ) → ℕ → Pad
pad_at role net names i = record { name = named_pad role (slice_index_or names i []); net = at (net + i) }

-- the pads of these names, on nets from this one on
abbrev pub pads_from : Role → ℕ → List (List ℕ) → List Pad
pads_from role net names = map (pad_at role net names) (range_with_len 0 (length names))

-- the supplies, the clocks, the reset, the lines, the outputs
abbrev pub pads_of : Counts → Tables → List Pad
pads_of c tables =
    plain Vdd 0 ∷ plain Gnd 1 ∷ plain Phi1 2 ∷ plain Phi2 3 ∷ plain ResetRole 4
    ∷ (pads_from InputRole (line_net c) tables.lines ++ pads_from OutputRole (output_net c) tables.outputs)

-- ---- gates and transfers

-- the gates of the node's part
abbrev pub cell_gates : Counts → List Node → ℕ → List NorGate
cell_gates c nodes v =
    let node = node_at nodes v in
    map (numbered (home c nodes v node)) (kind_gates nodes node node.kind ++ mark_gates c.outputs node)

abbrev pub cell_transfers : Counts → List Node → ℕ → List Transfer
cell_transfers c nodes v =
    let node = node_at nodes v in
    kind_transfers (home c nodes v node) node.kind

-- A gate without inputs stands for the load of an output's shared wire, also where no node marks the output.
abbrev pub load_gate : Counts → ℕ → NorGate
load_gate c y = record { out = shared_net c + y; inputs = [] }

abbrev pub whole_gates : Counts → TreeTable → Tables → List NorGate
whole_gates c tree tables =
    map (numbered (frame_home c tree.root)) (frame_gates tables)
    ++ map (load_gate c) (range_with_len 0 c.outputs)
    ++ flat_map (cell_gates c tree.nodes) (range_with_len 0 c.nodes)

abbrev pub whole_transfers : Counts → TreeTable → List Transfer
whole_transfers c tree =
    register (frame_home c tree.root) Reset ++ flat_map (cell_transfers c tree.nodes) (range_with_len 0 c.nodes)

-- ---- orders

-- Under PHI1 the nets are evaluated by number.
abbrev pub first_order : Counts → List ℕ
first_order c = range_with_len 0 (whole_nets c)

-- Under PHI2 the storage nodes behind PHI1 keep their charge, and come first.
abbrev pub second_order : Counts → List ℕ
second_order c = range_with_len (master_net c) (2 + 2 * c.nodes) ++ range_with_len 0 (master_net c)

abbrev pub netlist_with : Counts → TreeTable → Tables → Netlist
netlist_with c tree tables = record {
  nets = whole_nets c;
  gates = whole_gates c tree tables;
  transfers = whole_transfers c tree;
  pads = pads_of c tables;
  order1 = first_order c;
  order2 = second_order c;
}

-- the netlist of the tree's cells under the specification's symbols
abbrev pub cells_of : TreeTable → Tables → Netlist
cells_of tree tables = netlist_with (counts_of tree tables) tree tables
