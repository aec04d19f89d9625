-- The parts of the network of cells: one for each node, and the frame, which stands above the root.
use Rattle.std.specs.Prelude.{ℕ, ◌+◌, ◌*◌, ◌<◌, ⊤, false, nat_lt, if◌then◌else◌, List, [], ◌∷◌, ◌++◌, length, map, slice_index_or}
use Rattle.std.specs.List.{range_with_len}
use Rattle.rx_lang.specs.Tables.{Tables}
use Rattle.star_normal.specs.declared.node.Node.{Node}
use Rattle.star_normal.specs.declared.node.NodeKind.{NodeKind}
use Rattle.star_normal.specs.declared.node.NodeKind.TheVariants.{Leaf, Seq, Alt}
use Rattle.star_normal.specs.Tables.{TreeTable, plain_node}
use Rattle.nor_net.specs.Part.{PartTables}
use Rattle.nor_net.specs.declared.gate.Transfer.{Transfer}
use Rattle.nor_net.specs.declared.part.PartPort.{PartPort}
use Rattle.cell_network.specs.declared.part_net.PartNet.TheVariants.{Shared, Reset}
use Rattle.cell_network.specs.declared.numbering.Numbering.{Numbering}
use Rattle.cell_network.specs.declared.numbering.Counts.{Counts}
use Rattle.cell_network.specs.Shapes.{NamedGate, number, numbered, register, kind_gates, kind_transfers, mark_gates, frame_gates}

abbrev pub counts_of : TreeTable → Tables → Counts
counts_of tree tables = record {
  lines = length tables.lines;
  symbols = length tables.symbols;
  outputs = length tables.outputs;
  nodes = length tree.nodes;
}

-- a symbol that the node names has a number below this one
abbrev pub NamesSymbol : ℕ → NodeKind → Type 0
NamesSymbol symbols (Leaf s) = s < symbols
NamesSymbol symbols (Seq l r) = ⊤
NamesSymbol symbols (Alt l r) = ⊤

-- the node with this number
abbrev pub node_at : List Node → ℕ → Node
node_at nodes v = slice_index_or nodes v (plain_node (Leaf 0) false)

-- The wires of a bundle: the symbols, the outputs' shared wires, IN, OUT, reset, PHI1, PHI2, VDD and GND. In every part they
-- are the first nets.
abbrev pub inn_wire : Counts → ℕ
inn_wire c = c.symbols + c.outputs

abbrev pub bundle : Counts → ℕ
bundle c = c.symbols + c.outputs + 7

-- the numbers of the wires, and 0 for the part's own nets
abbrev pub wire_numbers : Counts → Numbering
wire_numbers c = record {
  symbols = 0;
  shared = c.symbols;
  inn = inn_wire c;
  out = inn_wire c + 1;
  reset = inn_wire c + 2;
  vdd = inn_wire c + 5;
  not_begins = 0;
  begins = 0;
  not_symbol = 0;
  source = 0;
  master = 0;
  inverse = 0;
  stored = 0;
  left_out = 0;
  right_in = 0;
  right_out = 0;
  not_right = 0;
  not_out = 0;
  lines = 0;
  complements = 0;
  outputs = 0;
}

abbrev pub leaf_numbers : Counts → Numbering
leaf_numbers c = record (wire_numbers c) {
  not_begins = bundle c;
  begins = bundle c + 1;
  not_symbol = bundle c + 2;
  source = bundle c + 3;
  master = bundle c + 4;
  inverse = bundle c + 5;
  stored = bundle c + 6;
}

abbrev pub pair_numbers : Counts → Numbering
pair_numbers c = record (wire_numbers c) {
  begins = bundle c;
  left_out = bundle c + 1;
  right_in = bundle c + 2;
  right_out = bundle c + 3;
  not_begins = bundle c + 4;
  not_right = bundle c + 5;
  not_out = bundle c + 6;
}

abbrev pub frame_numbers : Counts → Numbering
frame_numbers c = record (wire_numbers c) {
  lines = bundle c;
  complements = bundle c + c.lines;
  outputs = bundle c + 2 * c.lines;
  master = bundle c + 2 * c.lines + c.outputs;
  inverse = bundle c + 2 * c.lines + c.outputs + 1;
  stored = bundle c + 2 * c.lines + c.outputs + 2;
}

-- ---- ports

-- the ports of nets that follow one another, under names that do
abbrev pub ports_from : ℕ → ℕ → ℕ → List PartPort
ports_from name net count = map (λ i. record { name = name + i; net = net + i }) (range_with_len 0 count)

-- The ports towards a child, whose names begin with this one. IN and OUT of the child are nets of the parent's own.
abbrev pub child_ports : Counts → ℕ → ℕ → ℕ → List PartPort
child_ports c name inn out =
    ports_from name 0 (inn_wire c)
    ++ record { name = name + inn_wire c; net = inn } ∷ record { name = name + inn_wire c + 1; net = out } ∷ []
    ++ ports_from (name + inn_wire c + 2) (inn_wire c + 2) 5

-- Wire i of the bundle has the name i towards the parent, e + i towards the left child and 2 e + i towards the right one,
-- where e is the number of wires.
abbrev pub pair_ports : Counts → List PartPort
pair_ports c =
    ports_from 0 0 (bundle c)
    ++ child_ports c (bundle c) (pair_numbers c).begins (pair_numbers c).left_out
    ++ child_ports c (2 * bundle c) (pair_numbers c).right_in (pair_numbers c).right_out

-- The root is the frame's left child. Line i has the name 3 e + i, and output y the name 3 e + 16 + y.
abbrev pub frame_ports : Counts → List PartPort
frame_ports c =
    ports_from (bundle c) 0 (bundle c)
    ++ ports_from (3 * bundle c) (frame_numbers c).lines c.lines
    ++ ports_from (3 * bundle c + 16) (frame_numbers c).outputs c.outputs

-- ---- parts

-- the nets of these gates' loads
abbrev pub loads_of : Numbering → List NamedGate → List ℕ
loads_of n gates = map (λ g. number n g.out) gates

-- a part with so many nets of its own behind the wires
abbrev pub part_with : Counts → ℕ → Numbering → List NamedGate → List ℕ → List Transfer → List PartPort → PartTables
part_with c own n gates loads transfers ports = record {
  nets = bundle c + own;
  vdd = inn_wire c + 5;
  gnd = inn_wire c + 6;
  phi1 = inn_wire c + 3;
  phi2 = inn_wire c + 4;
  gates = map (numbered n) gates;
  loads = loads;
  transfers = transfers;
  ports = ports;
}

abbrev pub kind_numbers : Counts → NodeKind → Numbering
kind_numbers c (Leaf s) = leaf_numbers c
kind_numbers c (Seq l r) = pair_numbers c
kind_numbers c (Alt l r) = pair_numbers c

abbrev pub kind_ports : Counts → NodeKind → List PartPort
kind_ports c (Leaf s) = ports_from 0 0 (bundle c)
kind_ports c (Seq l r) = pair_ports c
kind_ports c (Alt l r) = pair_ports c

-- The part of a node. A mark only pulls its shared wire, which has its load in the frame's part.
abbrev pub node_part_of : Counts → List Node → Node → PartTables
node_part_of c nodes node =
    let n = kind_numbers c node.kind in
    let loaded = kind_gates nodes node node.kind in
    part_with c 7 n (loaded ++ mark_gates c.outputs node) (loads_of n loaded) (kind_transfers n node.kind) (kind_ports c node.kind)

-- the part of the frame
abbrev pub frame_part_of : Counts → Tables → PartTables
frame_part_of c tables =
    let n = frame_numbers c in
    part_with c (2 * c.lines + c.outputs + 3) n (frame_gates tables)
    (loads_of n (frame_gates tables) ++ map (λ y. number n (Shared y)) (range_with_len 0 c.outputs)) (register n Reset) (frame_ports c)

-- the part with this number, which is the frame's behind those of the nodes
abbrev pub part_of : TreeTable → Tables → ℕ → PartTables
part_of tree tables v =
    let c = counts_of tree tables in
    if nat_lt v c.nodes then node_part_of c tree.nodes (node_at tree.nodes v) else frame_part_of c tables
