-- The network of cells as an assembly of its parts: which net of the whole a net of a part is, and which ports meet. The parts
-- of nodes have the numbers of the nodes, and the frame's follows them.
use Rattle.std.specs.Prelude.{◌≡◌, ℕ, ◌+◌, ◌*◌, ◌<◌, ◌≤◌, ◌==◌, ◌&&◌, ◌||◌, Bool, false, nat_lt, if◌then◌else◌, List, [], ◌∷◌, ◌++◌, map, length, slice_index_or, Option, Some, None, All, IsPermutation}
use Rattle.std.specs.List.{list_any, range_with_len}
use Rattle.rx_text.specs.declared.pad_name.Role.{Role}
use Rattle.rx_text.specs.declared.pad_name.Role.TheVariants.{Vdd, Gnd, Phi1, Phi2, Reset as ResetRole, Input as InputRole, Output as OutputRole}
use Rattle.rx_lang.specs.Tables.{Tables, IsSpecification}
use Rattle.star_normal.specs.declared.node.Node.{Node}
use Rattle.star_normal.specs.declared.node.NodeKind.{NodeKind}
use Rattle.star_normal.specs.declared.node.NodeKind.TheVariants.{Leaf, Seq, Alt}
use Rattle.star_normal.specs.Trees.{leaves}
use Rattle.star_normal.specs.Tables.{TreeTable, IsTree, parts, whole}
use Rattle.switch_net.specs.Recognition.{plain_pad, named_pad}
use Rattle.nor_net.specs.SwitchForm.{switch_form}
use Rattle.nor_net.specs.Assembly.{PartNet, part_net, IsPartNet, NetsMeet, PartsJoin, PartPad, pad_by, assembled_devices, IsAssembly}
use Rattle.cell_network.specs.declared.numbering.Numbering.{Numbering}
use Rattle.cell_network.specs.declared.numbering.Counts.{Counts}
use Rattle.cell_network.specs.Parts.{counts_of, node_at, inn_wire, bundle, pair_numbers, frame_numbers, part_of}
use Rattle.cell_network.specs.Home.{whole_nets, home, frame_home}
use Rattle.cell_network.specs.Whole.{pads_of, cells_of}

-- ---- nets of the whole

abbrev pub pair_homes : Numbering → List ℕ
pair_homes n = n.begins ∷ n.left_out ∷ n.right_in ∷ n.right_out ∷ n.not_begins ∷ n.not_right ∷ n.not_out ∷ []

-- the nets of the whole that the own nets of a node's part are, in order, from the numbers of its nets in the whole
abbrev pub kind_homes : Numbering → NodeKind → List ℕ
kind_homes n (Leaf s) = n.not_begins ∷ n.begins ∷ n.not_symbol ∷ n.source ∷ n.master ∷ n.inverse ∷ n.stored ∷ []
kind_homes n (Seq l r) = pair_homes n
kind_homes n (Alt l r) = pair_homes n

-- those that the own nets of the frame's part are
abbrev pub frame_homes : Counts → Numbering → List ℕ
frame_homes c n =
    range_with_len n.lines c.lines ++ (range_with_len n.complements c.lines ++ (range_with_len n.outputs c.outputs ++ n.master ∷ n.inverse ∷ n.stored ∷ []))

-- those that all nets of a part are: its wires, and these own nets
abbrev pub with_wires : Counts → Numbering → List ℕ → List ℕ
with_wires c n own =
    range_with_len n.symbols c.symbols ++ (range_with_len n.shared c.outputs ++ n.inn ∷ n.out ∷ n.reset ∷ 2 ∷ 3 ∷ n.vdd ∷ 1 ∷ own)

abbrev pub node_homes : Counts → List Node → ℕ → List ℕ
node_homes c nodes v =
    let node = node_at nodes v in
    with_wires c (home c nodes v node) (kind_homes (home c nodes v node) node.kind)

-- the nets of the whole that the nets of the part with this number are
abbrev pub homes_of : TreeTable → Tables → ℕ → List ℕ
homes_of tree tables v =
    let c = counts_of tree tables in
    if nat_lt v c.nodes then node_homes c tree.nodes v
    else with_wires c (frame_home c tree.root) (frame_homes c (frame_home c tree.root))

-- the net of the whole that a net of a part is
abbrev pub part_home : TreeTable → Tables → PartNet → ℕ
part_home tree tables a = slice_index_or (homes_of tree tables a.which) a.net 0

-- ---- ports that meet

abbrev pub left_of : NodeKind → Option ℕ
left_of (Leaf s) = None
left_of (Seq l r) = Some l
left_of (Alt l r) = Some l

abbrev pub right_of : NodeKind → Option ℕ
right_of (Leaf s) = None
right_of (Seq l r) = Some r
right_of (Alt l r) = Some r

-- the left part of the part with this number; the frame's is the root
abbrev pub left_below : TreeTable → ℕ → Option ℕ
left_below tree p = if nat_lt p (length tree.nodes) then left_of (node_at tree.nodes p).kind else Some tree.root

-- its right part; the frame has none
abbrev pub right_below : TreeTable → ℕ → Option ℕ
right_below tree p = if nat_lt p (length tree.nodes) then right_of (node_at tree.nodes p).kind else None

-- there is such a part, and it has this number
abbrev pub is_number : Option ℕ → ℕ → Bool
is_number None v = false
is_number (Some w) v = w == v

-- Wire i of a part has the name i there, and at the part above it e + i on the left and 2 e + i on the right, where e is the
-- number of wires.
abbrev pub ports_meet : TreeTable → Tables → ℕ → ℕ → ℕ → ℕ → Bool
ports_meet tree tables above name below wire =
    let e = bundle (counts_of tree tables) in
    nat_lt wire e
    && ((is_number (left_below tree above) below && name == e + wire) || (is_number (right_below tree above) below && name == 2 * e + wire))

-- ---- the net of a part that drives

-- the number of the first of these nodes that has v for a part, counted from k; the frame's where none has
abbrev pub above_from : ℕ → List Node → ℕ → ℕ
above_from k [] v = k
above_from k (node ∷ nodes) v = if list_any (λ child. child == v) (parts node.kind) then k else above_from (k + 1) nodes v

-- the number of the part above the node's
abbrev pub part_above : TreeTable → ℕ → ℕ
part_above tree v = above_from 0 tree.nodes v

-- the net by which a node of this kind feeds IN of its part v
abbrev pub feeding_net : Counts → NodeKind → ℕ → ℕ
feeding_net c (Leaf s) v = inn_wire c
feeding_net c (Seq l r) v = if r == v then (pair_numbers c).right_in else (pair_numbers c).begins
feeding_net c (Alt l r) v = if r == v then (pair_numbers c).right_in else (pair_numbers c).begins

-- the net of the part above that feeds IN of the node; the frame's own IN is the root's
abbrev pub feeder : Counts → TreeTable → ℕ → PartNet
feeder c tree v =
    let above = part_above tree v in
    part_net above (if nat_lt above c.nodes then feeding_net c (node_at tree.nodes above).kind v else inn_wire c)

-- OUT of a part below is driven there.
abbrev pub pair_driver : Counts → ℕ → ℕ → ℕ → ℕ → PartNet
pair_driver c v l r net =
    if net == (pair_numbers c).left_out then part_net l (inn_wire c + 1)
    else if net == (pair_numbers c).right_out then part_net r (inn_wire c + 1) else part_net v net

-- what drives an own net of the node's part
abbrev pub own_driver : Counts → ℕ → NodeKind → ℕ → PartNet
own_driver c v (Leaf s) net = part_net v net
own_driver c v (Seq l r) net = pair_driver c v l r net
own_driver c v (Alt l r) net = pair_driver c v l r net

-- A node drives its OUT, and the frame the other wires.
abbrev pub node_driver : Counts → TreeTable → ℕ → ℕ → PartNet
node_driver c tree v net =
    if net == inn_wire c then feeder c tree v
    else if net == inn_wire c + 1 then part_net v net
    else if nat_lt net (bundle c) then part_net c.nodes net else own_driver c v (node_at tree.nodes v).kind net

-- OUT of the root is no net of the frame's own.
abbrev pub frame_driver : Counts → TreeTable → ℕ → PartNet
frame_driver c tree net = if net == inn_wire c + 1 then part_net tree.root net else part_net c.nodes net

-- Among the nets of parts that are one net of the whole this is the one that stands for it: in the part that drives the net, or
-- that pads drive it in.
abbrev pub driver_of : TreeTable → Tables → PartNet → PartNet
driver_of tree tables a =
    let c = counts_of tree tables in
    if nat_lt a.which c.nodes then node_driver c tree a.which a.net else frame_driver c tree a.net

-- ---- pads

abbrev pub frame_pad : Counts → Role → ℕ → PartPad
frame_pad c role net = record { name = plain_pad role; net = part_net c.nodes net }

abbrev pub frame_pad_at : Counts → Role → ℕ → List (List ℕ) → ℕ → PartPad
frame_pad_at c role net names i = record { name = named_pad role (slice_index_or names i []); net = part_net c.nodes (net + i) }

-- The pads stand on nets of the frame: the supplies, the clocks, the reset, the lines, the outputs.
abbrev pub frame_pads : TreeTable → Tables → List PartPad
frame_pads tree tables =
    let c = counts_of tree tables in
    frame_pad c Vdd (inn_wire c + 5) ∷ frame_pad c Gnd (inn_wire c + 6) ∷ frame_pad c Phi1 (inn_wire c + 3) ∷ frame_pad c Phi2 (inn_wire c + 4)
    ∷ frame_pad c ResetRole (inn_wire c + 2)
    ∷ (map (frame_pad_at c InputRole (frame_numbers c).lines tables.lines) (range_with_len 0 (length tables.lines))
    ++ map (frame_pad_at c OutputRole (frame_numbers c).outputs tables.outputs) (range_with_len 0 (length tables.outputs)))

-- ---- laws

-- the number of parts
abbrev pub part_count : TreeTable → ℕ
part_count tree = length tree.nodes + 1

-- Each net of the whole has one net of a part that stands for it, and meetings lead there from all that are this net.
pub record AreDriven (tree : TreeTable) (tables : Tables) : Type 0 where
  pub known : (a : PartNet) → IsPartNet (part_of tree tables) (part_count tree) a → IsPartNet (part_of tree tables) (part_count tree) (driver_of tree tables a)
  pub fixed : (a : PartNet) → IsPartNet (part_of tree tables) (part_count tree) a → driver_of tree tables (driver_of tree tables a) ≡ driver_of tree tables a
  pub home : (a : PartNet) → IsPartNet (part_of tree tables) (part_count tree) a → part_home tree tables (driver_of tree tables a) ≡ part_home tree tables a
  pub apart : (a b : PartNet) → IsPartNet (part_of tree tables) (part_count tree) a → IsPartNet (part_of tree tables) (part_count tree) b
      → part_home tree tables a ≡ part_home tree tables b → driver_of tree tables a ≡ driver_of tree tables b
  pub below : (a : PartNet) → IsPartNet (part_of tree tables) (part_count tree) a → part_home tree tables a < whole_nets (counts_of tree tables)
  pub leads : (a : PartNet) → IsPartNet (part_of tree tables) (part_count tree) a
      → PartsJoin (part_of tree tables) (part_count tree) (ports_meet tree tables) a (driver_of tree tables a)
  pub meets : (a b : PartNet) → NetsMeet (part_of tree tables) (part_count tree) (ports_meet tree tables) a b
      → driver_of tree tables a ≡ driver_of tree tables b
  pub vdd : (v : ℕ) → v ≤ length tree.nodes → part_home tree tables (part_net v (part_of tree tables v).vdd) ≡ 0
  pub gnd : (v : ℕ) → v ≤ length tree.nodes → part_home tree tables (part_net v (part_of tree tables v).gnd) ≡ 1
  pub phi1 : (v : ℕ) → v ≤ length tree.nodes → part_home tree tables (part_net v (part_of tree tables v).phi1) ≡ 2
  pub phi2 : (v : ℕ) → v ≤ length tree.nodes → part_home tree tables (part_net v (part_of tree tables v).phi2) ≡ 3
  pub pads : map (pad_by (part_home tree tables)) (frame_pads tree tables) ≡ pads_of (counts_of tree tables) tables
  pub pads_known : All (λ pad. IsPartNet (part_of tree tables) (part_count tree) pad.net) (frame_pads tree tables)
  pub pads_driven : All (λ pad. driver_of tree tables pad.net ≡ pad.net) (frame_pads tree tables)

-- a tree whose leaves bear symbols of the specification
abbrev pub HasSymbolsOf : TreeTable → Tables → Type 0
HasSymbolsOf tree tables = All (λ s. s < length tables.symbols) (leaves (whole tree))

abbrev pub CellsAreDriven : Type 0
CellsAreDriven = (tree : TreeTable) (tables : Tables) → IsTree tree → IsSpecification tables → HasSymbolsOf tree tables → AreDriven tree tables

-- The devices of the network of cells are those of its parts, in another order.
abbrev pub CellsHaveTheirDevices : Type 0
CellsHaveTheirDevices = (tree : TreeTable) (tables : Tables) → IsTree tree → IsSpecification tables → HasSymbolsOf tree tables
    → IsPermutation (assembled_devices (part_of tree tables) (part_count tree) (part_home tree tables)) (switch_form (cells_of tree tables)).devices

-- The network of cells is the assembly of its parts.
abbrev pub CellsAreAssembled : Type 0
CellsAreAssembled = (tree : TreeTable) (tables : Tables) → IsTree tree → IsSpecification tables → HasSymbolsOf tree tables
    → IsAssembly (part_of tree tables) (part_count tree) (ports_meet tree tables) (frame_pads tree tables) (switch_form (cells_of tree tables))
