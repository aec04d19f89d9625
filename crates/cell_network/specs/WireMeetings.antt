-- Which nets of two parts meet: wires of a part, and the nets that they are in the part above.
use Rattle.std.specs.Prelude.{◌≡◌, ◌↔◌, ◌⊎◌, ℕ, ◌+◌, ◌<◌, ◌≤◌, ◌==◌, nat_lt, Bool, true, false, if◌then◌else◌, length, Some}
use Rattle.rx_lang.specs.Tables.{Tables, IsSpecification}
use Rattle.star_normal.specs.Tables.{TreeTable, IsTree}
use Rattle.nor_net.specs.Assembly.{PartNet, NetsMeet}
use Rattle.cell_network.specs.declared.numbering.Counts.{Counts}
use Rattle.cell_network.specs.Parts.{counts_of, inn_wire, bundle, pair_numbers, part_of}
use Rattle.cell_network.specs.Assembled.{left_below, right_below, ports_meet, part_count, HasSymbolsOf}

-- the net of a node's part that is wire i of its left part, or of its right part
abbrev pub left_wire : Counts → ℕ → ℕ
left_wire c i = if i == inn_wire c then (pair_numbers c).begins else if i == inn_wire c + 1 then (pair_numbers c).left_out else i

abbrev pub right_wire : Counts → ℕ → ℕ
right_wire c i = if i == inn_wire c then (pair_numbers c).right_in else if i == inn_wire c + 1 then (pair_numbers c).right_out else i

-- the net of the part with this number that is wire i of the part below; the frame has the root's wires
abbrev pub wire_above : TreeTable → Tables → Bool → ℕ → ℕ → ℕ
wire_above tree tables left v i =
    let c = counts_of tree tables in
    if nat_lt v (length tree.nodes) then (if left then left_wire c i else right_wire c i) else i

-- The second net is a wire of a part, and the first one is the net of the part above that it is there.
pub record IsWireBelow (tree : TreeTable) (tables : Tables) (a b : PartNet) : Type 0 where
  pub known : a.which ≤ length tree.nodes
  pub wire : b.net < bundle (counts_of tree tables)
  pub side : ((left_below tree a.which ≡ Some b.which) × (a.net ≡ wire_above tree tables true a.which b.net))
      ⊎ ((right_below tree a.which ≡ Some b.which) × (a.net ≡ wire_above tree tables false a.which b.net))

-- These nets meet, and no others.
abbrev pub WiresMeet : Type 0
WiresMeet = (tree : TreeTable) (tables : Tables) (a b : PartNet) → IsTree tree → IsSpecification tables → HasSymbolsOf tree tables
    → NetsMeet (part_of tree tables) (part_count tree) (ports_meet tree tables) a b ↔ IsWireBelow tree tables a b
