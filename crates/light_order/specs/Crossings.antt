-- Edges of a tree that cross a place of an order of its nodes.
use Rattle.std.specs.Prelude.{ℕ, ◌+◌, Bool, true, false, not, ◌&&◌, ◌==◌, cond, nat_lt, nat_le, Option, Some, None, List, [], ◌∷◌, ◌++◌, length, position, flat_map, count_by}
use Rattle.std.specs.List.{range_with_len}
use Rattle.star_normal.specs.Tables.{TreeTable}
use Rattle.light_order.specs.Order.{light_of, heavy_of}

-- an edge of the tree: the numbers of its nodes, and whether it goes to a heavy child
pub record TreeEdge : Type 0 where
  pub parent : ℕ
  pub child : ℕ
  pub heavy : Bool

abbrev pub edge_to : ℕ → Bool → Option ℕ → List TreeEdge
edge_to parent heavy None = []
edge_to parent heavy (Some child) = record { parent = parent; child = child; heavy = heavy } ∷ []

-- the edges from a node to its children, the light one first
abbrev pub edges_from : TreeTable → ℕ → List TreeEdge
edges_from table v = edge_to v false (light_of table v) ++ edge_to v true (heavy_of table v)

-- the edges from all nodes and from the frame
abbrev pub tree_edges : TreeTable → List TreeEdge
tree_edges table = flat_map (edges_from table) (range_with_len 0 (length table.nodes + 1))

-- one of two numbers is before the place
abbrev pub is_parted : ℕ → ℕ → ℕ → Bool
is_parted place i k = cond (nat_lt i place) (not (nat_lt k place)) (nat_lt k place)

-- two numbers are from `from` up to, and not with, `to`, and one of them is before the place
abbrev pub is_across : ℕ → ℕ → ℕ → ℕ → ℕ → Bool
is_across from to place i k = nat_le from i && (nat_lt i to && (nat_le from k && (nat_lt k to && is_parted place i k)))

abbrev pub are_across : ℕ → ℕ → ℕ → Option ℕ → Option ℕ → Bool
are_across from to place (Some i) (Some k) = is_across from to place i k
are_across from to place i k = false

-- the number at which a node stands in an order
abbrev pub number_of : List ℕ → ℕ → Option ℕ
number_of order v = position (λ x. x == v) order

-- an edge between two nodes has its ends among the entries of the order from `from` up to, not with, `to`, and crosses the place
abbrev pub crosses : List ℕ → ℕ → ℕ → ℕ → ℕ → ℕ → Bool
crosses order from to place parent child = are_across from to place (number_of order parent) (number_of order child)

-- how many edges do
abbrev pub crossings : TreeTable → List ℕ → ℕ → ℕ → ℕ → ℕ
crossings table order from to place = count_by (λ e. crosses order from to place e.parent e.child) (tree_edges table)

-- how many of those do that go to a light child
abbrev pub light_crossings : TreeTable → List ℕ → ℕ → ℕ → ℕ → ℕ
light_crossings table order from to place = count_by (λ e. not e.heavy && crosses order from to place e.parent e.child) (tree_edges table)
