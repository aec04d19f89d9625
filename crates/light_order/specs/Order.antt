-- The nodes of a normal form and the frame above it, light parts first.
use Rattle.std.specs.Prelude.{ℕ, Bool, true, false, ◌==◌, cond, Option, Some, None, List, [], ◌∷◌, ◌++◌, length, slice_get, slice_index_or, fold}
use Rattle.std.specs.Option.{option_and_then}
use Rattle.star_normal.specs.declared.node.Node.{Node}
use Rattle.star_normal.specs.Sizes.{size_at, light_child, heavy_child}
use Rattle.star_normal.specs.Tables.{TreeTable}

-- the frame, which stands above the root, has the number behind those of the nodes
abbrev pub frame : TreeTable → ℕ
frame table = length table.nodes

-- The light child and the heavy child of a node. The frame has the root as its heavy child, and no light one.

abbrev pub light_of : TreeTable → ℕ → Option ℕ
light_of table v = option_and_then (λ node. light_child (size_at table.nodes) node.kind) (slice_get table.nodes v)

abbrev pub heavy_of : TreeTable → ℕ → Option ℕ
heavy_of table v =
    cond (v == frame table) (Some table.root) (option_and_then (λ node. heavy_child (size_at table.nodes) node.kind) (slice_get table.nodes v))

-- the child in a role
abbrev pub child_of : TreeTable → Bool → ℕ → Option ℕ
child_of table false v = light_of table v
child_of table true v = heavy_of table v

-- a number, where there is one
abbrev pub listed : Option ℕ → List ℕ
listed None = []
listed (Some k) = k ∷ []

-- what the list has for a child, or nothing where there is no child
abbrev pub part_of : List (List ℕ) → Option ℕ → List ℕ
part_of orders None = []
part_of orders (Some child) = slice_index_or orders child []

-- a node, its light part, and its heavy part, from the orders of the nodes before it
abbrev pub order_of : (ℕ → ℕ) → List (List ℕ) → Node → List ℕ
order_of size orders node =
    length orders ∷ (part_of orders (light_child size node.kind) ++ part_of orders (heavy_child size node.kind))

-- for each node the nodes at and below it, light parts first
abbrev pub orders : List Node → List (List ℕ)
orders nodes = fold (λ before node. before ++ order_of (size_at nodes) before node ∷ []) [] nodes

-- the frame, then the nodes of the tree, light parts first
abbrev pub light_first : TreeTable → List ℕ
light_first table = frame table ∷ slice_index_or (orders table.nodes) table.root []
