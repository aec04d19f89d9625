-- The nodes of a tree and the frame above it by their numbers in the light-first order.
use Rattle.std.specs.Prelude.{ℕ, Bool, true, false, Option, List, map, slice_get}
use Rattle.std.specs.Option.{option_and_then, option_map_or}
use Rattle.star_normal.specs.Tables.{TreeTable}
use Rattle.light_order.specs.Order.{child_of, light_first}
use Rattle.light_order.specs.Crossings.{TreeEdge, number_of}
use Rattle.tree_layout.specs.declared.numbered.Entry.{Entry}

-- a node and the numbers of its children
abbrev pub entry_of : TreeTable → ℕ → Entry
entry_of table v = record {
  node = v;
  light = option_and_then (number_of (light_first table)) (child_of table false v);
  heavy = option_and_then (number_of (light_first table)) (child_of table true v);
}

abbrev pub entries_of : TreeTable → List Entry
entries_of table = map (entry_of table) (light_first table)

-- an edge of the tree by its nodes, and whether it goes to a heavy child
abbrev pub ends_in_tree : TreeEdge → ℕ × ℕ × Bool
ends_in_tree e = (e.parent, e.child, e.heavy)

-- the node with a number, and the number of its child in a role

abbrev pub node_at : List Entry → ℕ → ℕ
node_at entries i = option_map_or (λ e. e.node) (slice_get entries i) 0

abbrev pub in_role : Bool → Entry → Option ℕ
in_role false e = e.light
in_role true e = e.heavy

abbrev pub child_at : List Entry → Bool → ℕ → Option ℕ
child_at entries heavy i = option_and_then (in_role heavy) (slice_get entries i)
