-- How many leaves stand below each node, and which child of a node has fewer of them.
use Rattle.std.specs.Prelude.{◌≡◌, ℕ, ◌+◌, ◌<◌, ◌≤◌, cond, nat_le, Option, Some, None, List, length, slice_index_or}
use Rattle.star_normal.specs.declared.node.Node.{Node}
use Rattle.star_normal.specs.declared.node.NodeKind.{NodeKind}
use Rattle.star_normal.specs.declared.node.NodeKind.TheVariants.{Leaf, Seq, Alt}
use Rattle.star_normal.specs.Trees.{leaves}
use Rattle.star_normal.specs.Tables.{form_at, forms}

-- the number of leaves of the tree with this number
abbrev pub size_at : List Node → ℕ → ℕ
size_at nodes k = length (leaves (form_at (forms nodes) k))

-- the leaves of a node from those of its parts
abbrev pub size_of : List ℕ → NodeKind → ℕ
size_of sizes (Leaf s) = 1
size_of sizes (Seq left right) = slice_index_or sizes left 0 + slice_index_or sizes right 0
size_of sizes (Alt left right) = slice_index_or sizes left 0 + slice_index_or sizes right 0

-- an entry for each node: how many leaves its tree has
pub record AreSizes (nodes : List Node) (sizes : List ℕ) : Type 0 where
  pub size : length sizes ≡ length nodes
  pub each : (k : ℕ) → k < length nodes → slice_index_or sizes k 0 ≡ size_at nodes k

-- Of two children the light one has fewer leaves; where both have as many it is the left one. The other one is heavy.

abbrev pub lighter : (ℕ → ℕ) → ℕ → ℕ → ℕ
lighter size left right = cond (nat_le (size left) (size right)) left right

abbrev pub heavier : (ℕ → ℕ) → ℕ → ℕ → ℕ
heavier size left right = cond (nat_le (size left) (size right)) right left

abbrev pub light_child : (ℕ → ℕ) → NodeKind → Option ℕ
light_child size (Leaf s) = None
light_child size (Seq left right) = Some (lighter size left right)
light_child size (Alt left right) = Some (lighter size left right)

abbrev pub heavy_child : (ℕ → ℕ) → NodeKind → Option ℕ
heavy_child size (Leaf s) = None
heavy_child size (Seq left right) = Some (heavier size left right)
heavy_child size (Alt left right) = Some (heavier size left right)

-- the light child has at most as many leaves as the heavy one, and together they have those of the node
pub record ShareLeaves (nodes : List Node) (k light heavy : ℕ) : Type 0 where
  pub fewer : size_at nodes light ≤ size_at nodes heavy
  pub all : size_at nodes light + size_at nodes heavy ≡ size_at nodes k
