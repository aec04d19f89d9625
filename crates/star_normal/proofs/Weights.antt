-- The light and the heavy child of a node share its leaves.
use Rattle.std.proofs.Common.{◌≡◌, ℕ, ◌+◌, ◌≤◌, Bool, true, false, nat_le, cond, Some, slice_get, sum_by, refl, arith}
use Rattle.star_normal.specs.declared.node.Node.{Node}
use Rattle.star_normal.specs.declared.node.NodeKind.{NodeKind}
use Rattle.star_normal.specs.declared.node.NodeKind.TheVariants.{Leaf, Seq, Alt}
use Rattle.star_normal.specs.Tables.{TreeTable, IsTree, parts}
use Rattle.star_normal.specs.Sizes.{size_at, lighter, heavier, light_child, heavy_child, ShareLeaves}
use Rattle.star_normal.proofs.Sized.{leaf_one, sum_pair, node_size}

-- of two children
record Shared (size : ℕ → ℕ) (light heavy total : ℕ) : Type 0 where
  fewer : size light ≤ size heavy
  all : size light + size heavy ≡ total

weighed : (size : ℕ → ℕ) (l r : ℕ) (b : Bool) → nat_le (size l) (size r) ≡ b → Shared size (cond b l r) (cond b r l) (size l + size r)
weighed size l r true e = record { fewer = grind (arith, e); all = refl }
weighed size l r false e = record { fewer = grind (arith, e); all = omega arith }

pair_shared : (size : ℕ → ℕ) (l r light heavy : ℕ) → Some (lighter size l r) ≡ Some light → Some (heavier size l r) ≡ Some heavy → Shared size light heavy (size l + size r)
pair_shared size l r light heavy a b =
    let same : lighter size l r ≡ light = cc in
    let other : heavier size l r ≡ heavy = cc in
    rw (← same, ← other) (weighed size l r (nat_le (size l) (size r)) refl)

shared : (size : ℕ → ℕ) (kind : NodeKind) (light heavy : ℕ) → light_child size kind ≡ Some light → heavy_child size kind ≡ Some heavy
    → Shared size light heavy (leaf_one kind + sum_by size (parts kind))
shared size (Leaf s) light heavy a b = cc
shared size (Seq l r) light heavy a b = let h = pair_shared size l r light heavy a b in record { fewer = h.fewer; all = omega (arith, h.all, sum_pair size l r) }
shared size (Alt l r) light heavy a b = let h = pair_shared size l r light heavy a b in record { fewer = h.fewer; all = omega (arith, h.all, sum_pair size l r) }

pub shared_leaves : (table : TreeTable) → IsTree table → (k light heavy : ℕ) (node : Node) → slice_get table.nodes k ≡ Some node
    → light_child (size_at table.nodes) node.kind ≡ Some light → heavy_child (size_at table.nodes) node.kind ≡ Some heavy → ShareLeaves table.nodes k light heavy
shared_leaves table t k light heavy node e a b =
    let h = shared (size_at table.nodes) node.kind light heavy a b in
    record { fewer = h.fewer; all = omega (arith, h.all, node_size table t k node e) }
