-- When edges may be drawn one after another.
use Rattle.std.specs.Prelude.{◌≡◌, ◌≢◌, ℕ, ◌+◌, ◌*◌, ◌<◌, ◌≤◌, ◌^◌, Bool, not, IsSome, Some, List, length, count_by}
use Rattle.block_grid.specs.Sheets.{Sheet, IsInOpen, IsOutOpen, stands_at}
use Rattle.tree_layout.specs.declared.numbered.Entry.{Entry}
use Rattle.tree_layout.specs.Numbered.{node_at, child_at}
use Rattle.tree_layout.specs.declared.links.Link.{Link}
use Rattle.tree_layout.specs.Squares.{links_out}

-- the nodes of the edge differ and stand, and its ports are open
pub record MayLink (entries : List Entry) (s : Sheet) (l : Link) : Type 0 where
  pub parent_in : l.parent < length entries
  pub child_in : l.child < length entries
  pub differ : node_at entries l.parent ≢ node_at entries l.child
  pub parent_stands : IsSome (stands_at s.nodes (node_at entries l.parent))
  pub child_stands : IsSome (stands_at s.nodes (node_at entries l.child))
  pub out_open : IsOutOpen s (node_at entries l.parent) l.heavy
  pub in_open : IsInOpen s (node_at entries l.child)

-- the edges are different ones: no two have the same child, or the same parent in the same role
abbrev pub AreApart : Link → Link → Type 0
AreApart l m = (l.parent ≡ m.parent → l.heavy ≢ m.heavy) × (l.child ≢ m.child)

-- Each entry is a node of its own, and a child stands behind its parent, of which it has one. Between parts of a stretch few
-- edges run, and of those to light children at most one.
pub record IsOrdered (entries : List Entry) : Type 0 where
  pub few : length entries ≤ 8192
  pub once : (i k : ℕ) → i < length entries → k < length entries → node_at entries i ≡ node_at entries k → i ≡ k
  pub behind : (heavy : Bool) (i c : ℕ) → child_at entries heavy i ≡ Some c → (i < c) × (c < length entries)
  pub parents : (h k : Bool) (i j c : ℕ) → child_at entries h i ≡ Some c → child_at entries k j ≡ Some c → (i ≡ j) × (h ≡ k)
  pub few_links : (j from border end : ℕ) → 1 ≤ j → end ≤ from + 4 ^ j → length (links_out entries from border end) ≤ 2 * j
  pub few_light : (from border end : ℕ) → count_by (λ l. not l.heavy) (links_out entries from border end) ≤ 1
