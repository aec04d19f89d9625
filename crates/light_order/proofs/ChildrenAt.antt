-- Children by the sizes that stand in a list.
use Rattle.std.proofs.Common.{◌≡◌, ◌∙◌, ℕ, ◌<◌, Some, None, Option, IfSome, List, length, get_or, slice_get, slice_index, All, refl, sym, subst, arith}
use Rattle.std.proofs.lemmas.Option.{slice_get-get_or}
use Rattle.star_normal.specs.declared.node.Node.{Node}
use Rattle.star_normal.specs.declared.node.NodeKind.{NodeKind}
use Rattle.star_normal.specs.declared.node.NodeKind.TheVariants.{Leaf, Seq, Alt}
use Rattle.star_normal.specs.Tables.{TreeTable, IsTree, parts}
use Rattle.star_normal.specs.Sizes.{AreSizes, size_at, light_child, heavy_child}
use Rattle.light_order.specs.Order.{light_of, heavy_of}
use Rattle.light_order.proofs.Parts.{PartOf, tip, fork, shape, node_at}
use Rattle.light_order.proofs.Unrolled.{light_is, heavy_is}

same_light : (f g : ℕ → ℕ) (kind : NodeKind) → All (λ c. f c ≡ g c) (parts kind) → light_child f kind ≡ light_child g kind
same_light f g (Leaf s) h = refl
same_light f g (Seq l r) h = rw (h 0 0 (omega arith), h 1 0 (omega arith)) refl
same_light f g (Alt l r) h = rw (h 0 0 (omega arith), h 1 0 (omega arith)) refl

same_heavy : (f g : ℕ → ℕ) (kind : NodeKind) → All (λ c. f c ≡ g c) (parts kind) → heavy_child f kind ≡ heavy_child g kind
same_heavy f g (Leaf s) h = refl
same_heavy f g (Seq l r) h = rw (h 0 0 (omega arith), h 1 0 (omega arith)) refl
same_heavy f g (Alt l r) h = rw (h 0 0 (omega arith), h 1 0 (omega arith)) refl

module _ (table : TreeTable) (t : IsTree table) (sizes : List ℕ) (z : AreSizes table.nodes sizes) (v : ℕ) (w : v < length table.nodes) (some : List Node)
    (same : some ≡ table.nodes) (d : Node) where
  here : slice_get table.nodes v ≡ Some (get_or some v d)
  here = subst (λ nodes. slice_get nodes v ≡ Some (get_or some v d)) same (slice_get-get_or some v d (subst (λ nodes. v < length nodes) (sym same) w))

  same_sizes : All (λ c. slice_index sizes c ≡ size_at table.nodes c) (parts (get_or some v d).kind)
  same_sizes = λ i c h. let below : get_or (parts (get_or some v d).kind) i c < v = t.children_before v (get_or some v d) here i c h in z.each _ (omega arith)

  pub light_at : light_child (slice_index sizes) (get_or some v d).kind ≡ light_of table v
  light_at = same_light (slice_index sizes) (size_at table.nodes) (get_or some v d).kind same_sizes ∙ sym (light_is table v (get_or some v d) here)

  pub heavy_at : heavy_child (slice_index sizes) (get_or some v d).kind ≡ heavy_of table v
  heavy_at = same_heavy (slice_index sizes) (size_at table.nodes) (get_or some v d).kind same_sizes ∙ sym (heavy_is table v (get_or some v d) w here)

-- a light child is a node of the tree
inside_by : (table : TreeTable) (v : ℕ) (node : Node) → v < length table.nodes → slice_get table.nodes v ≡ Some node → PartOf table v node → (o : Option ℕ) → o ≡ light_of table v
    → IfSome o (λ c. c < length table.nodes)
inside_by table v node w e (tip a b c d is) o f = let g : o ≡ None = f ∙ light_is table v node e ∙ a in subst (λ x. IfSome x (λ c. c < length table.nodes)) (sym g) tt
inside_by table v node w e (fork l h a b p q f is) o g =
    let s : o ≡ Some l = g ∙ light_is table v node e ∙ a in
    let lt : l < length table.nodes = omega arith in
    subst (λ x. IfSome x (λ c. c < length table.nodes)) (sym s) lt

pub light_inside : (table : TreeTable) → IsTree table → (v : ℕ) → v < length table.nodes → (o : Option ℕ) → o ≡ light_of table v → IfSome o (λ c. c < length table.nodes)
light_inside table t v w o f = let n = node_at table t v w in inside_by table v n.0 w n.1 (shape table t v n.0 n.1) o f
