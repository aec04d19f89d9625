-- Edges that pass a test, counted node by node.
use Rattle.std.proofs.Common.{◌≡◌, ◌∙◌, ℕ, zero, suc, ◌+◌, ◌<◌, Bool, true, false, cond, Some, None, List, [], ◌∷◌, ◌++◌, length, get_or, slice_get, count_by, sum_by, flat_map, refl, sym, ap, subst, arith}
use Rattle.std.specs.List.{range_with_len}
use Rattle.std.specs.Option.{option_and_then}
use Rattle.std.proofs.lemmas.Bool.{eq-eqb}
use Rattle.std.proofs.lemmas.Option.{slice_get-get_or, slice_get_past}
use Rattle.std.proofs.lemmas.List.Sums.{sum_by-append, sum_by-cons}
use Rattle.star_normal.specs.declared.node.Node.{Node}
use Rattle.star_normal.specs.Tables.{TreeTable, IsTree, parts}
use Rattle.star_normal.specs.Sizes.{size_at, light_child, heavy_child}
use Rattle.light_order.specs.Order.{frame, light_of, heavy_of}
use Rattle.light_order.specs.Crossings.{TreeEdge, edge_to, edges_from, tree_edges}
use Rattle.light_order.proofs.Uses.{upto, upto_next}
use Rattle.light_order.proofs.Kids.{Kids, none, both, kids}
use Rattle.light_order.proofs.Unrolled.{light_is, heavy_is}

count_flat : (q : TreeEdge → Bool) (f : ℕ → List TreeEdge) (xs : List ℕ) → count_by q (flat_map f xs) ≡ sum_by (λ v. count_by q (f v)) xs
count_flat q f [] = refl
count_flat q f (x ∷ xs) = omega (
  arith,
  sum_by-append (λ e. cond (q e) 1 0) (f x) (flat_map f xs),
  sum_by-cons (λ v. count_by q (f v)) x xs,
  count_flat q f xs,
)

pub range_sum : (c : ℕ → ℕ) (a n : ℕ) → sum_by c (range_with_len a n) + upto c a ≡ upto c (a + n)
range_sum c a zero = let e : a + 0 ≡ a = omega arith in omega (arith, ap (upto c) e)
range_sum c a (suc n) =
    let e : a + suc n ≡ a + 1 + n = omega arith in
    omega (arith, ap (upto c) e, range_sum c (a + 1) n, upto_next c a, sum_by-cons c a (range_with_len (a + 1) n))

-- the edges of the tree are those from all nodes and from the frame
pub all_edges : (table : TreeTable) (q : TreeEdge → Bool) → count_by q (tree_edges table) ≡ upto (λ v. count_by q (edges_from table v)) (length table.nodes + 1)
all_edges table q = let e : 0 + (length table.nodes + 1) ≡ length table.nodes + 1 = omega arith in omega (
  arith,
  count_flat q (edges_from table) (range_with_len 0 (length table.nodes + 1)),
  range_sum (λ v. count_by q (edges_from table v)) 0 (length table.nodes + 1),
  ap (upto (λ v. count_by q (edges_from table v))) e,
)

-- a light edge passes, or a heavy one does
abbrev pub of_light : (TreeEdge → Bool) → ℕ → ℕ → ℕ
of_light q v c = cond (q (record { parent = v; child = c; heavy = false })) 1 0

abbrev pub of_heavy : (TreeEdge → Bool) → ℕ → ℕ → ℕ
of_heavy q v c = cond (q (record { parent = v; child = c; heavy = true })) 1 0

pub edges_both : (table : TreeTable) (q : TreeEdge → Bool) (v l h : ℕ) → light_of table v ≡ Some l → heavy_of table v ≡ Some h
    → count_by q (edges_from table v) ≡ of_light q v l + of_heavy q v h
edges_both table q v l h a b = ap (λ o. count_by q (edge_to v false o ++ edge_to v true (heavy_of table v))) a
    ∙ ap (λ o. count_by q (edge_to v false (Some l) ++ edge_to v true o)) b ∙ pair
  where
    pair : count_by q (edge_to v false (Some l) ++ edge_to v true (Some h)) ≡ of_light q v l + of_heavy q v h
    pair = omega arith

pub edges_none : (table : TreeTable) (q : TreeEdge → Bool) (v : ℕ) → light_of table v ≡ None → heavy_of table v ≡ None → count_by q (edges_from table v) ≡ 0
edges_none table q v a b = ap (λ o. count_by q (edge_to v false o ++ edge_to v true (heavy_of table v))) a
    ∙ ap (λ o. count_by q (edge_to v false None ++ edge_to v true o)) b

pub frame_light : (table : TreeTable) → light_of table (frame table) ≡ None
frame_light table = ap (option_and_then (λ n. light_child (size_at table.nodes) n.kind)) (slice_get_past table.nodes (length table.nodes) (omega arith))

pub frame_heavy : (table : TreeTable) → heavy_of table (frame table) ≡ Some table.root
frame_heavy table = ap (λ b. cond b (Some table.root) (option_and_then (λ n. heavy_child (size_at table.nodes) n.kind) (slice_get table.nodes (frame table))))
    (eq-eqb (frame table) (frame table) refl)

pub edges_frame : (table : TreeTable) (q : TreeEdge → Bool) → count_by q (edges_from table (frame table)) ≡ of_heavy q (frame table) table.root
edges_frame table q = ap (λ o. count_by q (edge_to (frame table) false o ++ edge_to (frame table) true (heavy_of table (frame table)))) (frame_light table)
    ∙ ap (λ o. count_by q (edge_to (frame table) false None ++ edge_to (frame table) true o)) (frame_heavy table) ∙ one
  where
    one : count_by q (edge_to (frame table) false None ++ edge_to (frame table) true (Some table.root)) ≡ of_heavy q (frame table) table.root
    one = omega arith

-- the edges from a node that pass a test of their ends
abbrev pub counted : TreeTable → (ℕ → ℕ → Bool) → ℕ → ℕ
counted table p v = count_by (λ e. p e.parent e.child) (edges_from table v)

-- Where a test does not ask whether an edge is heavy, the edges from a node are counted by its parts.
module _ (table : TreeTable) (t : IsTree table) (p : ℕ → ℕ → Bool) where
  pub by_kids : (v : ℕ) (node : Node) → light_of table v ≡ light_child (size_at table.nodes) node.kind → heavy_of table v ≡ heavy_child (size_at table.nodes) node.kind
      → Kids (size_at table.nodes) v node.kind → counted table p v ≡ sum_by (λ c. cond (p v c) 1 0) (parts node.kind)
  by_kids v node l h (none a b c d) = rw d (edges_none table (λ e. p e.parent e.child) v (l ∙ a) (h ∙ b))
  by_kids v node l h (both x y a b i j f) = edges_both table (λ e. p e.parent e.child) v x y (l ∙ a) (h ∙ b) ∙ sym (f (λ c. cond (p v c) 1 0))

  module _ (some : List Node) (same : some ≡ table.nodes) where
    pub turn : (v count more : ℕ) (d : Node) → v < length some → count ≡ upto (counted table p) v → more ≡ sum_by (λ c. cond (p v c) 1 0) (parts (get_or some v d).kind)
        → count + more ≡ upto (counted table p) (v + 1)
    turn v count more d lt a b =
        let w : v < length table.nodes = subst (λ xs. v < length xs) same lt in
        let e : slice_get table.nodes v ≡ Some (get_or some v d) = subst (λ xs. slice_get xs v ≡ Some (get_or some v d)) same (slice_get-get_or some v d lt) in
        omega (
          arith,
          by_kids v (get_or some v d) (light_is table v (get_or some v d) e) (heavy_is table v (get_or some v d) w e)
              (kids (size_at table.nodes) v (get_or some v d).kind (t.children_before v (get_or some v d) e)),
          upto_next (counted table p) v,
        )

  whole : (count more : ℕ) → count ≡ upto (counted table p) (length table.nodes) → more ≡ cond (p (frame table) table.root) 1 0
      → count + more ≡ count_by (λ e. p e.parent e.child) (tree_edges table)
  whole count more a b = omega (
    arith,
    all_edges table (λ e. p e.parent e.child),
    edges_frame table (λ e. p e.parent e.child),
    upto_next (counted table p) (length table.nodes),
  )

  pub finished : (n k r count more : ℕ) → n ≡ length table.nodes → k ≡ length table.nodes → r ≡ table.root → count ≡ upto (counted table p) n
      → more ≡ cond (p k r) 1 0 → count + more ≡ count_by (λ e. p e.parent e.child) (tree_edges table)
  finished n k r count more a b c d e = whole count more (d ∙ ap (upto (counted table p)) a) (e ∙ ap (λ m. cond (p m r) 1 0) b ∙ ap (λ m. cond (p (frame table) m) 1 0) c)
