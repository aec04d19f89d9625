-- A tree has the leaves of its table, and one node less than twice as many.
use Rattle.std.proofs.Common.{◌≡◌, ◌∙◌, ◌⊎◌, nat_lt, ℕ, zero, suc, ◌+◌, ◌*◌, ◌<◌, true, ◌==◌, cond, List, [], ◌∷◌, length, take, count_by, sum_by, flat_map, refl, sym, ap, inl, inr, arith}
use Rattle.std.proofs.lemmas.List.{take_all}
use Rattle.std.proofs.lemmas.List.Sums.{sum_by-cons, sum_by_push}
use Rattle.std.proofs.lemmas.Bool.{cases_eq}
use Rattle.star_normal.specs.declared.node.Node.{Node}
use Rattle.star_normal.specs.declared.node.NodeKind.{NodeKind}
use Rattle.star_normal.specs.declared.node.NodeKind.TheVariants.{Leaf, Seq, Alt}
use Rattle.star_normal.specs.Trees.{leaves}
use Rattle.star_normal.specs.Tables.{TreeTable, IsTree, parts, is_leaf, node_uses, whole}
use Rattle.star_normal.specs.Sizes.{size_at}
use Rattle.star_normal.proofs.Assembled.{is_hit, not_hit}
use Rattle.star_normal.proofs.Sized.{leaf_one, of_node, upto, not_equal, none_adds, split_all, none_below, flat_sum, within_one, within_all, sums}

-- a number that stands in the list once adds its value
one_by : (f : ℕ → ℕ) (n x : ℕ) (xs : List ℕ) → (n ≡ x) ⊎ (n ≡ x → ⊥) → count_by (λ x. x == n) (x ∷ xs) ≡ 1
    → (count_by (λ x. x == n) xs ≡ 1 → sum_by (λ x. cond (x == n) (f x) 0) xs ≡ f n) → sum_by (λ x. cond (x == n) (f x) 0) (x ∷ xs) ≡ f n
one_by f n x xs (inl e) h rec =
    let none : count_by (λ y. y == n) xs ≡ 0 = omega (arith, h, is_hit x n e, sum_by-cons (λ y. cond (y == n) 1 0) x xs) in
    let test : (x == n) ≡ true = grind (arith, e) in
    let on : cond (x == n) (f x) 0 ≡ f n = ap (λ b. cond b (f x) 0) test ∙ ap f (sym e) in
    omega (arith, on, none_adds f n xs none, sum_by-cons (λ y. cond (y == n) (f y) 0) x xs)
one_by f n x xs (inr ne) h rec =
    let off : cond (x == n) (f x) 0 ≡ 0 = ap (λ b. cond b (f x) 0) (not_equal x n ne) in
    omega (arith, off, sum_by-cons (λ y. cond (y == n) (f y) 0) x xs, rec (omega (arith, h, not_hit x n ne, sum_by-cons (λ y. cond (y == n) 1 0) x xs)))

one_adds : (f : ℕ → ℕ) (n : ℕ) (xs : List ℕ) → count_by (λ x. x == n) xs ≡ 1 → sum_by (λ x. cond (x == n) (f x) 0) xs ≡ f n
one_adds f n [] h = absurd (omega arith)
one_adds f n (x ∷ xs) h = one_by f n x xs (cases_eq n x) h (λ k. one_adds f n xs k)

-- numbers among which each below n stands once add the sum of the first n values
below_sums : (f : ℕ → ℕ) (n : ℕ) (xs : List ℕ) → ((k : ℕ) → k < n → count_by (λ x. x == k) xs ≡ 1) → sum_by (λ x. cond (nat_lt x n) (f x) 0) xs ≡ upto f n
below_sums f zero xs once = none_below f xs
below_sums f (suc n) xs once = let e : suc n ≡ n + 1 = omega arith in
    let all : sum_by (λ x. cond (nat_lt x (suc n)) (f x) 0) xs ≡ sum_by (λ x. cond (nat_lt x (n + 1)) (f x) 0) xs = ap (λ m. sum_by (λ x. cond (nat_lt x m) (f x) 0) xs) e in
    omega (arith, all, split_all f n xs, below_sums f n xs (λ k h. once k (omega arith)), one_adds f n xs (once n (omega arith)))

upto_ones : (n : ℕ) → upto (λ k. 1) n ≡ n
upto_ones zero = refl
upto_ones (suc n) = omega (arith, upto_ones n)

two_parts : (kind : NodeKind) → sum_by (λ x. 1) (parts kind) + 2 * leaf_one kind ≡ 2
two_parts (Leaf s) = refl
two_parts (Seq l r) = refl
two_parts (Alt l r) = refl

all_parts : (nodes : List Node) → sum_by (λ n. sum_by (λ x. 1) (parts n.kind)) nodes + 2 * sum_by (of_node leaf_one) nodes ≡ 2 * length nodes
all_parts [] = refl
all_parts (n ∷ nodes) = omega (
  arith,
  two_parts n.kind,
  all_parts nodes,
  sum_by-cons (λ n. sum_by (λ x. 1) (parts n.kind)) n nodes,
  sum_by-cons (of_node leaf_one) n nodes,
)

module _ (table : TreeTable) (t : IsTree table) where
  -- the parts and the root are all nodes
  uses_sum : (f : ℕ → ℕ) → sum_by (λ x. sum_by f (parts x.kind)) table.nodes + f table.root ≡ upto f (length table.nodes)
  uses_sum f =
      let all : take (length table.nodes) table.nodes ≡ table.nodes = take_all (length table.nodes) table.nodes (omega arith) in
      omega (
        arith,
        below_sums f (length table.nodes) (node_uses table) t.used_once,
        sum_by_push (λ x. cond (nat_lt x (length table.nodes)) (f x) 0) (flat_map (λ node. parts node.kind) table.nodes) table.root,
        flat_sum (λ x. cond (nat_lt x (length table.nodes)) (f x) 0) table.nodes,
        within_one f (length table.nodes) table.root t.root_in_table,
        within_all table t f (length table.nodes) (length table.nodes) (omega arith) (omega arith),
        ap (λ l. sum_by (λ x. sum_by (λ y. cond (nat_lt y (length table.nodes)) (f y) 0) (parts x.kind)) l) all,
        ap (λ l. sum_by (λ x. sum_by f (parts x.kind)) l) all,
      )

  pub table_leaves : count_by (λ node. is_leaf node.kind) table.nodes ≡ length (leaves (whole table))
  table_leaves =
      let all : take (length table.nodes) table.nodes ≡ table.nodes = take_all (length table.nodes) table.nodes (omega arith) in
      omega (
        arith,
        uses_sum (size_at table.nodes),
        sums table t (length table.nodes) (omega arith),
        ap (sum_by (of_node leaf_one)) all,
        ap (sum_by (λ x. sum_by (size_at table.nodes) (parts x.kind))) all,
      )

  pub table_nodes : length table.nodes + 1 ≡ 2 * count_by (λ node. is_leaf node.kind) table.nodes
  table_nodes = omega (arith, uses_sum (λ k. 1), upto_ones (length table.nodes), all_parts table.nodes)
