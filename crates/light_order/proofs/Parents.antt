-- Each node is the child of one node, in one role.
use Rattle.std.proofs.Common.{◌≡◌, ◌∙◌, ◌⊎◌, ℕ, zero, suc, ◌+◌, ◌<◌, ◌≤◌, Bool, true, false, ◌==◌, cond, Option, Some, None, ◌++◌, length, take, slice_get, count_by, refl, ap, inl, inr, arith}
use Rattle.std.specs.Option.{option_and_then}
use Rattle.std.proofs.lemmas.Bool.{cases_lt, cases_order, ne_eqb}
use Rattle.std.proofs.lemmas.List.{take_all}
use Rattle.std.proofs.lemmas.Option.{slice_get_past}
use Rattle.star_normal.specs.Tables.{TreeTable, IsTree}
use Rattle.star_normal.specs.Sizes.{size_at, light_child, heavy_child}
use Rattle.light_order.specs.Order.{frame, light_of, heavy_of, child_of}
use Rattle.light_order.specs.Crossings.{edge_to}
use Rattle.light_order.proofs.Uses.{upto, upto_next, upto_hit, upto_miss, is_hit, parts_sum, uses_sum}
use Rattle.light_order.proofs.Kids.{kids}
use Rattle.light_order.proofs.Parts.{node_at, parts_more}
use Rattle.light_order.proofs.Unrolled.{light_is, heavy_is}
use Rattle.light_order.proofs.Counted.{counted, by_kids, edges_frame}

-- two of the first n values are no more than all of them

one_by : (f : ℕ → ℕ) (v n : ℕ) → (v ≡ n) ⊎ ((v < n) ⊎ (n < v)) → v < suc n → (v < n → f v ≤ upto f n) → f v ≤ upto f n + f n
one_by f v n (inl e) h rec = let same : f v ≡ f n = ap f e in omega arith
one_by f v n (inr (inl lt)) h rec = let r : f v ≤ upto f n = rec lt in omega arith
one_by f v n (inr (inr gt)) h rec = absurd (omega arith)

upto_one : (f : ℕ → ℕ) (v n : ℕ) → v < n → f v ≤ upto f n
upto_one f v zero h = absurd (omega arith)
upto_one f v (suc n) h = one_by f v n (cases_order v n) h (λ lt. upto_one f v n lt)

two_by : (f : ℕ → ℕ) (v w n : ℕ) → (w ≡ n) ⊎ ((w < n) ⊎ (n < w)) → v < w → w < suc n → (w < n → f v + f w ≤ upto f n) → f v + f w ≤ upto f n + f n
two_by f v w n (inl e) h k rec = let same : f w ≡ f n = ap f e in let one = upto_one f v n (omega arith) in omega arith
two_by f v w n (inr (inl lt)) h k rec = let r : f v + f w ≤ upto f n = rec lt in omega arith
two_by f v w n (inr (inr gt)) h k rec = absurd (omega arith)

upto_two : (f : ℕ → ℕ) (v w n : ℕ) → v < w → w < n → f v + f w ≤ upto f n
upto_two f v w zero h k = absurd (omega arith)
upto_two f v w (suc n) h k = two_by f v w n (cases_order w n) h k (λ lt. upto_two f v w n h lt)

hit_most_by : (c n : ℕ) → (c < n) ⊎ (n ≤ c) → upto (λ x. cond (x == c) 1 0) n ≤ 1
hit_most_by c n (inl h) = omega (arith, upto_hit c n h)
hit_most_by c n (inr h) = omega (arith, upto_miss c n h)

hits : ℕ → Option ℕ → ℕ
hits c None = 0
hits c (Some x) = cond (x == c) 1 0

hits_it : (c : ℕ) (o : Option ℕ) → o ≡ Some c → hits c o ≡ 1
unfolding hits
hits_it c o e = ap (hits c) e ∙ is_hit c c refl

two_counts : (c v : ℕ) (o p : Option ℕ) → count_by (λ e. e.child == c) (edge_to v false o ++ edge_to v true p) ≡ hits c o + hits c p
unfolding hits
two_counts c v None None = refl
two_counts c v None (Some y) = omega arith
two_counts c v (Some x) None = omega arith
two_counts c v (Some x) (Some y) = omega arith

module _ (table : TreeTable) (t : IsTree table) where
  parents_sum : (c i : ℕ) → i ≤ length table.nodes → upto (counted table (λ v x. x == c)) i ≡ parts_sum (λ x. cond (x == c) 1 0) (take i table.nodes)
  parents_sum c zero h = refl
  parents_sum c (suc i) h =
      let n = node_at table t i (omega arith) in
      let e : suc i ≡ i + 1 = omega arith in
      omega (
        arith,
        parents_sum c i (omega arith),
        by_kids table t (λ v x. x == c) i n.0 (light_is table i n.0 n.1) (heavy_is table i n.0 (omega arith) n.1) (kids (size_at table.nodes) i n.0.kind (t.children_before i n.0 n.1)),
        parts_more table t (λ x. cond (x == c) 1 0) i n.0 n.1,
        ap (λ m. parts_sum (λ x. cond (x == c) 1 0) (take m table.nodes)) e,
      )

  all_parents : (c : ℕ) → upto (counted table (λ v x. x == c)) (length table.nodes + 1) ≤ 1
  all_parents c =
      let all : take (length table.nodes) table.nodes ≡ table.nodes = take_all (length table.nodes) table.nodes (omega arith) in
      omega (
        arith,
        upto_next (counted table (λ v x. x == c)) (length table.nodes),
        parents_sum c (length table.nodes) (omega arith),
        ap (parts_sum (λ x. cond (x == c) 1 0)) all,
        edges_frame table (λ e. e.child == c),
        uses_sum table t (λ x. cond (x == c) 1 0),
        hit_most_by c (length table.nodes) (cases_lt c (length table.nodes)),
      )

  counted_is : (c v : ℕ) → counted table (λ v x. x == c) v ≡ hits c (light_of table v) + hits c (heavy_of table v)
  counted_is c v = two_counts c v (light_of table v) (heavy_of table v)

  some : (heavy : Bool) (v c : ℕ) → child_of table heavy v ≡ Some c → 1 ≤ counted table (λ v x. x == c) v
  some false v c e = omega (arith, counted_is c v, hits_it c (light_of table v) e)
  some true v c e = omega (arith, counted_is c v, hits_it c (heavy_of table v) e)

  -- only nodes and the frame have children
  none_light : (v : ℕ) → length table.nodes < v → light_of table v ≡ None
  none_light v h = ap (option_and_then (λ n. light_child (size_at table.nodes) n.kind)) (slice_get_past table.nodes v (omega arith))

  none_heavy : (v : ℕ) → length table.nodes < v → heavy_of table v ≡ None
  none_heavy v h = ap (λ b. cond b (Some table.root) (option_and_then (λ n. heavy_child (size_at table.nodes) n.kind) (slice_get table.nodes v))) (ne_eqb v (frame table) (λ q. omega arith))
      ∙ ap (option_and_then (λ n. heavy_child (size_at table.nodes) n.kind)) (slice_get_past table.nodes v (omega arith))

  in_tree_by : (heavy : Bool) (v c : ℕ) → child_of table heavy v ≡ Some c → (length table.nodes < v) ⊎ (v ≤ length table.nodes) → v ≤ length table.nodes
  in_tree_by heavy v c e (inr h) = h
  in_tree_by false v c e (inl h) = let f : light_of table v ≡ None = none_light v h in cc
  in_tree_by true v c e (inl h) = let f : heavy_of table v ≡ None = none_heavy v h in cc

  pub in_tree : (heavy : Bool) (v c : ℕ) → child_of table heavy v ≡ Some c → v ≤ length table.nodes
  in_tree heavy v c e = in_tree_by heavy v c e (cases_lt (length table.nodes) v)

  same_by : (v w c : ℕ) (heavy heavy' : Bool) → child_of table heavy v ≡ Some c → child_of table heavy' w ≡ Some c → (v ≡ w) ⊎ ((v < w) ⊎ (w < v)) → v ≡ w
  same_by v w c heavy heavy' a b (inl e) = e
  same_by v w c heavy heavy' a b (inr (inl lt)) = absurd (omega (
    arith,
    all_parents c,
    some heavy v c a,
    some heavy' w c b,
    in_tree heavy' w c b,
    upto_two (counted table (λ v x. x == c)) v w (length table.nodes + 1) lt (let h = in_tree heavy' w c b in omega arith),
  ))
  same_by v w c heavy heavy' a b (inr (inr gt)) = absurd (omega (
    arith,
    all_parents c,
    some heavy v c a,
    some heavy' w c b,
    upto_two (counted table (λ v x. x == c)) w v (length table.nodes + 1) gt (let h = in_tree heavy v c a in omega arith),
  ))

  clash : (v c : ℕ) → light_of table v ≡ Some c → heavy_of table v ≡ Some c → ⊥
  clash v c a b = omega (
    arith,
    all_parents c,
    counted_is c v,
    hits_it c (light_of table v) a,
    hits_it c (heavy_of table v) b,
    upto_one (counted table (λ v x. x == c)) v (length table.nodes + 1) (let h = in_tree false v c a in omega arith),
  )

  role : (v c : ℕ) (heavy heavy' : Bool) → child_of table heavy v ≡ Some c → child_of table heavy' v ≡ Some c → heavy ≡ heavy'
  role v c true true a b = refl
  role v c false false a b = refl
  role v c true false a b = absurd (clash v c b a)
  role v c false true a b = absurd (clash v c a b)

  pub one_parent : (v w c : ℕ) (heavy heavy' : Bool) → child_of table heavy v ≡ Some c → child_of table heavy' w ≡ Some c → (v ≡ w) × (heavy ≡ heavy')
  one_parent v w c heavy heavy' a b =
      let same : v ≡ w = same_by v w c heavy heavy' a b (cases_order v w) in
      (same, role v c heavy heavy' a (ap (child_of table heavy') same ∙ b))
