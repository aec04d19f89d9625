-- Numbers among which each below n stands once, and the sum of their values; the nodes of a tree are its parts and its root.
use Rattle.std.proofs.Common.{◌≡◌, ◌∙◌, ◌⊎◌, nat_lt, ℕ, zero, suc, ◌+◌, ◌<◌, ◌≤◌, true, false, ◌==◌, cond, List, [], ◌∷◌, length, count_by, sum_by, flat_map, All, Some, slice_get, get_or, refl, sym, ap, inl, inr, arith}
use Rattle.std.proofs.lemmas.List.Sums.{sum_by-cons, sum_by-append, sum_by_push}
use Rattle.std.proofs.lemmas.Option.{slice_get-get_or}
use Rattle.std.proofs.lemmas.Bool.{cases_eq, cases_order}
use Rattle.star_normal.specs.declared.node.Node.{Node}
use Rattle.star_normal.specs.Tables.{TreeTable, IsTree, parts, node_uses}

-- the sum of the first n values
abbrev pub upto : (ℕ → ℕ) → ℕ → ℕ
upto f zero = 0
upto f (suc n) = upto f n + f n

pub upto_next : (f : ℕ → ℕ) (n : ℕ) → upto f (n + 1) ≡ upto f n + f n
upto_next f n = let e : n + 1 ≡ suc n = omega arith in ap (upto f) e

hit : (x n : ℕ) → n ≡ x → (x == n) ≡ true
hit x n e = grind (arith, e)

missed : (x n : ℕ) → (n ≡ x → ⊥) → (x == n) ≡ false
missed x n ne = grind (arith, ne)

pub is_hit : (x n : ℕ) → n ≡ x → ◌≡◌ {A = ℕ} (cond (x == n) 1 0) 1
is_hit x n e = ap (λ b. cond b 1 0) (hit x n e)

pub not_hit : (x n : ℕ) → (n ≡ x → ⊥) → ◌≡◌ {A = ℕ} (cond (x == n) 1 0) 0
not_hit x n ne = ap (λ b. cond b 1 0) (missed x n ne)

none_by : (f : ℕ → ℕ) (n x : ℕ) (xs : List ℕ) → (n ≡ x) ⊎ (n ≡ x → ⊥) → count_by (λ x. x == n) (x ∷ xs) ≡ 0
    → (count_by (λ x. x == n) xs ≡ 0 → sum_by (λ x. cond (x == n) (f x) 0) xs ≡ 0) → sum_by (λ x. cond (x == n) (f x) 0) (x ∷ xs) ≡ 0
none_by f n x xs (inl e) h rec = absurd (omega (arith, h, is_hit x n e, sum_by-cons (λ y. cond (y == n) 1 0) x xs))
none_by f n x xs (inr ne) h rec =
    let off : cond (x == n) (f x) 0 ≡ 0 = ap (λ b. cond b (f x) 0) (missed x n ne) in
    omega (arith, off, sum_by-cons (λ y. cond (y == n) (f y) 0) x xs, rec (omega (arith, not_hit x n ne, h, sum_by-cons (λ y. cond (y == n) 1 0) x xs)))

none_adds : (f : ℕ → ℕ) (n : ℕ) (xs : List ℕ) → count_by (λ x. x == n) xs ≡ 0 → sum_by (λ x. cond (x == n) (f x) 0) xs ≡ 0
none_adds f n [] h = refl
none_adds f n (x ∷ xs) h = none_by f n x xs (cases_eq n x) h (λ k. none_adds f n xs k)

one_by : (f : ℕ → ℕ) (n x : ℕ) (xs : List ℕ) → (n ≡ x) ⊎ (n ≡ x → ⊥) → count_by (λ x. x == n) (x ∷ xs) ≡ 1
    → (count_by (λ x. x == n) xs ≡ 1 → sum_by (λ x. cond (x == n) (f x) 0) xs ≡ f n) → sum_by (λ x. cond (x == n) (f x) 0) (x ∷ xs) ≡ f n
one_by f n x xs (inl e) h rec =
    let none : count_by (λ y. y == n) xs ≡ 0 = omega (arith, h, is_hit x n e, sum_by-cons (λ y. cond (y == n) 1 0) x xs) in
    let on : cond (x == n) (f x) 0 ≡ f n = ap (λ b. cond b (f x) 0) (hit x n e) ∙ ap f (sym e) in
    omega (arith, on, none_adds f n xs none, sum_by-cons (λ y. cond (y == n) (f y) 0) x xs)
one_by f n x xs (inr ne) h rec =
    let off : cond (x == n) (f x) 0 ≡ 0 = ap (λ b. cond b (f x) 0) (missed x n ne) in
    omega (arith, off, sum_by-cons (λ y. cond (y == n) (f y) 0) x xs, rec (omega (arith, h, not_hit x n ne, sum_by-cons (λ y. cond (y == n) 1 0) x xs)))

-- a number that stands in the list once adds its value
one_adds : (f : ℕ → ℕ) (n : ℕ) (xs : List ℕ) → count_by (λ x. x == n) xs ≡ 1 → sum_by (λ x. cond (x == n) (f x) 0) xs ≡ f n
one_adds f n [] h = absurd (omega arith)
one_adds f n (x ∷ xs) h = one_by f n x xs (cases_eq n x) h (λ k. one_adds f n xs k)

split_one : (f : ℕ → ℕ) (n x : ℕ) → (n ≡ x) ⊎ ((n < x) ⊎ (x < n)) → cond (nat_lt x (n + 1)) (f x) 0 ≡ cond (nat_lt x n) (f x) 0 + cond (x == n) (f x) 0
split_one f n x (inl e) =
    let a : nat_lt x (n + 1) ≡ true = grind arith in
    let b : nat_lt x n ≡ false = grind arith in
    let c : (x == n) ≡ true = grind arith in
    rw (a, b, c) (omega arith)
split_one f n x (inr (inl gt)) =
    let a : nat_lt x (n + 1) ≡ false = grind arith in
    let b : nat_lt x n ≡ false = grind arith in
    let c : (x == n) ≡ false = grind arith in
    rw (a, b, c) refl
split_one f n x (inr (inr lt)) =
    let a : nat_lt x (n + 1) ≡ true = grind arith in
    let b : nat_lt x n ≡ true = grind arith in
    let c : (x == n) ≡ false = grind arith in
    rw (a, b, c) (omega arith)

split_all : (f : ℕ → ℕ) (n : ℕ) (xs : List ℕ) → sum_by (λ x. cond (nat_lt x (n + 1)) (f x) 0) xs
    ≡ sum_by (λ x. cond (nat_lt x n) (f x) 0) xs + sum_by (λ x. cond (x == n) (f x) 0) xs
split_all f n [] = refl
split_all f n (x ∷ xs) = omega (
  arith,
  sum_by-cons (λ x. cond (nat_lt x (n + 1)) (f x) 0) x xs,
  sum_by-cons (λ x. cond (nat_lt x n) (f x) 0) x xs,
  sum_by-cons (λ x. cond (x == n) (f x) 0) x xs,
  split_one f n x (cases_order n x),
  split_all f n xs,
)

none_below : (f : ℕ → ℕ) (xs : List ℕ) → sum_by (λ x. cond (nat_lt x 0) (f x) 0) xs ≡ 0
none_below f [] = refl
none_below f (x ∷ xs) = let a : nat_lt x 0 ≡ false = grind arith in
    omega (arith, sum_by-cons (λ x. cond (nat_lt x 0) (f x) 0) x xs, ap (λ b. cond b (f x) 0) a, none_below f xs)

-- numbers among which each below n stands once add the sum of the first n values
below_sums : (f : ℕ → ℕ) (n : ℕ) (xs : List ℕ) → ((k : ℕ) → k < n → count_by (λ x. x == k) xs ≡ 1) → sum_by (λ x. cond (nat_lt x n) (f x) 0) xs ≡ upto f n
below_sums f zero xs once = none_below f xs
below_sums f (suc n) xs once = let e : suc n ≡ n + 1 = omega arith in
    let all : sum_by (λ x. cond (nat_lt x (suc n)) (f x) 0) xs ≡ sum_by (λ x. cond (nat_lt x (n + 1)) (f x) 0) xs = ap (λ m. sum_by (λ x. cond (nat_lt x m) (f x) 0) xs) e in
    omega (arith, all, split_all f n xs, below_sums f n xs (λ k h. once k (omega arith)), one_adds f n xs (once n (omega arith)))

within : (f : ℕ → ℕ) (n x : ℕ) → x < n → cond (nat_lt x n) (f x) 0 ≡ f x
within f n x h = let a : nat_lt x n ≡ true = grind arith in ap (λ b. cond b (f x) 0) a

within_list : (f : ℕ → ℕ) (n : ℕ) (xs : List ℕ) → All (λ x. x < n) xs → sum_by (λ x. cond (nat_lt x n) (f x) 0) xs ≡ sum_by f xs
within_list f n [] h = refl
within_list f n (x ∷ xs) h = omega (
  arith,
  sum_by-cons (λ x. cond (nat_lt x n) (f x) 0) x xs,
  sum_by-cons f x xs,
  within f n x (h 0 0 (omega arith)),
  within_list f n xs (λ k d le. h (suc k) d (omega arith)),
)

-- the values of all parts of some nodes
abbrev pub parts_sum : (ℕ → ℕ) → List Node → ℕ
parts_sum f nodes = sum_by (λ node. sum_by f (parts node.kind)) nodes

abbrev HasPartsBelow : ℕ → Node → Type 0
HasPartsBelow n node = All (λ c. c < n) (parts node.kind)

within_nodes : (f : ℕ → ℕ) (n : ℕ) (nodes : List Node) → All (HasPartsBelow n) nodes
    → sum_by (λ x. cond (nat_lt x n) (f x) 0) (flat_map (λ node. parts node.kind) nodes) ≡ parts_sum f nodes
within_nodes f n [] h = refl
within_nodes f n (x ∷ nodes) h = omega (
  arith,
  sum_by-append (λ x. cond (nat_lt x n) (f x) 0) (parts x.kind) (flat_map (λ node. parts node.kind) nodes),
  sum_by-cons (λ node. sum_by f (parts node.kind)) x nodes,
  within_list f n (parts x.kind) (h 0 x (omega arith)),
  within_nodes f n nodes (λ k d le. h (suc k) d (omega arith)),
)

pub upto_ones : (n : ℕ) → upto (λ x. 1) n ≡ n
upto_ones zero = refl
upto_ones (suc n) = omega (arith, upto_ones n)

pub upto_miss : (v n : ℕ) → n ≤ v → upto (λ x. cond (x == v) 1 0) n ≡ 0
upto_miss v zero h = refl
upto_miss v (suc n) h = omega (arith, upto_miss v n (omega arith), not_hit n v (λ e. omega arith))

hit_by : (v n : ℕ) → v < suc n → (v ≡ n) ⊎ (v ≡ n → ⊥) → (v < n → upto (λ x. cond (x == v) 1 0) n ≡ 1) → upto (λ x. cond (x == v) 1 0) (suc n) ≡ 1
hit_by v n h (inl e) rec = omega (arith, upto_miss v n (omega arith), is_hit n v e)
hit_by v n h (inr ne) rec = omega (arith, rec (grind (arith, ne)), not_hit n v ne)

-- of the first n numbers one is v, where v is below n
pub upto_hit : (v n : ℕ) → v < n → upto (λ x. cond (x == v) 1 0) n ≡ 1
upto_hit v zero h = absurd (omega arith)
upto_hit v (suc n) h = hit_by v n h (cases_eq v n) (λ lt. upto_hit v n lt)

module _ (table : TreeTable) (t : IsTree table) where
  all_below : All (HasPartsBelow (length table.nodes)) table.nodes
  all_below k d le = λ i c within.
      let e : slice_get table.nodes k ≡ Some (get_or table.nodes k d) = slice_get-get_or table.nodes k d le in
      let h : get_or (parts (get_or table.nodes k d).kind) i c < k = t.children_before k (get_or table.nodes k d) e i c within in
      omega arith

  -- the nodes of a tree are its parts and its root
  pub uses_sum : (f : ℕ → ℕ) → parts_sum f table.nodes + f table.root ≡ upto f (length table.nodes)
  uses_sum f = omega (
    arith,
    below_sums f (length table.nodes) (node_uses table) t.used_once,
    sum_by_push (λ x. cond (nat_lt x (length table.nodes)) (f x) 0) (flat_map (λ node. parts node.kind) table.nodes) table.root,
    within f (length table.nodes) table.root t.root_in_table,
    within_nodes f (length table.nodes) table.nodes all_below,
  )
