-- The leaves of each node, counted from the first node to the last.
use Rattle.std.proofs.Common.{◌≡◌, ◌∙◌, ◌⊎◌, nat_lt, ◌^◌, ℕ, zero, suc, ◌+◌, ◌<◌, ◌≤◌, true, false, ◌==◌, cond, List, [], ◌∷◌, ◌++◌, length, take, drop, get_or, Some, slice_get, count_by, sum_by, flat_map, All, refl, sym, ap, subst, inl, inr, arith, length-append, length-take}
use Rattle.std.proofs.lemmas.Option.{slice_get_within, get_or_from_slice_get, slice_get-get_or}
use Rattle.std.proofs.lemmas.List.{get_or_append_left}
use Rattle.std.proofs.lemmas.List.Sums.{sum_by-cons, sum_by-append, sum_by_push, sum_by_more, sum_by-take-le}
use Rattle.std.proofs.lemmas.Bool.{cases_eq, cases_order}
use Rattle.std.proofs.Math.Seq.{get_or-append_seam}
use Rattle.star_normal.specs.declared.node.Node.{Node}
use Rattle.star_normal.specs.declared.node.NodeKind.{NodeKind}
use Rattle.star_normal.specs.declared.node.NodeKind.TheVariants.{Leaf, Seq, Alt}
use Rattle.star_normal.specs.Trees.{Flags, FlaggedTree, leaf, leaves}
use Rattle.star_normal.specs.Normal.{bare}
use Rattle.star_normal.specs.Tables.{TreeTable, IsTree, parts, is_leaf, plain_node, flags_of, form_at, form_by, form_of, forms}
use Rattle.star_normal.specs.Assembly.{PartsBelow}
use Rattle.star_normal.specs.Sizes.{size_at, size_of, AreSizes}
use Rattle.star_normal.proofs.Made.{made_more, made_next}
use Rattle.star_normal.proofs.Outlined.{split_at}
use Rattle.star_normal.proofs.Assembled.{agree, is_hit, not_hit}

-- a measure of a node's kind
abbrev pub of_node : (NodeKind → ℕ) → Node → ℕ
of_node v n = v n.kind

abbrev pub leaf_one : NodeKind → ℕ
leaf_one kind = cond (is_leaf kind) 1 0

abbrev part_hits : ℕ → NodeKind → ℕ
part_hits m kind = count_by (λ x. x == m) (parts kind)

count_uses : (m : ℕ) (placed : List Node) → count_by (λ x. x == m) (flat_map (λ node. parts node.kind) placed) ≡ sum_by (of_node (part_hits m)) placed
count_uses m [] = refl
count_uses m (x ∷ placed) = omega (
  arith,
  sum_by-append (λ x. cond (x == m) 1 0) (parts x.kind) (flat_map (λ node. parts node.kind) placed),
  sum_by-cons (of_node (part_hits m)) x placed,
  count_uses m placed,
)

-- the sum of the first n values
abbrev pub upto : (ℕ → ℕ) → ℕ → ℕ
upto f zero = 0
upto f (suc n) = upto f n + f n

-- a number that stands in the list at most once adds at most its value
pub not_equal : (x n : ℕ) → (n ≡ x → ⊥) → (x == n) ≡ false
not_equal x n ne = grind (arith, ne)

none_by : (f : ℕ → ℕ) (n x : ℕ) (xs : List ℕ) → (n ≡ x) ⊎ (n ≡ x → ⊥) → count_by (λ x. x == n) (x ∷ xs) ≡ 0 → ((count_by (λ x. x == n) xs ≡ 0) → sum_by (λ x. cond (x == n) (f x) 0) xs ≡ 0)
    → sum_by (λ x. cond (x == n) (f x) 0) (x ∷ xs) ≡ 0
none_by f n x xs (inl e) h rec = absurd (omega (arith, h, is_hit x n e, sum_by-cons (λ y. cond (y == n) 1 0) x xs))
none_by f n x xs (inr ne) h rec =
    let test : (x == n) ≡ false = not_equal x n ne in
    let off : cond (x == n) (f x) 0 ≡ 0 = ap (λ b. cond b (f x) 0) test in
    omega (arith, off, not_hit x n ne, h, sum_by-cons (λ y. cond (y == n) 1 0) x xs, sum_by-cons (λ y. cond (y == n) (f y) 0) x xs, rec (omega (arith, not_hit x n ne, h, sum_by-cons (λ y. cond (y == n) 1 0) x xs)))

pub none_adds : (f : ℕ → ℕ) (n : ℕ) (xs : List ℕ) → count_by (λ x. x == n) xs ≡ 0 → sum_by (λ x. cond (x == n) (f x) 0) xs ≡ 0
none_adds f n [] h = refl
none_adds f n (x ∷ xs) h = none_by f n x xs (cases_eq n x) h (λ k. none_adds f n xs k)

once_by : (f : ℕ → ℕ) (n x : ℕ) (xs : List ℕ) → (n ≡ x) ⊎ (n ≡ x → ⊥) → count_by (λ x. x == n) (x ∷ xs) ≤ 1 → (count_by (λ x. x == n) xs ≤ 1 → sum_by (λ x. cond (x == n) (f x) 0) xs ≤ f n)
    → sum_by (λ x. cond (x == n) (f x) 0) (x ∷ xs) ≤ f n
once_by f n x xs (inl e) h rec =
    let none : count_by (λ y. y == n) xs ≡ 0 = omega (arith, h, is_hit x n e, sum_by-cons (λ y. cond (y == n) 1 0) x xs) in
    let test : (x == n) ≡ true = grind (arith, e) in
    let on : cond (x == n) (f x) 0 ≡ f n = ap (λ b. cond b (f x) 0) test ∙ ap f (sym e) in
    omega (arith, on, none_adds f n xs none, sum_by-cons (λ y. cond (y == n) (f y) 0) x xs)
once_by f n x xs (inr ne) h rec =
    let off : cond (x == n) (f x) 0 ≡ 0 = ap (λ b. cond b (f x) 0) (not_equal x n ne) in
    omega (arith, off, sum_by-cons (λ y. cond (y == n) (f y) 0) x xs, rec (omega (arith, h, not_hit x n ne, sum_by-cons (λ y. cond (y == n) 1 0) x xs)))

once_adds : (f : ℕ → ℕ) (n : ℕ) (xs : List ℕ) → count_by (λ x. x == n) xs ≤ 1 → sum_by (λ x. cond (x == n) (f x) 0) xs ≤ f n
once_adds f n [] h = omega arith
once_adds f n (x ∷ xs) h = once_by f n x xs (cases_eq n x) h (λ k. once_adds f n xs k)

split_one : (f : ℕ → ℕ) (n x : ℕ) → (n ≡ x) ⊎ ((n < x) ⊎ (x < n)) → cond (nat_lt x (n + 1)) (f x) 0 ≡ cond (nat_lt x n) (f x) 0 + cond (x == n) (f x) 0
split_one f n x (inl e) =
    let a : nat_lt x (n + 1) ≡ true = grind arith in
    let b : nat_lt x n ≡ false = grind arith in
    let c : (x == n) ≡ true = grind arith in
    rw (a, b, c) (omega arith)
split_one f n x (inr (inl gt)) =
    let a : nat_lt x (n + 1) ≡ false = grind arith in
    let b : nat_lt x n ≡ false = grind arith in
    let c : (x == n) ≡ false = grind arith in
    rw (a, b, c) refl
split_one f n x (inr (inr lt)) =
    let a : nat_lt x (n + 1) ≡ true = grind arith in
    let b : nat_lt x n ≡ true = grind arith in
    let c : (x == n) ≡ false = grind arith in
    rw (a, b, c) (omega arith)

pub split_all : (f : ℕ → ℕ) (n : ℕ) (xs : List ℕ) → sum_by (λ x. cond (nat_lt x (n + 1)) (f x) 0) xs
    ≡ sum_by (λ x. cond (nat_lt x n) (f x) 0) xs + sum_by (λ x. cond (x == n) (f x) 0) xs
split_all f n [] = refl
split_all f n (x ∷ xs) = omega (
  arith,
  sum_by-cons (λ x. cond (nat_lt x (n + 1)) (f x) 0) x xs,
  sum_by-cons (λ x. cond (nat_lt x n) (f x) 0) x xs,
  sum_by-cons (λ x. cond (x == n) (f x) 0) x xs,
  split_one f n x (cases_order n x),
  split_all f n xs,
)

pub none_below : (f : ℕ → ℕ) (xs : List ℕ) → sum_by (λ x. cond (nat_lt x 0) (f x) 0) xs ≡ 0
none_below f [] = refl
none_below f (x ∷ xs) = let a : nat_lt x 0 ≡ false = grind arith in
    omega (arith, sum_by-cons (λ x. cond (nat_lt x 0) (f x) 0) x xs, ap (λ b. cond b (f x) 0) a, none_below f xs)

-- distinct numbers below n add at most the sum of the first n values
below_upto : (f : ℕ → ℕ) (n : ℕ) (xs : List ℕ) → ((k : ℕ) → k < n → count_by (λ x. x == k) xs ≤ 1) → sum_by (λ x. cond (nat_lt x n) (f x) 0) xs ≤ upto f n
below_upto f zero xs once = omega (arith, none_below f xs)
below_upto f (suc n) xs once = let e : suc n ≡ n + 1 = omega arith in
    let all : sum_by (λ x. cond (nat_lt x (suc n)) (f x) 0) xs ≡ sum_by (λ x. cond (nat_lt x (n + 1)) (f x) 0) xs = ap (λ m. sum_by (λ x. cond (nat_lt x m) (f x) 0) xs) e in
    omega (arith, all, split_all f n xs, below_upto f n xs (λ k h. once k (omega arith)), once_adds f n xs (once n (omega arith)))

pub sum_pair : (f : ℕ → ℕ) (l r : ℕ) → sum_by f (l ∷ r ∷ []) ≡ f l + f r
sum_pair f l r = omega arith

pub flat_sum : (f : ℕ → ℕ) (nodes : List Node) → sum_by f (flat_map (λ node. parts node.kind) nodes) ≡ sum_by (λ node. sum_by f (parts node.kind)) nodes
flat_sum f [] = refl
flat_sum f (x ∷ nodes) = omega (arith, sum_by-append f (parts x.kind) (flat_map (λ node. parts node.kind) nodes), sum_by-cons (λ node. sum_by f (parts node.kind)) x nodes, flat_sum f nodes)

parts_of : (k : ℕ) (kind : NodeKind) → All (λ child. child < k) (parts kind) → PartsBelow k kind
parts_of k (Leaf s) h = tt
parts_of k (Seq l r) h = (h 0 0 (omega arith), h 1 0 (omega arith))
parts_of k (Alt l r) h = (h 0 0 (omega arith), h 1 0 (omega arith))

plain : Node
plain = plain_node (Leaf 0) false

below_more : (n m : ℕ) (kind : NodeKind) → n ≤ m → PartsBelow n kind → PartsBelow m kind
below_more n m (Leaf s) le h = tt
below_more n m (Seq l r) le h = (omega (arith, h.0), omega (arith, h.1))
below_more n m (Alt l r) le h = (omega (arith, h.0), omega (arith, h.1))

pub within_one : (f : ℕ → ℕ) (i x : ℕ) → x < i → cond (nat_lt x i) (f x) 0 ≡ f x
within_one f i x h = let a : nat_lt x i ≡ true = grind arith in ap (λ b. cond b (f x) 0) a

within_parts : (f : ℕ → ℕ) (i : ℕ) (kind : NodeKind) → PartsBelow i kind → sum_by (λ x. cond (nat_lt x i) (f x) 0) (parts kind) ≡ sum_by f (parts kind)
within_parts f i (Leaf s) h = refl
within_parts f i (Seq l r) h = omega (arith, sum_pair (λ x. cond (nat_lt x i) (f x) 0) l r, sum_pair f l r, within_one f i l h.0, within_one f i r h.1)
within_parts f i (Alt l r) h = omega (arith, sum_pair (λ x. cond (nat_lt x i) (f x) 0) l r, sum_pair f l r, within_one f i l h.0, within_one f i r h.1)

leaves_by : (before : List FlaggedTree) (h : Flags) (kind : NodeKind) → length (leaves (form_by before h kind)) ≡ leaf_one kind + sum_by (λ k. length (leaves (form_at before k))) (parts kind)
leaves_by before h (Leaf s) = refl
leaves_by before h (Seq l r) = omega (arith, length-append (leaves (form_at before l)) (leaves (form_at before r)), sum_pair (λ k. length (leaves (form_at before k))) l r)
leaves_by before h (Alt l r) = omega (arith, length-append (leaves (form_at before l)) (leaves (form_at before r)), sum_pair (λ k. length (leaves (form_at before k))) l r)

-- the counts of the nodes before this number
pub record Sized (nodes : List Node) (n : ℕ) (sizes : List ℕ) : Type 0 where
  pub size : length sizes ≡ n
  pub each : (k : ℕ) → k < n → get_or sizes k 0 ≡ size_at nodes k

size_of_parts : (nodes : List Node) (n : ℕ) (sizes : List ℕ) → Sized nodes n sizes → (kind : NodeKind) → PartsBelow n kind
    → size_of sizes kind ≡ leaf_one kind + sum_by (size_at nodes) (parts kind)
size_of_parts nodes n sizes z (Leaf s) h = refl
size_of_parts nodes n sizes z (Seq l r) h = omega (arith, z.each l h.0, z.each r h.1, sum_pair (size_at nodes) l r)
size_of_parts nodes n sizes z (Alt l r) h = omega (arith, z.each l h.0, z.each r h.1, sum_pair (size_at nodes) l r)

module _ (table : TreeTable) (t : IsTree table) where
  pub ordered : (k : ℕ) (node : Node) → slice_get table.nodes k ≡ Some node → PartsBelow k node.kind
  ordered k node e = parts_of k node.kind (t.children_before k node e)

  -- each node stands for the tree of its parts
  pub node_form : (k : ℕ) (node : Node) → slice_get table.nodes k ≡ Some node → form_at (forms table.nodes) k ≡ form_of (forms table.nodes) node
  node_form k node e =
      let within : k < length table.nodes = slice_get_within table.nodes k node e in
      let size : length (take k table.nodes) ≡ k = omega (arith, length-take k table.nodes) in
      let whole : table.nodes ≡ take k table.nodes ++ node ∷ drop (suc k) table.nodes = split_at table.nodes k node e in
      ap (λ xs. form_at (forms xs) k) whole
      ∙ ap (λ n. form_at (forms (take k table.nodes ++ node ∷ drop (suc k) table.nodes)) n) (sym size)
      ∙ made_next form_of (leaf bare 0) (take k table.nodes) (drop (suc k) table.nodes) node
      ∙ agree (forms (take k table.nodes)) (forms table.nodes) k
      (λ j h. sym (ap (λ xs. form_at (forms xs) j) whole ∙ made_more form_of (leaf bare 0) (take k table.nodes) (node ∷ drop (suc k) table.nodes) j (omega (arith, size))))
      (flags_of node) node.kind (ordered k node e)

  pub node_size : (k : ℕ) (node : Node) → slice_get table.nodes k ≡ Some node → size_at table.nodes k ≡ leaf_one node.kind + sum_by (size_at table.nodes) (parts node.kind)
  node_size k node e = ap (λ x. length (leaves x)) (node_form k node e) ∙ leaves_by (forms table.nodes) (flags_of node) node.kind

  leaf_more : (i : ℕ) (node : Node) → slice_get table.nodes i ≡ Some node → sum_by (of_node leaf_one) (take (i + 1) table.nodes) ≡ sum_by (of_node leaf_one) (take i table.nodes) + leaf_one node.kind
  leaf_more i node e = sum_by_more (of_node leaf_one) table.nodes i node (slice_get_within table.nodes i node e)
      ∙ ap (λ x. sum_by (of_node leaf_one) (take i table.nodes) + of_node leaf_one x) (get_or_from_slice_get table.nodes i node node e)

  parts_more : (f : ℕ → ℕ) (i : ℕ) (node : Node) → slice_get table.nodes i ≡ Some node
      → sum_by (λ x. sum_by f (parts x.kind)) (take (i + 1) table.nodes) ≡ sum_by (λ x. sum_by f (parts x.kind)) (take i table.nodes) + sum_by f (parts node.kind)
  parts_more f i node e = sum_by_more (λ x. sum_by f (parts x.kind)) table.nodes i node (slice_get_within table.nodes i node e)
      ∙ ap (λ x. sum_by (λ y. sum_by f (parts y.kind)) (take i table.nodes) + sum_by f (parts x.kind)) (get_or_from_slice_get table.nodes i node node e)

  node_at : (i : ℕ) → i < length table.nodes → (node : Node) × (slice_get table.nodes i ≡ Some node)
  node_at i h = (get_or table.nodes i plain, slice_get-get_or table.nodes i plain h)

  -- what the first nodes add: their leaves, and their parts once more
  pub sums : (i : ℕ) → i ≤ length table.nodes
      → upto (size_at table.nodes) i ≡ sum_by (of_node leaf_one) (take i table.nodes) + sum_by (λ x. sum_by (size_at table.nodes) (parts x.kind)) (take i table.nodes)
  sums zero h = refl
  sums (suc i) h =
      let n = node_at i (omega arith) in
      let e : suc i ≡ i + 1 = omega arith in
      omega (
        arith,
        sums i (omega arith),
        node_size i n.0 n.1,
        leaf_more i n.0 n.1,
        parts_more (size_at table.nodes) i n.0 n.1,
        ap (λ m. sum_by (of_node leaf_one) (take m table.nodes)) e,
        ap (λ m. sum_by (λ x. sum_by (size_at table.nodes) (parts x.kind)) (take m table.nodes)) e,
      )

  pub within_all : (f : ℕ → ℕ) (i m : ℕ) → m ≤ i + 1 → m ≤ length table.nodes
      → sum_by (λ x. sum_by (λ y. cond (nat_lt y i) (f y) 0) (parts x.kind)) (take m table.nodes) ≡ sum_by (λ x. sum_by f (parts x.kind)) (take m table.nodes)
  within_all f i zero h le = refl
  within_all f i (suc m) h le =
      let n = node_at m (omega arith) in
      let e : suc m ≡ m + 1 = omega arith in
      omega (
        arith,
        within_all f i m (omega arith) (omega arith),
        parts_more f m n.0 n.1,
        parts_more (λ y. cond (nat_lt y i) (f y) 0) m n.0 n.1,
        within_parts f i n.0.kind (below_more m i n.0.kind (omega arith) (ordered m n.0 n.1)),
        ap (λ k. sum_by (λ x. sum_by f (parts x.kind)) (take k table.nodes)) e,
        ap (λ k. sum_by (λ x. sum_by (λ y. cond (nat_lt y i) (f y) 0) (parts x.kind)) (take k table.nodes)) e,
      )

  once : (m k : ℕ) → k < length table.nodes → count_by (λ x. x == k) (flat_map (λ node. parts node.kind) (take m table.nodes)) ≤ 1
  once m k h = omega (
    arith,
    count_uses k (take m table.nodes),
    count_uses k table.nodes,
    sum_by-take-le (of_node (part_hits k)) table.nodes m,
    t.used_once k h,
    sum_by_push (λ x. cond (x == k) 1 0) (flat_map (λ node. parts node.kind) table.nodes) table.root,
  )

  -- no node has more leaves than the tree
  pub few : (i : ℕ) (node : Node) → slice_get table.nodes i ≡ Some node → leaf_one node.kind + sum_by (size_at table.nodes) (parts node.kind) ≤ 4096
  few i node e =
      let lt : i < length table.nodes = slice_get_within table.nodes i node e in
      let less : sum_by (λ x. cond (nat_lt x i) (size_at table.nodes x) 0) (flat_map (λ n. parts n.kind) (take (i + 1) table.nodes)) ≤ upto (size_at table.nodes) i =
      below_upto (size_at table.nodes) i (flat_map (λ n. parts n.kind) (take (i + 1) table.nodes)) (λ k h. once (i + 1) k (omega arith)) in
      omega (
        arith,
        less,
        flat_sum (λ x. cond (nat_lt x i) (size_at table.nodes x) 0) (take (i + 1) table.nodes),
        within_all (size_at table.nodes) i (i + 1) (omega arith) (omega arith),
        parts_more (size_at table.nodes) i node e,
        sums i (omega arith),
        leaf_more i node e,
        sum_by-take-le (of_node leaf_one) table.nodes (i + 1),
        t.few_leaves,
      )

  pub size_fits : (n : ℕ) (sizes : List ℕ) (node : Node) → slice_get table.nodes n ≡ Some node → Sized table.nodes n sizes → size_of sizes node.kind ≤ 4096
  size_fits n sizes node e z = omega (arith, size_of_parts table.nodes n sizes z node.kind (ordered n node e), few n node e)

  size_by : (n : ℕ) (sizes : List ℕ) (node : Node) → slice_get table.nodes n ≡ Some node → Sized table.nodes n sizes → (k : ℕ) → k < n + 1
      → (k ≡ n) ⊎ ((k < n) ⊎ (n < k)) → get_or (sizes ++ size_of sizes node.kind ∷ []) k 0 ≡ size_at table.nodes k
  size_by n sizes node e z k h (inl q) = ap (λ j. get_or (sizes ++ size_of sizes node.kind ∷ []) j 0) (q ∙ sym z.size)
      ∙ get_or-append_seam sizes (size_of sizes node.kind) [] 0
      ∙ size_of_parts table.nodes n sizes z node.kind (ordered n node e) ∙ sym (node_size n node e) ∙ ap (size_at table.nodes) (sym q)
  size_by n sizes node e z k h (inr (inl lt)) = get_or_append_left sizes (size_of sizes node.kind ∷ []) 0 k (omega (arith, z.size)) ∙ z.each k lt
  size_by n sizes node e z k h (inr (inr gt)) = absurd (omega arith)

  pub size_next : (n : ℕ) (sizes : List ℕ) (node : Node) → slice_get table.nodes n ≡ Some node → Sized table.nodes n sizes → Sized table.nodes (n + 1) (sizes ++ size_of sizes node.kind ∷ [])
  size_next n sizes node e z = record {
    size = omega (arith, z.size, length-append sizes (size_of sizes node.kind ∷ []));
    each = λ k h. size_by n sizes node e z k h (cases_order k n);
  }

pub all_sized : (some : List Node) (sizes : List ℕ) → Sized some (length some) sizes → AreSizes some sizes
all_sized some sizes z = record { size = z.size; each = z.each }

-- a turn of the loop, over nodes that are those of the table
module _ (table : TreeTable) (t : IsTree table) (some : List Node) (e : some ≡ table.nodes) (n : ℕ) (d : Node) (sizes : List ℕ) (lt : n < length some)
    (z : Sized some n sizes) where
  moved : Sized table.nodes n sizes
  moved = subst (λ ns. Sized ns n sizes) e z

  here : slice_get table.nodes n ≡ Some (get_or some n d)
  here = subst (λ ns. slice_get ns n ≡ Some (get_or some n d)) e (slice_get-get_or some n d lt)

  pub turn_parts : PartsBelow (length sizes) (get_or some n d).kind
  turn_parts = subst (λ m. PartsBelow m (get_or some n d).kind) (sym z.size) (ordered table t n (get_or some n d) here)

  pub turn_fits : size_of sizes (get_or some n d).kind < 2 ^ 32
  turn_fits = omega (arith, size_fits table t n sizes (get_or some n d) here moved)

  pub turn_next : Sized some (n + 1) (sizes ++ size_of sizes (get_or some n d).kind ∷ [])
  turn_next = subst (λ ns. Sized ns (n + 1) (sizes ++ size_of sizes (get_or some n d).kind ∷ [])) (sym e) (size_next table t n sizes (get_or some n d) here moved)
