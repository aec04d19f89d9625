-- The order of a node and the nodes below it.
use Rattle.std.proofs.Common.{◌≡◌, ◌∙◌, ℕ, zero, suc, ◌+◌, ◌*◌, ◌<◌, ◌≤◌, true, false, Option, Some, None, List, [], ◌∷◌, ◌++◌, length, take, drop, get_or, slice_get, slice_index_or, sum_by, refl, sym, ap, arith, length-append, length-take, drop-cons}
use Rattle.std.proofs.lemmas.Option.{slice_get_within, get_or_from_slice_get, slice_get-get_or}
use Rattle.std.proofs.lemmas.List.{take-append-drop, take_all}
use Rattle.std.proofs.lemmas.List.Sums.{sum_by-cons, sum_by-append, sum_by_more}
use Rattle.star_normal.specs.declared.node.Node.{Node}
use Rattle.star_normal.specs.declared.node.NodeKind.{NodeKind}
use Rattle.star_normal.specs.declared.node.NodeKind.TheVariants.{Leaf, Seq, Alt}
use Rattle.star_normal.specs.Trees.{FlaggedTree, Flags, leaf, leaves}
use Rattle.star_normal.specs.Normal.{bare}
use Rattle.star_normal.specs.Tables.{TreeTable, IsTree, parts, is_leaf, flags_of, form_by, form_of, form_at, forms}
use Rattle.star_normal.specs.Sizes.{size_at, light_child, heavy_child, ShareLeaves}
use Rattle.light_order.specs.Order.{light_first, part_of, order_of, orders}
use Rattle.light_order.proofs.Made.{made, made_more, made_next, made_length}
use Rattle.light_order.proofs.Kids.{Kids, none, both, kids}
use Rattle.light_order.proofs.Uses.{upto, upto_next, parts_sum, uses_sum}

pub split_at : {A : Type 0} (xs : List A) (k : ℕ) (x : A) → slice_get xs k ≡ Some x → xs ≡ take k xs ++ x ∷ drop (suc k) xs
split_at xs k x e =
    let within : k < length xs = slice_get_within xs k x e in
    let read : get_or xs k x ≡ x = get_or_from_slice_get xs k x x e in
    sym (take-append-drop k xs) ∙ ap (λ l. take k xs ++ l) (drop-cons xs k x within ∙ ap (λ y. y ∷ drop (suc k) xs) read)

same_part : (a b : List (List ℕ)) (n : ℕ) → ((k : ℕ) → k < n → get_or a k [] ≡ get_or b k []) → (o : Option ℕ)
    → ((k : ℕ) → o ≡ Some k → k < n) → part_of a o ≡ part_of b o
same_part a b n e None h = refl
same_part a b n e (Some k) h = e k (h k refl)

leaf_size : (before : List FlaggedTree) (f : Flags) (kind : NodeKind) → is_leaf kind ≡ true → length (leaves (form_by before f kind)) ≡ 1
leaf_size before f (Leaf s) e = refl
leaf_size before f (Seq l r) e = cc
leaf_size before f (Alt l r) e = cc

pub length_sum : (xs : List ℕ) → length xs ≡ sum_by (λ x. 1) xs
length_sum [] = refl
length_sum (x ∷ xs) = omega (arith, length_sum xs, sum_by-cons (λ (x : ℕ). 1) x xs)

-- the nodes at and below a node
abbrev pub part : TreeTable → ℕ → List ℕ
part table k = slice_index_or (orders table.nodes) k []

-- A leaf stands alone; another node stands before its light part and that before its heavy part.
pub data PartOf (table : TreeTable) (k : ℕ) (node : Node) : Type 0 where
  tip : light_child (size_at table.nodes) node.kind ≡ None → heavy_child (size_at table.nodes) node.kind ≡ None → is_leaf node.kind ≡ true
      → parts node.kind ≡ [] → part table k ≡ k ∷ [] → PartOf table k node
  fork : (l h : ℕ) → light_child (size_at table.nodes) node.kind ≡ Some l → heavy_child (size_at table.nodes) node.kind ≡ Some h → l < k → h < k
      → ((f : ℕ → ℕ) → sum_by f (parts node.kind) ≡ f l + f h) → part table k ≡ k ∷ (part table l ++ part table h) → PartOf table k node

module _ (table : TreeTable) (t : IsTree table) where
  abbrev size : ℕ → ℕ
  size = size_at table.nodes

  abbrev grown : List Node → List (List ℕ)
  grown xs = made (order_of (size_at table.nodes)) [] [] xs

  kids_below : (k : ℕ) (node : Node) → slice_get table.nodes k ≡ Some node → Kids size k node.kind
  kids_below k node e = kids size k node.kind (t.children_before k node e)

  light_below : (k : ℕ) (kind : NodeKind) → Kids size k kind → (j : ℕ) → light_child size kind ≡ Some j → j < k
  light_below k kind (none a b c d) j e = cc
  light_below k kind (both l h a b p q f) j e = let same : l ≡ j = cc in omega arith

  heavy_below : (k : ℕ) (kind : NodeKind) → Kids size k kind → (j : ℕ) → heavy_child size kind ≡ Some j → j < k
  heavy_below k kind (none a b c d) j e = cc
  heavy_below k kind (both l h a b p q f) j e = let same : h ≡ j = cc in omega arith

  cons_cong : (k n : ℕ) (a a' b b' : List ℕ) → k ≡ n → a ≡ a' → b ≡ b' → ◌≡◌ {A = List ℕ} (k ∷ (a ++ b)) (n ∷ (a' ++ b'))
  cons_cong k n a a' b b' p q r = rw (p, q, r) refl

  pub node_order : (k : ℕ) (node : Node) → slice_get table.nodes k ≡ Some node
      → part table k ≡ k ∷ (part_of (orders table.nodes) (light_child size node.kind) ++ part_of (orders table.nodes) (heavy_child size node.kind))
  node_order k node e =
      let within : k < length table.nodes = slice_get_within table.nodes k node e in
      let long : length (take k table.nodes) ≡ k = omega (arith, length-take k table.nodes) in
      let whole : table.nodes ≡ take k table.nodes ++ node ∷ drop (suc k) table.nodes = split_at table.nodes k node e in
      let stays : (j : ℕ) → j < k → get_or (grown (take k table.nodes)) j [] ≡ get_or (orders table.nodes) j [] =
      λ j h. sym (ap (λ xs. get_or (grown xs) j []) whole ∙ made_more (order_of size) [] (take k table.nodes) (node ∷ drop (suc k) table.nodes) j (omega (arith, long))) in
      ap (λ xs. get_or (grown xs) k []) whole
      ∙ ap (λ n. get_or (grown (take k table.nodes ++ node ∷ drop (suc k) table.nodes)) n []) (sym long)
      ∙ made_next (order_of size) [] (take k table.nodes) (drop (suc k) table.nodes) node
      ∙ cons_cong _ _ _ _ _ _ (omega (arith, long, made_length (order_of size) [] (take k table.nodes) []))
      (same_part (grown (take k table.nodes)) (orders table.nodes) k stays (light_child size node.kind) (light_below k node.kind (kids_below k node e)))
      (same_part (grown (take k table.nodes)) (orders table.nodes) k stays (heavy_child size node.kind) (heavy_below k node.kind (kids_below k node e)))

  shaped : (k : ℕ) (node : Node) → Kids size k node.kind
      → part table k ≡ k ∷ (part_of (orders table.nodes) (light_child size node.kind) ++ part_of (orders table.nodes) (heavy_child size node.kind)) → PartOf table k node
  shaped k node (none a b c d) e = tip a b c d (rw (a, b) at e)
  shaped k node (both l h a b p q f) e = fork l h a b p q f (rw (a, b) at e)

  pub shape : (k : ℕ) (node : Node) → slice_get table.nodes k ≡ Some node → PartOf table k node
  shape k node e = shaped k node (kids_below k node e) (node_order k node e)

  pub node_at : (k : ℕ) → k < length table.nodes → (node : Node) × (slice_get table.nodes k ≡ Some node)
  node_at k h = let d : Node = plain in (get_or table.nodes k d, slice_get-get_or table.nodes k d h)
    where
      plain : Node
      plain = record { kind = Leaf 0; loops = false; eps = false; scan = false; marks = 0; eps_marks = 0 }

  -- the values of a part: that of its node and those of its children's parts
  part_sum : (g : ℕ → ℕ) (k : ℕ) (node : Node) → PartOf table k node → sum_by g (part table k) ≡ g k + sum_by (λ c. sum_by g (part table c)) (parts node.kind)
  part_sum g k node (tip a b c d e) = rw (e, d) (omega arith)
  part_sum g k node (fork l h a b p q f e) = omega (
    arith,
    ap (sum_by g) e,
    sum_by-cons g k (part table l ++ part table h),
    sum_by-append g (part table l) (part table h),
    f (λ c. sum_by g (part table c)),
  )

  pub parts_more : (f : ℕ → ℕ) (i : ℕ) (node : Node) → slice_get table.nodes i ≡ Some node
      → parts_sum f (take (i + 1) table.nodes) ≡ parts_sum f (take i table.nodes) + sum_by f (parts node.kind)
  parts_more f i node e = sum_by_more (λ x. sum_by f (parts x.kind)) table.nodes i node (slice_get_within table.nodes i node e)
      ∙ ap (λ x. parts_sum f (take i table.nodes) + sum_by f (parts x.kind)) (get_or_from_slice_get table.nodes i node node e)

  -- what the first nodes add: their values, and those of their children's parts
  sums : (g : ℕ → ℕ) (i : ℕ) → i ≤ length table.nodes
      → upto (λ k. sum_by g (part table k)) i ≡ upto g i + parts_sum (λ k. sum_by g (part table k)) (take i table.nodes)
  sums g zero h = refl
  sums g (suc i) h =
      let n = node_at i (omega arith) in
      let e : suc i ≡ i + 1 = omega arith in
      omega (
        arith,
        sums g i (omega arith),
        part_sum g i n.0 (shape i n.0 n.1),
        parts_more (λ k. sum_by g (part table k)) i n.0 n.1,
        ap (λ m. parts_sum (λ k. sum_by g (part table k)) (take m table.nodes)) e,
      )

  -- The order has the values of all nodes and of the frame.
  pub all_nodes : (g : ℕ → ℕ) → sum_by g (light_first table) ≡ upto g (length table.nodes + 1)
  all_nodes g =
      let all : take (length table.nodes) table.nodes ≡ table.nodes = take_all (length table.nodes) table.nodes (omega arith) in
      omega (
        arith,
        sum_by-cons g (length table.nodes) (part table table.root),
        uses_sum table t (λ k. sum_by g (part table k)),
        sums g (length table.nodes) (omega arith),
        ap (parts_sum (λ k. sum_by g (part table k))) all,
        upto_next g (length table.nodes),
      )

  -- a leaf has one leaf
  one_leaf : (k : ℕ) (node : Node) → slice_get table.nodes k ≡ Some node → is_leaf node.kind ≡ true → size k ≡ 1
  one_leaf k node e is =
      let within : k < length table.nodes = slice_get_within table.nodes k node e in
      let long : length (take k table.nodes) ≡ k = omega (arith, length-take k table.nodes) in
      let whole : table.nodes ≡ take k table.nodes ++ node ∷ drop (suc k) table.nodes = split_at table.nodes k node e in
      ap (λ xs. length (leaves (form_at (forms xs) k))) whole
      ∙ ap (λ n. length (leaves (form_at (forms (take k table.nodes ++ node ∷ drop (suc k) table.nodes)) n))) (sym long)
      ∙ ap (λ f. length (leaves f)) (made_next form_of (leaf bare 0) (take k table.nodes) (drop (suc k) table.nodes) node)
      ∙ leaf_size (forms (take k table.nodes)) (flags_of node) node.kind is

  -- children share the leaves of their parent
  module _ (share : (k light heavy : ℕ) (node : Node) → slice_get table.nodes k ≡ Some node → light_child size node.kind ≡ Some light
      → heavy_child size node.kind ≡ Some heavy → ShareLeaves table.nodes k light heavy) where
    long_by : (k : ℕ) (node : Node) → slice_get table.nodes k ≡ Some node → PartOf table k node
        → ((j : ℕ) → j < k → length (part table j) + 1 ≡ 2 * size j) → length (part table k) + 1 ≡ 2 * size k
    long_by k node e (tip a b c d is) rec = rw is (omega (arith, one_leaf k node e c))
    long_by k node e (fork l h a b p q f is) rec = omega (
      arith,
      ap (length {A = ℕ}) is,
      length-append (part table l) (part table h),
      rec l p,
      rec h q,
      (share k l h node e a b).all,
    )

    long_below : (n k : ℕ) → k < n → k < length table.nodes → length (part table k) + 1 ≡ 2 * size k
    long_below zero k h w = absurd (omega arith)
    long_below (suc n) k h w = let x = node_at k w in
        long_by k x.0 x.1 (shape k x.0 x.1) (λ j lt. long_below n j (omega arith) (omega arith))

    -- a part with some leaves has one node less than twice as many
    pub part_length : (k : ℕ) → k < length table.nodes → length (part table k) + 1 ≡ 2 * size k
    part_length k w = long_below (suc k) k (omega arith) w
