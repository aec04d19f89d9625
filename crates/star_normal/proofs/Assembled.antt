-- The table that is assembled from labels.
use Rattle.std.proofs.Common.{◌≡◌, ◌∙◌, ◌⊎◌, inl, inr, ℕ, zero, suc, ◌+◌, ◌-◌, ◌*◌, ◌<◌, ◌≤◌, ◌==◌, cond, true, false, List, [], ◌∷◌, ◌++◌, length, map, drop, get_or, Some, slice_get, count_by, flat_map, All, refl, sym, ap, subst, arith, length-append, append_assoc, append-nil, drop-cons}
use Rattle.std.proofs.lemmas.Option.{slice_get_within, get_or_from_slice_get}
use Rattle.std.proofs.lemmas.List.{get_or_append_left, get_or-map, length-map, length-drop}
use Rattle.std.proofs.lemmas.List.Elements.{All-nil, All-cons}
use Rattle.std.proofs.lemmas.List.Sums.{sum_by-cons, sum_by-append, sum_by_push}
use Rattle.std.proofs.lemmas.Bool.{cases_order}
use Rattle.std.proofs.Math.Seq.{get_or-append_seam}
use Rattle.rx_lang.specs.Copies.{IsItself}
use Rattle.star_normal.specs.declared.node.Node.{Node}
use Rattle.star_normal.specs.declared.node.NodeKind.{NodeKind}
use Rattle.star_normal.specs.declared.node.NodeKind.TheVariants.{Leaf, Seq, Alt}
use Rattle.star_normal.specs.Trees.{Flags, FlaggedTree, leaf, seq, alt, leaves}
use Rattle.star_normal.specs.Normal.{bare}
use Rattle.star_normal.specs.Shapes.{IsExact, AreStripped, HasOneScan}
use Rattle.star_normal.specs.Tables.{IsTree, parts, is_leaf, plain_node, flags_of, form_at, form_by, form_of, forms, whole}
use Rattle.star_normal.specs.Labels.{Label, leaf_label, seq_label, alt_label, tree_labels, kind_label, label_of, read_seq, read_alt, read_label, read_labels}
use Rattle.star_normal.specs.Assembly.{Closes, of_kind, top_trees, PartsBelow, AllBelow, AreOrdered, Uses, is_leaf_label, Assembled, IsNormal, Joins}
use Rattle.star_normal.proofs.Made.{made_more, made_next}

pub not_hit : (f c : ℕ) → (c ≡ f → ⊥) → ◌≡◌ {A = ℕ} (cond (f == c) 1 0) 0
not_hit f c ne = let test : (f == c) ≡ false = grind (arith, ne) in ap (λ b. cond b 1 0) test

pub is_hit : (f c : ℕ) → c ≡ f → ◌≡◌ {A = ℕ} (cond (f == c) 1 0) 1
is_hit f c e = let test : (f == c) ≡ true = grind (arith, e) in ap (λ b. cond b 1 0) test

-- The trees of a table.

pub agree : (a b : List FlaggedTree) (n : ℕ) → ((k : ℕ) → k < n → form_at a k ≡ form_at b k) → (f : Flags) (kind : NodeKind) → PartsBelow n kind → form_by a f kind ≡ form_by b f kind
agree a b n e f (Leaf s) h = refl
agree a b n e f (Seq l r) h = rw (e l h.0, e r h.1) refl
agree a b n e f (Alt l r) h = rw (e l h.0, e r h.1) refl

forms_more : (nodes more : List Node) (k : ℕ) → k < length nodes → form_at (forms (nodes ++ more)) k ≡ form_at (forms nodes) k
forms_more nodes more k h = made_more form_of (leaf bare 0) nodes more k h

form_last : (nodes : List Node) (x : Node) → form_at (forms (nodes ++ x ∷ [])) (length nodes) ≡ form_by (forms nodes) (flags_of x) x.kind
form_last nodes x = made_next form_of (leaf bare 0) nodes [] x

tops_more : (nodes : List Node) (x : Node) (tops : List ℕ) → AllBelow (length nodes) tops → top_trees (nodes ++ x ∷ []) tops ≡ top_trees nodes tops
tops_more nodes x [] b = refl
tops_more nodes x (k ∷ tops) b = rw (tops_more nodes x tops b.1, forms_more nodes (x ∷ []) k b.0) refl

tops_push : (nodes : List Node) (tops : List ℕ) (k : ℕ) → top_trees nodes (tops ++ k ∷ []) ≡ form_at (forms nodes) k ∷ top_trees nodes tops
tops_push nodes [] k = refl
tops_push nodes (j ∷ tops) k = ap (λ ts. ts ++ form_at (forms nodes) j ∷ []) (tops_push nodes tops k)

below_push : (n : ℕ) (tops : List ℕ) (k : ℕ) → AllBelow n tops → k < n → AllBelow n (tops ++ k ∷ [])
below_push n [] k b h = (h, tt)
below_push n (j ∷ tops) k b h = (b.0, below_push n tops k b.1 h)

below_pop : (n : ℕ) (tops : List ℕ) (k : ℕ) → AllBelow n (tops ++ k ∷ []) → AllBelow n tops × (k < n)
below_pop n [] k b = (tt, b.0)
below_pop n (j ∷ tops) k b = let r = below_pop n tops k b.1 in ((b.0, r.0), r.1)

below_more : (n m : ℕ) (tops : List ℕ) → n ≤ m → AllBelow n tops → AllBelow m tops
below_more n m [] le b = tt
below_more n m (k ∷ tops) le b = (omega (arith, b.0), below_more n m tops le b.1)

order_push : (nodes : List Node) (x : Node) → AreOrdered nodes → PartsBelow (length nodes) x.kind → AreOrdered (nodes ++ x ∷ [])
order_push nodes x o p k h = by k h (cases_order k (length nodes))
  where
    by : (k : ℕ) → k < length (nodes ++ x ∷ []) → (k ≡ length nodes) ⊎ ((k < length nodes) ⊎ (length nodes < k))
        → PartsBelow k (get_or (nodes ++ x ∷ []) k (plain_node (Leaf 0) false)).kind
    by k h (inl e) =
        let here : get_or (nodes ++ x ∷ []) k (plain_node (Leaf 0) false) ≡ x = ap (λ j. get_or (nodes ++ x ∷ []) j (plain_node (Leaf 0) false)) e ∙ get_or-append_seam nodes x [] (plain_node (Leaf 0) false) in
        subst (λ (z : Node). PartsBelow k z.kind) (sym here) (subst (λ j. PartsBelow j x.kind) (sym e) p)
    by k h (inr (inl lt)) =
        subst (λ (z : Node). PartsBelow k z.kind) (sym (get_or_append_left nodes (x ∷ []) (plain_node (Leaf 0) false) k lt)) (o k lt)
    by k h (inr (inr gt)) = absurd (omega (arith, h, gt, length-append nodes (x ∷ [])))

-- Uses.

abbrev uses_of : ℕ → List Node → ℕ
uses_of m nodes = count_by (λ x. x == m) (flat_map (λ node. parts node.kind) nodes)

uses_push : (m : ℕ) (nodes : List Node) (x : Node) → uses_of m (nodes ++ x ∷ []) ≡ uses_of m nodes + count_by (λ y. y == m) (parts x.kind)
uses_push m [] x = omega (arith, sum_by-append (λ y. cond (y == m) 1 0) (parts x.kind) [])
uses_push m (y ∷ nodes) x = omega (
  arith,
  uses_push m nodes x,
  sum_by-append (λ y. cond (y == m) 1 0) (parts y.kind) (flat_map (λ node. parts node.kind) nodes),
  sum_by-append (λ y. cond (y == m) 1 0) (parts y.kind) (flat_map (λ node. parts node.kind) (nodes ++ x ∷ [])),
)

uses_new : (n m a b : ℕ) → Uses n a m → b ≡ a + cond (n == m) 1 0 → Uses (n + 1) b m
uses_new n m a b u e = record { once = λ h. once_by h (cases_order m n); never = λ h. let w = u.never (omega arith) in omega (arith, e, w, not_hit n m (λ q. absurd (omega arith))) }
  where
    once_by : m < n + 1 → (m ≡ n) ⊎ ((m < n) ⊎ (n < m)) → b ≡ 1
    once_by h (inl q) = let w = u.never (omega arith) in omega (arith, e, w, is_hit n m q)
    once_by h (inr (inl lt)) = let w = u.once lt in omega (arith, e, w, not_hit n m (λ q. absurd (omega arith)))
    once_by h (inr (inr gt)) = absurd (omega arith)

count_pair : (m l r : ℕ) → count_by (λ x. x == m) (l ∷ r ∷ []) ≡ cond (l == m) 1 0 + cond (r == m) 1 0
count_pair m l r = omega arith

-- The step.

module _ (done : List Label) (nodes : List Node) (tops : List ℕ) (x : Node) (a : Assembled done nodes tops) where
  push_with : (made : NodeKind) (rest : List ℕ) → PartsBelow (length nodes) made → AllBelow (length nodes) rest
      → form_by (forms nodes) (flags_of x) made ∷ top_trees nodes rest ≡ read_label (kind_label (flags_of x) x.kind) (top_trees nodes tops)
      → ((m : ℕ) → count_by (λ y. y == m) (parts made) + count_by (λ y. y == m) rest ≡ count_by (λ y. y == m) tops)
      → (is_leaf made ≡ is_leaf_label (kind_label (flags_of x) x.kind))
      → Assembled (label_of x ∷ done) (nodes ++ of_kind x made ∷ []) (rest ++ length nodes ∷ [])
  push_with made rest p b t u l =
      let size : length (nodes ++ of_kind x made ∷ []) ≡ length nodes + 1 = length-append nodes (of_kind x made ∷ []) in
      record {
        size = let s = a.size in omega (arith, size, s);
        trees =
            tops_push (nodes ++ of_kind x made ∷ []) rest (length nodes)
            ∙ rw (form_last nodes (of_kind x made), tops_more nodes (of_kind x made) rest b) (t ∙ ap (read_label (label_of x)) a.trees);
        order = order_push nodes (of_kind x made) a.order p;
        below = subst (λ n. AllBelow n (rest ++ length nodes ∷ [])) (sym size)
            (below_push (length nodes + 1) rest (length nodes) (below_more (length nodes) (length nodes + 1) rest (omega arith) b) (omega arith));
        uses = λ m. subst (λ n. Uses n (uses_of m (nodes ++ of_kind x made ∷ []) + count_by (λ y. y == m) (rest ++ length nodes ∷ [])) m) (sym size)
            (uses_new (length nodes) m (uses_of m nodes + count_by (λ y. y == m) tops) _ (a.uses m)
            (omega (arith, uses_push m nodes (of_kind x made), sum_by_push (λ y. cond (y == m) 1 0) rest (length nodes), u m)));
        leaves =
            let c : cond (is_leaf made) 1 0 ≡ cond (is_leaf_label (label_of x)) 1 0 = ap {B = ℕ} (λ b. cond b 1 0) l in
            let h = a.leaves in
            omega (arith, sum_by_push (λ (node : Node). cond (is_leaf node.kind) 1 0) nodes (of_kind x made), sum_by-cons (λ d. cond (is_leaf_label d) 1 0) (label_of x) done, c, h);
      }

  pair_with : (l r : ℕ) (rest : List ℕ) → tops ≡ (rest ++ r ∷ []) ++ l ∷ []
      → ((l < length nodes) × (r < length nodes)) × AllBelow (length nodes) rest
      × (top_trees nodes tops ≡ form_at (forms nodes) l ∷ form_at (forms nodes) r ∷ top_trees nodes rest)
      × ((m : ℕ) → count_by (λ y. y == m) (l ∷ r ∷ []) + count_by (λ y. y == m) rest ≡ count_by (λ y. y == m) tops)
  pair_with l r rest e =
      let first = below_pop (length nodes) (rest ++ r ∷ []) l (subst (AllBelow (length nodes)) e a.below) in
      let second = below_pop (length nodes) rest r first.0 in (
        (first.1, second.1),
        second.0,
        ap (top_trees nodes) e ∙ tops_push nodes (rest ++ r ∷ []) l ∙ ap (λ ts. form_at (forms nodes) l ∷ ts) (tops_push nodes rest r),
        λ m. omega (
          arith,
          ap (count_by (λ y. y == m)) e,
          sum_by_push (λ y. cond (y == m) 1 0) (rest ++ r ∷ []) l,
          sum_by_push (λ y. cond (y == m) 1 0) rest r,
          count_pair m l r,
        ),
      )

  join_by : (kind made : NodeKind) (rest : List ℕ) → x.kind ≡ kind → Closes kind tops made rest
      → Assembled (label_of x ∷ done) (nodes ++ of_kind x made ∷ []) (rest ++ length nodes ∷ [])
  join_by (Leaf s) made rest e c =
      push_with made rest (rw c.0 tt) (subst (AllBelow (length nodes)) c.1 a.below) (rw (e, c.0, c.1) refl) (λ m. omega (arith, ap (count_by (λ y. y == m)) c.1, ap (λ k. count_by (λ y. y == m) (parts k)) c.0)) (rw (e, c.0) refl)
  join_by (Seq i j) made rest e c =
      let p = pair_with c.0 c.1 rest c.3 in
      push_with made rest (rw c.2 p.0) p.1 (rw (e, c.2, p.2) refl) (rw c.2 p.3) (rw (e, c.2) refl)
  join_by (Alt i j) made rest e c =
      let p = pair_with c.0 c.1 rest c.3 in
      push_with made rest (rw c.2 p.0) p.1 (rw (e, c.2, p.2) refl) (rw c.2 p.3) (rw (e, c.2) refl)

  pub joined : (nodes_later : List Node) (tops_later : List ℕ) → Joins x nodes tops nodes_later tops_later → Assembled (label_of x ∷ done) nodes_later tops_later
  joined nodes_later tops_later j = rw (j.joins, j.opens) (join_by x.kind j.made j.rest refl j.closes)

-- Labels of a tree are read as this tree.

pub read_tree : (t : FlaggedTree) (rest : List Label) → read_labels (tree_labels t ++ rest) ≡ t ∷ read_labels rest
read_tree (leaf f s) rest = refl
read_tree (seq f l r) rest =
    ap (read_seq f) (ap read_labels (append_assoc (tree_labels l) (tree_labels r) rest) ∙ read_tree l (tree_labels r ++ rest) ∙ ap (λ ts. l ∷ ts) (read_tree r rest))
read_tree (alt f l r) rest =
    ap (read_alt f) (ap read_labels (append_assoc (tree_labels l) (tree_labels r) rest) ∙ read_tree l (tree_labels r ++ rest) ∙ ap (λ ts. l ∷ ts) (read_tree r rest))

-- behind each label there are as many trees as it takes
abbrev Wants : Label → List FlaggedTree → Type 0
Wants (leaf_label f s) ts = Unit {0}
Wants (seq_label f) ts = 2 ≤ length ts
Wants (alt_label f) ts = 2 ≤ length ts

abbrev AreFed : List Label → Type 0
AreFed [] = Unit {0}
AreFed (label ∷ rest) = Wants label (read_labels rest) × AreFed rest

pair_read : (l r : FlaggedTree) (rest : List Label) → 2 ≤ length (read_labels ((tree_labels l ++ tree_labels r) ++ rest))
pair_read l r rest =
    let e : read_labels ((tree_labels l ++ tree_labels r) ++ rest) ≡ l ∷ r ∷ read_labels rest =
    ap read_labels (append_assoc (tree_labels l) (tree_labels r) rest) ∙ read_tree l (tree_labels r ++ rest) ∙ ap (λ ts. l ∷ ts) (read_tree r rest) in
    rw e (omega arith)

fed_tree : (t : FlaggedTree) (rest : List Label) → AreFed rest → AreFed (tree_labels t ++ rest)
fed_tree (leaf f s) rest h = (tt, h)
fed_tree (seq f l r) rest h = (
  pair_read l r rest,
  rw (append_assoc (tree_labels l) (tree_labels r) rest) (fed_tree l (tree_labels r ++ rest) (fed_tree r rest h)),
)
fed_tree (alt f l r) rest h = (
  pair_read l r rest,
  rw (append_assoc (tree_labels l) (tree_labels r) rest) (fed_tree l (tree_labels r ++ rest) (fed_tree r rest h)),
)

pub fed : (t : FlaggedTree) → AreFed (tree_labels t)
fed t = rw (sym (append-nil (tree_labels t))) (fed_tree t [] tt)

fed_at : (labels : List Label) (i : ℕ) (d : Label) → AreFed labels → i < length labels → Wants (get_or labels i d) (read_labels (drop (suc i) labels))
fed_at [] i d h lt = absurd (omega arith)
fed_at (label ∷ labels) zero d h lt = h.0
fed_at (label ∷ labels) (suc i) d h lt = fed_at labels i d h.1 (omega arith)

trees_length : (nodes : List Node) (tops : List ℕ) → length (top_trees nodes tops) ≡ length tops
trees_length nodes [] = refl
trees_length nodes (k ∷ tops) = omega (arith, trees_length nodes tops, length-append (top_trees nodes tops) (form_at (forms nodes) k ∷ []))

wanted : (x : Node) (kind : NodeKind) (ts : List FlaggedTree) → Wants (kind_label (flags_of x) kind) ts → length (parts kind) ≤ length ts
wanted x (Leaf s) ts h = omega arith
wanted x (Seq l r) ts h = h
wanted x (Alt l r) ts h = h

pub enough : (labels : List Label) (i : ℕ) (x : Node) (nodes : List Node) (tops : List ℕ) → AreFed labels → i < length labels → get_or labels i (label_of x) ≡ label_of x
    → Assembled (drop (suc i) labels) nodes tops → length (parts x.kind) ≤ length tops
enough labels i x nodes tops h lt at a =
    let w : Wants (label_of x) (read_labels (drop (suc i) labels)) = subst (λ d. Wants d (read_labels (drop (suc i) labels))) at (fed_at labels i (label_of x) h lt) in
    let n : length (read_labels (drop (suc i) labels)) ≡ length tops = ap length (sym a.trees) ∙ trees_length nodes tops in
    omega (arith, n, wanted x x.kind (read_labels (drop (suc i) labels)) w)

-- The whole.

leaf_labels : (t : FlaggedTree) → count_by is_leaf_label (tree_labels t) ≡ length (leaves t)
leaf_labels (leaf f s) = refl
leaf_labels (seq f l r) = omega (
  arith,
  sum_by-cons (λ d. cond (is_leaf_label d) 1 0) (seq_label f) (tree_labels l ++ tree_labels r),
  sum_by-append (λ d. cond (is_leaf_label d) 1 0) (tree_labels l) (tree_labels r),
  leaf_labels l,
  leaf_labels r,
  length-append (leaves l) (leaves r),
)
leaf_labels (alt f l r) = omega (
  arith,
  sum_by-cons (λ d. cond (is_leaf_label d) 1 0) (alt_label f) (tree_labels l ++ tree_labels r),
  sum_by-append (λ d. cond (is_leaf_label d) 1 0) (tree_labels l) (tree_labels r),
  leaf_labels l,
  leaf_labels r,
  length-append (leaves l) (leaves r),
)

some_leaf : (t : FlaggedTree) → 1 ≤ length (leaves t)
some_leaf (leaf f s) = omega arith
some_leaf (seq f l r) = omega (arith, some_leaf l, length-append (leaves l) (leaves r))
some_leaf (alt f l r) = omega (arith, some_leaf l, length-append (leaves l) (leaves r))

-- there are twice as many labels as leaves, but one
pub few_labels : (t : FlaggedTree) → length (tree_labels t) + 1 ≡ 2 * length (leaves t)
few_labels (leaf f s) = refl
few_labels (seq f l r) = omega (arith, few_labels l, few_labels r, length-append (tree_labels l) (tree_labels r), length-append (leaves l) (leaves r))
few_labels (alt f l r) = omega (arith, few_labels l, few_labels r, length-append (tree_labels l) (tree_labels r), length-append (leaves l) (leaves r))

parts_all : (k : ℕ) (kind : NodeKind) → PartsBelow k kind → All (λ child. child < k) (parts kind)
parts_all k (Leaf s) h = All-nil (λ child. child < k)
parts_all k (Seq l r) h = All-cons (λ child. child < k) l (r ∷ []) h.0 (All-cons (λ child. child < k) r [] h.1 (All-nil (λ child. child < k)))
parts_all k (Alt l r) h = All-cons (λ child. child < k) l (r ∷ []) h.0 (All-cons (λ child. child < k) r [] h.1 (All-nil (λ child. child < k)))

module _ (t : FlaggedTree) (nodes : List Node) (tops : List ℕ) (a : Assembled (tree_labels t) nodes tops) where
  one_tree : top_trees nodes tops ≡ t ∷ []
  one_tree = a.trees ∙ ap read_labels (sym (append-nil (tree_labels t))) ∙ read_tree t []

  pub one_top : 1 ≤ length tops
  one_top = omega (arith, trees_length nodes tops, ap length one_tree)

  module _ (rest : List ℕ) (root : ℕ) (e : tops ≡ rest ++ root ∷ []) where
    none_left : rest ≡ []
    none_left = by rest (omega (arith, trees_length nodes tops, ap length one_tree, ap length e, length-append rest (root ∷ [])))
      where
        by : (xs : List ℕ) → length xs ≡ 0 → xs ≡ []
        by [] h = refl
        by (x ∷ xs) h = absurd (omega (arith, h))

    alone : tops ≡ root ∷ []
    alone = e ∙ ap (λ xs. xs ++ root ∷ []) none_left

    pub is_whole : whole (record { nodes = nodes; root = root }) ≡ t
    is_whole =
        let both : form_at (forms nodes) root ∷ [] ≡ t ∷ [] = ap (top_trees nodes) (sym alone) ∙ one_tree in
        cc

    children_before : (k : ℕ) (node : Node) → slice_get nodes k ≡ Some node → All (λ child. child < k) (parts node.kind)
    children_before k node at = parts_all k node.kind
        (subst (λ (n : Node). PartsBelow k n.kind) (get_or_from_slice_get nodes k node (plain_node (Leaf 0) false) at) (a.order k (slice_get_within nodes k node at)))

    pub is_tree : IsNormal t → IsTree (record { nodes = nodes; root = root })
    is_tree n = record {
      some_leaves = let h = a.leaves in omega (arith, h, leaf_labels t, some_leaf t);
      few_leaves = let h = a.leaves in let f = n.few in omega (arith, h, leaf_labels t, f);
      children_before = children_before;
      root_in_table = (subst (AllBelow (length nodes)) alone a.below).0;
      used_once = λ k h.
          let u = (a.uses k).once h in
          omega (
            arith,
            u,
            ap (count_by (λ x. x == k)) alone,
            sum_by-append (λ x. cond (x == k) 1 0) (flat_map (λ node. parts node.kind) nodes) (root ∷ []),
          );
      stripped = subst AreStripped (sym is_whole) n.stripped;
      exact = subst (IsExact IsItself) (sym is_whole) n.exact;
      scan = subst HasOneScan (sym is_whole) n.scan;
    }

pub none_assembled : Assembled [] [] []
none_assembled = record {
  size = refl;
  trees = refl;
  order = λ k h. absurd (omega arith);
  below = tt;
  uses = λ m. record { once = λ h. absurd (omega arith); never = λ h. refl };
  leaves = refl;
}

-- The steps of the pass over labels.

module _ (t : FlaggedTree) (list : List Node) (e : map label_of list ≡ tree_labels t) where
  pub step_few : (i : ℕ) (nodes : List Node) (tops : List ℕ) → length (leaves t) ≤ 4096 → Assembled (drop i (map label_of list)) nodes tops → length nodes ≤ 8191
  step_few i nodes tops few a =
      let s = a.size in omega (arith, s, length-drop i (map label_of list), ap length e, few_labels t, few)

  pub step_parts : (i : ℕ) (d : Node) (nodes : List Node) (tops : List ℕ) → 1 ≤ i → i ≤ length list → Assembled (drop i (map label_of list)) nodes tops
      → length (parts (get_or list (i - 1) d).kind) ≤ length tops
  step_parts zero d nodes tops some le a = absurd (omega arith)
  step_parts (suc j) d nodes tops some le a =
      let less : suc j - 1 ≡ j = omega arith in
      rw less (enough (map label_of list) j (get_or list j d) nodes tops (rw e (fed t)) (omega (arith, length-map list label_of))
      (get_or-map label_of list j d (label_of (get_or list j d)) (omega arith)) a)

  pub step_next : (i : ℕ) (d : Node) (nodes : List Node) (tops : List ℕ) (nodes_later : List Node) (tops_later : List ℕ) → 1 ≤ i → i ≤ length list
      → Assembled (drop i (map label_of list)) nodes tops → Joins (get_or list (i - 1) d) nodes tops nodes_later tops_later
      → Assembled (drop (i - 1) (map label_of list)) nodes_later tops_later
  step_next zero d nodes tops nodes_later tops_later some le a j = absurd (omega arith)
  step_next (suc k) d nodes tops nodes_later tops_later some le a j =
      let less : suc k - 1 ≡ k = omega arith in
      let x : Node = get_or list k d in
      let front : drop k (map label_of list) ≡ label_of x ∷ drop (suc k) (map label_of list) =
      drop-cons (map label_of list) k (label_of x) (omega (arith, length-map list label_of))
      ∙ ap (λ y. y ∷ drop (suc k) (map label_of list)) (get_or-map label_of list k d (label_of x) (omega arith)) in
      rw (less, front) (joined (drop (suc k) (map label_of list)) nodes tops x a nodes_later tops_later (rw less at j))

  pub at_end : (i : ℕ) (nodes : List Node) (tops : List ℕ) → i ≤ 0 → Assembled (drop i (map label_of list)) nodes tops → Assembled (tree_labels t) nodes tops
  at_end zero nodes tops le a = subst (λ l. Assembled l nodes tops) e a
  at_end (suc i) nodes tops le a = absurd (omega arith)
