-- The nodes of a table as one tree: each node stands in it.
use Rattle.std.proofs.Common.{◌≡◌, ◌⊎◌, ℕ, zero, suc, ◌+◌, ◌<◌, ◌≤◌, false, ◌==◌, cond, List, [], ◌∷◌, length, Some, slice_get, get_or, count_by, flat_map, refl, sym, ap, subst, ◌∙◌, inl, inr, arith}
use Rattle.std.proofs.lemmas.Option.{slice_get_within, slice_get-get_or}
use Rattle.std.proofs.lemmas.List.Sums.{sum_by-cons, sum_by-append, sum_by_push}
use Rattle.std.proofs.lemmas.Bool.{cases_eq, cases_lt}
use Rattle.star_normal.specs.declared.node.Node.{Node}
use Rattle.star_normal.specs.declared.node.NodeKind.{NodeKind}
use Rattle.star_normal.specs.declared.node.NodeKind.TheVariants.{Leaf, Seq, Alt}
use Rattle.star_normal.specs.Tables.{TreeTable, IsTree, parts, flags_of, form_at, form_by, forms, plain_node}
use Rattle.star_normal.specs.Assembly.{PartsBelow}
use Rattle.star_normal.proofs.Sized.{ordered, node_form}
use Rattle.cell_network.proofs.Placed.{Placed, leaf_at, seq_at, alt_at, number, form, Stands, IsPlaced, Has}

not_hit : (f c : ℕ) → (c ≡ f → ⊥) → ◌≡◌ {A = ℕ} (cond (f == c) 1 0) 0
not_hit f c ne = let test : (f == c) ≡ false = grind (arith, ne) in ap (λ b. cond b 1 0) test

-- the node has this part
abbrev IsPart : ℕ → NodeKind → Type 0
IsPart c (Leaf s) = ⊥
IsPart c (Seq l r) = (l ≡ c) ⊎ (r ≡ c)
IsPart c (Alt l r) = (l ≡ c) ⊎ (r ≡ c)

-- a node that has this part
record Parent (nodes : List Node) (c : ℕ) : Type 0 where
  at : ℕ
  node : Node
  here : slice_get nodes at ≡ Some node
  part : IsPart c node.kind

pair_part : (k l r : ℕ) → (l ≡ k) ⊎ (l ≡ k → ⊥) → (r ≡ k) ⊎ (r ≡ k → ⊥) → 1 ≤ count_by (λ x. x == k) (l ∷ r ∷ []) → (l ≡ k) ⊎ (r ≡ k)
pair_part k l r (inl e) h some = inl e
pair_part k l r (inr ne) (inl e) some = inr e
pair_part k l r (inr ne) (inr me) some = absurd (omega (
  arith,
  some,
  not_hit l k (λ e. ne (sym e)),
  not_hit r k (λ e. me (sym e)),
  sum_by-cons (λ x. cond (x == k) 1 0) l (r ∷ []),
  sum_by-cons (λ x. cond (x == k) 1 0) r [],
))

counted_part : (k : ℕ) (kind : NodeKind) → 1 ≤ count_by (λ x. x == k) (parts kind) → IsPart k kind
counted_part k (Leaf s) some = absurd (omega arith)
counted_part k (Seq l r) some = pair_part k l r (cases_eq l k) (cases_eq r k) some
counted_part k (Alt l r) some = pair_part k l r (cases_eq l k) (cases_eq r k) some

later : (x : Node) (nodes : List Node) (k : ℕ) → Parent nodes k → Parent (x ∷ nodes) k
later x nodes k p = record { at = suc p.at; node = p.node; here = p.here; part = p.part }

first_or_later : (x : Node) (nodes : List Node) (k : ℕ) → (0 < count_by (λ c. c == k) (parts x.kind)) ⊎ (count_by (λ c. c == k) (parts x.kind) ≤ 0)
    → 1 ≤ count_by (λ c. c == k) (flat_map (λ node. parts node.kind) (x ∷ nodes))
    → (1 ≤ count_by (λ c. c == k) (flat_map (λ node. parts node.kind) nodes) → Parent nodes k) → Parent (x ∷ nodes) k
first_or_later x nodes k (inl here) some rec = record { at = 0; node = x; here = refl; part = counted_part k x.kind here }
first_or_later x nodes k (inr none) some rec = later x nodes k
    (rec (omega (arith, some, none, sum_by-append (λ c. cond (c == k) 1 0) (parts x.kind) (flat_map (λ node. parts node.kind) nodes))))

parent : (nodes : List Node) (k : ℕ) → 1 ≤ count_by (λ c. c == k) (flat_map (λ node. parts node.kind) nodes) → Parent nodes k
parent [] k some = absurd (omega arith)
parent (x ∷ nodes) k some = first_or_later x nodes k (cases_lt 0 (count_by (λ c. c == k) (parts x.kind))) some (parent nodes k)

part_below : (c j : ℕ) (kind : NodeKind) → PartsBelow j kind → IsPart c kind → c < j
part_below c j (Leaf s) h p = absurd p
part_below c j (Seq l r) h (inl e) = omega (arith, h.0, e)
part_below c j (Seq l r) h (inr e) = omega (arith, h.1, e)
part_below c j (Alt l r) h (inl e) = omega (arith, h.0, e)
part_below c j (Alt l r) h (inr e) = omega (arith, h.1, e)

-- Nodes of a tree.

has_top : (p : Placed) → Has p (number p)
has_top (leaf_at k n s) = refl
has_top (seq_at k n l r) = inl refl
has_top (alt_at k n l r) = inl refl

has_number : (p : Placed) (c : ℕ) → number p ≡ c → Has p c
has_number p c e = subst (Has p) e (has_top p)

either_has : (l r : Placed) (c : ℕ) → (number l ≡ c) ⊎ (number r ≡ c) → Has l c ⊎ Has r c
either_has l r c (inl e) = inl (has_number l c e)
either_has l r c (inr e) = inr (has_number r c e)

module _ (nodes : List Node) where
  same_kind : (k j : ℕ) (n node : Node) (kind : NodeKind) → k ≡ j → Stands nodes k n kind → slice_get nodes j ≡ Some node → node.kind ≡ kind
  same_kind k j n node kind e s at =
      let moved : slice_get nodes k ≡ Some node = rw e at in
      let here : slice_get nodes k ≡ Some n = s.here in
      let same : node ≡ n = cc in
      ap (λ x. x.kind) same ∙ s.is

  -- a tree has the parts of each of its nodes
  has_part : (p : Placed) → IsPlaced nodes p → (j c : ℕ) (node : Node) → Has p j → slice_get nodes j ≡ Some node → IsPart c node.kind → Has p c
  has_part (leaf_at k n s) h j c node e at part = absurd (subst (IsPart c) (same_kind k j n node (Leaf s) e h at) part)
  has_part (seq_at k n l r) h j c node (inl e) at part = inr (either_has l r c (subst (IsPart c) (same_kind k j n node (Seq (number l) (number r)) e h.0 at) part))
  has_part (seq_at k n l r) h j c node (inr (inl m)) at part = inr (inl (has_part l h.1 j c node m at part))
  has_part (seq_at k n l r) h j c node (inr (inr m)) at part = inr (inr (has_part r h.2 j c node m at part))
  has_part (alt_at k n l r) h j c node (inl e) at part = inr (either_has l r c (subst (IsPart c) (same_kind k j n node (Alt (number l) (number r)) e h.0 at) part))
  has_part (alt_at k n l r) h j c node (inr (inl m)) at part = inr (inl (has_part l h.1 j c node m at part))
  has_part (alt_at k n l r) h j c node (inr (inr m)) at part = inr (inr (has_part r h.2 j c node m at part))

-- the tree of the node with this number
pub record PlacedAt (nodes : List Node) (k : ℕ) : Type 0 where
  pub tree : Placed
  pub placed : IsPlaced nodes tree
  pub number : number tree ≡ k
  pub form : form tree ≡ form_at (forms nodes) k

module _ (table : TreeTable) (t : IsTree table) where
  place_by : (k : ℕ) (node : Node) → slice_get table.nodes k ≡ Some node → (kind : NodeKind) → node.kind ≡ kind
      → ((j : ℕ) → j < k → PlacedAt table.nodes j) → PlacedAt table.nodes k
  place_by k node e (Leaf s) is rec = record {
    tree = leaf_at k node s;
    placed = record { here = e; is = is };
    number = refl;
    form = sym (node_form table t k node e ∙ ap (form_by (forms table.nodes) (flags_of node)) is);
  }
  place_by k node e (Seq l r) is rec =
      let below : (l < k) × (r < k) = subst (PartsBelow k) is (ordered table t k node e) in
      let a = rec l below.0 in
      let b = rec r below.1 in
      record {
        tree = seq_at k node a.tree b.tree;
        placed = (record { here = e; is = rw (a.number, b.number) is }, a.placed, b.placed);
        number = refl;
        form = rw (a.form, b.form) (sym (node_form table t k node e ∙ ap (form_by (forms table.nodes) (flags_of node)) is));
      }
  place_by k node e (Alt l r) is rec =
      let below : (l < k) × (r < k) = subst (PartsBelow k) is (ordered table t k node e) in
      let a = rec l below.0 in
      let b = rec r below.1 in
      record {
        tree = alt_at k node a.tree b.tree;
        placed = (record { here = e; is = rw (a.number, b.number) is }, a.placed, b.placed);
        number = refl;
        form = rw (a.form, b.form) (sym (node_form table t k node e ∙ ap (form_by (forms table.nodes) (flags_of node)) is));
      }

  place : (n k : ℕ) → k < n → k < length table.nodes → PlacedAt table.nodes k
  place zero k h within = absurd (omega arith)
  place (suc n) k h within =
      let node : Node = get_or table.nodes k (plain_node (Leaf 0) false) in
      place_by k node (slice_get-get_or table.nodes k (plain_node (Leaf 0) false) within) node.kind refl
      (λ j lt. place n j (omega arith) (omega arith))

  -- the tree of the root
  pub whole_tree : PlacedAt table.nodes table.root
  whole_tree = place (suc table.root) table.root (omega arith) t.root_in_table

  -- every node but the root is a part
  used : (k : ℕ) → k < length table.nodes → (table.root ≡ k) ⊎ (table.root ≡ k → ⊥) → (table.root ≡ k) ⊎ Parent table.nodes k
  used k within (inl e) = inl e
  used k within (inr ne) = inr (parent table.nodes k (omega (
    arith,
    t.used_once k within,
    not_hit table.root k (λ e. ne (sym e)),
    sum_by_push (λ x. cond (x == k) 1 0) (flat_map (λ node. parts node.kind) table.nodes) table.root,
  )))

  reach_by : (n k : ℕ) → length table.nodes ≤ k + suc n → ((j : ℕ) → length table.nodes ≤ j + n → j < length table.nodes → Has whole_tree.tree j)
      → (table.root ≡ k) ⊎ Parent table.nodes k → Has whole_tree.tree k
  reach_by n k le rec (inl e) = has_number whole_tree.tree k (whole_tree.number ∙ e)
  reach_by n k le rec (inr p) = has_part table.nodes whole_tree.tree whole_tree.placed p.at k p.node
      (rec p.at (omega (arith, le, part_below k p.at p.node.kind (ordered table t p.at p.node p.here) p.part)) (slice_get_within table.nodes p.at p.node p.here))
      p.here p.part

  reach : (n k : ℕ) → length table.nodes ≤ k + n → k < length table.nodes → Has whole_tree.tree k
  reach zero k le within = absurd (omega arith)
  reach (suc n) k le within = reach_by n k le (reach n) (used k within (cases_eq table.root k))

  -- the tree of the root has every node of the table
  pub has_all : (k : ℕ) → k < length table.nodes → Has whole_tree.tree k
  has_all k within = reach (length table.nodes) k (omega arith) within
