-- The nodes and edges of a tree on its sheet.
use Rattle.std.proofs.Common.{◌≡◌, ℕ, suc, ◌+◌, ◌<◌, ◌≤◌, ◌⊎◌, inl, inr, Bool, true, false, cond, ◌==◌, nat_le, Option, Some, None, option_map, List, [], ◌∷◌, map, length, All, count_by, refl, sym, ap, subst, ◌∙◌, arith}
use Rattle.std.specs.Prelude.{find, flat_map, slice_index, slice_get}
use Rattle.std.specs.List.{range_with_len}
use Rattle.std.proofs.lemmas.Bool.{eqb-true, eq-eqb, cases_lt}
use Rattle.std.proofs.lemmas.Option.{slice_get_past, slice_get_within, none-some, same_Some, slice_get-get_or}
use Rattle.std.proofs.lemmas.List.Sorted.{IsPermutation-sym}
use Rattle.geom.specs.Rows.{Among}
use Rattle.star_normal.specs.declared.node.Node.{Node}
use Rattle.star_normal.specs.declared.node.NodeKind.{NodeKind}
use Rattle.star_normal.specs.declared.node.NodeKind.TheVariants.{Leaf, Seq, Alt}
use Rattle.star_normal.specs.Sizes.{size_at, light_child, heavy_child}
use Rattle.star_normal.specs.Tables.{TreeTable, IsTree, parts, plain_node, node_uses}
use Rattle.block_grid.specs.declared.standing.Standing.{Standing}
use Rattle.block_grid.specs.Sheets.{DrawnEdge, Sheet}
use Rattle.light_order.specs.Order.{frame, light_of, heavy_of, child_of, light_first}
use Rattle.light_order.specs.Crossings.{TreeEdge, edge_to, edges_from, tree_edges}
use Rattle.channel_route.specs.Drawing.{ends_of, name_of}
use Rattle.tree_layout.specs.Numbered.{ends_in_tree}
use Rattle.tree_chip.specs.TreePlans.{IsSheetOf}
use Rattle.tree_chip.proofs.Members.{among_left, among_right, among_append, among_map, among_mapped, among_flat_map, among_flat_mapped, among_range, among_ranged, among_permuted, among_counted, found_among, some_found}

-- ---- children

-- what is known of a child that a kind of node has
child_below : (size : ℕ → ℕ) (kind : NodeKind) (light : Bool) (ch : ℕ) → cond light (light_child size kind) (heavy_child size kind) ≡ Some ch
    → Among (parts kind) ch
child_below size (Leaf s) true ch e = absurd (none-some ch e)
child_below size (Leaf s) false ch e = absurd (none-some ch e)
child_below size (Seq l r) light ch e = of_two (nat_le (size l) (size r)) light e
  where
    of_two : (b light : Bool) → cond light (Some (cond b l r)) (Some (cond b r l)) ≡ Some ch → Among (l ∷ r ∷ []) ch
    of_two true true e = inl (same_Some l ch e)
    of_two true false e = inr (inl (same_Some r ch e))
    of_two false true e = inr (inl (same_Some r ch e))
    of_two false false e = inl (same_Some l ch e)
child_below size (Alt l r) light ch e = of_two (nat_le (size l) (size r)) light e
  where
    of_two : (b light : Bool) → cond light (Some (cond b l r)) (Some (cond b r l)) ≡ Some ch → Among (l ∷ r ∷ []) ch
    of_two true true e = inl (same_Some l ch e)
    of_two true false e = inr (inl (same_Some r ch e))
    of_two false true e = inr (inl (same_Some r ch e))
    of_two false false e = inl (same_Some l ch e)

-- a part of a kind is its light child or its heavy one
some_role : (size : ℕ → ℕ) (kind : NodeKind) (ch : ℕ) → Among (parts kind) ch → (light_child size kind ≡ Some ch) ⊎ (heavy_child size kind ≡ Some ch)
some_role size (Leaf s) ch h = absurd h
some_role size (Seq l r) ch h = of_two (nat_le (size l) (size r)) h
  where
    of_two : (b : Bool) → Among (l ∷ r ∷ []) ch → (Some (cond b l r) ≡ Some ch) ⊎ (Some (cond b r l) ≡ Some ch)
    of_two true (inl e) = inl (ap (λ x. Some x) e)
    of_two true (inr (inl e)) = inr (ap (λ x. Some x) e)
    of_two true (inr (inr h)) = absurd h
    of_two false (inl e) = inr (ap (λ x. Some x) e)
    of_two false (inr (inl e)) = inl (ap (λ x. Some x) e)
    of_two false (inr (inr h)) = absurd h
some_role size (Alt l r) ch h = of_two (nat_le (size l) (size r)) h
  where
    of_two : (b : Bool) → Among (l ∷ r ∷ []) ch → (Some (cond b l r) ≡ Some ch) ⊎ (Some (cond b r l) ≡ Some ch)
    of_two true (inl e) = inl (ap (λ x. Some x) e)
    of_two true (inr (inl e)) = inr (ap (λ x. Some x) e)
    of_two true (inr (inr h)) = absurd h
    of_two false (inl e) = inr (ap (λ x. Some x) e)
    of_two false (inr (inl e)) = inl (ap (λ x. Some x) e)
    of_two false (inr (inr h)) = absurd h

pub other_number : (m n : ℕ) → (m ≡ n → ⊥) → (m == n) ≡ false
other_number m n ne = by (m == n) refl
  where
    by : (b : Bool) → (m == n) ≡ b → b ≡ false
    by true e = absurd (ne (eqb-true m n e))
    by false e = refl

module _ (tree : TreeTable) where
  abbrev pub top : ℕ
  top = length tree.nodes

  -- the children of a node by its kind
  pub light_by_kind : (v : ℕ) (node : Node) → slice_get tree.nodes v ≡ Some node → light_of tree v ≡ light_child (size_at tree.nodes) node.kind
  light_by_kind v node e = rw e refl

  pub heavy_by_kind : (v : ℕ) (node : Node) → slice_get tree.nodes v ≡ Some node → heavy_of tree v ≡ heavy_child (size_at tree.nodes) node.kind
  heavy_by_kind v node e =
      let lt = slice_get_within tree.nodes v node e in
      rw (other_number v (frame tree) (λ same. omega arith), e) refl

  pub frame_light : light_of tree top ≡ None
  frame_light = rw (slice_get_past tree.nodes top (omega arith)) refl

  pub frame_heavy : heavy_of tree top ≡ Some tree.root
  frame_heavy = rw (eq-eqb top (frame tree) refl) refl

  module _ (is_tree : IsTree tree) where
    below_of : (v ch : ℕ) (node : Node) → slice_get tree.nodes v ≡ Some node → Among (parts node.kind) ch → ch < v
    below_of v ch node e m = each (parts node.kind) (is_tree.children_before v node e) m
      where
        each : (xs : List ℕ) → All (λ child. child < v) xs → Among xs ch → ch < v
        each [] h m = absurd m
        each (x ∷ xs) h (inl e) = subst (λ y. y < v) e (h 0 x (omega arith))
        each (x ∷ xs) h (inr m) = each xs (λ k d lt. h (suc k) d (omega arith)) m

    -- a child is a node
    pub child_known : (heavy : Bool) (v ch : ℕ) → v ≤ top → child_of tree heavy v ≡ Some ch → ch < top
    child_known heavy v ch low e = by (slice_get tree.nodes v) refl
      where
        of_node : (node : Node) (h : Bool) → slice_get tree.nodes v ≡ Some node → child_of tree h v ≡ Some ch → ch < top
        of_node node true is e =
            let m = child_below (size_at tree.nodes) node.kind false ch (sym (heavy_by_kind v node is) ∙ e) in
            let lt = below_of v ch node is m in
            omega arith
        of_node node false is e =
            let m = child_below (size_at tree.nodes) node.kind true ch (sym (light_by_kind v node is) ∙ e) in
            let lt = below_of v ch node is m in
            omega arith

        of_frame : (h : Bool) → v ≡ top → child_of tree h v ≡ Some ch → ch < top
        of_frame true same e =
            let root : tree.root ≡ ch = same_Some tree.root ch (sym frame_heavy ∙ ap (heavy_of tree) (sym same) ∙ e) in
            subst (λ x. x < top) root is_tree.root_in_table
        of_frame false same e = absurd (none-some ch (sym frame_light ∙ ap (light_of tree) (sym same) ∙ e))

        by : (o : Option Node) → slice_get tree.nodes v ≡ o → ch < top
        by (Some node) is = of_node node heavy is e
        by None is = of_frame heavy at_top e
          where
            at_top : v ≡ top
            at_top = elim (cases_lt v top) as (λ _. v ≡ top) [
              | inl lt ↦ absurd (none-some _ (sym is ∙ slice_get-get_or tree.nodes v (plain_node (Leaf 0) false) lt))
              | inr ge ↦ omega arith
            ]

    -- ---- parents

    pub record HasParent (v : ℕ) : Type 0 where
      pub parent : ℕ
      pub heavy : Bool
      pub known : parent ≤ top
      pub is : child_of tree heavy parent ≡ Some v

    among_slice : (xs : List Node) (x : Node) → Among xs x → (k : ℕ) × (slice_get xs k ≡ Some x)
    among_slice [] x m = absurd m
    among_slice (y ∷ ys) x (inl e) = (0, ap (λ z. Some z) e)
    among_slice (y ∷ ys) x (inr m) = let k = among_slice ys x m in (suc k.0, k.1)

    pub parent_of : (v : ℕ) → v < top → HasParent v
    parent_of v lt = by (among_append (flat_map (λ node. parts node.kind) tree.nodes) (tree.root ∷ []) v (counted v (is_tree.used_once v lt)))
      where
        counted : (x : ℕ) → count_by (λ y. y == x) (node_uses tree) ≡ 1 → Among (node_uses tree) x
        counted x e = among_counted (node_uses tree) x (omega arith)

        in_role : (p : ℕ) (node : Node) → slice_get tree.nodes p ≡ Some node
            → (light_child (size_at tree.nodes) node.kind ≡ Some v) ⊎ (heavy_child (size_at tree.nodes) node.kind ≡ Some v) → HasParent v
        in_role p node is (inl e) =
            let inside = slice_get_within tree.nodes p node is in
            record { parent = p; heavy = false; known = omega arith; is = light_by_kind p node is ∙ e }
        in_role p node is (inr e) =
            let inside = slice_get_within tree.nodes p node is in
            record { parent = p; heavy = true; known = omega arith; is = heavy_by_kind p node is ∙ e }

        by : Among (flat_map (λ node. parts node.kind) tree.nodes) v ⊎ Among (tree.root ∷ []) v → HasParent v
        by (inl m) =
            let of = among_flat_mapped (λ (node : Node). parts node.kind) tree.nodes v m in
            let at = among_slice tree.nodes of.0 of.1 in
            in_role at.0 of.0 at.1 (some_role (size_at tree.nodes) (of.0).kind v of.2)
        by (inr (inl e)) = record { parent = top; heavy = true; known = omega arith; is = frame_heavy ∙ ap (λ x. Some x) e }
        by (inr (inr m)) = absurd m

-- ---- on the sheet

-- each number below the frame's, and the frame's, stands once in the order, and no other one does
pub record IsOrder (tree : TreeTable) : Type 0 where
  pub once : (v : ℕ) → v < length tree.nodes + 1 → count_by (λ x. x == v) (light_first tree) ≡ 1
  pub number : length (light_first tree) ≡ length tree.nodes + 1
  pub inside : (i : ℕ) → i < length tree.nodes + 1 → slice_index (light_first tree) i ≤ length tree.nodes

module _ (tree : TreeTable) (sheet : Sheet) (of : IsSheetOf tree sheet) where
  edge_from : (parent : ℕ) (heavy : Bool) (o : Option ℕ) (t : TreeEdge) → Among (edge_to parent heavy o) t
      → (t.parent ≡ parent) × (t.heavy ≡ heavy) × (o ≡ Some t.child)
  edge_from parent heavy None t m = absurd m
  edge_from parent heavy (Some ch) t (inl e) =
      (ap (λ (x : TreeEdge). x.parent) (sym e), ap (λ (x : TreeEdge). x.heavy) (sym e), ap (λ (x : TreeEdge). Some x.child) e)
  edge_from parent heavy (Some ch) t (inr m) = absurd m

  edge_in : (parent ch : ℕ) (heavy : Bool) (o : Option ℕ) → o ≡ Some ch
      → Among (edge_to parent heavy o) (record { parent = parent; child = ch; heavy = heavy })
  edge_in parent ch heavy None e = absurd (none-some ch e)
  edge_in parent ch heavy (Some k) e = inl (ap (λ (x : ℕ). record { parent = parent; child = x; heavy = heavy }) (same_Some k ch e))

  -- an edge is to a child in its role
  pub record IsTreeEdge (e : DrawnEdge) : Type 0 where
    pub known : e.parent ≤ top tree
    pub is : child_of tree e.heavy e.parent ≡ Some e.child

  tree_edge : (t : TreeEdge) → Among (tree_edges tree) t → (t.parent ≤ top tree) × (child_of tree t.heavy t.parent ≡ Some t.child)
  tree_edge t m =
      let from = among_flat_mapped (edges_from tree) (range_with_len 0 (top tree + 1)) t m in
      let v = from.0 in
      let low = (among_ranged 0 (top tree + 1) v from.1).1 in
      elim (among_append (edge_to v false (light_of tree v)) (edge_to v true (heavy_of tree v)) t from.2)
      as (λ _. (t.parent ≤ top tree) × (child_of tree t.heavy t.parent ≡ Some t.child)) [
        | inl k ↦ let is = edge_from v false (light_of tree v) t k in (bounded v is.0 low, role v false is.0 is.1 is.2)
        | inr k ↦ let is = edge_from v true (heavy_of tree v) t k in (bounded v is.0 low, role v true is.0 is.1 is.2)
      ]
    where
      bounded : (v : ℕ) → t.parent ≡ v → v < 0 + (top tree + 1) → t.parent ≤ top tree
      bounded v e low = omega arith

      role : (v : ℕ) (h : Bool) → t.parent ≡ v → t.heavy ≡ h → child_of tree h v ≡ Some t.child → child_of tree t.heavy t.parent ≡ Some t.child
      role v h e f is = subst (λ x. child_of tree x t.parent ≡ Some t.child) (sym f) (subst (λ x. child_of tree h x ≡ Some t.child) (sym e) is)

  pub drawn_edge : (e : DrawnEdge) → Among sheet.edges e → IsTreeEdge e
  drawn_edge e m =
      let there = among_permuted (map ends_of sheet.edges) (map ends_in_tree (tree_edges tree)) (ends_of e)
      (IsPermutation-sym (map ends_in_tree (tree_edges tree)) (map ends_of sheet.edges) of.edges) (among_map ends_of sheet.edges e m) in
      let t = among_mapped ends_in_tree (tree_edges tree) (ends_of e) there in
      let is = tree_edge t.0 t.1 in
      ended t.0 t.2 is.0 is.1
    where
      ended : (t : TreeEdge) → ends_in_tree t ≡ ends_of e → t.parent ≤ top tree → child_of tree t.heavy t.parent ≡ Some t.child → IsTreeEdge e
      ended t same low is =
          let p : t.parent ≡ e.parent = ap (λ (x : ℕ × ℕ × Bool). x.0) same in
          let k : t.child ≡ e.child = ap (λ (x : ℕ × ℕ × Bool). x.1) same in
          let h : t.heavy ≡ e.heavy = ap (λ (x : ℕ × ℕ × Bool). x.2) same in
          record {
            known = omega arith;
            is = subst (λ x. child_of tree x e.parent ≡ Some e.child) h
                (subst (λ x. child_of tree t.heavy x ≡ Some e.child) p (is ∙ ap (λ x. Some x) k));
          }

  pub record DrawnAs (heavy : Bool) (p ch : ℕ) : Type 0 where
    pub edge : DrawnEdge
    pub drawn : Among sheet.edges edge
    pub parent : edge.parent ≡ p
    pub child : edge.child ≡ ch
    pub heavy_is : edge.heavy ≡ heavy

  role_in : (heavy : Bool) (p ch : ℕ) → child_of tree heavy p ≡ Some ch
      → Among (edges_from tree p) (record { parent = p; child = ch; heavy = heavy })
  role_in true p ch e = among_right (edge_to p false (light_of tree p)) (edge_to p true (heavy_of tree p)) _ (edge_in p ch true (heavy_of tree p) e)
  role_in false p ch e = among_left (edge_to p false (light_of tree p)) (edge_to p true (heavy_of tree p)) _ (edge_in p ch false (light_of tree p) e)

  -- each child is drawn
  pub edge_drawn : (heavy : Bool) (p ch : ℕ) → p ≤ top tree → child_of tree heavy p ≡ Some ch → DrawnAs heavy p ch
  edge_drawn heavy p ch low is =
      let t : TreeEdge = record { parent = p; child = ch; heavy = heavy } in
      let m = among_flat_map (edges_from tree) (range_with_len 0 (top tree + 1)) p t (among_range 0 (top tree + 1) p (omega arith) (omega arith))
      (role_in heavy p ch is) in
      let there = among_permuted (map ends_in_tree (tree_edges tree)) (map ends_of sheet.edges) (ends_in_tree t) of.edges
      (among_map ends_in_tree (tree_edges tree) t m) in
      let e = among_mapped ends_of sheet.edges (ends_in_tree t) there in
      record {
        edge = e.0;
        drawn = e.1;
        parent = ap (λ (x : ℕ × ℕ × Bool). x.0) e.2;
        child = ap (λ (x : ℕ × ℕ × Bool). x.1) e.2;
        heavy_is = ap (λ (x : ℕ × ℕ × Bool). x.2) e.2;
      }

  -- the child at the end of the edge that is found for a role
  pub out_child : (test : DrawnEdge → Bool) (heavy : Bool) (v : ℕ) → v ≤ top tree
      → ((e : DrawnEdge) → test e ≡ true → (e.parent ≡ v) × (e.heavy ≡ heavy))
      → ((e : DrawnEdge) → e.parent ≡ v → e.heavy ≡ heavy → test e ≡ true)
      → option_map (λ (e : DrawnEdge). e.child) (find test sheet.edges) ≡ child_of tree heavy v
  out_child test heavy v low says passes = by (find test sheet.edges) refl
    where
      by : (o : Option DrawnEdge) → find test sheet.edges ≡ o → option_map (λ (e : DrawnEdge). e.child) o ≡ child_of tree heavy v
      by (Some e) is =
          let found = found_among test sheet.edges e is in
          let own = says e found.1 in
          let edge = drawn_edge e found.0 in
          sym (subst (λ x. child_of tree x v ≡ Some e.child) own.1 (subst (λ x. child_of tree e.heavy x ≡ Some e.child) own.0 edge.is))
      by None is = none (child_of tree heavy v) refl
        where
          none : (o : Option ℕ) → child_of tree heavy v ≡ o → None ≡ o
          none None e = refl
          none (Some ch) e =
              let drawn = edge_drawn heavy v ch low e in
              let found = some_found test sheet.edges drawn.edge drawn.drawn (passes drawn.edge drawn.parent drawn.heavy_is) in
              absurd (none-some found.0 (sym is ∙ found.1))

  module _ (is_tree : IsTree tree) where
    -- the child at the end of the edge that is found for it
    pub in_child : (v : ℕ) → v < top tree → option_map (λ (e : DrawnEdge). e.child) (find (λ (e : DrawnEdge). e.child == v) sheet.edges) ≡ Some v
    in_child v lt =
        let above = parent_of tree is_tree v lt in
        let drawn = edge_drawn above.heavy above.parent v above.known above.is in
        let found = some_found (λ (e : DrawnEdge). e.child == v) sheet.edges drawn.edge drawn.drawn (eq-eqb _ _ drawn.child) in
        let own = found_among (λ (e : DrawnEdge). e.child == v) sheet.edges found.0 found.1 in
        ap (option_map (λ (e : DrawnEdge). e.child)) found.1 ∙ ap (λ x. Some x) (eqb-true (found.0).child v own.1)

    -- none is found for the frame
    pub no_in_child : find (λ (e : DrawnEdge). e.child == top tree) sheet.edges ≡ None
    no_in_child = by (find (λ (e : DrawnEdge). e.child == top tree) sheet.edges) refl
      where
        by : (o : Option DrawnEdge) → find (λ (e : DrawnEdge). e.child == top tree) sheet.edges ≡ o → o ≡ None
        by None is = refl
        by (Some e) is =
            let own = found_among (λ (x : DrawnEdge). x.child == top tree) sheet.edges e is in
            let edge = drawn_edge e own.0 in
            let lt = child_known tree is_tree e.heavy e.parent e.child edge.known edge.is in
            let same = eqb-true e.child (top tree) own.1 in
            absurd (omega arith)

  -- ---- nodes

  module _ (order : IsOrder tree) where
    ordered_low : (xs : List ℕ) (v : ℕ) → ((i : ℕ) → i < length xs → slice_index xs i ≤ top tree) → Among xs v → v ≤ top tree
    ordered_low [] v low m = absurd m
    ordered_low (x ∷ xs) v low (inl e) = subst (λ y. y ≤ top tree) e (low 0 (omega arith))
    ordered_low (x ∷ xs) v low (inr m) = ordered_low xs v (λ i lt. low (suc i) (omega arith)) m

    pub record IsNodeOf (node : Standing) : Type 0 where
      pub known : node.node ≤ top tree
      pub frame_is : node.frame ≡ (node.node == frame tree)

    pub node_known : (node : Standing) → Among sheet.nodes node → IsNodeOf node
    node_known node m =
        let names = among_permuted (map name_of sheet.nodes) (map (λ v. (v, v == frame tree)) (light_first tree)) (name_of node) of.nodes
        (among_map name_of sheet.nodes node m) in
        let v = among_mapped (λ v. (v, v == frame tree)) (light_first tree) (name_of node) names in
        let low = ordered_low (light_first tree) v.0 (λ i lt. order.inside i (let n = order.number in omega arith)) v.1 in
        named v.0 v.2 low
      where
        named : (v : ℕ) → ◌≡◌ {A = ℕ × Bool} (v, v == frame tree) (name_of node) → v ≤ top tree → IsNodeOf node
        named v e low =
            let same : v ≡ node.node = ap (λ (x : ℕ × Bool). x.0) e in
            record { known = omega arith; frame_is = sym (ap (λ (x : ℕ × Bool). x.1) e) ∙ ap (λ x. x == frame tree) same }

    pub node_stands : (v : ℕ) → v ≤ top tree → (node : Standing) × Among sheet.nodes node × (node.node ≡ v)
    node_stands v low =
        let m = among_counted (light_first tree) v (let one = order.once v (omega arith) in omega arith) in
        let names = among_permuted (map (λ v. (v, v == frame tree)) (light_first tree)) (map name_of sheet.nodes) (v, v == frame tree)
        (IsPermutation-sym (map name_of sheet.nodes) (map (λ v. (v, v == frame tree)) (light_first tree)) of.nodes)
        (among_map (λ v. (v, v == frame tree)) (light_first tree) v m) in
        let node = among_mapped name_of sheet.nodes (v, v == frame tree) names in
        (node.0, node.1, ap (λ (x : ℕ × Bool). x.0) node.2)
