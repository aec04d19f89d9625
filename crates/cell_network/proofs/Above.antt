-- Which part stands above a node's: the one that has the node for a part, or the frame above the root.
use Rattle.std.specs.Prelude.{slice_get, flat_map}
use Rattle.std.proofs.Common.{◌≡◌, ◌⊎◌, inl, inr, ℕ, suc, ◌+◌, ◌<◌, ◌==◌, ◌||◌, true, false, cond, List, [], ◌∷◌, length, Some, count_by, refl, ap, sym, ◌∙◌, arith, eqb-true}
use Rattle.std.specs.List.{list_any}
use Rattle.std.proofs.lemmas.Bool.{cases_Bool}
use Rattle.std.proofs.lemmas.Option.{slice_get_within, slice_get-get_or, get_or_from_slice_get}
use Rattle.std.proofs.lemmas.List.Sums.{sum_by-append, sum_by-cons}
use Rattle.star_normal.specs.declared.node.Node.{Node}
use Rattle.star_normal.specs.declared.node.NodeKind.{NodeKind}
use Rattle.star_normal.specs.declared.node.NodeKind.TheVariants.{Leaf, Seq, Alt}
use Rattle.star_normal.specs.Tables.{TreeTable, IsTree, parts, plain_node}
use Rattle.cell_network.specs.declared.numbering.Counts.{Counts}
use Rattle.cell_network.specs.Parts.{node_at}
use Rattle.cell_network.specs.Home.{start_net, begin_net, in_net}
use Rattle.cell_network.specs.Assembled.{above_from, part_above}
use Rattle.cell_network.proofs.Feeding.{hit, uses_of, used, root_fed, left_fed, right_fed, left_before, right_before, parts_differ}

-- a node of these that has v for a part
pub record IsFound (k : ℕ) (xs : List Node) (v : ℕ) : Type 0 where
  pub place : ℕ
  pub node : Node
  pub here : slice_get xs place ≡ Some node
  pub is : above_from k xs v ≡ k + place
  pub has : list_any (λ child. child == v) (parts node.kind) ≡ true

none_counted : (v : ℕ) (xs : List ℕ) → list_any (λ child. child == v) xs ≡ false → count_by (λ x. x == v) xs ≡ 0
none_counted v [] e = refl
none_counted v (x ∷ xs) e = elim (cases_Bool (x == v)) [
  | inl f ↦ let bad : true ≡ false = rw f at e in absurd (cc)
  | inr f ↦
      let own : ◌≡◌ {A = ℕ} (cond (x == v) 1 0) 0 = ap {B = ℕ} (λ b. cond b 1 0) f in
      omega (arith, own, sum_by-cons (λ y. cond (y == v) 1 0) x xs, none_counted v xs (rw f at e))
]

module _ (c : Counts) where
  pub above_cases : (k : ℕ) (xs : List Node) (v : ℕ) → ((above_from k xs v ≡ k + length xs) × (uses_of c v xs ≡ 0)) ⊎ IsFound k xs v
  above_cases k [] v = inl (omega arith, refl)
  above_cases k (x ∷ xs) v = elim (cases_Bool (list_any (λ child. child == v) (parts x.kind))) [
    | inl e ↦ let same : k ≡ k + 0 = omega arith in inr (record { place = 0; node = x; here = refl; is = rw e same; has = e })
    | inr e ↦
        elim (above_cases (k + 1) xs v) [
          | inl h ↦
              let same : k + 1 + length xs ≡ k + suc (length xs) = omega arith in
              inl (
                rw e (h.0 ∙ same),
                omega (
                  arith,
                  h.1,
                  none_counted v (parts x.kind) e,
                  sum_by-append (hit c v) (parts x.kind) (flat_map (λ (node : Node). parts node.kind) xs),
                ),
              )
          | inr f ↦
              let same : k + 1 + f.place ≡ k + suc f.place = omega arith in
              inr (record { place = suc f.place; node = f.node; here = f.here; is = rw e (f.is ∙ same); has = f.has })
        ]
  ]

-- the node that has v for a part
pub record HasAbove (tree : TreeTable) (v : ℕ) : Type 0 where
  pub above : ℕ
  pub within : above < length tree.nodes
  pub l : ℕ
  pub r : ℕ
  pub kind : ((node_at tree.nodes above).kind ≡ Seq l r) ⊎ ((node_at tree.nodes above).kind ≡ Alt l r)
  pub side : (l ≡ v) ⊎ (r ≡ v)
  pub is : part_above tree v ≡ above

one_of : (l r v : ℕ) → ((l == v) || ((r == v) || false)) ≡ true → (l ≡ v) ⊎ (r ≡ v)
one_of l r v e = elim (cases_Bool (l == v)) [
  | inl f ↦ inl (eqb-true l v f)
  | inr f ↦
      elim (cases_Bool (r == v)) [
        | inl g ↦ inr (eqb-true r v g)
        | inr g ↦ let bad : false ≡ true = rw (f, g) at e in absurd (cc)
      ]
]

found_above : (tree : TreeTable) (v : ℕ) → IsFound 0 tree.nodes v → HasAbove tree v
found_above tree v f = by (node_at tree.nodes f.place).kind refl
  where
    same : 0 + f.place ≡ f.place
    same = omega arith

    read : node_at tree.nodes f.place ≡ f.node
    read = get_or_from_slice_get tree.nodes f.place f.node (plain_node (Leaf 0) false) f.here

    has : list_any (λ child. child == v) (parts (node_at tree.nodes f.place).kind) ≡ true
    has = rw read f.has

    pair : (l r : ℕ) → ((node_at tree.nodes f.place).kind ≡ Seq l r) ⊎ ((node_at tree.nodes f.place).kind ≡ Alt l r) → (l ≡ v) ⊎ (r ≡ v) → HasAbove tree v
    pair l r kind side = record {
      above = f.place;
      within = slice_get_within tree.nodes f.place f.node f.here;
      l = l;
      r = r;
      kind = kind;
      side = side;
      is = f.is ∙ same;
    }

    by : (kind : NodeKind) → (node_at tree.nodes f.place).kind ≡ kind → HasAbove tree v
    by (Leaf s) e = let bad : false ≡ true = rw e at has in absurd (cc)
    by (Seq l r) e = pair l r (inl e) (one_of l r v (rw e at has))
    by (Alt l r) e = pair l r (inr e) (one_of l r v (rw e at has))

module _ (c : Counts) (tree : TreeTable) (t : IsTree tree) (nodes : c.nodes ≡ length tree.nodes) where
  -- a node is a part of another one, or the root
  pub above_of : (v : ℕ) → v < length tree.nodes → HasAbove tree v ⊎ ((v ≡ tree.root) × (part_above tree v ≡ length tree.nodes))
  above_of v lt = elim (above_cases c 0 tree.nodes v) [
    | inr f ↦ inl (found_above tree v f)
    | inl h ↦
        let none = h.1 in
        let same : 0 + length tree.nodes ≡ length tree.nodes = omega arith in
        elim (cases_Bool (tree.root == v)) [
          | inl e ↦ inr (sym (eqb-true tree.root v e), h.0 ∙ same)
          | inr e ↦
              let off : ◌≡◌ {A = ℕ} (hit c v tree.root) 0 = ap {B = ℕ} (λ b. cond b 1 0) e in
              absurd (omega (arith, none, off, used c tree t v lt))
        ]
  ]

  -- ---- the parts of a node

  module _ (p l r : ℕ) (lt : p < length tree.nodes) (kind : ((node_at tree.nodes p).kind ≡ Seq l r) ⊎ ((node_at tree.nodes p).kind ≡ Alt l r)) where
    here : slice_get tree.nodes p ≡ Some (node_at tree.nodes p)
    here = slice_get-get_or tree.nodes p (plain_node (Leaf 0) false) lt

    pub left_lower : l < p
    left_lower = left_before c tree t p l r (node_at tree.nodes p) here kind

    pub right_lower : r < p
    right_lower = right_before c tree t p l r (node_at tree.nodes p) here kind

    pub both_differ : l ≡ r → ⊥
    both_differ = parts_differ c tree t p l r (node_at tree.nodes p) here kind

    pub left_in : in_net c tree.nodes l ≡ begin_net c p + 1
    left_in = left_fed c tree t p l r (node_at tree.nodes p) here kind

    pub right_in : in_net c tree.nodes r ≡ begin_net c p + 3
    right_in = right_fed c tree t p l r (node_at tree.nodes p) here kind

  -- its parent feeds it
  fed_above : (v : ℕ) (h : HasAbove tree v) → (in_net c tree.nodes v ≡ begin_net c h.above + 1) ⊎ (in_net c tree.nodes v ≡ begin_net c h.above + 3)
  fed_above v h = elim h.side [
    | inl e ↦ inl (rw (← e) (left_in h.above h.l h.r h.within h.kind))
    | inr e ↦ inr (rw (← e) (right_in h.above h.l h.r h.within h.kind))
  ]

  unique : (v p : ℕ) → v < length tree.nodes → p < length tree.nodes → (in_net c tree.nodes v ≡ begin_net c p + 1) ⊎ (in_net c tree.nodes v ≡ begin_net c p + 3)
      → part_above tree v ≡ p
  unique v p lt pl fed = elim (above_of v lt) [
    | inr h ↦
        let root : in_net c tree.nodes v ≡ start_net c + 1 = rw (h.0) (root_fed c tree t) in
        absurd (elim fed [ inl e ↦ omega (arith, root, e) | inr e ↦ omega (arith, root, e) ])
    | inl h ↦
        let within = h.within in
        let same : h.above ≡ p =
        elim fed [
          | inl e ↦ elim (fed_above v h) [ inl g ↦ omega (arith, e, g, within, pl, nodes) | inr g ↦ omega (arith, e, g, within, pl, nodes) ]
          | inr e ↦ elim (fed_above v h) [ inl g ↦ omega (arith, e, g, within, pl, nodes) | inr g ↦ omega (arith, e, g, within, pl, nodes) ]
        ] in
        h.is ∙ same
  ]

  pub root_above : part_above tree tree.root ≡ length tree.nodes
  root_above = elim (above_of tree.root t.root_in_table) [
    | inr h ↦ h.1
    | inl h ↦
        let root = root_fed c tree t in
        absurd (elim (fed_above tree.root h) [ inl e ↦ omega (arith, root, e) | inr e ↦ omega (arith, root, e) ])
  ]

  module _ (p l r : ℕ) (lt : p < length tree.nodes) (kind : ((node_at tree.nodes p).kind ≡ Seq l r) ⊎ ((node_at tree.nodes p).kind ≡ Alt l r)) where
    pub left_above : part_above tree l ≡ p
    left_above = let lower = left_lower p l r lt kind in unique l p (omega (arith, lt, lower)) lt (inl (left_in p l r lt kind))

    pub right_above : part_above tree r ≡ p
    right_above = let lower = right_lower p l r lt kind in unique r p (omega (arith, lt, lower)) lt (inr (right_in p l r lt kind))
