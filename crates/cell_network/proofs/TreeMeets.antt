-- Where the parts of a tree meet, and that meetings lead from every net to the one that drives it.
use Rattle.std.proofs.Common.{◌≡◌, ◌⊎◌, inl, inr, ℕ, zero, suc, ◌+◌, ◌*◌, ◌<◌, ◌≤◌, ◌==◌, ◌&&◌, ◌||◌, true, Option, Some, None, length, Contains, refl, ap, sym, subst, ◌∙◌, arith, lt-ltb, le-ltb, eq-eqb, eqb-true}
use Rattle.std.proofs.lemmas.Bool.{cases_lt, cases_eq, cases_Bool, and_parts, and_from, or_left, or_right, ltb-true}
use Rattle.rx_lang.specs.Tables.{Tables}
use Rattle.star_normal.specs.declared.node.NodeKind.{NodeKind}
use Rattle.star_normal.specs.declared.node.NodeKind.TheVariants.{Leaf, Seq, Alt}
use Rattle.star_normal.specs.Tables.{TreeTable, IsTree}
use Rattle.nor_net.specs.Assembly.{PartNet, part_net, IsPartNet, HasPort, NetsMeet, PartsJoin}
use Rattle.nor_net.specs.Assembly.PartsJoin.{same, back}
use Rattle.cell_network.specs.declared.numbering.Counts.{Counts}
use Rattle.cell_network.specs.Parts.{counts_of, node_at, inn_wire, bundle, kind_ports, frame_ports, part_of}
use Rattle.cell_network.specs.Assembled.{ports_meet, is_number, left_of, right_of, left_below, right_below, driver_of, part_count}
use Rattle.cell_network.proofs.PortNets.{child_net, child_inn, child_out, child_other, left_net, right_net, pair_has_left, pair_has_right, kind_has, frame_has, ByName, kind_port, frame_port}
use Rattle.cell_network.proofs.Above.{above_of, left_lower, right_lower}
use Rattle.cell_network.proofs.Drivers.{frame_nets, node_nets}
use Rattle.cell_network.proofs.NodeDrivers.{wire_driver, out_driver, frame_out_driver, frame_other_driver, feeds_left, feeds_right, feeds_root, left_out_driver, right_out_driver, pair_begins, pair_right_in}

-- what the test on ports says
record PortsMeet (tree : TreeTable) (tables : Tables) (above name below wire : ℕ) : Type 0 where
  is_wire : wire < bundle (counts_of tree tables)
  side : ((left_below tree above ≡ Some below) × (name ≡ bundle (counts_of tree tables) + wire))
      ⊎ ((right_below tree above ≡ Some below) × (name ≡ 2 * bundle (counts_of tree tables) + wire))

number_is : (o : Option ℕ) (v : ℕ) → is_number o v ≡ true → o ≡ Some v
number_is None v e = absurd (cc)
number_is (Some w) v e = ap (λ (x : ℕ). Some x) (eqb-true w v e)

is_the_number : (o : Option ℕ) (v : ℕ) → o ≡ Some v → is_number o v ≡ true
is_the_number o v e = rw e (eq-eqb v v refl)

tested : (tree : TreeTable) (tables : Tables) (above name below wire : ℕ) → ports_meet tree tables above name below wire ≡ true → PortsMeet tree tables above name below wire
tested tree tables above name below wire h =
    let outer = and_parts _ _ h in
    record { is_wire = ltb-true _ _ outer.0; side = by outer.1 }
  where
    by : ((is_number (left_below tree above) below && name == bundle (counts_of tree tables) + wire)
        || (is_number (right_below tree above) below && name == 2 * bundle (counts_of tree tables) + wire)) ≡ true
        → ((left_below tree above ≡ Some below) × (name ≡ bundle (counts_of tree tables) + wire))
        ⊎ ((right_below tree above ≡ Some below) × (name ≡ 2 * bundle (counts_of tree tables) + wire))
    by k = elim (cases_Bool (is_number (left_below tree above) below && name == bundle (counts_of tree tables) + wire)) [
      | inl f ↦ let both = and_parts _ _ f in inl (number_is _ _ both.0, eqb-true _ _ both.1)
      | inr f ↦ let both = and_parts _ _ (rw f at k) in inr (number_is _ _ both.0, eqb-true _ _ both.1)
    ]

meets_left : (tree : TreeTable) (tables : Tables) (above below wire : ℕ) → wire < bundle (counts_of tree tables) → left_below tree above ≡ Some below
    → ports_meet tree tables above (bundle (counts_of tree tables) + wire) below wire ≡ true
meets_left tree tables above below wire lt is =
    and_from _ _ (lt-ltb wire (bundle (counts_of tree tables)) lt)
    (or_left _ _ (and_from _ _ (is_the_number (left_below tree above) below is) (eq-eqb _ _ refl)))

meets_right : (tree : TreeTable) (tables : Tables) (above below wire : ℕ) → wire < bundle (counts_of tree tables) → right_below tree above ≡ Some below
    → ports_meet tree tables above (2 * bundle (counts_of tree tables) + wire) below wire ≡ true
meets_right tree tables above below wire lt is =
    and_from _ _ (lt-ltb wire (bundle (counts_of tree tables)) lt)
    (or_right _ _ (and_from _ _ (is_the_number (right_below tree above) below is) (eq-eqb _ _ refl)))

module _ (tree : TreeTable) (tables : Tables) (t : IsTree tree) where
  abbrev c : Counts
  c = counts_of tree tables

  abbrev n : ℕ
  n = length tree.nodes

  abbrev IsNet : PartNet → Type 0
  IsNet = IsPartNet (part_of tree tables) (part_count tree)

  abbrev Meet : PartNet → PartNet → Type 0
  Meet = NetsMeet (part_of tree tables) (part_count tree) (ports_meet tree tables)

  abbrev pub Join : PartNet → PartNet → Type 0
  Join = PartsJoin (part_of tree tables) (part_count tree) (ports_meet tree tables)

  -- ---- nets and ports of parts

  pub node_net : (v net : ℕ) → v < n → net < bundle c + 7 → IsNet (part_net v net)
  node_net v net lt nl = record { known = omega (arith, lt); below = rw (node_nets tree tables v lt) nl }

  pub frame_net : (net : ℕ) → net < bundle c + (2 * c.lines + c.outputs + 3) → IsNet (part_net n net)
  frame_net net nl = record { known = omega arith; below = rw (frame_nets tree tables) nl }

  node_ports : (v : ℕ) → v < n → (part_of tree tables v).ports ≡ kind_ports c (node_at tree.nodes v).kind
  node_ports v lt = rw (lt-ltb v n lt) refl

  ports_of_frame : (part_of tree tables n).ports ≡ frame_ports c
  ports_of_frame = rw (le-ltb n n (omega arith)) refl

  has_wire : (v i : ℕ) → v < n → i < bundle c → HasPort (part_of tree tables) (part_net v i) i
  has_wire v i lt il = rw (node_ports v lt) (kind_has c (node_at tree.nodes v).kind i il)

  child_below : (inn out i : ℕ) → i < bundle c → inn < bundle c + 7 → out < bundle c + 7 → child_net c inn out i < bundle c + 7
  child_below inn out i lt il ol = elim (cases_eq i (inn_wire c)) [
    | inl e ↦ rw (child_inn c inn out i e) il
    | inr ne ↦
        elim (cases_eq i (inn_wire c + 1)) [
          | inl e ↦ rw (child_out c inn out i e) ol
          | inr nf ↦ rw (child_other c inn out i ne nf) (omega (arith, lt))
        ]
  ]

  -- ---- a node and its parts

  module _ (p l r : ℕ) (lt : p < n) (kind : ((node_at tree.nodes p).kind ≡ Seq l r) ⊎ ((node_at tree.nodes p).kind ≡ Alt l r)) where
    of_pair : (P : NodeKind → Type 0) → P (Seq l r) → P (Alt l r) → P (node_at tree.nodes p).kind
    of_pair P a b = elim kind [
      | inl e ↦ rw e a
      | inr e ↦ rw e b
    ]

    pub left_known : l < n
    left_known = let lower = left_lower c tree t refl p l r lt kind in omega (arith, lt, lower)

    pub right_known : r < n
    right_known = let lower = right_lower c tree t refl p l r lt kind in omega (arith, lt, lower)

    pub left_meet : (i : ℕ) → i < bundle c → Meet (part_net p (left_net c i)) (part_net l i)
    left_meet i il =
        let is : left_below tree p ≡ Some l = rw (lt-ltb p n lt) (of_pair (λ x. left_of x ≡ Some l) refl refl) in
        record {
          first = node_net p (left_net c i) lt (child_below _ _ i il (omega arith) (omega arith));
          second = node_net l i left_known (omega (arith, il));
          first_name = bundle c + i;
          second_name = i;
          named = meets_left tree tables p l i il is;
          first_port =
              rw (node_ports p lt)
              (of_pair (λ x. Contains (kind_ports c x) (record { name = bundle c + i; net = left_net c i })) (pair_has_left c i il) (pair_has_left c i il));
          second_port = has_wire l i left_known il;
        }

    pub right_meet : (i : ℕ) → i < bundle c → Meet (part_net p (right_net c i)) (part_net r i)
    right_meet i il =
        let is : right_below tree p ≡ Some r = rw (lt-ltb p n lt) (of_pair (λ x. right_of x ≡ Some r) refl refl) in
        record {
          first = node_net p (right_net c i) lt (child_below _ _ i il (omega arith) (omega arith));
          second = node_net r i right_known (omega (arith, il));
          first_name = 2 * bundle c + i;
          second_name = i;
          named = meets_right tree tables p r i il is;
          first_port =
              rw (node_ports p lt)
              (of_pair (λ x. Contains (kind_ports c x) (record { name = 2 * bundle c + i; net = right_net c i })) (pair_has_right c i il) (pair_has_right c i il));
          second_port = has_wire r i right_known il;
        }

    -- what drives the net of a port towards the left part drives the wire there
    pub left_alike : (i : ℕ) → i < bundle c → driver_of tree tables (part_net p (left_net c i)) ≡ driver_of tree tables (part_net l i)
    left_alike i il = elim (cases_eq i (inn_wire c)) [
      | inl e ↦
          let port : left_net c i ≡ bundle c = child_inn c (bundle c) (bundle c + 1) i e in
          let first : bundle c ≡ bundle c + 0 = omega arith in
          ap (λ x. driver_of tree tables (part_net p x)) (port ∙ first) ∙ (pair_begins tree tables p l r lt kind).fixed
          ∙ sym (feeds_left tree tables p l r lt kind t left_known right_known) ∙ ap (λ x. driver_of tree tables (part_net l x)) (sym e)
      | inr ne ↦
          elim (cases_eq i (inn_wire c + 1)) [
            | inl e ↦
                rw (child_out c (bundle c) (bundle c + 1) i e, e)
                (left_out_driver tree tables p l r lt kind ∙ sym (out_driver tree tables l left_known))
            | inr nf ↦
                rw (child_other c (bundle c) (bundle c + 1) i ne nf)
                (wire_driver tree tables p i lt il ne nf ∙ sym (wire_driver tree tables l i left_known il ne nf))
          ]
    ]

    pub right_alike : (i : ℕ) → i < bundle c → driver_of tree tables (part_net p (right_net c i)) ≡ driver_of tree tables (part_net r i)
    right_alike i il = elim (cases_eq i (inn_wire c)) [
      | inl e ↦
          ap (λ x. driver_of tree tables (part_net p x)) (child_inn c (bundle c + 2) (bundle c + 3) i e) ∙ (pair_right_in tree tables p l r lt kind).fixed
          ∙ sym (feeds_right tree tables p l r lt kind t left_known right_known) ∙ ap (λ x. driver_of tree tables (part_net r x)) (sym e)
      | inr ne ↦
          elim (cases_eq i (inn_wire c + 1)) [
            | inl e ↦
                rw (child_out c (bundle c + 2) (bundle c + 3) i e, e)
                (right_out_driver tree tables p l r lt kind ∙ sym (out_driver tree tables r right_known))
            | inr nf ↦
                rw (child_other c (bundle c + 2) (bundle c + 3) i ne nf)
                (wire_driver tree tables p i lt il ne nf ∙ sym (wire_driver tree tables r i right_known il ne nf))
          ]
    ]

  -- ---- the frame and the root

  pub root_meet : (i : ℕ) → i < bundle c → Meet (part_net n i) (part_net tree.root i)
  root_meet i il =
      let is : left_below tree n ≡ Some tree.root = rw (le-ltb n n (omega arith)) refl in
      record {
        first = frame_net i (omega (arith, il));
        second = node_net tree.root i t.root_in_table (omega (arith, il));
        first_name = bundle c + i;
        second_name = i;
        named = meets_left tree tables n tree.root i il is;
        first_port = rw ports_of_frame (frame_has c i il);
        second_port = has_wire tree.root i t.root_in_table il;
      }

  root_alike : (i : ℕ) → i < bundle c → driver_of tree tables (part_net n i) ≡ driver_of tree tables (part_net tree.root i)
  root_alike i il = elim (cases_eq i (inn_wire c)) [
    | inl e ↦ rw e (frame_other_driver tree tables (inn_wire c) (λ f. omega (arith, f)) ∙ sym (feeds_root tree tables t))
    | inr ne ↦
        elim (cases_eq i (inn_wire c + 1)) [
          | inl e ↦ rw e (frame_out_driver tree tables ∙ sym (out_driver tree tables tree.root t.root_in_table))
          | inr nf ↦ frame_other_driver tree tables i nf ∙ sym (wire_driver tree tables tree.root i t.root_in_table il ne nf)
        ]
  ]

  -- ---- nets that meet have one driver

  -- the wire's net in a node is the wire
  up_net : (v i net : ℕ) → v < n → i < bundle c → HasPort (part_of tree tables) (part_net v net) i → net ≡ i
  up_net v i net lt il h = (kind_port c (node_at tree.nodes v).kind i net (rw (node_ports v lt) at h)).up i il refl

  pair_alike : (p name net v i other l r : ℕ) → p < n → ((node_at tree.nodes p).kind ≡ Seq l r) ⊎ ((node_at tree.nodes p).kind ≡ Alt l r) → i < bundle c
      → ((l ≡ v) × (name ≡ bundle c + i)) ⊎ ((r ≡ v) × (name ≡ 2 * bundle c + i))
      → HasPort (part_of tree tables) (part_net p net) name → HasPort (part_of tree tables) (part_net v other) i
      → driver_of tree tables (part_net p net) ≡ driver_of tree tables (part_net v other)
  pair_alike p name net v i other l r lt kind il side first second =
      let by : ByName c (record { name = name; net = net }) = kind_port c (node_at tree.nodes p).kind name net (rw (node_ports p lt) at first) in
      elim side [
        | inl h ↦
            let port : net ≡ left_net c i = by.left i il h.1 in
            let up : other ≡ i = up_net v i other (subst (λ x. x < n) h.0 (left_known p l r lt kind)) il second in
            rw (port, up, ← h.0) (left_alike p l r lt kind i il)
        | inr h ↦
            let port : net ≡ right_net c i = by.right i il h.1 in
            let up : other ≡ i = up_net v i other (subst (λ x. x < n) h.0 (right_known p l r lt kind)) il second in
            rw (port, up, ← h.0) (right_alike p l r lt kind i il)
      ]

  -- the sides of a node of this kind
  sides : (kind : NodeKind) (v name i : ℕ) → ((left_of kind ≡ Some v) × (name ≡ bundle c + i)) ⊎ ((right_of kind ≡ Some v) × (name ≡ 2 * bundle c + i))
      → (l : ℕ) × (r : ℕ) × ((kind ≡ Seq l r) ⊎ (kind ≡ Alt l r)) × (((l ≡ v) × (name ≡ bundle c + i)) ⊎ ((r ≡ v) × (name ≡ 2 * bundle c + i)))
  sides (Leaf s) v name i (inl h) = let bad = h.0 in absurd (cc)
  sides (Leaf s) v name i (inr h) = let bad = h.0 in absurd (cc)
  sides (Seq l r) v name i (inl h) = let e = h.0 in let f : l ≡ v = cc in (l, r, inl refl, inl (f, h.1))
  sides (Seq l r) v name i (inr h) = let e = h.0 in let f : r ≡ v = cc in (l, r, inl refl, inr (f, h.1))
  sides (Alt l r) v name i (inl h) = let e = h.0 in let f : l ≡ v = cc in (l, r, inr refl, inl (f, h.1))
  sides (Alt l r) v name i (inr h) = let e = h.0 in let f : r ≡ v = cc in (l, r, inr refl, inr (f, h.1))

  node_alike : (p name net v i other : ℕ) → p < n → PortsMeet tree tables p name v i
      → HasPort (part_of tree tables) (part_net p net) name → HasPort (part_of tree tables) (part_net v other) i
      → driver_of tree tables (part_net p net) ≡ driver_of tree tables (part_net v other)
  node_alike p name net v i other lt meet first second =
      let s = sides (node_at tree.nodes p).kind v name i (rw (lt-ltb p n lt) at meet.side) in
      pair_alike p name net v i other s.0 s.1 lt s.2 meet.is_wire s.3 first second

  frame_alike : (p name net v i other : ℕ) → p ≡ n → PortsMeet tree tables p name v i
      → HasPort (part_of tree tables) (part_net p net) name → HasPort (part_of tree tables) (part_net v other) i
      → driver_of tree tables (part_net p net) ≡ driver_of tree tables (part_net v other)
  frame_alike p name net v i other e meet first second =
      elim meet.side [
        | inl h ↦
            let some : Some tree.root ≡ Some v = rw (e, le-ltb n n (omega arith)) at h.0 in
            let root : tree.root ≡ v = cc in
            let port : net ≡ i = frame_port c name net (rw (e, ports_of_frame) at first) i meet.is_wire h.1 in
            let up : other ≡ i = up_net v i other (subst (λ x. x < n) root t.root_in_table) meet.is_wire second in
            rw (e, port, up, ← root) (root_alike i meet.is_wire)
        | inr h ↦ let bad = rw (e, le-ltb n n (omega arith)) at h.0 in absurd (cc)
      ]

  pub meets_alike : (a b : PartNet) → Meet a b → driver_of tree tables a ≡ driver_of tree tables b
  meets_alike a b m =
      let named = tested tree tables a.which m.first_name b.which m.second_name m.named in
      elim (cases_lt a.which n) [
        | inl lt ↦ node_alike a.which m.first_name a.net b.which m.second_name b.net lt named m.first_port m.second_port
        | inr ge ↦
            let known = m.first.known in
            frame_alike a.which m.first_name a.net b.which m.second_name b.net (omega (arith, ge, known)) named m.first_port m.second_port
      ]

  -- ---- up to the frame

  pub wires_lead : (fuel v i : ℕ) → n ≤ v + fuel → v < n → i < bundle c → (i ≡ inn_wire c → ⊥) → (i ≡ inn_wire c + 1 → ⊥)
      → Join (part_net v i) (part_net n i)
  wires_lead zero v i few lt il ne nf = absurd (omega (arith, few, lt))
  wires_lead (suc fuel) v i few lt il ne nf = elim (above_of c tree t refl v lt) [
    | inr h ↦ back (part_net v i) (part_net n i) (part_net n i) (rw (h.0) (root_meet i il)) (same (part_net n i))
    | inl h ↦
        elim h.side [
          | inl e ↦
              let lower = left_lower c tree t refl h.above h.l h.r h.within h.kind in
              let meet : Meet (part_net h.above i) (part_net v i) =
              rw (child_other c _ _ i ne nf, e) at (left_meet h.above h.l h.r h.within h.kind i il) in
              back (part_net v i) (part_net h.above i) (part_net n i) meet
              (wires_lead fuel h.above i (omega (arith, few, lower, e)) h.within il ne nf)
          | inr e ↦
              let lower = right_lower c tree t refl h.above h.l h.r h.within h.kind in
              let meet : Meet (part_net h.above i) (part_net v i) =
              rw (child_other c _ _ i ne nf, e) at (right_meet h.above h.l h.r h.within h.kind i il) in
              back (part_net v i) (part_net h.above i) (part_net n i) meet
              (wires_lead fuel h.above i (omega (arith, few, lower, e)) h.within il ne nf)
        ]
  ]
