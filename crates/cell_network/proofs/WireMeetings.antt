-- Which nets of two parts meet.
use Rattle.std.proofs.Common.{◌≡◌, ◌⊎◌, inl, inr, ℕ, ◌+◌, ◌*◌, ◌<◌, ◌≤◌, ◌==◌, ◌&&◌, ◌||◌, Bool, true, false, if◌then◌else◌, nat_lt, Option, Some, None, length, refl, ap, sym, subst, ◌∙◌, arith, lt-ltb, le-ltb, eqb-true}
use Rattle.std.proofs.lemmas.Bool.{cases_lt, cases_Bool, and_parts, ltb-true}
use Rattle.rx_lang.specs.Tables.{Tables}
use Rattle.star_normal.specs.declared.node.NodeKind.{NodeKind}
use Rattle.star_normal.specs.declared.node.NodeKind.TheVariants.{Leaf, Seq, Alt}
use Rattle.star_normal.specs.Tables.{TreeTable, IsTree}
use Rattle.nor_net.specs.Assembly.{PartNet, part_net, HasPort, NetsMeet}
use Rattle.cell_network.specs.declared.numbering.Counts.{Counts}
use Rattle.cell_network.specs.Parts.{counts_of, node_at, bundle, part_of}
use Rattle.cell_network.specs.Assembled.{ports_meet, is_number, left_of, right_of, left_below, right_below, part_count}
use Rattle.cell_network.specs.WireMeetings.{left_wire, right_wire, wire_above, IsWireBelow, WiresMeet}
use Rattle.cell_network.proofs.PortNets.{kind_port, frame_port}
use Rattle.cell_network.proofs.TreeMeets.{left_known, right_known, left_meet, right_meet, root_meet}

number_is : (o : Option ℕ) (v : ℕ) → is_number o v ≡ true → o ≡ Some v
number_is None v e = absurd (cc)
number_is (Some w) v e = ap (λ (x : ℕ). Some x) (eqb-true w v e)

-- the parts of a node of this kind
record HasParts (kind : NodeKind) : Type 0 where
  l : ℕ
  r : ℕ
  is : (kind ≡ Seq l r) ⊎ (kind ≡ Alt l r)

record HasLeft (kind : NodeKind) (v : ℕ) : Type 0 where
  parts : HasParts kind
  left : parts.l ≡ v

record HasRight (kind : NodeKind) (v : ℕ) : Type 0 where
  parts : HasParts kind
  right : parts.r ≡ v

has_left : (kind : NodeKind) (v : ℕ) → left_of kind ≡ Some v → HasLeft kind v
has_left (Leaf s) v e = absurd (cc)
has_left (Seq l r) v e = record { parts = record { l = l; r = r; is = inl refl }; left = cc }
has_left (Alt l r) v e = record { parts = record { l = l; r = r; is = inr refl }; left = cc }

has_right : (kind : NodeKind) (v : ℕ) → right_of kind ≡ Some v → HasRight kind v
has_right (Leaf s) v e = absurd (cc)
has_right (Seq l r) v e = record { parts = record { l = l; r = r; is = inl refl }; right = cc }
has_right (Alt l r) v e = record { parts = record { l = l; r = r; is = inr refl }; right = cc }

module _ (tree : TreeTable) (tables : Tables) (t : IsTree tree) where
  abbrev c : Counts
  c = counts_of tree tables

  abbrev n : ℕ
  n = length tree.nodes

  abbrev Meet : PartNet → PartNet → Type 0
  Meet = NetsMeet (part_of tree tables) (part_count tree) (ports_meet tree tables)

  -- ---- wires meet

  moved : (a b : PartNet) (net v : ℕ) → a.net ≡ net → v ≡ b.which → Meet (part_net a.which net) (part_net v b.net) → Meet a b
  moved a b net v e f h =
      subst (λ x. Meet (part_net a.which x) b) (sym e) (subst (λ x. Meet (part_net a.which net) (part_net x b.net)) f h)

  wires_of_node : (a b : PartNet) → a.which < n → IsWireBelow tree tables a b → Meet a b
  wires_of_node a b lt h = elim h.side as (λ _. Meet a b) [
    | inl k ↦
        let left = has_left (node_at tree.nodes a.which).kind b.which (rw (lt-ltb a.which n lt) at k.0) in
        let p = left.parts in
        moved a b (left_wire c b.net) p.l (rw (lt-ltb a.which n lt) at k.1) left.left (left_meet tree tables t a.which p.l p.r lt p.is b.net h.wire)
    | inr k ↦
        let right = has_right (node_at tree.nodes a.which).kind b.which (rw (lt-ltb a.which n lt) at k.0) in
        let p = right.parts in
        moved a b (right_wire c b.net) p.r (rw (lt-ltb a.which n lt) at k.1) right.right
        (right_meet tree tables t a.which p.l p.r lt p.is b.net h.wire)
  ]

  wires_of_frame : (a b : PartNet) → a.which ≡ n → IsWireBelow tree tables a b → Meet a b
  wires_of_frame a b e h = elim h.side as (λ _. Meet a b) [
    | inl k ↦
        let root : Some tree.root ≡ Some b.which = rw (e, le-ltb n n (omega arith)) at k.0 in
        let same : tree.root ≡ b.which = cc in
        let net : a.net ≡ b.net = rw (e, le-ltb n n (omega arith)) at k.1 in
        moved a b b.net tree.root net same (subst (λ v. Meet (part_net v b.net) (part_net tree.root b.net)) (sym e)
        (root_meet tree tables t b.net h.wire))
    | inr k ↦ let none : ◌≡◌ {A = Option ℕ} None (Some b.which) = rw (e, le-ltb n n (omega arith)) at k.0 in absurd (cc)
  ]

  -- ---- no others meet

  record Named (above name below wire : ℕ) : Type 0 where
    is_wire : wire < bundle c
    side : ((left_below tree above ≡ Some below) × (name ≡ bundle c + wire)) ⊎ ((right_below tree above ≡ Some below) × (name ≡ 2 * bundle c + wire))

  named : (above name below wire : ℕ) → ports_meet tree tables above name below wire ≡ true → Named above name below wire
  named above name below wire h =
      let outer = and_parts _ _ h in
      record { is_wire = ltb-true _ _ outer.0; side = by outer.1 }
    where
      by : ((is_number (left_below tree above) below && name == bundle (counts_of tree tables) + wire)
          || (is_number (right_below tree above) below && name == 2 * bundle (counts_of tree tables) + wire)) ≡ true
          → ((left_below tree above ≡ Some below) × (name ≡ bundle (counts_of tree tables) + wire))
          ⊎ ((right_below tree above ≡ Some below) × (name ≡ 2 * bundle (counts_of tree tables) + wire))
      by k = elim (cases_Bool (is_number (left_below tree above) below && name == bundle (counts_of tree tables) + wire)) [
        | inl f ↦ let both = and_parts _ _ f in inl (number_is _ _ both.0, eqb-true _ _ both.1)
        | inr f ↦ let both = and_parts _ _ (rw f at k) in inr (number_is _ _ both.0, eqb-true _ _ both.1)
      ]

  up_net : (b : PartNet) (i : ℕ) → b.which < n → i < bundle c → HasPort (part_of tree tables) b i → b.net ≡ i
  up_net b i lt il h = (kind_port c (node_at tree.nodes b.which).kind i b.net (rw (lt-ltb b.which n lt) at h)).up i il refl

  met : (a b : PartNet) (i : ℕ) (left : Bool) → i < bundle c → a.which ≤ n → b.net ≡ i
      → (if left then left_below tree a.which else right_below tree a.which) ≡ Some b.which → a.net ≡ wire_above tree tables left a.which i
      → IsWireBelow tree tables a b
  met a b i true il low up is net =
      record { known = low; wire = omega arith; side = inl (is, net ∙ ap (wire_above tree tables true a.which) (sym up)) }
  met a b i false il low up is net =
      record { known = low; wire = omega arith; side = inr (is, net ∙ ap (wire_above tree tables false a.which) (sym up)) }

  met_of_node : (a b : PartNet) → a.which < n → Meet a b → IsWireBelow tree tables a b
  met_of_node a b lt m =
      let k = named a.which m.first_name b.which m.second_name m.named in
      let on = lt-ltb a.which n lt in
      let by = kind_port c (node_at tree.nodes a.which).kind m.first_name a.net (rw on at m.first_port) in
      elim k.side as (λ _. IsWireBelow tree tables a b) [
        | inl s ↦
            let left = has_left (node_at tree.nodes a.which).kind b.which (rw on at s.0) in
            let p = left.parts in
            let below : b.which < n = subst (λ x. x < n) left.left (left_known tree tables t a.which p.l p.r lt p.is) in
            met a b m.second_name true k.is_wire (omega (arith, lt)) (up_net b m.second_name below k.is_wire m.second_port) s.0
            (by.left m.second_name k.is_wire s.1 ∙ rw on refl)
        | inr s ↦
            let right = has_right (node_at tree.nodes a.which).kind b.which (rw on at s.0) in
            let p = right.parts in
            let below : b.which < n = subst (λ x. x < n) right.right (right_known tree tables t a.which p.l p.r lt p.is) in
            met a b m.second_name false k.is_wire (omega (arith, lt)) (up_net b m.second_name below k.is_wire m.second_port) s.0
            (by.right m.second_name k.is_wire s.1 ∙ rw on refl)
      ]

  met_of_frame : (a b : PartNet) → a.which ≡ n → Meet a b → IsWireBelow tree tables a b
  met_of_frame a b e m =
      let k = named a.which m.first_name b.which m.second_name m.named in
      let off : nat_lt a.which n ≡ false = rw e (le-ltb n n (omega arith)) in
      elim k.side as (λ _. IsWireBelow tree tables a b) [
        | inl s ↦
            let root : Some tree.root ≡ Some b.which = rw off at s.0 in
            let same : tree.root ≡ b.which = cc in
            let below : b.which < n = subst (λ x. x < n) same t.root_in_table in
            let net : a.net ≡ m.second_name = frame_port c m.first_name a.net (rw off at m.first_port) m.second_name k.is_wire s.1 in
            met a b m.second_name true k.is_wire (omega (arith, e)) (up_net b m.second_name below k.is_wire m.second_port) s.0 (net ∙ rw off refl)
        | inr s ↦ let none : ◌≡◌ {A = Option ℕ} None (Some b.which) = rw off at s.0 in absurd (cc)
      ]

pub wires_meet : WiresMeet
wires_meet tree tables a b t spec symbols = (to, from)
  where
    to : NetsMeet (part_of tree tables) (part_count tree) (ports_meet tree tables) a b → IsWireBelow tree tables a b
    to m = elim (cases_lt a.which (length tree.nodes)) as (λ _. IsWireBelow tree tables a b) [
      | inl lt ↦ met_of_node tree tables t a b lt m
      | inr ge ↦ let known = m.first.known in met_of_frame tree tables t a b (omega (arith, ge, known)) m
    ]

    from : IsWireBelow tree tables a b → NetsMeet (part_of tree tables) (part_count tree) (ports_meet tree tables) a b
    from h = elim (cases_lt a.which (length tree.nodes)) as (λ _. NetsMeet (part_of tree tables) (part_count tree) (ports_meet tree tables) a b) [
      | inl lt ↦ wires_of_node tree tables t a b lt h
      | inr ge ↦ let known = h.known in wires_of_frame tree tables t a b (omega (arith, ge, known)) h
    ]
