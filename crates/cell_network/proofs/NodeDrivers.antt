-- The nets of nodes that stand for nets of the whole, and what drives the others.
use Rattle.std.proofs.Common.{◌≡◌, ◌⊎◌, inl, inr, ℕ, ◌+◌, ◌*◌, ◌<◌, List, ◌∷◌, length, slice_index_or, refl, ap, sym, ◌∙◌, arith, eq-eqb, lt-ltb, le-ltb}
use Rattle.std.proofs.lemmas.Bool.{ne_eqb}
use Rattle.rx_lang.specs.Tables.{Tables}
use Rattle.star_normal.specs.declared.node.NodeKind.{NodeKind}
use Rattle.star_normal.specs.declared.node.NodeKind.TheVariants.{Leaf, Seq, Alt}
use Rattle.star_normal.specs.Tables.{TreeTable, IsTree}
use Rattle.nor_net.specs.Assembly.{part_net}
use Rattle.cell_network.specs.declared.numbering.Counts.{Counts}
use Rattle.cell_network.specs.declared.numbering.Numbering.{Numbering}
use Rattle.cell_network.specs.Parts.{counts_of, node_at, inn_wire, bundle}
use Rattle.cell_network.specs.Home.{shared_net, end_net, begin_net, master_net, in_net, home_of_kind, home}
use Rattle.cell_network.specs.Assembled.{kind_homes, part_home, feeding_net, feeder, own_driver, driver_of}
use Rattle.cell_network.proofs.HomeReads.{read_symbol, read_shared, read_fixed, read_inn, read_own}
use Rattle.cell_network.proofs.Meetings.{Wires, wires_of}
use Rattle.cell_network.proofs.Above.{left_above, right_above, root_above, both_differ}
use Rattle.cell_network.proofs.Drivers.{IsSlot, slots, IsDriver, node_nets, node_reads, node_drives, frame_drives}
use Rattle.cell_network.proofs.Drivers.Classified.{in_node}

module _ (tree : TreeTable) (tables : Tables) where
  abbrev c : Counts
  c = counts_of tree tables

  abbrev kind_at : ℕ → NodeKind
  kind_at v = (node_at tree.nodes v).kind

  abbrev of_node : ℕ → Numbering
  of_node v = home c tree.nodes v (node_at tree.nodes v)

  pub wires : (v : ℕ) → Wires c v (in_net c tree.nodes v) (of_node v)
  wires v = wires_of c v (in_net c tree.nodes v) (kind_at v)

  -- ---- nets of the whole

  abbrev own : ℕ → List ℕ
  own v = kind_homes (of_node v) (kind_at v)

  pub symbol_home : (v s : ℕ) → v < length tree.nodes → s < c.symbols → part_home tree tables (part_net v s) ≡ 5 + 2 * c.lines + s
  symbol_home v s lt sl = node_reads tree tables v s lt ∙ read_symbol c (of_node v) (own v) s sl ∙ ap (λ n. n + s) (wires v).symbols

  pub shared_home : (v y : ℕ) → v < length tree.nodes → y < c.outputs → part_home tree tables (part_net v (c.symbols + y)) ≡ shared_net c + y
  shared_home v y lt yl = node_reads tree tables v (c.symbols + y) lt ∙ read_shared c (of_node v) (own v) y yl ∙ ap (λ n. n + y) (wires v).shared

  pub fixed_home : (v k h : ℕ) → v < length tree.nodes → slice_index_or ((of_node v).inn ∷ (of_node v).out ∷ (of_node v).reset ∷ 2 ∷ 3 ∷ (of_node v).vdd ∷ 1 ∷ own v) k 0 ≡ h
      → part_home tree tables (part_net v (inn_wire c + k)) ≡ h
  fixed_home v k h lt e = node_reads tree tables v (inn_wire c + k) lt ∙ read_fixed c (of_node v) (own v) k ∙ e

  pub inn_home : (v : ℕ) → v < length tree.nodes → part_home tree tables (part_net v (inn_wire c)) ≡ in_net c tree.nodes v
  inn_home v lt = node_reads tree tables v (inn_wire c) lt ∙ read_inn c (of_node v) (own v) ∙ (wires v).begins

  pub own_home : (v k h : ℕ) → v < length tree.nodes → slice_index_or (own v) k 0 ≡ h → part_home tree tables (part_net v (bundle c + k)) ≡ h
  own_home v k h lt e = node_reads tree tables v (bundle c + k) lt ∙ read_own c (of_node v) (own v) k ∙ e

  -- ---- what drives

  pub wire_driver : (v net : ℕ) → v < length tree.nodes → net < bundle c → (net ≡ inn_wire c → ⊥) → (net ≡ inn_wire c + 1 → ⊥)
      → driver_of tree tables (part_net v net) ≡ part_net (length tree.nodes) net
  wire_driver v net lt nl ne nf =
      node_drives tree tables v net lt ∙ rw (ne_eqb net (inn_wire c) ne, ne_eqb net (inn_wire c + 1) nf, lt-ltb net (bundle c) nl) refl

  pub inn_driver : (v : ℕ) → v < length tree.nodes → driver_of tree tables (part_net v (inn_wire c)) ≡ feeder c tree v
  inn_driver v lt = node_drives tree tables v (inn_wire c) lt ∙ rw (eq-eqb (inn_wire c) (inn_wire c) refl) refl

  pub out_driver : (v : ℕ) → v < length tree.nodes → driver_of tree tables (part_net v (inn_wire c + 1)) ≡ part_net v (inn_wire c + 1)
  out_driver v lt =
      node_drives tree tables v (inn_wire c + 1) lt
      ∙ rw (ne_eqb (inn_wire c + 1) (inn_wire c) (λ e. omega (arith, e)), eq-eqb (inn_wire c + 1) (inn_wire c + 1) refl) refl

  pub own_driven : (v k : ℕ) → v < length tree.nodes → driver_of tree tables (part_net v (bundle c + k)) ≡ own_driver c v (kind_at v) (bundle c + k)
  own_driven v k lt =
      node_drives tree tables v (bundle c + k) lt
      ∙ rw (
        ne_eqb (bundle c + k) (inn_wire c) (λ e. omega (arith, e)),
        ne_eqb (bundle c + k) (inn_wire c + 1) (λ e. omega (arith, e)),
        le-ltb (bundle c + k) (bundle c) (omega arith),
      ) refl

  pub frame_out_driver : driver_of tree tables (part_net (length tree.nodes) (inn_wire c + 1)) ≡ part_net tree.root (inn_wire c + 1)
  frame_out_driver = frame_drives tree tables (inn_wire c + 1) ∙ rw (eq-eqb (inn_wire c + 1) (inn_wire c + 1) refl) refl

  pub frame_other_driver : (net : ℕ) → (net ≡ inn_wire c + 1 → ⊥) → driver_of tree tables (part_net (length tree.nodes) net) ≡ part_net (length tree.nodes) net
  frame_other_driver net ne = frame_drives tree tables net ∙ rw (ne_eqb net (inn_wire c + 1) ne) refl

  -- ---- nets that stand for themselves

  node_net : (v net h k : ℕ) → v < length tree.nodes → net < bundle c + 7 → part_home tree tables (part_net v net) ≡ h
      → driver_of tree tables (part_net v net) ≡ part_net v net → IsSlot c v h k → slice_index_or (slots c (kind_at v)) k 0 ≡ net
      → IsDriver tree tables (part_net v net) h
  node_net v net h k lt nl reads drives s is = record {
    known = record { known = omega (arith, lt); below = rw (node_nets tree tables v lt) nl };
    home = reads;
    fixed = drives;
    class = in_node v k lt s (ap (part_net v) (sym is));
  }

  pub node_out : (v : ℕ) → v < length tree.nodes → IsDriver tree tables (part_net v (inn_wire c + 1)) (end_net c v + 1)
  node_out v lt =
      node_net v (inn_wire c + 1) (end_net c v + 1) 1 lt (omega arith) (fixed_home v 1 (end_net c v + 1) lt (wires v).ends) (out_driver v lt)
      (inl (omega arith, refl)) (by (kind_at v))
    where
      by : (kind : NodeKind) → slice_index_or (slots c kind) 1 0 ≡ inn_wire c + 1
      by (Leaf s) = refl
      by (Seq l r) = refl
      by (Alt l r) = refl

  node_own : (v k j h : ℕ) → v < length tree.nodes → k < 7 → slice_index_or (own v) k 0 ≡ h
      → own_driver c v (kind_at v) (bundle c + k) ≡ part_net v (bundle c + k) → IsSlot c v h j → slice_index_or (slots c (kind_at v)) j 0 ≡ bundle c + k
      → IsDriver tree tables (part_net v (bundle c + k)) h
  node_own v k j h lt kl reads drives s is =
      node_net v (bundle c + k) h j lt (omega (arith, kl)) (own_home v k h lt reads) (own_driven v k lt ∙ drives) s is

  module _ (v s : ℕ) (lt : v < length tree.nodes) (e : (node_at tree.nodes v).kind ≡ Leaf s) where
    pub leaf_not_begins : IsDriver tree tables (part_net v (bundle c + 0)) (begin_net c v)
    leaf_not_begins = node_own v 0 2 (begin_net c v) lt (omega arith) (rw e refl) (rw e refl) (inr (inl (omega arith, omega arith, refl))) (rw e refl)

    pub leaf_begins : IsDriver tree tables (part_net v (bundle c + 1)) (begin_net c v + 1)
    leaf_begins = node_own v 1 3 (begin_net c v + 1) lt (omega arith) (rw e refl) (rw e refl) (inr (inl (omega arith, omega arith, omega arith))) (rw e refl)

    pub leaf_not_symbol : IsDriver tree tables (part_net v (bundle c + 2)) (begin_net c v + 2)
    leaf_not_symbol = node_own v 2 4 (begin_net c v + 2) lt (omega arith) (rw e refl) (rw e refl) (inr (inl (omega arith, omega arith, omega arith))) (rw e refl)

    pub leaf_source : IsDriver tree tables (part_net v (bundle c + 3)) (begin_net c v + 3)
    leaf_source = node_own v 3 5 (begin_net c v + 3) lt (omega arith) (rw e refl) (rw e refl) (inr (inl (omega arith, omega arith, omega arith))) (rw e refl)

    pub leaf_master : IsDriver tree tables (part_net v (bundle c + 4)) (master_net c + 2 + 2 * v)
    leaf_master = node_own v 4 6 (master_net c + 2 + 2 * v) lt (omega arith) (rw e refl) (rw e refl) (inr (inr (omega arith, omega arith, omega arith))) (rw e refl)

    pub leaf_inverse : IsDriver tree tables (part_net v (bundle c + 5)) (master_net c + 3 + 2 * v)
    leaf_inverse = node_own v 5 7 (master_net c + 3 + 2 * v) lt (omega arith) (rw e refl) (rw e refl) (inr (inr (omega arith, omega arith, omega arith))) (rw e refl)

    pub leaf_stored : IsDriver tree tables (part_net v (bundle c + 6)) (end_net c v)
    leaf_stored = node_own v 6 0 (end_net c v) lt (omega arith) (rw e refl) (rw e refl) (inl (omega arith, omega arith)) (rw e refl)

  module _ (v l r : ℕ) (lt : v < length tree.nodes) (kind : ((node_at tree.nodes v).kind ≡ Seq l r) ⊎ ((node_at tree.nodes v).kind ≡ Alt l r)) where
    -- what holds of both kinds holds of this one
    of_pair : (P : NodeKind → Type 0) → P (Seq l r) → P (Alt l r) → P (kind_at v)
    of_pair P a b = elim kind [
      | inl e ↦ rw e a
      | inr e ↦ rw e b
    ]

    -- a net of the part's own other than OUT of a part
    pair_own : (k j h : ℕ) → k < 7 → slice_index_or (kind_homes (home_of_kind c v (in_net c tree.nodes v) (Seq l r)) (Seq l r)) k 0 ≡ h
        → own_driver c v (Seq l r) (bundle c + k) ≡ part_net v (bundle c + k) → IsSlot c v h j → slice_index_or (slots c (Seq l r)) j 0 ≡ bundle c + k
        → IsDriver tree tables (part_net v (bundle c + k)) h
    pair_own k j h kl reads drives s is =
        node_own v k j h lt kl (of_pair (λ x. slice_index_or (kind_homes (home_of_kind c v (in_net c tree.nodes v) x) x) k 0 ≡ h) reads reads)
        (of_pair (λ x. own_driver c v x (bundle c + k) ≡ part_net v (bundle c + k)) drives drives) s
        (of_pair (λ x. slice_index_or (slots c x) j 0 ≡ bundle c + k) is is)

    self : (k : ℕ) → (k ≡ 1 → ⊥) → (k ≡ 3 → ⊥) → own_driver c v (Seq l r) (bundle c + k) ≡ part_net v (bundle c + k)
    self k ne nf = rw (ne_eqb (bundle c + k) (bundle c + 1) (λ e. ne (omega (arith, e))), ne_eqb (bundle c + k) (bundle c + 3) (λ e. nf (omega (arith, e)))) refl

    pub pair_begins : IsDriver tree tables (part_net v (bundle c + 0)) (begin_net c v + 1)
    pair_begins =
        pair_own 0 3 (begin_net c v + 1) (omega arith) refl (self 0 (λ e. omega (arith, e)) (λ e. omega (arith, e))) (inr (inl (omega arith, omega arith, omega arith))) refl

    pub pair_right_in : IsDriver tree tables (part_net v (bundle c + 2)) (begin_net c v + 3)
    pair_right_in =
        pair_own 2 5 (begin_net c v + 3) (omega arith) refl (self 2 (λ e. omega (arith, e)) (λ e. omega (arith, e))) (inr (inl (omega arith, omega arith, omega arith))) refl

    pub pair_not_begins : IsDriver tree tables (part_net v (bundle c + 4)) (begin_net c v)
    pair_not_begins =
        pair_own 4 2 (begin_net c v) (omega arith) refl (self 4 (λ e. omega (arith, e)) (λ e. omega (arith, e))) (inr (inl (omega arith, omega arith, refl))) refl

    pub pair_not_right : IsDriver tree tables (part_net v (bundle c + 5)) (begin_net c v + 2)
    pair_not_right =
        pair_own 5 4 (begin_net c v + 2) (omega arith) refl (self 5 (λ e. omega (arith, e)) (λ e. omega (arith, e))) (inr (inl (omega arith, omega arith, omega arith))) refl

    pub pair_not_out : IsDriver tree tables (part_net v (bundle c + 6)) (end_net c v)
    pair_not_out = pair_own 6 0 (end_net c v) (omega arith) refl (self 6 (λ e. omega (arith, e)) (λ e. omega (arith, e))) (inl (omega arith, omega arith)) refl

    pub left_out_home : part_home tree tables (part_net v (bundle c + 1)) ≡ end_net c l + 1
    left_out_home = own_home v 1 (end_net c l + 1) lt (of_pair (λ x. slice_index_or (kind_homes (home_of_kind c v (in_net c tree.nodes v) x) x) 1 0 ≡ end_net c l + 1) refl refl)

    pub right_out_home : part_home tree tables (part_net v (bundle c + 3)) ≡ end_net c r + 1
    right_out_home = own_home v 3 (end_net c r + 1) lt (of_pair (λ x. slice_index_or (kind_homes (home_of_kind c v (in_net c tree.nodes v) x) x) 3 0 ≡ end_net c r + 1) refl refl)

    pub left_out_driver : driver_of tree tables (part_net v (bundle c + 1)) ≡ part_net l (inn_wire c + 1)
    left_out_driver =
        let is : own_driver c v (Seq l r) (bundle c + 1) ≡ part_net l (inn_wire c + 1) = rw (eq-eqb (bundle c + 1) (bundle c + 1) refl) refl in
        own_driven v 1 lt ∙ of_pair (λ x. own_driver c v x (bundle c + 1) ≡ part_net l (inn_wire c + 1)) is is

    pub right_out_driver : driver_of tree tables (part_net v (bundle c + 3)) ≡ part_net r (inn_wire c + 1)
    right_out_driver =
        let is : own_driver c v (Seq l r) (bundle c + 3) ≡ part_net r (inn_wire c + 1) =
        rw (ne_eqb (bundle c + 3) (bundle c + 1) (λ e. omega (arith, e)), eq-eqb (bundle c + 3) (bundle c + 3) refl) refl in
        own_driven v 3 lt ∙ of_pair (λ x. own_driver c v x (bundle c + 3) ≡ part_net r (inn_wire c + 1)) is is

    -- ---- what feeds its parts

    module _ (t : IsTree tree) (ll : l < length tree.nodes) (rl : r < length tree.nodes) where
      pub feeds_left : driver_of tree tables (part_net l (inn_wire c)) ≡ part_net v (bundle c + 0)
      feeds_left =
          let e : bundle c ≡ bundle c + 0 = omega arith in
          let is : feeding_net c (Seq l r) l ≡ bundle c + 0 = rw (ne_eqb r l (λ f. both_differ c tree t refl v l r lt kind (sym f))) e in
          inn_driver l ll ∙ rw (left_above c tree t refl v l r lt kind, lt-ltb v (length tree.nodes) lt)
          (ap (part_net v) (of_pair (λ x. feeding_net c x l ≡ bundle c + 0) is is))

      pub feeds_right : driver_of tree tables (part_net r (inn_wire c)) ≡ part_net v (bundle c + 2)
      feeds_right =
          let is : feeding_net c (Seq l r) r ≡ bundle c + 2 = rw (eq-eqb r r refl) refl in
          inn_driver r rl ∙ rw (right_above c tree t refl v l r lt kind, lt-ltb v (length tree.nodes) lt)
          (ap (part_net v) (of_pair (λ x. feeding_net c x r ≡ bundle c + 2) is is))

  pub feeds_root : IsTree tree → driver_of tree tables (part_net tree.root (inn_wire c)) ≡ part_net (length tree.nodes) (inn_wire c)
  feeds_root t =
      inn_driver tree.root t.root_in_table
      ∙ rw (root_above c tree t refl, le-ltb (length tree.nodes) (length tree.nodes) (omega arith)) refl
