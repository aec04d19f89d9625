-- Each net of a part has a net that stands for it in the whole, to which meetings lead.
use Rattle.std.proofs.Common.{◌≡◌, ◌⊎◌, inl, inr, ℕ, ◌+◌, ◌-◌, ◌*◌, ◌<◌, ◌≤◌, length, refl, ◌∙◌, arith}
use Rattle.std.proofs.lemmas.Bool.{cases_lt}
use Rattle.rx_lang.specs.Tables.{Tables}
use Rattle.star_normal.specs.declared.node.NodeKind.{NodeKind}
use Rattle.star_normal.specs.declared.node.NodeKind.TheVariants.{Leaf, Seq, Alt}
use Rattle.star_normal.specs.Tables.{TreeTable, IsTree}
use Rattle.nor_net.specs.Assembly.{PartNet, part_net, IsPartNet, PartsJoin}
use Rattle.nor_net.specs.Assembly.PartsJoin.{same, on, back}
use Rattle.cell_network.specs.declared.numbering.Counts.{Counts}
use Rattle.cell_network.specs.Parts.{counts_of, node_at, inn_wire, bundle, part_of}
use Rattle.cell_network.specs.Home.{start_net, end_net, begin_net, shared_net, master_net, frame_home}
use Rattle.cell_network.specs.Assembled.{ports_meet, frame_homes, part_home, driver_of, part_count}
use Rattle.cell_network.proofs.HomeReads.{WireCase, wire_case, below_seven, read_fixed}
use Rattle.cell_network.proofs.HomeReads.WireCase.{symbol_wire, shared_wire, fixed_wire}
use Rattle.cell_network.proofs.PortNets.{child_inn, child_out}
use Rattle.cell_network.proofs.Meetings.{wires_of}
use Rattle.cell_network.proofs.Above.{above_of, left_in, right_in}
use Rattle.cell_network.proofs.Feeding.{root_fed}
use Rattle.cell_network.proofs.Drivers as drivers
use Rattle.cell_network.proofs.NodeDrivers as nodes
use Rattle.cell_network.proofs.TreeMeets as meets

module _ (tree : TreeTable) (tables : Tables) (t : IsTree tree) where
  abbrev c : Counts
  c = counts_of tree tables

  abbrev n : ℕ
  n = length tree.nodes

  abbrev IsDriver : PartNet → ℕ → Type 0
  IsDriver = drivers.IsDriver tree tables

  abbrev Join : PartNet → PartNet → Type 0
  Join = PartsJoin (part_of tree tables) (part_count tree) (ports_meet tree tables)

  -- what drives the net
  record Drives (a : PartNet) : Type 0 where
    by : PartNet
    driver : driver_of tree tables a ≡ by
    is : IsDriver by (part_home tree tables a)
    joins : Join a by

  driven_by : (a d : PartNet) (h : ℕ) → driver_of tree tables a ≡ d → part_home tree tables a ≡ h → IsDriver d h → Join a d → Drives a
  driven_by a d h driver home is joins = record { by = d; driver = driver; is = rw home is; joins = joins }

  itself : (a : PartNet) (h : ℕ) → IsDriver a h → Drives a
  itself a h is = driven_by a a h is.fixed is.home is (same a)

  -- ---- wires of nodes

  module _ (v : ℕ) (lt : v < n) where
    to_frame : (i h : ℕ) → i < bundle c → (i ≡ inn_wire c → ⊥) → (i ≡ inn_wire c + 1 → ⊥) → part_home tree tables (part_net v i) ≡ h
        → IsDriver (part_net n i) h → Drives (part_net v i)
    to_frame i h il ne nf home is =
        driven_by (part_net v i) (part_net n i) h (nodes.wire_driver tree tables v i lt il ne nf) home is
        (meets.wires_lead tree tables t n v i (omega arith) lt il ne nf)

    fed : Drives (part_net v (inn_wire c))
    fed = elim (above_of c tree t refl v lt) [
      | inr h ↦
          rw (h.0)
          (driven_by (part_net tree.root (inn_wire c)) (part_net n (inn_wire c)) (start_net c + 1) (nodes.feeds_root tree tables t)
          (nodes.inn_home tree tables tree.root t.root_in_table ∙ root_fed c tree t) (drivers.frame_inn tree tables)
          (back _ _ _ (meets.root_meet tree tables t (inn_wire c) (omega arith)) (same _)))
      | inl h ↦
          let ll : h.l < n = meets.left_known tree tables t h.above h.l h.r h.within h.kind in
          let rl : h.r < n = meets.right_known tree tables t h.above h.l h.r h.within h.kind in
          elim h.side [
            | inl e ↦
                let port : bundle c ≡ bundle c + 0 = omega arith in
                rw (← e)
                (driven_by (part_net h.l (inn_wire c)) (part_net h.above (bundle c + 0)) (begin_net c h.above + 1)
                (nodes.feeds_left tree tables h.above h.l h.r h.within h.kind t ll rl)
                (nodes.inn_home tree tables h.l ll ∙ left_in c tree t refl h.above h.l h.r h.within h.kind)
                (nodes.pair_begins tree tables h.above h.l h.r h.within h.kind)
                (back _ _ _ (rw (child_inn c (bundle c) (bundle c + 1) (inn_wire c) refl ∙ port) at (meets.left_meet tree tables t h.above h.l h.r h.within h.kind (inn_wire c) (omega arith))) (same _)))
            | inr e ↦
                rw (← e)
                (driven_by (part_net h.r (inn_wire c)) (part_net h.above (bundle c + 2)) (begin_net c h.above + 3)
                (nodes.feeds_right tree tables h.above h.l h.r h.within h.kind t ll rl)
                (nodes.inn_home tree tables h.r rl ∙ right_in c tree t refl h.above h.l h.r h.within h.kind)
                (nodes.pair_right_in tree tables h.above h.l h.r h.within h.kind)
                (back _ _ _ (rw (child_inn c (bundle c + 2) (bundle c + 3) (inn_wire c) refl) at (meets.right_meet tree tables t h.above h.l h.r h.within h.kind (inn_wire c) (omega arith))) (same _)))
          ]
    ]

    fixed_drives : (k h : ℕ) → 2 ≤ k → k < 7 → part_home tree tables (part_net v (inn_wire c + k)) ≡ h → IsDriver (part_net n (inn_wire c + k)) h
        → Drives (part_net v (inn_wire c + k))
    fixed_drives k h l kl home is = to_frame (inn_wire c + k) h (omega (arith, kl)) (λ e. omega (arith, e, l)) (λ e. omega (arith, e, l)) home is

    wire_drives : (net : ℕ) → WireCase c net → Drives (part_net v net)
    wire_drives net (symbol_wire l) =
        to_frame net (5 + 2 * c.lines + net) (omega (arith, l)) (λ e. omega (arith, e, l)) (λ e. omega (arith, e, l)) (nodes.symbol_home tree tables v net lt l)
        (drivers.frame_symbol tree tables net l)
    wire_drives net (shared_wire y l e) =
        rw e
        (to_frame (c.symbols + y) (shared_net c + y) (omega (arith, l)) (λ e. omega (arith, e, l)) (λ e. omega (arith, e, l)) (nodes.shared_home tree tables v y lt l)
        (drivers.frame_shared tree tables y l))
    wire_drives net (fixed_wire k l e) =
        let first : inn_wire c ≡ inn_wire c + 0 = omega arith in
        let w = wires_of c v _ (node_at tree.nodes v).kind in
        rw e
        (below_seven (λ k. Drives (part_net v (inn_wire c + k)))
        (rw first at fed)
        (itself (part_net v (inn_wire c + 1)) (end_net c v + 1) (nodes.node_out tree tables v lt))
        (fixed_drives 2 4 (omega arith) (omega arith) (nodes.fixed_home tree tables v 2 4 lt w.reset) (drivers.frame_reset tree tables))
        (fixed_drives 3 2 (omega arith) (omega arith) (nodes.fixed_home tree tables v 3 2 lt refl) (drivers.frame_phi1 tree tables))
        (fixed_drives 4 3 (omega arith) (omega arith) (nodes.fixed_home tree tables v 4 3 lt refl) (drivers.frame_phi2 tree tables))
        (fixed_drives 5 0 (omega arith) (omega arith) (nodes.fixed_home tree tables v 5 0 lt w.vdd) (drivers.frame_vdd tree tables))
        (fixed_drives 6 1 (omega arith) (omega arith) (nodes.fixed_home tree tables v 6 1 lt refl) (drivers.frame_gnd tree tables)) k l)

    -- ---- own nets of nodes

    leaf_drives : (s : ℕ) → (node_at tree.nodes v).kind ≡ Leaf s → (k : ℕ) → k < 7 → Drives (part_net v (bundle c + k))
    leaf_drives s e =
        below_seven (λ k. Drives (part_net v (bundle c + k)))
        (itself _ _ (nodes.leaf_not_begins tree tables v s lt e))
        (itself _ _ (nodes.leaf_begins tree tables v s lt e))
        (itself _ _ (nodes.leaf_not_symbol tree tables v s lt e))
        (itself _ _ (nodes.leaf_source tree tables v s lt e))
        (itself _ _ (nodes.leaf_master tree tables v s lt e))
        (itself _ _ (nodes.leaf_inverse tree tables v s lt e))
        (itself _ _ (nodes.leaf_stored tree tables v s lt e))

    pair_drives : (l r : ℕ) → ((node_at tree.nodes v).kind ≡ Seq l r) ⊎ ((node_at tree.nodes v).kind ≡ Alt l r) → (k : ℕ) → k < 7 → Drives (part_net v (bundle c + k))
    pair_drives l r kind =
        let ll : l < n = meets.left_known tree tables t v l r lt kind in
        let rl : r < n = meets.right_known tree tables t v l r lt kind in
        below_seven (λ k. Drives (part_net v (bundle c + k)))
        (itself _ _ (nodes.pair_begins tree tables v l r lt kind))
        (driven_by (part_net v (bundle c + 1)) (part_net l (inn_wire c + 1)) (end_net c l + 1) (nodes.left_out_driver tree tables v l r lt kind)
        (nodes.left_out_home tree tables v l r lt kind) (nodes.node_out tree tables l ll)
        (on _ _ _ (rw (child_out c (bundle c) (bundle c + 1) (inn_wire c + 1) refl) at (meets.left_meet tree tables t v l r lt kind (inn_wire c + 1) (omega arith))) (same _)))
        (itself _ _ (nodes.pair_right_in tree tables v l r lt kind))
        (driven_by (part_net v (bundle c + 3)) (part_net r (inn_wire c + 1)) (end_net c r + 1) (nodes.right_out_driver tree tables v l r lt kind)
        (nodes.right_out_home tree tables v l r lt kind) (nodes.node_out tree tables r rl)
        (on _ _ _ (rw (child_out c (bundle c + 2) (bundle c + 3) (inn_wire c + 1) refl) at (meets.right_meet tree tables t v l r lt kind (inn_wire c + 1) (omega arith))) (same _)))
        (itself _ _ (nodes.pair_not_begins tree tables v l r lt kind))
        (itself _ _ (nodes.pair_not_right tree tables v l r lt kind))
        (itself _ _ (nodes.pair_not_out tree tables v l r lt kind))

    own_drives : (kind : NodeKind) → (node_at tree.nodes v).kind ≡ kind → (k : ℕ) → k < 7 → Drives (part_net v (bundle c + k))
    own_drives (Leaf s) e = leaf_drives s e
    own_drives (Seq l r) e = pair_drives l r (inl e)
    own_drives (Alt l r) e = pair_drives l r (inr e)

    node_drives : (net : ℕ) → net < bundle c + 7 → Drives (part_net v net)
    node_drives net nl = elim (cases_lt net (bundle c)) [
      | inl l ↦ wire_drives net (wire_case c net l)
      | inr m ↦
          let e : net ≡ bundle c + (net - bundle c) = omega (arith, m) in
          rw e (own_drives (node_at tree.nodes v).kind refl (net - bundle c) (omega (arith, m, nl)))
    ]

  -- ---- the frame

  frame_out : Drives (part_net n (inn_wire c + 1))
  frame_out =
      driven_by (part_net n (inn_wire c + 1)) (part_net tree.root (inn_wire c + 1)) (end_net c tree.root + 1) (nodes.frame_out_driver tree tables)
      (drivers.frame_reads tree tables (inn_wire c + 1) ∙ read_fixed c (frame_home c tree.root) (frame_homes c (frame_home c tree.root)) 1) (nodes.node_out tree tables tree.root t.root_in_table)
      (on _ _ _ (meets.root_meet tree tables t (inn_wire c + 1) (omega arith)) (same _))

  frame_wire : (net : ℕ) → WireCase c net → Drives (part_net n net)
  frame_wire net (symbol_wire l) = itself _ _ (drivers.frame_symbol tree tables net l)
  frame_wire net (shared_wire y l e) = rw e (itself _ _ (drivers.frame_shared tree tables y l))
  frame_wire net (fixed_wire k l e) =
      let first : inn_wire c ≡ inn_wire c + 0 = omega arith in
      rw e
      (below_seven (λ k. Drives (part_net n (inn_wire c + k)))
      (rw first at (itself (part_net n (inn_wire c)) (start_net c + 1) (drivers.frame_inn tree tables)))
      frame_out
      (itself _ _ (drivers.frame_reset tree tables))
      (itself _ _ (drivers.frame_phi1 tree tables))
      (itself _ _ (drivers.frame_phi2 tree tables))
      (itself _ _ (drivers.frame_vdd tree tables))
      (itself _ _ (drivers.frame_gnd tree tables)) k l)

  frame_behind : (k : ℕ) → k < c.outputs + 3 → Drives (part_net n (bundle c + (2 * c.lines + k)))
  frame_behind k kl = elim (cases_lt k c.outputs) [
    | inl l ↦ itself _ _ (drivers.frame_output tree tables k l)
    | inr m ↦
        elim (cases_lt k (c.outputs + 1)) [
          | inl l ↦ let e : k ≡ c.outputs + 0 = omega (arith, l, m) in rw e (itself _ _ (drivers.frame_register tree tables 0 (master_net c) (omega arith) (omega arith) refl))
          | inr j ↦
              elim (cases_lt k (c.outputs + 2)) [
                | inl l ↦
                    let e : k ≡ c.outputs + 1 = omega (arith, l, j) in
                    rw e (itself _ _ (drivers.frame_register tree tables 1 (master_net c + 1) (omega arith) (omega arith) refl))
                | inr i ↦ let e : k ≡ c.outputs + 2 = omega (arith, i, kl) in rw e (itself _ _ (drivers.frame_stored tree tables))
              ]
        ]
  ]

  frame_own : (k : ℕ) → k < 2 * c.lines + c.outputs + 3 → Drives (part_net n (bundle c + k))
  frame_own k kl = elim (cases_lt k c.lines) [
    | inl l ↦ itself _ _ (drivers.frame_line tree tables k l)
    | inr m ↦
        elim (cases_lt k (2 * c.lines)) [
          | inl l ↦
              let e : k ≡ c.lines + (k - c.lines) = omega (arith, m) in
              rw e (itself _ _ (drivers.frame_complement tree tables (k - c.lines) (omega (arith, l, m))))
          | inr j ↦ let e : k ≡ 2 * c.lines + (k - 2 * c.lines) = omega (arith, j) in rw e (frame_behind (k - 2 * c.lines) (omega (arith, kl, j)))
        ]
  ]

  frame_drives : (net : ℕ) → net < bundle c + (2 * c.lines + c.outputs + 3) → Drives (part_net n net)
  frame_drives net nl = elim (cases_lt net (bundle c)) [
    | inl l ↦ frame_wire net (wire_case c net l)
    | inr m ↦ let e : net ≡ bundle c + (net - bundle c) = omega (arith, m) in rw e (frame_own (net - bundle c) (omega (arith, m, nl)))
  ]

  -- ---- all nets

  drives : (a : PartNet) → IsPartNet (part_of tree tables) (part_count tree) a → Drives a
  drives a h = elim (cases_lt a.which n) [
    | inl lt ↦ node_drives a.which lt a.net (rw (drivers.node_nets tree tables a.which lt) at h.below)
    | inr ge ↦
        let known = h.known in
        let e : a.which ≡ n = omega (arith, known, ge) in
        let below : a.net < bundle c + (2 * c.lines + c.outputs + 3) = rw (e, drivers.frame_nets tree tables) at h.below in
        let all : Drives (part_net a.which a.net) = rw e (frame_drives a.net below) in
        all
  ]

  pub stands : (a : PartNet) → IsPartNet (part_of tree tables) (part_count tree) a → IsDriver (driver_of tree tables a) (part_home tree tables a)
  stands a h = let d = drives a h in rw (d.driver) d.is

  pub leads : (a : PartNet) → IsPartNet (part_of tree tables) (part_count tree) a → Join a (driver_of tree tables a)
  leads a h = let d = drives a h in rw (d.driver) d.joins
