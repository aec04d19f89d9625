-- The devices of the network of cells are those of its parts.
use Rattle.std.specs.Prelude.{flat_map}
use Rattle.std.proofs.Common.{◌≡◌, inl, inr, ℕ, zero, suc, ◌+◌, ◌<◌, ◌≤◌, false, cond, List, [], ◌∷◌, ◌++◌, map, length, filter, sum_by, IsPermutation, refl, ap, sym, subst, ◌∙◌, arith, lt-ltb, le-ltb}
use Rattle.std.specs.List.{AllByRecursion, range_with_len}
use Rattle.std.proofs.lemmas.Bool.{cases_Bool}
use Rattle.std.proofs.lemmas.List.{map-append}
use Rattle.std.proofs.lemmas.List.Concat.{flat_map-append}
use Rattle.std.proofs.lemmas.List.Sums.{sum_by-append}
use Rattle.std.proofs.lemmas.List.Sorted.{IsPermutation-map, sum_by-IsPermutation}
use Rattle.rx_lang.specs.Tables.{Tables, IsSpecification}
use Rattle.star_normal.specs.declared.node.NodeKind.{NodeKind}
use Rattle.star_normal.specs.declared.node.NodeKind.TheVariants.{Leaf, Seq, Alt}
use Rattle.star_normal.specs.Tables.{TreeTable, IsTree, plain_node}
use Rattle.switch_net.specs.Circuit.{renamed_device}
use Rattle.switch_net.specs.declared.network.Device.{Device}
use Rattle.switch_net.specs.declared.network.Device.TheVariants.{Load}
use Rattle.nor_net.specs.Netlist.{NorGate}
use Rattle.nor_net.specs.Evaluation.{is_output}
use Rattle.nor_net.specs.SwitchForm.{at, load_at, pull_downs, transfer_device, switch_form}
use Rattle.nor_net.specs.Part.{PartTables, clocked_device}
use Rattle.nor_net.specs.Assembly.{devices_by, assembled_devices}
use Rattle.nor_net.specs.declared.gate.Transfer.{Transfer}
use Rattle.cell_network.specs.declared.numbering.Counts.{Counts}
use Rattle.cell_network.specs.declared.numbering.Numbering.{Numbering}
use Rattle.cell_network.specs.declared.part_net.PartNet.TheVariants.{Shared, Reset}
use Rattle.cell_network.specs.Shapes.{NamedGate, number, numbered, register, kind_gates, kind_transfers, mark_gates, frame_gates}
use Rattle.cell_network.specs.Parts.{NamesSymbol, counts_of, node_at, inn_wire, bundle, kind_numbers, frame_numbers, node_part_of, frame_part_of, part_of}
use Rattle.cell_network.specs.Home.{whole_nets, in_net, home_of_kind, home, frame_home}
use Rattle.cell_network.specs.Whole.{pads_of, load_gate, cell_gates, cell_transfers, whole_gates, whole_transfers, cells_of}
use Rattle.cell_network.specs.Assembled.{part_home, part_count}
use Rattle.cell_network.proofs.Ranges.{each_append}
use Rattle.cell_network.proofs.Named.{NamesSymbols}
use Rattle.cell_network.proofs.Permuted.{permuted, device_eq, device_own, device_is, sum_pieces}
use Rattle.cell_network.proofs.RenamedParts.{GateAgrees, gates_renamed, loads_renamed}
use Rattle.cell_network.proofs.GateHomes as gates
use Rattle.cell_network.proofs.GateHomes.{at_part}
use Rattle.cell_network.proofs.LoadNets as loads
use Rattle.cell_network.proofs.NodeDrivers as nodes
use Rattle.cell_network.proofs.Drivers as drivers

-- ---- lists

module _ {A B C : Type 0} where
  map_pieces : (f : B → C) (g : A → List B) (xs : List A) → map f (flat_map g xs) ≡ flat_map (λ x. map f (g x)) xs
  map_pieces f g [] = refl
  map_pieces f g (x ∷ xs) = map-append f (g x) (flat_map g xs) ∙ ap (λ (ys : List C). map f (g x) ++ ys) (map_pieces f g xs)

  pieces_of_pieces : (f : B → List C) (g : A → List B) (xs : List A) → flat_map f (flat_map g xs) ≡ flat_map (λ x. flat_map f (g x)) xs
  pieces_of_pieces f g [] = refl
  pieces_of_pieces f g (x ∷ xs) = flat_map-append f (g x) (flat_map g xs) ∙ ap (λ (ys : List C). flat_map f (g x) ++ ys) (pieces_of_pieces f g xs)

-- the last piece
sum_last : {A : Type 0} (f : A → ℕ) (g : ℕ → List A) (a m : ℕ)
    → sum_by f (flat_map g (range_with_len a (m + 1))) ≡ sum_by f (flat_map g (range_with_len a m)) + sum_by f (g (a + m))
sum_last {A} f g a zero =
    let e : a + 0 ≡ a = omega arith in
    let one = sum_by-append f (g a) [] in
    rw e (omega (arith, one))
sum_last {A} f g a (suc m) =
    let e : a + 1 + m ≡ a + suc m = omega arith in
    let later = rw e at (sum_last f g (a + 1) m) in
    let more : suc m + 1 ≡ suc (m + 1) = omega arith in
    rw more
    (omega (
      arith,
      later,
      sum_by-append f (g a) (flat_map g (range_with_len (a + 1) (m + 1))),
      sum_by-append f (g a) (flat_map g (range_with_len (a + 1) m)),
    ))

loads_by_filter : (all : List NorGate) (xs : List ℕ) → flat_map (load_at all) xs ≡ map (λ (net : ℕ). Load (at net)) (filter (is_output all) xs)
loads_by_filter all [] = refl
loads_by_filter all (x ∷ xs) = elim (cases_Bool (is_output all x)) [
  | inl e ↦ rw (e, loads_by_filter all xs) refl
  | inr e ↦ rw (e, loads_by_filter all xs) refl
]

no_pulls : (c : Counts) (low a k : ℕ) → flat_map (pull_downs low) (map (load_gate c) (range_with_len a k)) ≡ []
no_pulls c low a zero = refl
no_pulls c low a (suc k) = no_pulls c low (a + 1) k

-- what holds of every number of a range
of_range : (P : ℕ → Type 0) (a k : ℕ) → ((v : ℕ) → a ≤ v → v < a + k → P v) → AllByRecursion P (range_with_len a k)
of_range P a zero h = tt
of_range P a (suc k) h = (h a (omega arith) (omega arith), of_range P (a + 1) k (λ v l lt. h v (omega (arith, l)) (omega (arith, lt))))

module _ (tree : TreeTable) (tables : Tables) (spec : IsSpecification tables) (named : NamesSymbols (length tables.symbols) tree.nodes) where
  abbrev c : Counts
  c = counts_of tree tables

  abbrev n : ℕ
  n = length tree.nodes

  abbrev fh : Numbering
  fh = frame_home c tree.root

  abbrev of_node : ℕ → Numbering
  of_node v = home c tree.nodes v (node_at tree.nodes v)

  abbrev kind_at : ℕ → NodeKind
  kind_at v = (node_at tree.nodes v).kind

  abbrev kinds : ℕ → List NamedGate
  kinds v = kind_gates tree.nodes (node_at tree.nodes v) (kind_at v)

  abbrev marks : ℕ → List NamedGate
  marks v = mark_gates c.outputs (node_at tree.nodes v)

  abbrev as_load : ℕ → Device
  as_load net = Load (at net)

  abbrev led : Transfer → Device
  led = transfer_device (pads_of c tables)

  -- ---- the devices of nodes

  abbrev cell_pulls : ℕ → List Device
  cell_pulls v = flat_map (pull_downs 1) (cell_gates c tree.nodes v)

  abbrev cell_load_devices : ℕ → List Device
  cell_load_devices v = map as_load (loads.cell_loads tree tables spec v)

  abbrev cell_led : ℕ → List Device
  cell_led v = map led (cell_transfers c tree.nodes v)

  module _ (v : ℕ) (lt : v < n) where
    abbrev numbers : Numbering
    numbers = kind_numbers c (kind_at v)

    abbrev Agree : List NamedGate → Type 0
    Agree gs = AllByRecursion (GateAgrees (at_part tree tables v) numbers (of_node v)) gs

    -- the gates of a node's part stand in the whole as its numbers say
    kinds_agree : Agree (kinds v)
    kinds_agree = by (kind_at v) refl
      where
        by : (kind : NodeKind) → kind_at v ≡ kind → Agree (kinds v)
        by (Leaf s) e =
            let sl : NamesSymbol (length tables.symbols) (Leaf s) = rw e at (named v (plain_node (Leaf 0) false) lt) in
            rw e (rw e at (gates.leaf_agrees tree tables v lt s e sl (node_at tree.nodes v)))
        by (Seq l r) e = rw e (rw e at (gates.seq_agrees tree tables v lt l r (inl e) tree.nodes (node_at tree.nodes v)))
        by (Alt l r) e = rw e (rw e at (gates.alt_agrees tree tables v lt l r (inr e) tree.nodes (node_at tree.nodes v)))

    marks_agree : Agree (marks v)
    marks_agree = by (kind_at v) refl
      where
        by : (kind : NodeKind) → kind_at v ≡ kind → Agree (marks v)
        by (Leaf s) e =
            let sl : NamesSymbol (length tables.symbols) (Leaf s) = rw e at (named v (plain_node (Leaf 0) false) lt) in
            rw e (rw e at (gates.leaf_marks_agree tree tables v lt s e sl (node_at tree.nodes v)))
        by (Seq l r) e = rw e (rw e at (gates.pair_marks_agree tree tables v lt l r (inl e) (node_at tree.nodes v)))
        by (Alt l r) e = rw e (rw e at (gates.pair_marks_agree tree tables v lt l r (inr e) (node_at tree.nodes v)))

    abbrev node_part : PartTables
    node_part = node_part_of c tree.nodes (node_at tree.nodes v)

    part_is : part_of tree tables v ≡ node_part
    part_is = rw (lt-ltb v n lt) refl

    gnd_at : at_part tree tables v (inn_wire c + 6) ≡ 1
    gnd_at = nodes.fixed_home tree tables v 6 1 lt refl

    phi1_at : at_part tree tables v (inn_wire c + 3) ≡ 2
    phi1_at = nodes.fixed_home tree tables v 3 2 lt refl

    phi2_at : at_part tree tables v (inn_wire c + 4) ≡ 3
    phi2_at = nodes.fixed_home tree tables v 4 3 lt refl

    -- the transfers of a node of this kind stand so in the whole
    abbrev Led : NodeKind → Type 0
    Led x = map (renamed_device (at_part tree tables v)) (map (clocked_device node_part) (kind_transfers (kind_numbers c x) x))
        ≡ map led (kind_transfers (home_of_kind c v (in_net c tree.nodes v) x) x)

    transfers_renamed : map (renamed_device (at_part tree tables v)) (map (clocked_device node_part) (kind_transfers numbers (kind_at v))) ≡ cell_led v
    transfers_renamed = by (kind_at v) refl
      where
        by : (kind : NodeKind) → kind_at v ≡ kind
            → map (renamed_device (at_part tree tables v)) (map (clocked_device node_part) (kind_transfers numbers (kind_at v))) ≡ cell_led v
        by (Leaf s) e =
            let sl : NamesSymbol (length tables.symbols) (Leaf s) = rw e at (named v (plain_node (Leaf 0) false) lt) in
            let source = subst (λ x. at_part tree tables v (bundle c + 3) ≡ (home_of_kind c v (in_net c tree.nodes v) x).source) e (gates.source_agrees tree tables v lt s e sl) in
            let master = subst (λ x. at_part tree tables v (bundle c + 4) ≡ (home_of_kind c v (in_net c tree.nodes v) x).master) e (gates.master_agrees tree tables v lt s e sl) in
            let inverse = subst (λ x. at_part tree tables v (bundle c + 5) ≡ (home_of_kind c v (in_net c tree.nodes v) x).inverse) e (gates.inverse_agrees tree tables v lt s e sl) in
            let stored = subst (λ x. at_part tree tables v (bundle c + 6) ≡ (home_of_kind c v (in_net c tree.nodes v) x).stored) e (gates.stored_agrees tree tables v lt s e sl) in
            subst (λ x. Led x) (sym e) (rw (phi1_at, phi2_at, source, master, inverse, stored) refl)
        by (Seq l r) e = subst (λ x. Led x) (sym e) refl
        by (Alt l r) e = subst (λ x. Led x) (sym e) refl

    node_devices : devices_by (part_of tree tables) (part_home tree tables) v ≡ (cell_pulls v ++ cell_load_devices v) ++ cell_led v
    node_devices =
        rw part_is
        (map-append (renamed_device (at_part tree tables v))
        (flat_map (pull_downs (inn_wire c + 6)) (map (numbered numbers) (kinds v ++ marks v)) ++ map as_load (map (λ g. number numbers g.out) (kinds v)))
        (map (clocked_device node_part) (kind_transfers numbers (kind_at v)))
        ∙ rw (
          map-append (renamed_device (at_part tree tables v)) (flat_map (pull_downs (inn_wire c + 6)) (map (numbered numbers) (kinds v ++ marks v)))
              (map as_load (map (λ g. number numbers g.out) (kinds v))),
          gates_renamed (at_part tree tables v) numbers (of_node v) (inn_wire c + 6) (kinds v ++ marks v)
              (each_append (GateAgrees (at_part tree tables v) numbers (of_node v)) (kinds v) (marks v) kinds_agree marks_agree),
          loads_renamed (at_part tree tables v) numbers (of_node v) (kinds v) kinds_agree,
          transfers_renamed,
          gnd_at,
        ) refl)

  -- ---- the devices of the frame

  abbrev frame_pulls : List Device
  frame_pulls = flat_map (pull_downs 1) (map (numbered fh) (frame_gates tables))

  abbrev frame_load_devices : List Device
  frame_load_devices = map as_load (loads.frame_loads tree tables spec)

  abbrev frame_led : List Device
  frame_led = map led (register fh Reset)

  abbrev frame_part : PartTables
  frame_part = frame_part_of c tables

  frame_part_is : part_of tree tables n ≡ frame_part
  frame_part_is = rw (le-ltb n n (omega arith)) refl

  abbrev at_frame : ℕ → ℕ
  at_frame = at_part tree tables n

  shared_renamed : (a k : ℕ) → a + k ≤ c.outputs
      → map (renamed_device at_frame) (map as_load (map (λ y. number (frame_numbers c) (Shared y)) (range_with_len a k))) ≡ map as_load (map (λ y. number fh (Shared y)) (range_with_len a k))
  shared_renamed a zero le = refl
  shared_renamed a (suc k) le = rw (gates.frame_shared_agrees tree tables a (omega (arith, le)), shared_renamed (a + 1) k (omega (arith, le))) refl

  frame_loads_renamed : map (renamed_device at_frame)
      (map as_load (map (λ g. number (frame_numbers c) g.out) (frame_gates tables) ++ map (λ y. number (frame_numbers c) (Shared y)) (range_with_len 0 c.outputs)))
      ≡ frame_load_devices
  frame_loads_renamed =
      rw (
        map-append as_load (map (λ g. number (frame_numbers c) g.out) (frame_gates tables)) (map (λ y. number (frame_numbers c) (Shared y)) (range_with_len 0 c.outputs)),
        map-append (renamed_device at_frame) (map as_load (map (λ g. number (frame_numbers c) g.out) (frame_gates tables)))
            (map as_load (map (λ y. number (frame_numbers c) (Shared y)) (range_with_len 0 c.outputs))),
        loads_renamed at_frame (frame_numbers c) fh (frame_gates tables) (gates.frame_agrees tree tables spec),
        shared_renamed 0 c.outputs (omega arith),
      )
      (sym (map-append as_load (map (λ g. number fh g.out) (frame_gates tables)) (map (λ y. number fh (Shared y)) (range_with_len 0 c.outputs))))

  frame_transfers_renamed : map (renamed_device at_frame) (map (clocked_device frame_part) (register (frame_numbers c) Reset)) ≡ frame_led
  frame_transfers_renamed =
      rw (
        (drivers.frame_phi1 tree tables).home,
        (drivers.frame_phi2 tree tables).home,
        gates.frame_reset_agrees tree tables,
        gates.frame_master_agrees tree tables,
        gates.frame_inverse_agrees tree tables,
        gates.frame_stored_agrees tree tables,
      ) refl

  frame_devices : devices_by (part_of tree tables) (part_home tree tables) n ≡ (frame_pulls ++ frame_load_devices) ++ frame_led
  frame_devices =
      rw frame_part_is
      (map-append (renamed_device at_frame) (flat_map (pull_downs (inn_wire c + 6)) (map (numbered (frame_numbers c)) (frame_gates tables)) ++ map as_load frame_part.loads)
      (map (clocked_device frame_part) (register (frame_numbers c) Reset))
      ∙ rw (
        map-append (renamed_device at_frame) (flat_map (pull_downs (inn_wire c + 6)) (map (numbered (frame_numbers c)) (frame_gates tables))) (map as_load frame_part.loads),
        gates_renamed at_frame (frame_numbers c) fh (inn_wire c + 6) (frame_gates tables) (gates.frame_agrees tree tables spec),
        frame_loads_renamed,
        frame_transfers_renamed,
        (drivers.frame_gnd tree tables).home,
      ) refl)

  -- ---- all devices

  abbrev assembled : List Device
  assembled = assembled_devices (part_of tree tables) (part_count tree) (part_home tree tables)

  abbrev whole : List Device
  whole = (switch_form (cells_of tree tables)).devices

  module _ (t : IsTree tree) (w : Device → ℕ) where
    abbrev nodes_range : List ℕ
    nodes_range = range_with_len 0 n

    sum_parts : sum_by w assembled
        ≡ sum_by w (flat_map cell_pulls nodes_range) + sum_by w (flat_map cell_load_devices nodes_range) + sum_by w (flat_map cell_led nodes_range)
        + (sum_by w frame_pulls + sum_by w frame_load_devices + sum_by w frame_led)
    sum_parts =
        let last : 0 + n ≡ n = omega arith in
        let split = rw last at (sum_last w (devices_by (part_of tree tables) (part_home tree tables)) 0 n) in
        let pieces =
        sum_pieces w (devices_by (part_of tree tables) (part_home tree tables)) cell_pulls cell_load_devices cell_led nodes_range
        (of_range (λ v. devices_by (part_of tree tables) (part_home tree tables) v ≡ (cell_pulls v ++ cell_load_devices v) ++ cell_led v) 0 n (λ v l lt. node_devices v (omega (arith, lt)))) in
        let frame : sum_by w (devices_by (part_of tree tables) (part_home tree tables) n) ≡ sum_by w ((frame_pulls ++ frame_load_devices) ++ frame_led) = ap (sum_by w) frame_devices in
        omega (
          arith,
          split,
          pieces,
          frame,
          sum_by-append w (frame_pulls ++ frame_load_devices) frame_led,
          sum_by-append w frame_pulls frame_load_devices,
        )

    abbrev all_gates : List NorGate
    all_gates = whole_gates c tree tables

    sum_loads : sum_by w (flat_map (load_at all_gates) (range_with_len 0 (whole_nets c)))
        ≡ sum_by w (flat_map cell_load_devices nodes_range) + sum_by w frame_load_devices
    sum_loads =
        let filtered = ap (sum_by w) (loads_by_filter all_gates (range_with_len 0 (whole_nets c))) in
        let moved =
        sum_by-IsPermutation w _ _
        (IsPermutation-map as_load (filter (is_output all_gates) (range_with_len 0 (whole_nets c))) (loads.all_loads tree tables spec) (loads.outputs_are_loads tree tables spec t)) in
        let split = ap (sum_by w) (map-append as_load (flat_map (loads.cell_loads tree tables spec) nodes_range) (loads.frame_loads tree tables spec)) in
        let pieces = ap (sum_by w) (map_pieces as_load (loads.cell_loads tree tables spec) nodes_range) in
        omega (
          arith,
          filtered,
          moved,
          split,
          pieces,
          sum_by-append w (map as_load (flat_map (loads.cell_loads tree tables spec) nodes_range)) frame_load_devices,
        )

    sum_pulls : sum_by w (flat_map (pull_downs 1) all_gates) ≡ sum_by w (flat_map cell_pulls nodes_range) + sum_by w frame_pulls
    sum_pulls =
        let free : List NorGate = map (load_gate c) (range_with_len 0 c.outputs) in
        let outer =
        ap (sum_by w)
        (flat_map-append (pull_downs 1) (map (numbered fh) (frame_gates tables) ++ map (load_gate c) (range_with_len 0 c.outputs)) (flat_map (cell_gates c tree.nodes) nodes_range)) in
        let inner = ap (sum_by w) (flat_map-append (pull_downs 1) (map (numbered fh) (frame_gates tables)) (map (load_gate c) (range_with_len 0 c.outputs))) in
        let none = ap (sum_by w) (no_pulls c 1 0 c.outputs) in
        let pieces = ap (sum_by w) (pieces_of_pieces (pull_downs 1) (cell_gates c tree.nodes) nodes_range) in
        omega (
          arith,
          outer,
          inner,
          none,
          pieces,
          sum_by-append w (flat_map (pull_downs 1) (map (numbered fh) (frame_gates tables) ++ map (load_gate c) (range_with_len 0 c.outputs)))
              (flat_map (pull_downs 1) (flat_map (cell_gates c tree.nodes) nodes_range)),
          sum_by-append w frame_pulls (flat_map (pull_downs 1) (map (load_gate c) (range_with_len 0 c.outputs))),
        )

    sum_led : sum_by w (map led (whole_transfers c tree)) ≡ sum_by w (flat_map cell_led nodes_range) + sum_by w frame_led
    sum_led =
        let outer = ap (sum_by w) (map-append led (register fh Reset) (flat_map (cell_transfers c tree.nodes) nodes_range)) in
        let pieces = ap (sum_by w) (map_pieces led (cell_transfers c tree.nodes) nodes_range) in
        omega (arith, outer, pieces, sum_by-append w frame_led (map led (flat_map (cell_transfers c tree.nodes) nodes_range)))

    sum_whole : sum_by w assembled ≡ sum_by w whole
    sum_whole =
        omega (
          arith,
          sum_parts,
          sum_loads,
          sum_pulls,
          sum_led,
          sum_by-append w (flat_map (load_at all_gates) (range_with_len 0 (whole_nets c)) ++ flat_map (pull_downs 1) all_gates) (map led (whole_transfers c tree)),
          sum_by-append w (flat_map (load_at all_gates) (range_with_len 0 (whole_nets c))) (flat_map (pull_downs 1) all_gates),
        )

  pub have_their_devices : IsTree tree → IsPermutation assembled whole
  have_their_devices t = permuted device_eq device_own device_is assembled whole (λ d. sum_whole t (λ e. cond (device_eq d e) 1 0))
