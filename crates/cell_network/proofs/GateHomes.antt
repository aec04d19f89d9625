-- The named nets of each part stand in the whole where the whole numbering says.
use Rattle.std.proofs.Common.{◌≡◌, ◌⊎◌, inl, inr, ℕ, ◌+◌, ◌*◌, ◌<◌, Bool, true, false, List, [], ◌∷◌, length, slice_index_or, refl, ap, sym, ◌∙◌, arith}
use Rattle.std.specs.List.{AllByRecursion}
use Rattle.rx_lang.specs.Tables.{Tables, IsSpecification}
use Rattle.star_normal.specs.declared.node.Node.{Node}
use Rattle.star_normal.specs.declared.node.NodeKind.{NodeKind}
use Rattle.star_normal.specs.declared.node.NodeKind.TheVariants.{Leaf, Seq, Alt}
use Rattle.star_normal.specs.Tables.{TreeTable, flags_of}
use Rattle.nor_net.specs.Assembly.{part_net}
use Rattle.cell_network.specs.declared.numbering.Counts.{Counts}
use Rattle.cell_network.specs.declared.numbering.Numbering.{Numbering}
use Rattle.cell_network.specs.declared.part_net.PartNet.{PartNet}
use Rattle.cell_network.specs.declared.part_net.PartNet.TheVariants.{Shared, In, Out, Reset, Vdd, NotBegins, Begins, Master, Inverse, Stored, LeftOut, RightOut, Line, Complement, Output}
use Rattle.cell_network.specs.Cells.{eps_at}
use Rattle.cell_network.specs.Shapes.{gate, complement_inputs, begin_inputs, leaf_gates, pair_gates, right_inputs, end_inputs, kind_gates, mark_of, mark_gate, mark_gates, pattern_at, frame_gates}
use Rattle.cell_network.specs.Parts.{counts_of, node_at, inn_wire, bundle, leaf_numbers, pair_numbers, frame_numbers}
use Rattle.cell_network.specs.Home.{home, frame_home}
use Rattle.cell_network.specs.Assembled.{part_home}
use Rattle.cell_network.proofs.Ranges.{each_piece}
use Rattle.cell_network.proofs.Mismatches.{mismatches_each}
use Rattle.cell_network.proofs.FrameParts.{each_gate}
use Rattle.cell_network.proofs.RenamedParts.{Agrees, GateAgrees}
use Rattle.cell_network.proofs.Drivers as drivers
use Rattle.cell_network.proofs.NodeDrivers as nodes

module _ (tree : TreeTable) (tables : Tables) where
  abbrev c : Counts
  c = counts_of tree tables

  -- the net of the whole that a net of the part is
  abbrev pub at_part : ℕ → ℕ → ℕ
  at_part v net = part_home tree tables (part_net v net)

  -- ---- nodes

  module _ (v : ℕ) (lt : v < length tree.nodes) where
    abbrev kind_at : NodeKind
    kind_at = (node_at tree.nodes v).kind

    abbrev m : Numbering
    m = home c tree.nodes v (node_at tree.nodes v)

    -- what a node's gates use of its nets
    record NodeAgrees (n : Numbering) : Type 0 where
      shared : (y : ℕ) → y < c.outputs → Agrees (at_part v) n m (Shared y)
      inn : Agrees (at_part v) n m In
      out : Agrees (at_part v) n m Out
      vdd : Agrees (at_part v) n m Vdd
      begins : Agrees (at_part v) n m Begins
      not_begins : Agrees (at_part v) n m NotBegins

    shared_agrees : (y : ℕ) → y < c.outputs → at_part v (c.symbols + y) ≡ m.shared + y
    shared_agrees y yl = nodes.shared_home tree tables v y lt yl ∙ sym (ap (λ n. n + y) (nodes.wires tree tables v).shared)

    first : (net : ℕ) → at_part v (bundle c + 0) ≡ net → at_part v (bundle c) ≡ net
    first net h = let e : bundle c + 0 ≡ bundle c = omega arith in rw e at h

    node_agrees : (n : Numbering) → n.shared ≡ c.symbols → n.inn ≡ inn_wire c → n.out ≡ inn_wire c + 1 → n.vdd ≡ inn_wire c + 5
        → at_part v n.begins ≡ m.begins → at_part v n.not_begins ≡ m.not_begins → NodeAgrees n
    node_agrees n shared inn out vdd begins not_begins = record {
      shared = λ y yl. rw shared (shared_agrees y yl);
      inn = rw inn (nodes.inn_home tree tables v lt ∙ sym ((nodes.wires tree tables v).begins));
      out = rw out (nodes.fixed_home tree tables v 1 m.out lt refl);
      vdd = rw vdd (nodes.fixed_home tree tables v 5 m.vdd lt refl);
      begins = begins;
      not_begins = not_begins;
    }

    complement_agrees : (n : Numbering) → NodeAgrees n → (scan loops : Bool) → GateAgrees (at_part v) n m (gate NotBegins (complement_inputs scan loops))
    complement_agrees n a true loops = record { out = a.not_begins; inputs = (a.vdd, tt) }
    complement_agrees n a false true = record { out = a.not_begins; inputs = (a.inn, (a.out, tt)) }
    complement_agrees n a false false = record { out = a.not_begins; inputs = (a.inn, tt) }

    begin_agrees : (n : Numbering) → NodeAgrees n → (scan : Bool) → GateAgrees (at_part v) n m (gate Begins (begin_inputs scan))
    begin_agrees n a true = record { out = a.begins; inputs = tt }
    begin_agrees n a false = record { out = a.begins; inputs = (a.not_begins, tt) }

    marks_agree : (n : Numbering) → NodeAgrees n → (node : Node) → AllByRecursion (GateAgrees (at_part v) n m) (mark_gates c.outputs node)
    marks_agree n a node =
        each_piece (GateAgrees (at_part v) n m) (mark_gate node) 0 c.outputs
        (λ y l yl. one y (omega (arith, yl)) ((flags_of node).marks y) ((flags_of node).eps_marks y))
      where
        one : (y : ℕ) → y < c.outputs → (p q : Bool) → AllByRecursion (GateAgrees (at_part v) n m) (mark_of y p q)
        one y yl true true = (record { out = a.shared y yl; inputs = (a.out, (a.begins, tt)) }, tt)
        one y yl true false = (record { out = a.shared y yl; inputs = (a.out, tt) }, tt)
        one y yl false true = (record { out = a.shared y yl; inputs = (a.begins, tt) }, tt)
        one y yl false false = tt

    -- ---- leaves

    module _ (s : ℕ) (e : (node_at tree.nodes v).kind ≡ Leaf s) (sl : s < c.symbols) where
      own : (k : ℕ) → at_part v (bundle c + k) ≡ slice_index_or (m.not_begins ∷ m.begins ∷ m.not_symbol ∷ m.source ∷ m.master ∷ m.inverse ∷ m.stored ∷ []) k 0
      own k = nodes.own_home tree tables v k _ lt (rw e refl)

      leaf_nets : NodeAgrees (leaf_numbers c)
      leaf_nets = node_agrees (leaf_numbers c) refl refl refl refl (own 1) (first m.not_begins (own 0))

      symbol_agrees : at_part v (0 + s) ≡ m.symbols + s
      symbol_agrees =
          let e : s ≡ 0 + s = omega arith in
          ap (at_part v) (sym e) ∙ nodes.symbol_home tree tables v s lt sl ∙ sym (ap (λ n. n + s) (nodes.wires tree tables v).symbols)

      pub leaf_agrees : (node : Node) → AllByRecursion (GateAgrees (at_part v) (leaf_numbers c) m) (leaf_gates node s)
      leaf_agrees node = (
        record { out = leaf_nets.out; inputs = (own 6, tt) },
        (
          complement_agrees (leaf_numbers c) leaf_nets node.scan node.loops,
          (
            begin_agrees (leaf_numbers c) leaf_nets node.scan,
            (
              record { out = own 2; inputs = (symbol_agrees, tt) },
              (
                record { out = own 3; inputs = (leaf_nets.not_begins, (own 2, (nodes.fixed_home tree tables v 2 m.reset lt refl, tt))) },
                (record { out = own 5; inputs = (own 4, tt) }, tt),
              ),
            ),
          ),
        ),
      )

      pub leaf_marks_agree : (node : Node) → AllByRecursion (GateAgrees (at_part v) (leaf_numbers c) m) (mark_gates c.outputs node)
      leaf_marks_agree node = marks_agree (leaf_numbers c) leaf_nets node

      pub master_agrees : at_part v (bundle c + 4) ≡ m.master
      master_agrees = own 4

      pub inverse_agrees : at_part v (bundle c + 5) ≡ m.inverse
      inverse_agrees = own 5

      pub stored_agrees : at_part v (bundle c + 6) ≡ m.stored
      stored_agrees = own 6

      pub source_agrees : at_part v (bundle c + 3) ≡ m.source
      source_agrees = own 3

    -- ---- nodes of two parts

    module _ (l r : ℕ) (kind : ((node_at tree.nodes v).kind ≡ Seq l r) ⊎ ((node_at tree.nodes v).kind ≡ Alt l r)) where
      pair_own : (k : ℕ) → at_part v (bundle c + k) ≡ slice_index_or (m.begins ∷ m.left_out ∷ m.right_in ∷ m.right_out ∷ m.not_begins ∷ m.not_right ∷ m.not_out ∷ []) k 0
      pair_own k = elim kind [
        | inl e ↦ nodes.own_home tree tables v k _ lt (rw e refl)
        | inr e ↦ nodes.own_home tree tables v k _ lt (rw e refl)
      ]

      pair_nets : NodeAgrees (pair_numbers c)
      pair_nets = node_agrees (pair_numbers c) refl refl refl refl (first m.begins (pair_own 0)) (pair_own 4)

      abbrev PairAgrees : PartNet → Type 0
      PairAgrees = Agrees (at_part v) (pair_numbers c) m

      pair_agrees : (node : Node) (right ends : List PartNet) → AllByRecursion PairAgrees right → AllByRecursion PairAgrees ends
          → AllByRecursion (GateAgrees (at_part v) (pair_numbers c) m) (pair_gates node right ends)
      pair_agrees node right ends a b = (
        record { out = pair_own 6; inputs = b },
        (
          record { out = pair_nets.out; inputs = (pair_own 6, tt) },
          (
            complement_agrees (pair_numbers c) pair_nets node.scan node.loops,
            (
              begin_agrees (pair_numbers c) pair_nets node.scan,
              (record { out = pair_own 5; inputs = a }, (record { out = pair_own 2; inputs = (pair_own 5, tt) }, tt)),
            ),
          ),
        ),
      )

      right_agrees : (eps : Bool) → AllByRecursion PairAgrees (right_inputs eps)
      right_agrees true = (pair_own 1, (pair_nets.begins, tt))
      right_agrees false = (pair_own 1, tt)

      end_agrees : (eps : Bool) → AllByRecursion PairAgrees (end_inputs eps)
      end_agrees true = (pair_own 3, (pair_own 1, tt))
      end_agrees false = (pair_own 3, tt)

      pub seq_agrees : (list : List Node) (node : Node) → AllByRecursion (GateAgrees (at_part v) (pair_numbers c) m) (kind_gates list node (Seq l r))
      seq_agrees list node =
          pair_agrees node (right_inputs (eps_at list l)) (end_inputs (eps_at list r)) (right_agrees (eps_at list l)) (end_agrees (eps_at list r))

      pub alt_agrees : (list : List Node) (node : Node) → AllByRecursion (GateAgrees (at_part v) (pair_numbers c) m) (kind_gates list node (Alt l r))
      alt_agrees list node = pair_agrees node (Begins ∷ []) (RightOut ∷ LeftOut ∷ []) (pair_nets.begins, tt) (pair_own 3, (pair_own 1, tt))

      pub pair_marks_agree : (node : Node) → AllByRecursion (GateAgrees (at_part v) (pair_numbers c) m) (mark_gates c.outputs node)
      pair_marks_agree node = marks_agree (pair_numbers c) pair_nets node

  -- ---- the frame

  abbrev fh : Numbering
  fh = frame_home c tree.root

  abbrev frame : ℕ
  frame = length tree.nodes

  abbrev FrameAgrees : PartNet → Type 0
  FrameAgrees = Agrees (at_part frame) (frame_numbers c) fh

  from_zero : (s : ℕ) → 0 + s ≡ s
  from_zero s = omega arith

  line_agrees : (i : ℕ) → i < c.lines → FrameAgrees (Line i)
  line_agrees i lt = (drivers.frame_line tree tables i lt).home

  complement_net_agrees : (i : ℕ) → i < c.lines → FrameAgrees (Complement i)
  complement_net_agrees i lt =
      let e : bundle c + (c.lines + i) ≡ bundle c + c.lines + i = omega arith in
      let f : 5 + (c.lines + i) ≡ 5 + c.lines + i = omega arith in
      rw (e, f) at (drivers.frame_complement tree tables i lt).home

  pub frame_shared_agrees : (y : ℕ) → y < c.outputs → FrameAgrees (Shared y)
  frame_shared_agrees y lt = (drivers.frame_shared tree tables y lt).home

  output_agrees : (y : ℕ) → y < c.outputs → FrameAgrees (Output y)
  output_agrees y lt =
      let e : bundle c + (2 * c.lines + y) ≡ bundle c + 2 * c.lines + y = omega arith in
      rw e at (drivers.frame_output tree tables y lt).home

  pub frame_master_agrees : FrameAgrees Master
  frame_master_agrees =
      let e : bundle c + (2 * c.lines + (c.outputs + 0)) ≡ bundle c + 2 * c.lines + c.outputs = omega arith in
      rw e at (drivers.frame_register tree tables 0 fh.master (omega arith) (omega arith) refl).home

  pub frame_inverse_agrees : FrameAgrees Inverse
  frame_inverse_agrees =
      let e : bundle c + (2 * c.lines + (c.outputs + 1)) ≡ bundle c + 2 * c.lines + c.outputs + 1 = omega arith in
      rw e at (drivers.frame_register tree tables 1 fh.inverse (omega arith) (omega arith) refl).home

  pub frame_stored_agrees : FrameAgrees Stored
  frame_stored_agrees =
      let e : bundle c + (2 * c.lines + (c.outputs + 2)) ≡ bundle c + 2 * c.lines + c.outputs + 2 = omega arith in
      rw e at (drivers.frame_stored tree tables).home

  pub frame_reset_agrees : FrameAgrees Reset
  frame_reset_agrees = (drivers.frame_reset tree tables).home

  pub frame_agrees : (spec : IsSpecification tables) → AllByRecursion (GateAgrees (at_part frame) (frame_numbers c) fh) (frame_gates tables)
  frame_agrees spec =
      each_gate c tables refl refl refl spec.place_per_line (GateAgrees (at_part frame) (frame_numbers c) fh)
      (λ i lt. record { out = complement_net_agrees i lt; inputs = (line_agrees i lt, tt) })
      (λ s lt.
      let size : length (pattern_at tables.symbols s) ≡ length tables.lines = spec.place_per_line s (record { name = []; pattern = [] }) lt in
      record {
        out = ap (at_part frame) (from_zero s) ∙ (drivers.frame_symbol tree tables s lt).home;
        inputs =
            mismatches_each FrameAgrees (pattern_at tables.symbols s)
            (λ line ll. (line_agrees line (omega (arith, ll, size)), complement_net_agrees line (omega (arith, ll, size))));
      })
      (record { out = (drivers.frame_inn tree tables).home; inputs = (frame_stored_agrees, tt) })
      (λ y lt. record { out = output_agrees y lt; inputs = (frame_shared_agrees y lt, tt) })
      (record { out = frame_inverse_agrees; inputs = (frame_master_agrees, tt) })
