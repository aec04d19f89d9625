-- Every gate of the whole network stands behind its inputs, on a net that no input pad fixes, and names no input twice.
use Rattle.std.proofs.Common.{◌≡◌, ◌≢◌, ◌⊎◌, inl, inr, ℕ, ◌+◌, ◌<◌, ◌≤◌, Bool, true, false, List, [], ◌∷◌, ◌++◌, map, length, All, refl, arith}
use Rattle.std.specs.List.{AllByRecursion, range_with_len}
use Rattle.rx_lang.specs.declared.pattern.PatternBit.{PatternBit}
use Rattle.rx_lang.specs.Specification.{NamedPattern}
use Rattle.rx_lang.specs.Tables.{Tables}
use Rattle.star_normal.specs.declared.node.Node.{Node}
use Rattle.star_normal.specs.declared.node.NodeKind.{NodeKind}
use Rattle.star_normal.specs.declared.node.NodeKind.TheVariants.{Leaf, Seq, Alt}
use Rattle.star_normal.specs.Tables.{flags_of}
use Rattle.nor_net.specs.Netlist.{NorGate}
use Rattle.cell_network.specs.declared.numbering.Counts.{Counts}
use Rattle.cell_network.specs.declared.numbering.Numbering.{Numbering}
use Rattle.cell_network.specs.declared.part_net.PartNet.{PartNet}
use Rattle.cell_network.specs.declared.part_net.PartNet.TheVariants.{Symbol, In, NotBegins, Begins, Master, Inverse, Stored, LeftOut, RightOut, NotRight, NotOut}
use Rattle.cell_network.specs.Cells.{eps_at}
use Rattle.cell_network.specs.Shapes.{NamedGate, number, numbered, gate, leaf_gates, pair_gates, complement_inputs, begin_inputs, right_inputs, end_inputs, kind_gates, mark_of, mark_gate, mark_gates, mismatches, pattern_at, complement_gate, symbol_gate, output_gate, frame_gates}
use Rattle.cell_network.specs.Home.{complement_net, symbol_net, start_net, end_net, begin_net, shared_net, output_net, master_net, whole_nets, home_numbers, home_of_kind, frame_home}
use Rattle.cell_network.specs.Whole.{load_gate}
use Rattle.cell_network.proofs.Ranges.{Pairs, each_append, each_range, each_piece, pairs_map}
use Rattle.cell_network.proofs.Mismatches.{mismatches_each, mismatches_distinct}

-- what is known of a node: its parts stand before it and differ, and its symbol is one
abbrev pub KindFacts : Counts → ℕ → NodeKind → Type 0
KindFacts c v (Leaf s) = s < c.symbols
KindFacts c v (Seq l r) = (l < v) × (r < v) × (l ≡ r → ⊥)
KindFacts c v (Alt l r) = (l < v) × (r < v) × (l ≡ r → ⊥)

-- where IN of a node stands: at the start register, or at the net by which a later node begins a part
abbrev pub InPlace : Counts → ℕ → ℕ → Type 0
InPlace c v inn =
    (inn ≡ start_net c + 1) ⊎ ((p : ℕ) × (v < p) × (p < c.nodes) × ((inn ≡ begin_net c p + 1) ⊎ (inn ≡ begin_net c p + 3)))

module _ (c : Counts) where
  -- Both orders evaluate the first net before the second.
  abbrev pub Before : ℕ → ℕ → Type 0
  Before a b = (a < b) × ((b < master_net c) ⊎ (master_net c ≤ a))

  pub record Stands (g : NorGate) : Type 0 where
    pub low : complement_net c ≤ g.out
    pub below : g.out < whole_nets c
    pub inputs : AllByRecursion (λ i. Before i g.out) g.inputs
    pub distinct : Pairs (λ (a b : ℕ). a ≢ b) g.inputs

  -- a net that is evaluated by number
  low_before : (a b : ℕ) → a < b → b < master_net c → Before a b
  low_before a b lt m = (lt, inl m)

  one_input : (out a : ℕ) → complement_net c ≤ out → out < master_net c → a < out → Stands (record { out = out; inputs = a ∷ [] })
  one_input out a low m lt = record { low = low; below = omega arith; inputs = ((lt, inl m), tt); distinct = (tt, tt) }

  two_inputs : (out a b : ℕ) → complement_net c ≤ out → out < master_net c → a < out → b < out → (a ≡ b → ⊥)
      → Stands (record { out = out; inputs = a ∷ b ∷ [] })
  two_inputs out a b low m al bl ne = record {
    low = low;
    below = omega arith;
    inputs = ((al, inl m), ((bl, inl m), tt));
    distinct = ((ne, tt), (tt, tt));
  }

  -- the parts of a gate on named nets that are to be shown
  pub record Inputs (n : Numbering) (out : ℕ) (nets : List PartNet) : Type 0 where
    pub before : AllByRecursion (λ i. number n i < out) nets
    pub distinct : Pairs (λ (a b : PartNet). number n a ≢ number n b) nets

  low_inputs : (n : Numbering) (out : ℕ) (nets : List PartNet) → out < master_net c → AllByRecursion (λ i. number n i < out) nets
      → AllByRecursion (λ i. Before i out) (map (number n) nets)
  low_inputs n out [] m h = tt
  low_inputs n out (net ∷ nets) m h = ((h.0, inl m), low_inputs n out nets m h.1)

  pub any_inputs : (n : Numbering) (out : PartNet) (nets : List PartNet) → complement_net c ≤ number n out → number n out < master_net c
      → Inputs n (number n out) nets → Stands (numbered n (gate out nets))
  any_inputs n out nets low m h = record {
    low = low;
    below = omega arith;
    inputs = low_inputs n (number n out) nets m h.before;
    distinct = pairs_map (λ (a b : ℕ). a ≢ b) (number n) nets h.distinct;
  }

  -- ---- nodes

  pub in_before : (v inn : ℕ) → v < c.nodes → InPlace c v inn → (inn < begin_net c v) × (inn ≡ end_net c v + 1 → ⊥) × (start_net c < inn)
  in_before v inn lt (inl e) = (omega arith, λ f. omega (arith, f, e, lt), omega arith)
  in_before v inn lt (inr h) = elim h.3 [
    | inl e ↦ (let a = h.1 in let b = h.2 in omega (arith, a, b, e), λ f. let a = h.1 in let b = h.2 in omega (arith, f, e, a, b, lt), omega (arith, e))
    | inr e ↦ (let a = h.1 in let b = h.2 in omega (arith, a, b, e), λ f. let a = h.1 in let b = h.2 in omega (arith, f, e, a, b, lt), omega (arith, e))
  ]

  module _ (v inn l r : ℕ) (lt : v < c.nodes) (place : InPlace c v inn) where
    abbrev own : Numbering
    own = home_numbers c v inn l r

    complement_stands : (scan loops : Bool) → Stands (numbered own (gate NotBegins (complement_inputs scan loops)))
    complement_stands true loops = one_input (begin_net c v) 0 (omega arith) (omega arith) (omega arith)
    complement_stands false true =
        let h = in_before v inn lt place in
        two_inputs (begin_net c v) inn (end_net c v + 1) (omega arith) (omega arith) h.0 (omega arith) h.1
    complement_stands false false =
        let h = in_before v inn lt place in
        one_input (begin_net c v) inn (omega arith) (omega arith) h.0

    begin_stands : (scan : Bool) → Stands (numbered own (gate Begins (begin_inputs scan)))
    begin_stands true = record { low = omega arith; below = omega arith; inputs = tt; distinct = tt }
    begin_stands false = one_input (begin_net c v + 1) (begin_net c v) (omega arith) (omega arith) (omega arith)

    pub leaf_stands : (node : Node) (s : ℕ) → s < c.symbols → AllByRecursion (λ g. Stands (numbered own g)) (leaf_gates node s)
    leaf_stands node s sl = (
      one_input (end_net c v + 1) (end_net c v) (omega arith) (omega arith) (omega arith),
      (
        complement_stands node.scan node.loops,
        (
          begin_stands node.scan,
          (
            one_input (begin_net c v + 2) (symbol_net c + s) (omega arith) (omega arith) (omega arith),
            (
              record {
                low = omega arith;
                below = omega arith;
                inputs = ((omega arith, inl (omega arith)), ((omega arith, inl (omega arith)), ((omega arith, inl (omega arith)), tt)));
                distinct = ((λ e. omega (arith, e), (λ e. omega (arith, e), tt)), ((λ e. omega (arith, e), tt), (tt, tt)));
              },
              (
                record {
                  low = omega arith;
                  below = omega arith;
                  inputs = ((omega arith, inr (omega arith)), tt);
                  distinct = (tt, tt);
                },
                tt,
              ),
            ),
          ),
        ),
      ),
    )

    pub pair_stands : (node : Node) (right ends : List PartNet) → Inputs own (begin_net c v + 2) right → Inputs own (end_net c v) ends
        → AllByRecursion (λ g. Stands (numbered own g)) (pair_gates node right ends)
    pair_stands node right ends rights ended = (
      any_inputs own NotOut ends (omega arith) (omega arith) ended,
      (
        one_input (end_net c v + 1) (end_net c v) (omega arith) (omega arith) (omega arith),
        (
          complement_stands node.scan node.loops,
          (
            begin_stands node.scan,
            (
              any_inputs own NotRight right (omega arith) (omega arith) rights,
              (one_input (begin_net c v + 3) (begin_net c v + 2) (omega arith) (omega arith) (omega arith), tt),
            ),
          ),
        ),
      ),
    )

    module _ (lb : l < v) (rb : r < v) (differ : l ≡ r → ⊥) where
      rights_of : (eps : Bool) → Inputs own (begin_net c v + 2) (right_inputs eps)
      rights_of true = record { before = (omega arith, (omega arith, tt)); distinct = ((λ e. omega (arith, e), tt), (tt, tt)) }
      rights_of false = record { before = (omega arith, tt); distinct = (tt, tt) }

      both_ends : Inputs own (end_net c v) (RightOut ∷ LeftOut ∷ [])
      both_ends = record {
        before = (omega arith, (omega arith, tt));
        distinct = ((λ e. differ (omega (arith, e)), tt), (tt, tt));
      }

      ends_of : (eps : Bool) → Inputs own (end_net c v) (end_inputs eps)
      ends_of true = both_ends
      ends_of false = record { before = (omega arith, tt); distinct = (tt, tt) }

      pub sequence_stands : (nodes : List Node) (node : Node) → AllByRecursion (λ g. Stands (numbered own g)) (kind_gates nodes node (Seq l r))
      sequence_stands nodes node = pair_stands node (right_inputs (eps_at nodes l)) (end_inputs (eps_at nodes r)) (rights_of (eps_at nodes l)) (ends_of (eps_at nodes r))

      pub alternative_stands : (nodes : List Node) (node : Node) → AllByRecursion (λ g. Stands (numbered own g)) (kind_gates nodes node (Alt l r))
      alternative_stands nodes node =
          pair_stands node (Begins ∷ []) (RightOut ∷ LeftOut ∷ []) (record { before = (omega arith, tt); distinct = (tt, tt) }) both_ends

    pub marks_stand : (node : Node) → AllByRecursion (λ g. Stands (numbered own g)) (mark_gates c.outputs node)
    marks_stand node =
        each_piece (λ g. Stands (numbered own g)) (mark_gate node) 0 c.outputs
        (λ y l yl. mark_stands y (omega arith) ((flags_of node).marks y) ((flags_of node).eps_marks y))
      where
        mark_stands : (y : ℕ) → y < c.outputs → (a b : Bool) → AllByRecursion (λ g. Stands (numbered own g)) (mark_of y a b)
        mark_stands y yl true true = (
          two_inputs (shared_net c + y) (end_net c v + 1) (begin_net c v + 1) (omega arith) (omega arith) (omega arith) (omega arith) (λ e. omega (arith, e)),
          tt,
        )
        mark_stands y yl true false = (one_input (shared_net c + y) (end_net c v + 1) (omega arith) (omega arith) (omega arith), tt)
        mark_stands y yl false true = (one_input (shared_net c + y) (begin_net c v + 1) (omega arith) (omega arith) (omega arith), tt)
        mark_stands y yl false false = tt

  -- the gates of a node stand
  pub kind_stands : (nodes : List Node) (node : Node) (v inn : ℕ) (kind : NodeKind) → v < c.nodes → InPlace c v inn → KindFacts c v kind
      → AllByRecursion (λ g. Stands (numbered (home_of_kind c v inn kind) g)) (kind_gates nodes node kind ++ mark_gates c.outputs node)
  kind_stands nodes node v inn (Leaf s) lt place sl =
      each_append (λ g. Stands (numbered (home_numbers c v inn 0 0) g)) (kind_gates nodes node (Leaf s)) (mark_gates c.outputs node) (leaf_stands v inn 0 0 lt place node s sl) (marks_stand v inn 0 0 lt place node)
  kind_stands nodes node v inn (Seq l r) lt place h =
      each_append (λ g. Stands (numbered (home_numbers c v inn l r) g)) (kind_gates nodes node (Seq l r)) (mark_gates c.outputs node)
      (sequence_stands v inn l r lt place h.0 h.1 h.2 nodes node) (marks_stand v inn l r lt place node)
  kind_stands nodes node v inn (Alt l r) lt place h =
      each_append (λ g. Stands (numbered (home_numbers c v inn l r) g)) (kind_gates nodes node (Alt l r)) (mark_gates c.outputs node)
      (alternative_stands v inn l r lt place h.0 h.1 h.2 nodes node) (marks_stand v inn l r lt place node)

  -- ---- the frame

  module _ (root : ℕ) where
    complements_stand : AllByRecursion (λ g. Stands (numbered (frame_home c root) g)) (map complement_gate (range_with_len 0 c.lines))
    complements_stand =
        each_range (λ g. Stands (numbered (frame_home c root) g)) complement_gate 0 c.lines
        (λ i l lt. one_input (complement_net c + i) (5 + i) (omega arith) (omega arith) (omega arith))

    outputs_stand : AllByRecursion (λ g. Stands (numbered (frame_home c root) g)) (map output_gate (range_with_len 0 c.outputs))
    outputs_stand =
        each_range (λ g. Stands (numbered (frame_home c root) g)) output_gate 0 c.outputs
        (λ y l lt. one_input (output_net c + y) (shared_net c + y) (omega arith) (omega arith) (omega arith))

    mismatches_fit : (pattern : List PatternBit) → length pattern ≡ c.lines → (s : ℕ) → Inputs (frame_home c root) (symbol_net c + s) (mismatches pattern)
    mismatches_fit pattern size s = record {
      before =
          mismatches_each (λ net. number (frame_home c root) net < symbol_net c + s) pattern
          (λ line lt. (omega (arith, lt, size), omega (arith, lt, size)));
      distinct = mismatches_distinct (frame_home c root) c.lines refl pattern size;
    }

    symbols_stand : (symbols : List NamedPattern) → length symbols ≡ c.symbols → All (λ s. length s.pattern ≡ c.lines) symbols
        → AllByRecursion (λ g. Stands (numbered (frame_home c root) g)) (map (symbol_gate symbols) (range_with_len 0 (length symbols)))
    symbols_stand symbols size places =
        each_range (λ g. Stands (numbered (frame_home c root) g)) (symbol_gate symbols) 0 (length symbols)
        (λ s l lt.
        any_inputs (frame_home c root) (Symbol s) (mismatches (pattern_at symbols s)) (omega arith) (omega (arith, lt, size))
        (mismatches_fit (pattern_at symbols s) (places s _ (omega (arith, lt))) s))

    pub frame_stands : (tables : Tables) → length tables.lines ≡ c.lines → length tables.symbols ≡ c.symbols → length tables.outputs ≡ c.outputs
        → All (λ s. length s.pattern ≡ c.lines) tables.symbols
        → AllByRecursion (λ g. Stands (numbered (frame_home c root) g)) (frame_gates tables)
    frame_stands tables lines symbols outputs places =
        let P : NamedGate → Type 0 = λ g. Stands (numbered (frame_home c root) g) in
        each_append P _ (gate Inverse (Master ∷ []) ∷ [])
        (each_append P _ (map output_gate (range_with_len 0 (length tables.outputs)))
        (each_append P _ (gate In (Stored ∷ []) ∷ [])
        (each_append P (map complement_gate (range_with_len 0 (length tables.lines))) (map (symbol_gate tables.symbols) (range_with_len 0 (length tables.symbols)))
        (rw lines complements_stand) (symbols_stand tables.symbols symbols places))
        (one_input (start_net c + 1) (start_net c) (omega arith) (omega arith) (omega arith), tt))
        (rw outputs outputs_stand)) (
          record {
            low = omega arith;
            below = omega arith;
            inputs = ((omega arith, inr (omega arith)), tt);
            distinct = (tt, tt);
          },
          tt,
        )

  pub loads_stand : AllByRecursion Stands (map (load_gate c) (range_with_len 0 c.outputs))
  loads_stand =
      each_range Stands (load_gate c) 0 c.outputs
      (λ y l lt. record { low = omega arith; below = omega arith; inputs = tt; distinct = tt })
