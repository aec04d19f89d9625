-- What stands in the parts of a tree's nodes and of its frame.
use Rattle.std.proofs.Common.{◌≡◌, inl, inr, ℕ, ◌+◌, ◌<◌, ◌≤◌, ◌==◌, Bool, true, false, List, [], ◌∷◌, ◌++◌, map, length, refl, ap, arith, lt-ltb, le-ltb}
use Rattle.std.specs.List.{AllByRecursion, list_any, range_with_len}
use Rattle.std.proofs.lemmas.Bool.{ne_eqb, cases_lt}
use Rattle.std.proofs.lemmas.List.{length-map, map-append}
use Rattle.std.proofs.lemmas.List.Elements.{All-from_recursion}
use Rattle.std.proofs.lemmas.List.FromFn.{length-map-range_with_len}
use Rattle.rx_lang.specs.Tables.{Tables, IsSpecification}
use Rattle.star_normal.specs.declared.node.Node.{Node}
use Rattle.star_normal.specs.declared.node.NodeKind.{NodeKind}
use Rattle.star_normal.specs.declared.node.NodeKind.TheVariants.{Leaf, Seq, Alt}
use Rattle.star_normal.specs.Tables.{TreeTable, plain_node, flags_of}
use Rattle.nor_net.specs.Netlist.{NorGate}
use Rattle.nor_net.specs.Evaluation.{is_output}
use Rattle.nor_net.specs.PartShapes.{HasShape}
use Rattle.cell_network.specs.declared.numbering.Counts.{Counts}
use Rattle.cell_network.specs.declared.numbering.Numbering.{Numbering}
use Rattle.cell_network.specs.declared.part_net.PartNet.TheVariants.{Shared}
use Rattle.cell_network.specs.Shapes.{NamedGate, number, numbered, kind_gates, mark_of, mark_gate, mark_gates, frame_gates}
use Rattle.cell_network.specs.Parts.{node_at, inn_wire, kind_numbers, frame_numbers, node_part_of, frame_part_of, part_of}
use Rattle.cell_network.specs.Home.{AreFew}
use Rattle.cell_network.specs.TreeParts.{IsWired, AreParts, HaveShapes}
use Rattle.cell_network.proofs.Named.{NamesSymbols}
use Rattle.cell_network.proofs.Ranges.{each_piece, each_map, each_weaker}
use Rattle.cell_network.proofs.PartFits.{few_marks}
use Rattle.cell_network.proofs.NodeParts.{node_part_fits, six_gates, few_transfers}
use Rattle.cell_network.proofs.FrameParts.{frame_part_fits, gates_number}
use Rattle.cell_network.proofs.LoadNets.{output_in, outs_driven}

nothing_behind : {X : Type 0} (xs : List X) → xs ≡ xs ++ []
nothing_behind [] = refl
nothing_behind (x ∷ xs) = ap (λ ys. x ∷ ys) (nothing_behind xs)

module _ (tree : TreeTable) (tables : Tables) (spec : IsSpecification tables) (named : NamesSymbols (length tables.symbols) tree.nodes) where
  -- the counts without the nodes, on which no part depends
  abbrev c : Counts
  c = record { lines = length tables.lines; symbols = length tables.symbols; outputs = length tables.outputs; nodes = 0 }

  abbrev n : ℕ
  n = length tree.nodes

  few : AreFew c
  few = record { lines = spec.few_lines; symbols = spec.few_symbols; outputs = spec.few_outputs; nodes = omega arith }

  abbrev node : ℕ → Node
  node v = node_at tree.nodes v

  node_part : (v : ℕ) → v < n → part_of tree tables v ≡ node_part_of c tree.nodes (node v)
  node_part v lt = rw (lt-ltb v n lt) refl

  frame_part : (v : ℕ) → n ≤ v → part_of tree tables v ≡ frame_part_of c tables
  frame_part v ge = rw (le-ltb v n ge) refl

  wired : (v : ℕ) → IsWired tree tables v
  wired v = elim (cases_lt v n) [
    | inl lt ↦
        record {
          is_part = rw (node_part v lt) (node_part_fits c few tree.nodes (node v) (named v (plain_node (Leaf 0) false) lt));
          vdd = rw (node_part v lt) refl;
          gnd = rw (node_part v lt) refl;
          phi1 = rw (node_part v lt) refl;
          phi2 = rw (node_part v lt) refl;
        }
    | inr ge ↦
        record {
          is_part = rw (frame_part v ge) (frame_part_fits c tables refl refl refl spec.place_per_line few);
          vdd = rw (frame_part v ge) refl;
          gnd = rw (frame_part v ge) refl;
          phi1 = rw (frame_part v ge) refl;
          phi2 = rw (frame_part v ge) refl;
        }
  ]

  pub are_parts : AreParts tree tables
  are_parts = record {
    wired = λ v le. wired v;
    node_nets = λ v lt. rw (node_part v lt) refl;
    frame_nets = rw (frame_part n (omega arith)) refl;
  }

  -- ---- shapes of nodes

  abbrev loaded : ℕ → List NamedGate
  loaded v = kind_gates tree.nodes (node v) (node v).kind

  abbrev marks : ℕ → List NamedGate
  marks v = mark_gates c.outputs (node v)

  abbrev numbers : ℕ → Numbering
  numbers v = kind_numbers c (node v).kind

  abbrev loads : ℕ → List ℕ
  loads v = map (λ g. number (numbers v) g.out) (loaded v)

  shared_is : (kind : NodeKind) → (kind_numbers c kind).shared ≡ c.symbols
  shared_is (Leaf s) = refl
  shared_is (Seq l r) = refl
  shared_is (Alt l r) = refl

  -- no load of a node's part is a shared wire
  loads_behind : (list : List Node) (d : Node) (kind : NodeKind) → AllByRecursion (λ g. inn_wire c ≤ number (kind_numbers c kind) g.out) (kind_gates list d kind)
  loads_behind list d (Leaf s) = (omega arith, (omega arith, (omega arith, (omega arith, (omega arith, (omega arith, tt))))))
  loads_behind list d (Seq l r) = (omega arith, (omega arith, (omega arith, (omega arith, (omega arith, (omega arith, tt))))))
  loads_behind list d (Alt l r) = (omega arith, (omega arith, (omega arith, (omega arith, (omega arith, (omega arith, tt))))))

  not_among : (out : ℕ) → out < inn_wire c → (xs : List ℕ) → AllByRecursion (λ x. inn_wire c ≤ x) xs → list_any (λ net. net == out) xs ≡ false
  not_among out lt [] h = refl
  not_among out lt (x ∷ xs) h = let low = h.0 in rw (ne_eqb x out (λ e. omega (arith, e, low, lt))) (not_among out lt xs h.1)

  marks_unloaded : (v : ℕ) → AllByRecursion (λ (g : NorGate). list_any (λ net. net == g.out) (loads v) ≡ false) (map (numbered (numbers v)) (marks v))
  marks_unloaded v =
      each_map (λ (g : NorGate). list_any (λ net. net == g.out) (loads v) ≡ false) (numbered (numbers v)) (marks v)
      (each_piece (λ (g : NamedGate). list_any (λ net. net == number (numbers v) g.out) (loads v) ≡ false) (mark_gate (node v)) 0 c.outputs
      (λ y l yl. one y (omega (arith, yl)) ((flags_of (node v)).marks y) ((flags_of (node v)).eps_marks y)))
    where
      free : (y : ℕ) → y < c.outputs → list_any (λ net. net == (numbers v).shared + y) (loads v) ≡ false
      free y yl =
          not_among ((numbers v).shared + y) (rw (shared_is (node v).kind) (omega (arith, yl))) (loads v)
          (each_map (λ x. inn_wire c ≤ x) (λ (g : NamedGate). number (numbers v) g.out) (loaded v) (loads_behind tree.nodes (node v) (node v).kind))

      one : (y : ℕ) → y < c.outputs → (p q : Bool) → AllByRecursion (λ (g : NamedGate). list_any (λ net. net == number (numbers v) g.out) (loads v) ≡ false) (mark_of y p q)
      one y yl true true = (free y yl, tt)
      one y yl true false = (free y yl, tt)
      one y yl false true = (free y yl, tt)
      one y yl false false = tt

  node_shape : (v k : ℕ) → v < n → length (node_part_of c tree.nodes (node v)).transfers ≤ k → HasShape (part_of tree tables v) 6 (length tables.outputs) 0 k
  node_shape v k lt few_led =
      rw (node_part v lt) (record {
        loaded_gates = map (numbered (numbers v)) (loaded v);
        other_gates = map (numbered (numbers v)) (marks v);
        gates = map-append (numbered (numbers v)) (loaded v) (marks v);
        few_loaded = omega (arith, length-map (loaded v) (numbered (numbers v)), six_gates c tree.nodes (node v) (node v).kind);
        few_others = omega (arith, length-map (marks v) (numbered (numbers v)), few_marks c (node v));
        others_unloaded =
            All-from_recursion (λ (g : NorGate). list_any (λ net. net == g.out) (loads v) ≡ false) (map (numbered (numbers v)) (marks v)) (marks_unloaded v);
        driven_loads = loads v;
        bare_loads = [];
        loads = nothing_behind (loads v);
        driven =
            All-from_recursion (λ net. is_output (map (numbered (numbers v)) (loaded v ++ marks v)) net ≡ true) (loads v)
            (each_weaker (λ net. is_output (map (numbered (numbers v)) (loaded v)) net ≡ true)
            (λ net. is_output (map (numbered (numbers v)) (loaded v ++ marks v)) net ≡ true)
            (λ net h. rw (map-append (numbered (numbers v)) (loaded v) (marks v)) (output_in (map (numbered (numbers v)) (loaded v)) (map (numbered (numbers v)) (marks v)) net (inl h)))
            (loads v) (outs_driven (numbers v) (loaded v)));
        few_bare = omega arith;
        few_transfers = few_led;
      })

  frame_shape : HasShape (part_of tree tables n) (length tables.lines + length tables.symbols + length tables.outputs + 2) 0 (length tables.outputs) 2
  frame_shape =
      rw (frame_part n (omega arith)) (record {
        loaded_gates = map (numbered (frame_numbers c)) (frame_gates tables);
        other_gates = [];
        gates = nothing_behind (map (numbered (frame_numbers c)) (frame_gates tables));
        few_loaded =
            omega (arith, length-map (frame_gates tables) (numbered (frame_numbers c)), gates_number c tables refl refl refl spec.place_per_line);
        few_others = omega arith;
        others_unloaded = All-from_recursion (λ (g : NorGate). list_any (λ net. net == g.out) (frame_part_of c tables).loads ≡ false) [] tt;
        driven_loads = map (λ g. number (frame_numbers c) g.out) (frame_gates tables);
        bare_loads = map (λ y. number (frame_numbers c) (Shared y)) (range_with_len 0 c.outputs);
        loads = refl;
        driven =
            All-from_recursion (λ net. is_output (map (numbered (frame_numbers c)) (frame_gates tables)) net ≡ true)
            (map (λ g. number (frame_numbers c) g.out) (frame_gates tables)) (outs_driven (frame_numbers c) (frame_gates tables));
        few_bare = omega (arith, length-map-range_with_len (λ y. number (frame_numbers c) (Shared y)) 0 c.outputs);
        few_transfers = omega arith;
      })

  pub have_shapes : HaveShapes tree tables
  have_shapes = record {
    leaf = λ v s lt e. node_shape v 2 lt (few_transfers c (node v).kind);
    pair = λ v l r lt kind.
        node_shape v 0 lt (elim kind [ inl e ↦ rw e (omega arith) | inr e ↦ rw e (omega arith) ]);
    frame = frame_shape;
  }
