-- The gates of the whole network of cells: all stand behind their inputs, and each net but the shared wires has one gate.
use Rattle.std.specs.Prelude.{flat_map}
use Rattle.std.proofs.Common.{◌≡◌, ◌≢◌, ◌⊎◌, inl, inr, ℕ, zero, suc, ◌+◌, ◌<◌, ◌≤◌, ◌==◌, true, false, List, [], ◌∷◌, ◌++◌, map, length, slice_get, Some, All, refl, ap, sym, arith, eq-eqb}
use Rattle.std.specs.List.{AllByRecursion, range_with_len}
use Rattle.std.proofs.lemmas.Bool.{cases_eq, or_left, or_right}
use Rattle.std.proofs.lemmas.List.{map-append}
use Rattle.std.proofs.lemmas.Option.{slice_get-get_or, slice_get_within}
use Rattle.rx_lang.specs.Tables.{Tables, IsSpecification}
use Rattle.star_normal.specs.declared.node.Node.{Node}
use Rattle.star_normal.specs.declared.node.NodeKind.{NodeKind}
use Rattle.star_normal.specs.declared.node.NodeKind.TheVariants.{Leaf, Seq, Alt}
use Rattle.star_normal.specs.Tables.{TreeTable, IsTree, plain_node}
use Rattle.nor_net.specs.Netlist.{NorGate}
use Rattle.nor_net.specs.Evaluation.{is_output}
use Rattle.cell_network.specs.declared.numbering.Counts.{Counts}
use Rattle.cell_network.specs.declared.numbering.Numbering.{Numbering}
use Rattle.cell_network.specs.declared.part_net.PartNet.TheVariants.{In, Inverse, Master, Stored}
use Rattle.cell_network.specs.Shapes.{NamedGate, number, numbered, gate, kind_gates, mark_gates, mismatches, pattern_at, complement_gate, symbol_gate, output_gate, frame_gates}
use Rattle.cell_network.specs.Parts.{NamesSymbol, counts_of, node_at}
use Rattle.cell_network.specs.Home.{complement_net, symbol_net, start_net, shared_net, output_net, master_net, in_net, home_of_kind, home, frame_home}
use Rattle.cell_network.specs.Whole.{load_gate, cell_gates, whole_gates}
use Rattle.cell_network.proofs.Named.{NamesSymbols}
use Rattle.cell_network.proofs.Feeding.{fed_cases, left_before, right_before, parts_differ}
use Rattle.cell_network.proofs.Ranges.{each_append, each_map, each_range, each_piece, each_weaker, pairs_map}
use Rattle.cell_network.proofs.Standing.{KindFacts, InPlace, Stands, kind_stands, frame_stands, loads_stand}
use Rattle.cell_network.proofs.Nors.{Off, output_append_left, output_append_right, IsNor, Apart, nor_at, nor_left, nor_right, nor_piece, nor_range, nor_map_left, nor_map_right}
use Rattle.cell_network.proofs.Outs.{IsOwn, IsShared, IsFrame, kind_outs, kind_apart, mark_outs, frame_outs, load_outs, own_frame, own_shared, frame_shared, own_own}

-- ---- lists

pub get_map : {W X : Type 0} (f : W → X) (ws : List W) (k : ℕ) (w : W) → slice_get ws k ≡ Some w → slice_get (map f ws) k ≡ Some (f w)
get_map f [] k w e = absurd (cc)
get_map f (x ∷ ws) zero w e = let same : x ≡ w = cc in ap (λ (y : _). Some (f y)) same
get_map f (x ∷ ws) (suc k) w e = get_map f ws k w e

each_at : {W : Type 0} (P : W → Type 0) (ws : List W) (k : ℕ) (w : W) → AllByRecursion P ws → slice_get ws k ≡ Some w → P w
each_at P [] k w h e = absurd (cc)
each_at P (x ∷ ws) zero w h e = let same : x ≡ w = cc in rw (← same) h.0
each_at P (x ∷ ws) (suc k) w h e = each_at P ws k w h.1 e

module _ (tree : TreeTable) (tables : Tables) (t : IsTree tree) (spec : IsSpecification tables) (named : NamesSymbols (length tables.symbols) tree.nodes) where
  abbrev pub c : Counts
  c = counts_of tree tables

  abbrev pub nodes : List Node
  nodes = tree.nodes

  abbrev pub fh : Numbering
  fh = frame_home c tree.root

  abbrev pub all_gates : List NorGate
  all_gates = whole_gates c tree tables

  -- ---- nodes

  pub here : (v : ℕ) → v < length nodes → slice_get nodes v ≡ Some (node_at nodes v)
  here v lt = slice_get-get_or nodes v _ lt

  pub kind_facts : (v : ℕ) → v < length nodes → KindFacts c v (node_at nodes v).kind
  kind_facts v lt = by_kind (node_at nodes v).kind refl
    where
      pair : (l r : ℕ) → ((node_at nodes v).kind ≡ Seq l r) ⊎ ((node_at nodes v).kind ≡ Alt l r) → All (λ child. child < v) (l ∷ r ∷ [])
          → (l < v) × (r < v) × (l ≡ r → ⊥)
      pair l r kind before = (before 0 0 (omega arith), before 1 0 (omega arith), parts_differ c tree t v l r (node_at nodes v) (here v lt) kind)

      by_kind : (kind : NodeKind) → (node_at nodes v).kind ≡ kind → KindFacts c v kind
      by_kind (Leaf s) e = let known : NamesSymbol (length tables.symbols) (Leaf s) = rw e at (named v (plain_node (Leaf 0) false) lt) in known
      by_kind (Seq l r) e = pair l r (inl e) (rw e at (t.children_before v (node_at nodes v) (here v lt)))
      by_kind (Alt l r) e = pair l r (inr e) (rw e at (t.children_before v (node_at nodes v) (here v lt)))

  pub in_place : (v : ℕ) → InPlace c v (in_net c nodes v)
  in_place v =
      fed_cases c (InPlace c v) 0 nodes v (start_net c + 1) (inl refl)
      (λ j l r node e kind.
      let within : j < length nodes = slice_get_within nodes j node e in
      let left : l < j = left_before c tree t j l r node e kind in
      let right : r < j = right_before c tree t j l r node e kind in (
        λ same. inr (0 + j, omega (arith, left, same), omega (arith, within), inl refl),
        λ same. inr (0 + j, omega (arith, right, same), omega (arith, within), inr refl),
      ))

  -- ---- all gates stand

  cell_stands : (v : ℕ) → v < length nodes → AllByRecursion (Stands c) (cell_gates c nodes v)
  cell_stands v lt =
      each_map (Stands c) (numbered (home c nodes v (node_at nodes v))) _
      (kind_stands c nodes (node_at nodes v) v (in_net c nodes v) (node_at nodes v).kind lt (in_place v) (kind_facts v lt))

  pub whole_stands : AllByRecursion (Stands c) all_gates
  whole_stands =
      each_append (Stands c) _ (flat_map (cell_gates c nodes) (range_with_len 0 c.nodes))
      (each_append (Stands c) (map (numbered fh) (frame_gates tables)) (map (load_gate c) (range_with_len 0 c.outputs))
      (each_map (Stands c) (numbered fh) (frame_gates tables) (frame_stands c tree.root tables refl refl refl spec.place_per_line)) (loads_stand c))
      (each_piece (Stands c) (cell_gates c nodes) 0 c.nodes (λ v l lt. cell_stands v (omega (arith, lt))))

  -- ---- which part drives a net

  pub off_frame : (net : ℕ) → ((k : ℕ) → IsFrame c k → k ≢ net) → Off net (map (numbered fh) (frame_gates tables))
  off_frame net h =
      each_map (λ (g : NorGate). g.out ≢ net) (numbered fh) (frame_gates tables)
      (each_weaker (λ (g : NamedGate). IsFrame c (number fh g.out)) (λ g. number fh g.out ≢ net) (λ g f. h (number fh g.out) f) (frame_gates tables)
      (frame_outs c tree.root tables refl refl refl))

  pub off_loads : (net : ℕ) → ((k : ℕ) → IsShared c k → k ≢ net) → Off net (map (load_gate c) (range_with_len 0 c.outputs))
  off_loads net h =
      each_weaker (λ (g : NorGate). IsShared c g.out) (λ g. g.out ≢ net) (λ g f. h g.out f) (map (load_gate c) (range_with_len 0 c.outputs)) (load_outs c)

  abbrev pub of_node : ℕ → Numbering
  of_node v = home c nodes v (node_at nodes v)

  abbrev pub kinds : ℕ → List NamedGate
  kinds v = kind_gates nodes (node_at nodes v) (node_at nodes v).kind

  abbrev pub marks : ℕ → List NamedGate
  marks v = mark_gates c.outputs (node_at nodes v)

  shared_of : (v : ℕ) → (of_node v).shared ≡ shared_net c
  shared_of v = by_kind (node_at nodes v).kind
    where
      by_kind : (kind : NodeKind) → (home_of_kind c v (in_net c nodes v) kind).shared ≡ shared_net c
      by_kind (Leaf s) = refl
      by_kind (Seq l r) = refl
      by_kind (Alt l r) = refl

  pub off_kinds : (v net : ℕ) → ((k : ℕ) → IsOwn c v k → k ≢ net) → Off net (map (numbered (of_node v)) (kinds v))
  off_kinds v net h =
      each_map (λ (g : NorGate). g.out ≢ net) (numbered (of_node v)) (kinds v)
      (each_weaker (λ (g : NamedGate). IsOwn c v (number (of_node v) g.out)) (λ g. number (of_node v) g.out ≢ net) (λ g f. h (number (of_node v) g.out) f) (kinds v)
      (kind_outs c nodes (node_at nodes v) v (in_net c nodes v) (node_at nodes v).kind))

  pub off_marks : (v net : ℕ) → ((k : ℕ) → IsShared c k → k ≢ net) → Off net (map (numbered (of_node v)) (marks v))
  off_marks v net h =
      each_map (λ (g : NorGate). g.out ≢ net) (numbered (of_node v)) (marks v)
      (each_weaker (λ (g : NamedGate). IsShared c (number (of_node v) g.out)) (λ g. number (of_node v) g.out ≢ net) (λ g f. h (number (of_node v) g.out) f) (marks v)
      (mark_outs c (of_node v) (shared_of v) (node_at nodes v)))

  pub off_cell : (v net : ℕ) → ((k : ℕ) → IsOwn c v k → k ≢ net) → ((k : ℕ) → IsShared c k → k ≢ net) → Off net (cell_gates c nodes v)
  off_cell v net h k = rw (map-append (numbered (of_node v)) (kinds v) (marks v)) (each_append (λ (g : NorGate). g.out ≢ net) _ _ (off_kinds v net h) (off_marks v net k))

  -- ---- the gates of a node

  pub cell_nor : (v k : ℕ) (g : NamedGate) → v < length nodes → slice_get (kinds v) k ≡ Some g
      → IsNor all_gates (number (of_node v) g.out) (map (number (of_node v)) g.inputs)
  cell_nor v k g lt at =
      let own : IsOwn c v (number (of_node v) g.out) =
      each_at (λ (x : NamedGate). IsOwn c v (number (of_node v) x.out)) (kinds v) k g (kind_outs c nodes (node_at nodes v) v (in_net c nodes v) (node_at nodes v).kind) at in
      let net : ℕ = number (of_node v) g.out in
      let shared : (b : ℕ) → IsShared c b → b ≢ net = λ b f. own_shared c v net b lt own f in
      nor_right _ (flat_map (cell_gates c nodes) (range_with_len 0 c.nodes)) net _
      (each_append (λ (x : NorGate). x.out ≢ net) _ _ (off_frame net (λ b f. own_frame c v net b lt own f)) (off_loads net shared))
      (nor_piece (cell_gates c nodes) v net _
      (nor_map_left (numbered (of_node v)) (kinds v) (marks v) net _
      (nor_at (map (numbered (of_node v)) (kinds v)) k (numbered (of_node v) g)
      (pairs_map Apart (numbered (of_node v)) (kinds v) (kind_apart c nodes (node_at nodes v) v (in_net c nodes v) (node_at nodes v).kind lt))
      (get_map (numbered (of_node v)) (kinds v) k g at))
      (off_marks v net shared))
      0 c.nodes (omega arith) (omega (arith, lt))
      (λ u l ul ne. off_cell u net (λ b f. own_own c u v b net (omega (arith, ul)) lt ne f own) shared))

  -- ---- the gates of the frame

  abbrev complements : List NamedGate
  complements = map complement_gate (range_with_len 0 (length tables.lines))

  abbrev symbols : List NamedGate
  symbols = map (symbol_gate tables.symbols) (range_with_len 0 (length tables.symbols))

  abbrev outputs : List NamedGate
  outputs = map output_gate (range_with_len 0 (length tables.outputs))

  abbrev start : List NamedGate
  start = gate In (Stored ∷ []) ∷ []

  abbrev last : List NamedGate
  last = gate Inverse (Master ∷ []) ∷ []

  -- a net that one gate of the frame drives has that gate alone
  frame_nor : (net : ℕ) (inputs : List ℕ) → IsFrame c net → IsNor (map (numbered fh) (frame_gates tables)) net inputs → IsNor all_gates net inputs
  frame_nor net inputs f h =
      nor_left (map (numbered fh) (frame_gates tables) ++ map (load_gate c) (range_with_len 0 c.outputs)) (flat_map (cell_gates c nodes) (range_with_len 0 c.nodes)) net inputs
      (nor_left (map (numbered fh) (frame_gates tables)) (map (load_gate c) (range_with_len 0 c.outputs)) net inputs h (off_loads net (λ b k. frame_shared c net b f k)))
      (each_piece (λ (x : NorGate). x.out ≢ net) (cell_gates c nodes) 0 c.nodes
      (λ u l ul.
      off_cell u net (λ b k e. own_frame c u b net (omega (arith, ul)) k f (sym e)) (λ b k. frame_shared c net b f k)))

  off_range : (f : ℕ → NamedGate) (n net : ℕ) → ((k : ℕ) → k < n → number fh (f k).out ≢ net) → Off net (map (numbered fh) (map f (range_with_len 0 n)))
  off_range f n net h =
      each_map (λ (g : NorGate). g.out ≢ net) (numbered fh) (map f (range_with_len 0 n))
      (each_range (λ (g : NamedGate). number fh g.out ≢ net) f 0 n (λ k l lt. h k (omega (arith, lt))))

  pub complement_nor : (i : ℕ) → i < length tables.lines → IsNor all_gates (complement_net c + i) ((5 + i) ∷ [])
  complement_nor i lt =
      frame_nor (complement_net c + i) ((5 + i) ∷ []) (inl (omega arith, omega (arith, lt)))
      (nor_map_left (numbered fh) (complements ++ symbols ++ start ++ outputs) last (complement_net c + i) _
      (nor_map_left (numbered fh) (complements ++ symbols ++ start) outputs (complement_net c + i) _
      (nor_map_left (numbered fh) (complements ++ symbols) start (complement_net c + i) _
      (nor_map_left (numbered fh) complements symbols (complement_net c + i) _
      (nor_range (numbered fh) complement_gate 0 (length tables.lines) i (omega arith) (omega arith) (λ j ne e. ne (omega (arith, e))))
      (off_range (symbol_gate tables.symbols) (length tables.symbols) _ (λ k kl e. omega (arith, e, lt))))
      (λ e. omega (arith, e, lt), tt))
      (off_range output_gate (length tables.outputs) _ (λ k kl e. omega (arith, e, lt))))
      (λ e. omega (arith, e, lt), tt))

  pub symbol_nor : (s : ℕ) → s < length tables.symbols
      → IsNor all_gates (symbol_net c + s) (map (number fh) (mismatches (pattern_at tables.symbols s)))
  symbol_nor s lt =
      frame_nor (symbol_net c + s) _ (inl (omega arith, omega (arith, lt)))
      (nor_map_left (numbered fh) (complements ++ symbols ++ start ++ outputs) last (symbol_net c + s) _
      (nor_map_left (numbered fh) (complements ++ symbols ++ start) outputs (symbol_net c + s) _
      (nor_map_left (numbered fh) (complements ++ symbols) start (symbol_net c + s) _
      (nor_map_right (numbered fh) complements symbols (symbol_net c + s) _
      (off_range complement_gate (length tables.lines) _ (λ k kl e. omega (arith, e, kl)))
      (nor_range (numbered fh) (symbol_gate tables.symbols) 0 (length tables.symbols) s (omega arith) (omega arith) (λ j ne e. ne (omega (arith, e)))))
      (λ e. omega (arith, e, lt), tt))
      (off_range output_gate (length tables.outputs) _ (λ k kl e. omega (arith, e, lt))))
      (λ e. omega (arith, e, lt), tt))

  pub start_nor : IsNor all_gates (start_net c + 1) (start_net c ∷ [])
  start_nor =
      frame_nor (start_net c + 1) (start_net c ∷ []) (inr (inl refl))
      (nor_map_left (numbered fh) (complements ++ symbols ++ start ++ outputs) last (start_net c + 1) _
      (nor_map_left (numbered fh) (complements ++ symbols ++ start) outputs (start_net c + 1) _
      (nor_map_right (numbered fh) (complements ++ symbols) start (start_net c + 1) _
      (rw (map-append (numbered fh) complements symbols) (each_append (λ (x : NorGate). x.out ≢ start_net c + 1) _ _
      (off_range complement_gate (length tables.lines) _ (λ k kl e. omega (arith, e, kl)))
      (off_range (symbol_gate tables.symbols) (length tables.symbols) _ (λ k kl e. omega (arith, e, kl)))))
      (nor_at (map (numbered fh) start) 0 (numbered fh (gate In (Stored ∷ []))) (tt, tt) refl))
      (off_range output_gate (length tables.outputs) _ (λ k kl e. omega (arith, e))))
      (λ e. omega (arith, e), tt))

  early_off : (net : ℕ) → start_net c + 1 < net → Off net (map (numbered fh) (complements ++ symbols ++ start))
  early_off net lt =
      rw (map-append (numbered fh) (complements ++ symbols) start, map-append (numbered fh) complements symbols)
      (each_append (λ (x : NorGate). x.out ≢ net) _ _
      (each_append (λ (x : NorGate). x.out ≢ net) _ _
      (off_range complement_gate (length tables.lines) _ (λ k kl e. omega (arith, e, kl, lt)))
      (off_range (symbol_gate tables.symbols) (length tables.symbols) _ (λ k kl e. omega (arith, e, kl, lt))))
      (λ e. omega (arith, e, lt), tt))

  pub output_nor : (y : ℕ) → y < length tables.outputs → IsNor all_gates (output_net c + y) ((shared_net c + y) ∷ [])
  output_nor y lt =
      frame_nor (output_net c + y) ((shared_net c + y) ∷ []) (inr (inr (inl (omega arith, omega (arith, lt)))))
      (nor_map_left (numbered fh) (complements ++ symbols ++ start ++ outputs) last (output_net c + y) _
      (nor_map_right (numbered fh) (complements ++ symbols ++ start) outputs (output_net c + y) _ (early_off (output_net c + y) (omega arith))
      (nor_range (numbered fh) output_gate 0 (length tables.outputs) y (omega arith) (omega arith) (λ j ne e. ne (omega (arith, e)))))
      (λ e. omega (arith, e, lt), tt))

  pub inverse_nor : IsNor all_gates (master_net c + 1) (master_net c ∷ [])
  inverse_nor =
      frame_nor (master_net c + 1) (master_net c ∷ []) (inr (inr (inr refl)))
      (nor_map_right (numbered fh) (complements ++ symbols ++ start ++ outputs) last (master_net c + 1) _
      (rw (map-append (numbered fh) (complements ++ symbols ++ start) outputs) (each_append (λ (x : NorGate). x.out ≢ master_net c + 1) _ _
      (early_off (master_net c + 1) (omega arith)) (off_range output_gate (length tables.outputs) _ (λ k kl e. omega (arith, e, kl)))))
      (nor_at (map (numbered fh) last) 0 (numbered fh (gate Inverse (Master ∷ []))) (tt, tt) refl))

  -- ---- the shared wires

  loaded : (y a m : ℕ) → a ≤ y → y < a + m → is_output (map (load_gate c) (range_with_len a m)) (shared_net c + y) ≡ true
  loaded y a zero l lt = absurd (omega arith)
  loaded y a (suc m) l lt =
      elim (cases_eq a y) [
        | inl e ↦ or_left (shared_net c + a == shared_net c + y) (is_output (map (load_gate c) (range_with_len (a + 1) m)) (shared_net c + y)) (eq-eqb (shared_net c + a) (shared_net c + y) (omega (arith, e)))
        | inr ne ↦ or_right (shared_net c + a == shared_net c + y) (is_output (map (load_gate c) (range_with_len (a + 1) m)) (shared_net c + y)) (loaded y (a + 1) m (omega (arith, ne)) (omega arith))
      ]

  -- a shared wire is an output
  pub shared_output : (y : ℕ) → y < c.outputs → is_output all_gates (shared_net c + y) ≡ true
  shared_output y lt =
      output_append_left (map (numbered fh) (frame_gates tables) ++ map (load_gate c) (range_with_len 0 c.outputs))
      (flat_map (cell_gates c nodes) (range_with_len 0 c.nodes)) (shared_net c + y)
      (output_append_right (map (numbered fh) (frame_gates tables)) (map (load_gate c) (range_with_len 0 c.outputs)) (shared_net c + y)
      (loaded y 0 c.outputs (omega arith) (omega arith)))
