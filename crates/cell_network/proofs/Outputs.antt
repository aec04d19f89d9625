-- An output of the network of cells is high exactly where some node pulls its shared wire.
use Rattle.std.specs.Prelude.{flat_map}
use Rattle.std.proofs.Common.{◌≡◌, ◌≢◌, ◌↔◌, inl, inr, ℕ, zero, suc, ◌+◌, ◌<◌, ◌≤◌, ◌==◌, ◌&&◌, ◌||◌, not, Bool, true, false, List, ◌++◌, map, length, refl, ap, sym, ◌∙◌, arith, eq-eqb}
use Rattle.std.specs.List.{range_with_len}
use Rattle.std.proofs.lemmas.Bool.{cases_eq, or_cases, or_left, or_right}
use Rattle.std.proofs.lemmas.List.{map-append}
use Rattle.std.proofs.lemmas.Option.{slice_get_within}
use Rattle.rx_lang.specs.Tables.{Tables, IsSpecification}
use Rattle.star_normal.specs.declared.node.Node.{Node}
use Rattle.star_normal.specs.declared.node.NodeKind.{NodeKind}
use Rattle.star_normal.specs.declared.node.NodeKind.TheVariants.{Leaf, Seq, Alt}
use Rattle.star_normal.specs.Tables.{TreeTable, IsTree, flags_of}
use Rattle.switch_net.specs.Clock.{Drive}
use Rattle.nor_net.specs.Netlist.{NorGate}
use Rattle.nor_net.specs.Evaluation.{value_at, is_pulled}
use Rattle.nor_net.specs.Equations.{Solves}
use Rattle.cell_network.specs.declared.numbering.Counts.{Counts}
use Rattle.cell_network.specs.declared.numbering.Numbering.{Numbering}
use Rattle.cell_network.specs.Cells.{CellValues, pulls, SomeCellPulls}
use Rattle.cell_network.specs.Shapes.{NamedGate, numbered, mark_of, mark_gate, mark_gates, frame_gates}
use Rattle.cell_network.specs.Parts.{counts_of, node_at}
use Rattle.cell_network.specs.Home.{end_net, begin_net, shared_net, output_net, in_net, home_of_kind}
use Rattle.cell_network.specs.Whole.{load_gate, cell_gates, whole_gates, cells_of}
use Rattle.cell_network.proofs.Named.{NamesSymbols}
use Rattle.cell_network.proofs.Ranges.{each_piece}
use Rattle.cell_network.proofs.Nors.{Off, off_pulled, pulled_append}
use Rattle.cell_network.proofs.Outs.{own_shared, frame_shared}
use Rattle.cell_network.proofs.Wired as wired
use Rattle.cell_network.proofs.Wired.{shared_output, output_nor}
use Rattle.cell_network.proofs.Solved as solved
use Rattle.cell_network.proofs.Solved.{seen}

or_false : (b : Bool) → (b || false) ≡ b
or_false true = refl
or_false false = refl

not_not : (b : Bool) → not (not b) ≡ b
not_not true = refl
not_not false = refl

-- ---- one piece pulls or another

pulls_some : (f : ℕ → List NorGate) (a n net : ℕ) (values : List Bool) → is_pulled (flat_map f (range_with_len a n)) values net ≡ true
    → (k : ℕ) × (k < a + n) × (is_pulled (f k) values net ≡ true)
pulls_some f a zero net values e = absurd (cc)
pulls_some f a (suc n) net values e =
    elim (or_cases _ _ (sym (pulled_append (f a) (flat_map f (range_with_len (a + 1) n)) net values) ∙ e)) [
      | inl here ↦ (a, omega arith, here)
      | inr later ↦ let h = pulls_some f (a + 1) n net values later in (h.0, (let l = h.1 in omega (arith, l)), h.2)
    ]

some_pulls : (f : ℕ → List NorGate) (a n net k : ℕ) (values : List Bool) → a ≤ k → k < a + n → is_pulled (f k) values net ≡ true
    → is_pulled (flat_map f (range_with_len a n)) values net ≡ true
some_pulls f a zero net k values l lt e = absurd (omega arith)
some_pulls f a (suc n) net k values l lt e =
    pulled_append (f a) (flat_map f (range_with_len (a + 1) n)) net values
    ∙ elim (cases_eq a k) [
      | inl same ↦ or_left (is_pulled (f a) values net) (is_pulled (flat_map f (range_with_len (a + 1) n)) values net) (rw same e)
      | inr ne ↦
          or_right (is_pulled (f a) values net) (is_pulled (flat_map f (range_with_len (a + 1) n)) values net)
          (some_pulls f (a + 1) n net k values (omega (arith, ne)) (omega arith) e)
    ]

-- only this piece may pull
one_piece : (f : ℕ → List NorGate) (a n net k : ℕ) (values : List Bool) → a ≤ k → k < a + n → ((i : ℕ) → (i ≡ k → ⊥) → Off net (f i))
    → is_pulled (flat_map f (range_with_len a n)) values net ≡ is_pulled (f k) values net
one_piece f a zero net k values l lt off = absurd (omega arith)
one_piece f a (suc n) net k values l lt off =
    pulled_append (f a) (flat_map f (range_with_len (a + 1) n)) net values
    ∙ elim (cases_eq a k) [
      | inl same ↦
          rw (same, off_pulled (flat_map f (range_with_len (k + 1) n)) net values (each_piece (λ (g : NorGate). g.out ≢ net) f (k + 1) n (λ i il lt2. off i (λ e. omega (arith, e, il)))))
          (or_false (is_pulled (f k) values net))
      | inr ne ↦ rw (off_pulled (f a) net values (off a ne)) (one_piece f (a + 1) n net k values (omega (arith, ne)) (omega arith) off)
    ]

map_pieces : {W X : Type 0} (n : W → X) (f : ℕ → List W) (a m : ℕ) → map n (flat_map f (range_with_len a m)) ≡ flat_map (λ k. map n (f k)) (range_with_len a m)
map_pieces n f a zero = refl
map_pieces n f a (suc m) = map-append n (f a) (flat_map f (range_with_len (a + 1) m)) ∙ ap (λ (xs : List _). map n (f a) ++ xs) (map_pieces n f (a + 1) m)

module _ (tree : TreeTable) (tables : Tables) (t : IsTree tree) (spec : IsSpecification tables) (named : NamesSymbols (length tables.symbols) tree.nodes)
    (drive : Drive) (old new : List Bool) (h : Solves (cells_of tree tables) drive old new) where
  abbrev c : Counts
  c = counts_of tree tables

  abbrev nodes : List Node
  nodes = tree.nodes

  abbrev gates : List NorGate
  gates = whole_gates c tree tables

  abbrev shown : CellValues
  shown = seen tree tables t spec named new

  -- ---- the marks of one node

  mark_pulls : (n : Numbering) (y : ℕ) (a b : Bool) → is_pulled (map (numbered n) (mark_of y a b)) new (n.shared + y)
      ≡ ((a && value_at new n.out) || (b && value_at new n.begins))
  mark_pulls n y true true = rw (eq-eqb (n.shared + y) (n.shared + y) refl) (or_false _ ∙ rw (or_false (value_at new n.begins)) refl)
  mark_pulls n y true false = rw (eq-eqb (n.shared + y) (n.shared + y) refl) (or_false _)
  mark_pulls n y false true = rw (eq-eqb (n.shared + y) (n.shared + y) refl) (or_false _ ∙ or_false (value_at new n.begins))
  mark_pulls n y false false = refl

  other_mark : (n : Numbering) (i y : ℕ) (a b : Bool) → (i ≡ y → ⊥) → Off (n.shared + y) (map (numbered n) (mark_of i a b))
  other_mark n i y true true ne = (λ e. ne (omega (arith, e)), tt)
  other_mark n i y true false ne = (λ e. ne (omega (arith, e)), tt)
  other_mark n i y false true ne = (λ e. ne (omega (arith, e)), tt)
  other_mark n i y false false ne = tt

  marks_pull : (n : Numbering) (node : Node) (y : ℕ) → y < c.outputs
      → is_pulled (map (numbered n) (mark_gates c.outputs node)) new (n.shared + y)
      ≡ (((flags_of node).marks y && value_at new n.out) || ((flags_of node).eps_marks y && value_at new n.begins))
  marks_pull n node y lt =
      ap (λ (xs : List NorGate). is_pulled xs new (n.shared + y)) (map_pieces (numbered n) (mark_gate node) 0 c.outputs)
      ∙ one_piece (λ k. map (numbered n) (mark_gate node k)) 0 c.outputs (n.shared + y) y new (omega arith) (omega arith)
      (λ i ne. other_mark n i y ((flags_of node).marks i) ((flags_of node).eps_marks i) ne)
      ∙ mark_pulls n y ((flags_of node).marks y) ((flags_of node).eps_marks y)

  home_nets : (v inn : ℕ) (kind : NodeKind) → ((home_of_kind c v inn kind).shared ≡ shared_net c)
      × ((home_of_kind c v inn kind).out ≡ end_net c v + 1) × ((home_of_kind c v inn kind).begins ≡ begin_net c v + 1)
  home_nets v inn (Leaf s) = (refl, refl, refl)
  home_nets v inn (Seq l r) = (refl, refl, refl)
  home_nets v inn (Alt l r) = (refl, refl, refl)

  -- the gates of a node pull the shared wire where the node does
  cell_pulls : (v y : ℕ) → v < length nodes → y < c.outputs
      → is_pulled (cell_gates c nodes v) new (shared_net c + y) ≡ pulls (node_at nodes v) y (shown.inn v) (shown.out v)
  cell_pulls v y lt yl =
      let n : Numbering = wired.of_node tree tables t spec named v in
      let kinds : List NamedGate = wired.kinds tree tables t spec named v in
      let marks : List NamedGate = wired.marks tree tables t spec named v in
      let nets = home_nets v (in_net c nodes v) (node_at nodes v).kind in
      let off : Off (shared_net c + y) (map (numbered n) kinds) =
      wired.off_kinds tree tables t spec named v (shared_net c + y)
      (λ k own e. own_shared c v k (shared_net c + y) lt own (omega arith, omega arith) (sym e)) in
      ap (λ (xs : List NorGate). is_pulled xs new (shared_net c + y)) (map-append (numbered n) kinds marks)
      ∙ pulled_append (map (numbered n) kinds) (map (numbered n) marks) (shared_net c + y) new
      ∙ rw (off_pulled (map (numbered n) kinds) (shared_net c + y) new off)
      (ap (λ (k : ℕ). is_pulled (map (numbered n) marks) new (k + y)) (sym nets.0)
      ∙ marks_pull n (node_at nodes v) y yl
      ∙ rw (nets.1, nets.2, solved.begins_value tree tables t spec named drive old new h v lt) refl)

  -- ---- the shared wire

  loads_idle : (y a m : ℕ) → is_pulled (map (load_gate c) (range_with_len a m)) new (shared_net c + y) ≡ false
  loads_idle y a zero = refl
  loads_idle y a (suc m) = rw (loads_idle y (a + 1) m) (none (shared_net c + a == shared_net c + y))
    where
      none : (b : Bool) → ((b && false) || false) ≡ false
      none true = refl
      none false = refl

  shared_pulled : (y : ℕ) → y < c.outputs
      → is_pulled gates new (shared_net c + y) ≡ is_pulled (flat_map (cell_gates c nodes) (range_with_len 0 c.nodes)) new (shared_net c + y)
  shared_pulled y lt =
      let frame : List NorGate = map (numbered (wired.fh tree tables t spec named)) (frame_gates tables) in
      let loads : List NorGate = map (load_gate c) (range_with_len 0 c.outputs) in
      let off : Off (shared_net c + y) frame =
      wired.off_frame tree tables t spec named (shared_net c + y) (λ k f e. frame_shared c k (shared_net c + y) f (omega arith, omega arith) (sym e)) in
      pulled_append (frame ++ loads) (flat_map (cell_gates c nodes) (range_with_len 0 c.nodes)) (shared_net c + y) new
      ∙ rw (pulled_append frame loads (shared_net c + y) new, off_pulled frame (shared_net c + y) new off, loads_idle y 0 c.outputs) refl

  output_value : (y : ℕ) → y < c.outputs → value_at new (output_net c + y) ≡ is_pulled gates new (shared_net c + y)
  output_value y lt =
      solved.inverted tree tables t spec named drive old new h (output_net c + y) (shared_net c + y) (omega arith) (output_nor tree tables t spec named y (omega arith))
      ∙ ap not (h.gates (shared_net c + y) (omega arith) (shared_output tree tables t spec named y lt)) ∙ not_not (is_pulled gates new (shared_net c + y))

  pub output_tells : (y : ℕ) → y < c.outputs → (value_at new (output_net c + y) ≡ true) ↔ SomeCellPulls tree shown y
  output_tells y lt = (
    λ e.
        let some = pulls_some (cell_gates c nodes) 0 c.nodes (shared_net c + y) new (sym (output_value y lt ∙ shared_pulled y lt) ∙ e) in
        let within : some.0 < length nodes = (let l = some.1 in omega (arith, l)) in
        record {
          at = some.0;
          node = node_at nodes some.0;
          here = wired.here tree tables t spec named some.0 within;
          pulled = sym (cell_pulls some.0 y within lt) ∙ some.2;
        },
    λ p.
        let within : p.at < length nodes = slice_get_within nodes p.at p.node p.here in
        let same : node_at nodes p.at ≡ p.node = solved.at_node tree tables t spec named drive old new h p.at p.node p.here in
        output_value y lt ∙ shared_pulled y lt
        ∙ some_pulls (cell_gates c nodes) 0 c.nodes (shared_net c + y) p.at new (omega arith) (omega (arith, within))
        (cell_pulls p.at y within lt ∙ ap (λ (x : Node). pulls x y (shown.inn p.at) (shown.out p.at)) same ∙ p.pulled),
  )
