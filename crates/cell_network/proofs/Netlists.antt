-- The network of cells is a netlist.
use Rattle.std.specs.Prelude.{flat_map}
use Rattle.std.proofs.Common.{◌≡◌, ◌≢◌, ◌⊎◌, inl, inr, ℕ, zero, suc, ◌+◌, ◌-◌, ◌*◌, ◌<◌, ◌≤◌, ◌==◌, true, List, [], ◌∷◌, ◌++◌, map, length, slice_get, slice_index_or, Some, All, AllPairs, Contains, refl, sym, ◌∙◌, arith, length-append, eqb-true}
use Rattle.std.specs.List.{AllByRecursion, range_with_len}
use Rattle.std.proofs.lemmas.Bool.{cases_eq}
use Rattle.std.proofs.lemmas.List.{get_or_append_left, get_or-append_right, map-append}
use Rattle.std.proofs.lemmas.List.Elements.{All-from_recursion, Contains-append_left, Contains-append_right}
use Rattle.std.proofs.lemmas.List.Folds.{Any-from_list_any}
use Rattle.rx_text.specs.declared.pad_name.Role.TheVariants.{Vdd, Gnd, Phi1, Phi2, Reset}
use Rattle.rx_lang.specs.Tables.{Tables, IsSpecification}
use Rattle.star_normal.specs.declared.node.Node.{Node}
use Rattle.star_normal.specs.declared.node.NodeKind.{NodeKind}
use Rattle.star_normal.specs.declared.node.NodeKind.TheVariants.{Leaf, Seq, Alt}
use Rattle.star_normal.specs.Tables.{TreeTable, IsTree}
use Rattle.switch_net.specs.Validity.{AreDistinct}
use Rattle.switch_net.specs.declared.network.Pad.{Pad}
use Rattle.nor_net.specs.Netlist.{NorGate, IsOutput, IsGate, IsTransfer, IsOrder, IsNetlist, place}
use Rattle.nor_net.specs.Evaluation.{is_output}
use Rattle.nor_net.specs.declared.gate.Transfer.{Transfer}
use Rattle.cell_network.specs.declared.numbering.Counts.{Counts}
use Rattle.cell_network.specs.declared.part_net.PartNet.TheVariants.{NotBegins, NotSymbol, Reset as ResetNet, Data, Master, Inverse}
use Rattle.cell_network.specs.Shapes.{NamedGate, number, numbered, gate, leaf_gates, register, kind_transfers}
use Rattle.cell_network.specs.Parts.{node_at}
use Rattle.cell_network.specs.Home.{complement_net, start_net, end_net, begin_net, output_net, master_net, whole_nets, in_net, home_numbers, home_of_kind, frame_home}
use Rattle.cell_network.specs.Whole.{plain, pads_of, cell_gates, cell_transfers, whole_transfers, first_order, second_order, cells_of}
use Rattle.cell_network.proofs.Named.{NamesSymbols}
use Rattle.cell_network.proofs.Ranges.{Pairs, all_pairs, each_append, each_map, each_piece, each_weaker, each_across, pairs_pieces}
use Rattle.cell_network.proofs.Standing.{Before, Stands}
use Rattle.cell_network.proofs.Nors.{IsNor}
use Rattle.cell_network.proofs.Outs.{IsOwn, IsShared, IsFrame, own_frame, own_shared, own_own}
use Rattle.cell_network.proofs.Wired as wired
use Rattle.cell_network.proofs.Orders as orders
use Rattle.cell_network.proofs.PadNets as pads

is_output_of : (gates : List NorGate) (net : ℕ) → is_output gates net ≡ true → IsOutput gates net
is_output_of gates net e =
    let some = Any-from_list_any (λ (g : NorGate). g.out == net) gates e in
    (some.0, some.1, some.2, some.3, eqb-true some.1.out net some.4)

pairs_first : (xs ys : List (List ℕ)) → AllPairs (λ (a b : List ℕ). a ≢ b) (xs ++ ys) → AllPairs (λ (a b : List ℕ). a ≢ b) xs
pairs_first xs ys h i j d l lt e =
    h i j d l (omega (arith, length-append xs ys, lt)) (get_or_append_left xs ys d i (omega (arith, l, lt)) ∙ e ∙ sym (get_or_append_left xs ys d j lt))

pairs_second : (xs ys : List (List ℕ)) → AllPairs (λ (a b : List ℕ). a ≢ b) (xs ++ ys) → AllPairs (λ (a b : List ℕ). a ≢ b) ys
pairs_second xs ys h i j d l lt e =
    h (length xs + i) (length xs + j) d (omega (arith, l)) (omega (arith, length-append xs ys, lt)) (shifted i ∙ e ∙ sym (shifted j))
  where
    shifted : (k : ℕ) → slice_index_or (xs ++ ys) (length xs + k) d ≡ slice_index_or ys k d
    shifted k =
        let back : length xs + k - length xs ≡ k = omega arith in
        get_or-append_right xs ys (length xs) (length xs + k) d refl (omega arith) ∙ rw back refl

piece_contains : {X : Type 0} (f : ℕ → List X) (a n v : ℕ) (x : X) → a ≤ v → v < a + n → Contains (f v) x → Contains (flat_map f (range_with_len a n)) x
piece_contains f a zero v x l lt h = absurd (omega arith)
piece_contains f a (suc n) v x l lt h =
    elim (cases_eq a v) [
      | inl e ↦ Contains-append_left (f a) (flat_map f (range_with_len (a + 1) n)) x (rw e h)
      | inr ne ↦ Contains-append_right (f a) (flat_map f (range_with_len (a + 1) n)) x (piece_contains f (a + 1) n v x (omega (arith, ne)) (omega arith) h)
    ]

module _ (tree : TreeTable) (tables : Tables) (t : IsTree tree) (spec : IsSpecification tables) (named : NamesSymbols (length tables.symbols) tree.nodes) where
  abbrev c : Counts
  c = wired.c tree tables t spec named

  abbrev nodes : List Node
  nodes = tree.nodes

  abbrev gates : List NorGate
  gates = wired.all_gates tree tables t spec named

  -- ---- gates

  gate_of : (g : NorGate) → Stands c g → IsGate (cells_of tree tables) g
  gate_of g h = record {
    out_below = h.below;
    inputs_below =
        All-from_recursion (λ input. input < whole_nets c) g.inputs
        (each_weaker (λ i. Before c i g.out) (λ input. input < whole_nets c) (λ i b. let l = b.0 in let m = h.below in omega (arith, l, m)) g.inputs h.inputs);
    distinct = all_pairs (λ (a b : ℕ). a ≢ b) g.inputs h.distinct;
    free = pads.behind_free c tables refl refl g.out h.low;
  }

  -- ---- transfers

  abbrev first_leaf : ℕ → Transfer
  first_leaf v = record { clock = Phi1; from = begin_net c v + 3; to = master_net c + 2 + 2 * v }

  abbrev second_leaf : ℕ → Transfer
  second_leaf v = record { clock = Phi2; from = master_net c + 3 + 2 * v; to = end_net c v }

  -- what holds of the transfers of the start register and of each leaf holds of all
  pub each_transfer : (P : Transfer → Type 0) → P (record { clock = Phi1; from = 4; to = master_net c })
      → P (record { clock = Phi2; from = master_net c + 1; to = start_net c })
      → ((v s : ℕ) → v < length nodes → (node_at nodes v).kind ≡ Leaf s → P (first_leaf v) × P (second_leaf v))
      → AllByRecursion P (whole_transfers c tree)
  each_transfer P one other leaf = (
    one,
    (
      other,
      each_piece P (cell_transfers c nodes) 0 c.nodes (λ v l lt. by_kind v (omega (arith, lt)) (node_at nodes v).kind refl),
    ),
  )
    where
      by_kind : (v : ℕ) → v < length nodes → (kind : NodeKind) → (node_at nodes v).kind ≡ kind
          → AllByRecursion P (kind_transfers (home_of_kind c v (in_net c nodes v) kind) kind)
      by_kind v lt (Leaf s) e = let h = leaf v s lt e in (h.0, (h.1, tt))
      by_kind v lt (Seq l r) e = tt
      by_kind v lt (Alt l r) e = tt

  -- no gate drives a stored node
  off_all : (net : ℕ) → ((k : ℕ) → IsFrame c k → k ≢ net) → ((k : ℕ) → IsShared c k → k ≢ net)
      → ((u : ℕ) → u < length nodes → AllByRecursion (λ (g : NorGate). g.out ≢ net) (cell_gates c nodes u))
      → All (λ g. g.out ≢ net) gates
  off_all net frame shared cell =
      All-from_recursion (λ (g : NorGate). g.out ≢ net) gates
      (each_append (λ (g : NorGate). g.out ≢ net) _ (flat_map (cell_gates c nodes) (range_with_len 0 c.nodes))
      (each_append (λ (g : NorGate). g.out ≢ net) _ _ (wired.off_frame tree tables t spec named net frame) (wired.off_loads tree tables t spec named net shared))
      (each_piece (λ (g : NorGate). g.out ≢ net) (cell_gates c nodes) 0 c.nodes (λ u l ul. cell u (omega (arith, ul)))))

  own_master : (u v k : ℕ) → u < length nodes → IsOwn c u k → k ≢ master_net c + 2 * v
  own_master u v k ul (inl h) e = omega (arith, e, h.0, h.1, ul)
  own_master u v k ul (inr (inl h)) e = omega (arith, e, h.0, h.1, ul)
  own_master u v k ul (inr (inr h)) e = omega (arith, e, h)

  frame_master : (v k : ℕ) → IsFrame c k → k ≢ master_net c + 2 * v
  frame_master v k (inl h) e = omega (arith, e, h.0, h.1)
  frame_master v k (inr (inl h)) e = omega (arith, e, h)
  frame_master v k (inr (inr (inl h))) e = omega (arith, e, h.0, h.1)
  frame_master v k (inr (inr (inr h))) e = omega (arith, e, h)

  -- the first storage nodes stand at even places behind the others
  master_off : (v net : ℕ) → net ≡ master_net c + 2 * v → All (λ g. g.out ≢ net) gates
  master_off v net e =
      off_all net (λ k f g. frame_master v k f (g ∙ e)) (λ k f g. omega (arith, f.0, f.1, g, e))
      (λ u ul.
      wired.off_cell tree tables t spec named u net (λ k f g. own_master u v k ul f (g ∙ e)) (λ k f g. omega (arith, f.0, f.1, g, e)))

  own_start : (u k : ℕ) → IsOwn c u k → k ≢ start_net c
  own_start u k (inl h) e = omega (arith, e, h.0)
  own_start u k (inr (inl h)) e = omega (arith, e, h.0)
  own_start u k (inr (inr h)) e = omega (arith, e, h)

  frame_start : (k : ℕ) → IsFrame c k → k ≢ start_net c
  frame_start k (inl h) e = omega (arith, e, h.0, h.1)
  frame_start k (inr (inl h)) e = omega (arith, e, h)
  frame_start k (inr (inr (inl h))) e = omega (arith, e, h.0, h.1)
  frame_start k (inr (inr (inr h))) e = omega (arith, e, h)

  start_off : All (λ g. g.out ≢ start_net c) gates
  start_off =
      off_all (start_net c) frame_start (λ k f e. omega (arith, f.0, e))
      (λ u ul. wired.off_cell tree tables t spec named u (start_net c) (own_start u) (λ k f e. omega (arith, f.0, e)))

  -- a leaf does not drive its own stored node
  leaf_off : (node : Node) (v inn s : ℕ) → v < length nodes
      → AllByRecursion (λ g. number (home_numbers c v inn 0 0) g.out ≢ end_net c v) (leaf_gates node s)
  leaf_off node v inn s lt =
      (λ e. omega (arith, e), (λ e. omega (arith, e), (λ e. omega (arith, e), (λ e. omega (arith, e), (λ e. omega (arith, e), (λ e. omega (arith, e), tt))))))

  kinds_off : (v s : ℕ) → v < length nodes → (node_at nodes v).kind ≡ Leaf s
      → AllByRecursion (λ (g : NorGate). g.out ≢ end_net c v) (map (numbered (wired.of_node tree tables t spec named v)) (wired.kinds tree tables t spec named v))
  kinds_off v s lt e =
      rw e
      (each_map (λ (g : NorGate). g.out ≢ end_net c v) (numbered (home_numbers c v (in_net c nodes v) 0 0)) (leaf_gates (node_at nodes v) s)
      (leaf_off (node_at nodes v) v (in_net c nodes v) s lt))

  end_own : (v : ℕ) → IsOwn c v (end_net c v)
  end_own v = inl (omega arith, omega arith)

  end_off : (v s : ℕ) → v < length nodes → (node_at nodes v).kind ≡ Leaf s → All (λ g. g.out ≢ end_net c v) gates
  end_off v s lt e =
      off_all (end_net c v) (λ k f. own_frame c v (end_net c v) k lt (end_own v) f) shared
      (λ u ul.
      elim (cases_eq u v) [
        | inl same ↦
            rw (same, map-append (numbered (wired.of_node tree tables t spec named v)) (wired.kinds tree tables t spec named v) (wired.marks tree tables t spec named v))
            (each_append (λ (g : NorGate). g.out ≢ end_net c v) _ _ (kinds_off v s lt e) (wired.off_marks tree tables t spec named v (end_net c v) shared))
        | inr ne ↦
            wired.off_cell tree tables t spec named u (end_net c v) (λ k f. own_own c u v k (end_net c v) ul lt ne f (end_own v)) shared
      ])
    where
      shared : (k : ℕ) → IsShared c k → k ≢ end_net c v
      shared k f = own_shared c v (end_net c v) k lt (end_own v) f

  no_pad : (net : ℕ) → complement_net c ≤ net → (net < output_net c) ⊎ (output_net c + c.outputs ≤ net)
      → All (λ (pad : Pad). pad.net.0 ≢ net) (cells_of tree tables).pads
  no_pad net low side = All-from_recursion (λ (pad : Pad). pad.net.0 ≢ net) (pads_of c tables) (pads.pads_off c tables refl refl net low side)

  -- a leaf has these gates
  leaf_nor : (v s k : ℕ) (g : NamedGate) → v < length nodes → (node_at nodes v).kind ≡ Leaf s → slice_get (leaf_gates (node_at nodes v) s) k ≡ Some g
      → IsNor gates (number (home_numbers c v (in_net c nodes v) 0 0) g.out) (map (number (home_numbers c v (in_net c nodes v) 0 0)) g.inputs)
  leaf_nor v s k g lt e at =
      let h = wired.cell_nor tree tables t spec named v k g lt (rw e at) in
      rw e at h

  transfers_fit : All (IsTransfer (cells_of tree tables)) (whole_transfers c tree)
  transfers_fit =
      All-from_recursion (IsTransfer (cells_of tree tables)) (whole_transfers c tree)
      (each_transfer (IsTransfer (cells_of tree tables))
      (record {
        clocked = inl refl;
        to_below = omega arith;
        driven = inr (4, plain Reset 4, omega arith, refl, (refl, inl refl));
        no_gate = master_off 0 (master_net c) (omega arith);
        no_pad = no_pad (master_net c) (omega arith) (inr (omega arith));
      })
      (record {
        clocked = inr refl;
        to_below = omega arith;
        driven = inl (is_output_of gates _ (wired.inverse_nor tree tables t spec named).output);
        no_gate = start_off;
        no_pad = no_pad (start_net c) (omega arith) (inl (omega arith));
      })
      (λ v s lt e. (
        record {
          clocked = inl refl;
          to_below = omega arith;
          driven = inl (is_output_of gates _ (leaf_nor v s 4 (gate Data (NotBegins ∷ NotSymbol ∷ ResetNet ∷ [])) lt e refl).output);
          no_gate = master_off (suc v) (master_net c + 2 + 2 * v) (omega arith);
          no_pad = no_pad (master_net c + 2 + 2 * v) (omega arith) (inr (omega arith));
        },
        record {
          clocked = inr refl;
          to_below = omega (arith, lt);
          driven = inl (is_output_of gates _ (leaf_nor v s 5 (gate Inverse (Master ∷ [])) lt e refl).output);
          no_gate = end_off v s lt e;
          no_pad = no_pad (end_net c v) (omega arith) (inl (omega (arith, lt)));
        },
      )))

  -- no two lead to one net
  abbrev ToApart : Transfer → Transfer → Type 0
  ToApart a b = a.to ≢ b.to

  abbrev OfCell : ℕ → Transfer → Type 0
  OfCell v x = (x.to ≡ master_net c + 2 + 2 * v) ⊎ (x.to ≡ end_net c v)

  of_cell : (v inn : ℕ) (kind : NodeKind) → AllByRecursion (OfCell v) (kind_transfers (home_of_kind c v inn kind) kind)
  of_cell v inn (Leaf s) = (inl refl, (inr refl, tt))
  of_cell v inn (Seq l r) = tt
  of_cell v inn (Alt l r) = tt

  cell_apart : (v inn : ℕ) (kind : NodeKind) → v < length nodes → Pairs ToApart (kind_transfers (home_of_kind c v inn kind) kind)
  cell_apart v inn (Leaf s) lt = ((λ e. omega (arith, e, lt), tt), (tt, tt))
  cell_apart v inn (Seq l r) lt = tt
  cell_apart v inn (Alt l r) lt = tt

  two_cells : (i j : ℕ) → i < j → j < length nodes → (a b : Transfer) → OfCell i a → OfCell j b → ToApart a b
  two_cells i j l lt a b (inl h) (inl k) e = omega (arith, e, h, k, l)
  two_cells i j l lt a b (inl h) (inr k) e = omega (arith, e, h, k, l, lt)
  two_cells i j l lt a b (inr h) (inl k) e = omega (arith, e, h, k, l, lt)
  two_cells i j l lt a b (inr h) (inr k) e = omega (arith, e, h, k, l)

  start_apart : (clock_to : Transfer) → (clock_to.to ≡ master_net c) ⊎ (clock_to.to ≡ start_net c)
      → AllByRecursion (ToApart clock_to) (flat_map (cell_transfers c nodes) (range_with_len 0 c.nodes))
  start_apart x side =
      each_piece (ToApart x) (cell_transfers c nodes) 0 c.nodes
      (λ v l lt.
      each_weaker (OfCell v) (ToApart x) (λ y f. one v (omega (arith, lt)) y side f) (cell_transfers c nodes v)
      (of_cell v (in_net c nodes v) (node_at nodes v).kind))
    where
      one : (v : ℕ) → v < length nodes → (y : Transfer) → (x.to ≡ master_net c) ⊎ (x.to ≡ start_net c) → OfCell v y → ToApart x y
      one v lt y (inl h) (inl k) e = omega (arith, e, h, k)
      one v lt y (inl h) (inr k) e = omega (arith, e, h, k, lt)
      one v lt y (inr h) (inl k) e = omega (arith, e, h, k)
      one v lt y (inr h) (inr k) e = omega (arith, e, h, k)

  transfers_apart : Pairs ToApart (whole_transfers c tree)
  transfers_apart = (
    (λ e. omega (arith, e), start_apart (record { clock = Phi1; from = 4; to = master_net c }) (inl refl)),
    (
      start_apart (record { clock = Phi2; from = master_net c + 1; to = start_net c }) (inr refl),
      pairs_pieces ToApart (cell_transfers c nodes) 0 c.nodes (λ v l lt. cell_apart v (in_net c nodes v) (node_at nodes v).kind (omega (arith, lt)))
          (λ i j l lt jl.
          each_across (OfCell i) (OfCell j) ToApart (two_cells i j lt (omega (arith, jl))) (cell_transfers c nodes i) (cell_transfers c nodes j) (of_cell i (in_net c nodes i) (node_at nodes i).kind) (of_cell j (in_net c nodes j) (node_at nodes j).kind)),
    ),
  )

  -- ---- orders

  first_ordered : IsOrder (cells_of tree tables) Phi1 (first_order c)
  first_ordered = record {
    below = orders.first_below c;
    distinct = orders.first_distinct c;
    complete = orders.first_complete c;
    gates =
        All-from_recursion (λ (g : NorGate). All (λ input. place (first_order c) input < place (first_order c) g.out) g.inputs) gates
        (each_weaker (Stands c) (λ (g : NorGate). All (λ input. place (first_order c) input < place (first_order c) g.out) g.inputs)
        (λ g h.
        All-from_recursion (λ input. place (first_order c) input < place (first_order c) g.out) g.inputs
        (each_weaker (λ i. Before c i g.out) (λ input. place (first_order c) input < place (first_order c) g.out)
        (λ i b. orders.first_rises c i g.out h.below b.0) g.inputs h.inputs))
        gates (wired.whole_stands tree tables t spec named));
    transfers =
        All-from_recursion (λ (x : Transfer). x.clock ≡ Phi1 → place (first_order c) x.from < place (first_order c) x.to) (whole_transfers c tree)
        (each_transfer (λ (x : Transfer). x.clock ≡ Phi1 → place (first_order c) x.from < place (first_order c) x.to)
        (λ e. orders.first_rises c 4 (master_net c) (omega arith) (omega arith)) (λ e. absurd (cc))
        (λ v s lt e. (
          λ f. orders.first_rises c (begin_net c v + 3) (master_net c + 2 + 2 * v) (omega (arith, lt)) (omega (arith, lt)),
          λ f. absurd (cc),
        )));
  }

  second_ordered : IsOrder (cells_of tree tables) Phi2 (second_order c)
  second_ordered = record {
    below = orders.second_below c;
    distinct = orders.second_distinct c;
    complete = orders.second_complete c;
    gates =
        All-from_recursion (λ (g : NorGate). All (λ input. place (second_order c) input < place (second_order c) g.out) g.inputs) gates
        (each_weaker (Stands c) (λ (g : NorGate). All (λ input. place (second_order c) input < place (second_order c) g.out) g.inputs)
        (λ g h.
        All-from_recursion (λ input. place (second_order c) input < place (second_order c) g.out) g.inputs
        (each_weaker (λ i. Before c i g.out) (λ input. place (second_order c) input < place (second_order c) g.out)
        (λ i b. orders.second_rises c i g.out h.below b) g.inputs h.inputs))
        gates (wired.whole_stands tree tables t spec named));
    transfers =
        All-from_recursion (λ (x : Transfer). x.clock ≡ Phi2 → place (second_order c) x.from < place (second_order c) x.to) (whole_transfers c tree)
        (each_transfer (λ (x : Transfer). x.clock ≡ Phi2 → place (second_order c) x.from < place (second_order c) x.to)
        (λ e. absurd (cc)) (λ e. orders.stored_first c (master_net c + 1) (start_net c) (omega arith) (omega arith) (omega arith))
        (λ v s lt e. (
          λ f. absurd (cc),
          λ f. orders.stored_first c (master_net c + 3 + 2 * v) (end_net c v) (omega arith) (omega (arith, lt)) (omega (arith, lt)),
        )));
  }

  -- ---- all

  pub is_netlist : IsNetlist (cells_of tree tables)
  is_netlist = record {
    pads = record {
      pads_below = All-from_recursion (λ (pad : Pad). pad.net.0 < whole_nets c) (pads_of c tables) (pads.pads_below c tables refl refl);
      devices_below = λ k d lt. absurd (omega (arith, lt));
      distinct =
          all_pairs AreDistinct (pads_of c tables)
          (pads.pads_differ c tables refl refl
          (pairs_first tables.lines (map (λ s. s.name) tables.symbols) (pairs_first (tables.lines ++ map (λ s. s.name) tables.symbols) tables.outputs spec.names_differ))
          (pairs_second (tables.lines ++ map (λ s. s.name) tables.symbols) tables.outputs spec.names_differ));
      vdd = (0, plain Vdd 0, omega arith, refl, refl);
      gnd = (1, plain Gnd 1, omega arith, refl, refl);
      phi1 = (2, plain Phi1 2, omega arith, refl, refl);
      phi2 = (3, plain Phi2 3, omega arith, refl, refl);
      reset = (4, plain Reset 4, omega arith, refl, refl);
    };
    few_inputs = omega (arith, pads.inputs_counted c tables refl refl, spec.few_lines);
    gates =
        All-from_recursion (IsGate (cells_of tree tables)) gates
        (each_weaker (Stands c) (IsGate (cells_of tree tables)) gate_of gates (wired.whole_stands tree tables t spec named));
    transfers = transfers_fit;
    one_transfer = all_pairs ToApart (whole_transfers c tree) transfers_apart;
    first_order = first_ordered;
    second_order = second_ordered;
  }

  -- ---- where they stand

  module _ (v s : ℕ) (lt : v < length nodes) (kind : (node_at nodes v).kind ≡ Leaf s) where
    in_cell : (x : Transfer) → Contains (kind_transfers (home_of_kind c v (in_net c nodes v) (Leaf s)) (Leaf s)) x → Contains (whole_transfers c tree) x
    in_cell x h =
        let own : Contains (cell_transfers c nodes v) x = rw kind h in
        Contains-append_right (register (frame_home c tree.root) ResetNet) (flat_map (cell_transfers c nodes) (range_with_len 0 c.nodes)) x (piece_contains (cell_transfers c nodes) 0 c.nodes v x (omega arith) (omega (arith, lt)) own)

    pub first_in : Contains (whole_transfers c tree) (record { clock = Phi1; from = begin_net c v + 3; to = master_net c + 2 + 2 * v })
    first_in = in_cell _ (0, omega arith, refl)

    pub second_in : Contains (whole_transfers c tree) (record { clock = Phi2; from = master_net c + 3 + 2 * v; to = end_net c v })
    second_in = in_cell _ (1, omega arith, refl)
