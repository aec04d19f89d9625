-- Values that solve the equations of the network of cells: what each net of a node is, and so the equations of cells.
use Rattle.std.proofs.Common.{◌≡◌, ◌⊎◌, inl, inr, ℕ, ◌+◌, ◌<◌, ◌&&◌, ◌||◌, not, Bool, true, false, List, [], ◌∷◌, map, length, slice_get, Some, refl, ap, subst, ◌∙◌, arith}
use Rattle.std.specs.List.{list_any}
use Rattle.std.proofs.lemmas.Option.{slice_get_within, get_or_from_slice_get}
use Rattle.rx_lang.specs.Tables.{Tables, IsSpecification}
use Rattle.star_normal.specs.declared.node.Node.{Node}
use Rattle.star_normal.specs.declared.node.NodeKind.{NodeKind}
use Rattle.star_normal.specs.declared.node.NodeKind.TheVariants.{Leaf, Seq, Alt}
use Rattle.star_normal.specs.Tables.{TreeTable, IsTree, plain_node}
use Rattle.switch_net.specs.Clock.{Drive}
use Rattle.nor_net.specs.Netlist.{NorGate}
use Rattle.nor_net.specs.Evaluation.{value_at}
use Rattle.nor_net.specs.Equations.{Solves}
use Rattle.cell_network.specs.declared.numbering.Counts.{Counts}
use Rattle.cell_network.specs.declared.numbering.Numbering.{Numbering}
use Rattle.cell_network.specs.declared.part_net.PartNet.TheVariants.{Begins, LeftOut, Out, NotBegins, NotOut, NotRight, RightIn, RightOut}
use Rattle.cell_network.specs.Cells.{CellValues, begins_at, eps_at, SequenceCells, AlternativeCells, AreCells}
use Rattle.cell_network.specs.Shapes.{NamedGate, number, gate, complement_inputs, begin_inputs, right_inputs, end_inputs, kind_gates}
use Rattle.cell_network.specs.Parts.{counts_of, node_at}
use Rattle.cell_network.specs.Home.{end_net, begin_net, whole_nets, in_net, home_numbers, home_of_kind}
use Rattle.cell_network.specs.Whole.{whole_gates, cells_of}
use Rattle.cell_network.proofs.Named.{NamesSymbols}
use Rattle.cell_network.proofs.Feeding.{left_fed, right_fed}
use Rattle.cell_network.proofs.Nors.{IsNor}
use Rattle.cell_network.proofs.PadNets as pads
use Rattle.cell_network.proofs.Wired.{cell_nor}

not_not : (b : Bool) → not (not b) ≡ b
not_not true = refl
not_not false = refl

or_false : (b : Bool) → (b || false) ≡ b
or_false true = refl
or_false false = refl

module _ (tree : TreeTable) (tables : Tables) (t : IsTree tree) (spec : IsSpecification tables) (named : NamesSymbols (length tables.symbols) tree.nodes) where
  abbrev pub c : Counts
  c = counts_of tree tables

  abbrev pub nodes : List Node
  nodes = tree.nodes

  abbrev pub gates : List NorGate
  gates = whole_gates c tree tables

  -- the cells that the values of the nets show: IN and OUT of each node
  abbrev pub seen : List Bool → CellValues
  seen values = record { inn = λ v. value_at values (in_net c nodes v); out = λ v. value_at values (end_net c v + 1) }

  -- the gates of a node of this kind
  pub kind_nor : (v : ℕ) (kind : NodeKind) (k : ℕ) (g : NamedGate) → v < length nodes → (node_at nodes v).kind ≡ kind
      → slice_get (kind_gates nodes (node_at nodes v) kind) k ≡ Some g
      → IsNor gates (number (home_of_kind c v (in_net c nodes v) kind) g.out) (map (number (home_of_kind c v (in_net c nodes v) kind)) g.inputs)
  kind_nor v kind k g lt e at =
      let h = cell_nor tree tables t spec named v k g lt (rw e at) in
      rw e at h

  module _ (drive : Drive) (old new : List Bool) (h : Solves (cells_of tree tables) drive old new) where
    abbrev val : ℕ → Bool
    val net = value_at new net

    pub nor_value : (net : ℕ) (inputs : List ℕ) → net < whole_nets c → IsNor gates net inputs → val net ≡ not (list_any (value_at new) inputs)
    nor_value net inputs lt nor = h.gates net lt nor.output ∙ ap not (nor.pulled new)

    -- an inverter
    pub inverted : (net a : ℕ) → net < whole_nets c → IsNor gates net (a ∷ []) → val net ≡ not (val a)
    inverted net a lt nor = nor_value net (a ∷ []) lt nor ∙ ap not (or_false (val a))

    pub vdd_value : val 0 ≡ true
    vdd_value = h.pads 0 true (omega arith) (pads.vdd_fixed c tables refl refl drive)

    -- ---- one node

    module _ (v : ℕ) (lt : v < length nodes) where
      -- whether one of the nets by which the node begins is high
      complement_any : (scan loops : Bool) (l r : ℕ)
          → list_any (value_at new) (map (number (home_numbers c v (in_net c nodes v) l r)) (complement_inputs scan loops))
          ≡ (scan || (val (in_net c nodes v) || (loops && val (end_net c v + 1))))
      complement_any true loops l r = rw vdd_value refl
      complement_any false true l r = rw (or_false (val (end_net c v + 1))) refl
      complement_any false false l r = refl

      complement_of : (kind : NodeKind) (k l r : ℕ) → (node_at nodes v).kind ≡ kind → home_of_kind c v (in_net c nodes v) kind ≡ home_numbers c v (in_net c nodes v) l r
          → slice_get (kind_gates nodes (node_at nodes v) kind) k ≡ Some (gate NotBegins (complement_inputs (node_at nodes v).scan (node_at nodes v).loops))
          → val (begin_net c v) ≡ not (begins_at (seen new) v (node_at nodes v))
      complement_of kind k l r e own at =
          nor_value (begin_net c v) (map (number (home_numbers c v (in_net c nodes v) l r)) (complement_inputs (node_at nodes v).scan (node_at nodes v).loops)) (omega arith)
          (let nor = kind_nor v kind k (gate NotBegins (complement_inputs (node_at nodes v).scan (node_at nodes v).loops)) lt e at in
          subst (λ (n : Numbering). IsNor gates (number n NotBegins) (map (number n) (complement_inputs (node_at nodes v).scan (node_at nodes v).loops))) own nor)
          ∙ ap not (complement_any (node_at nodes v).scan (node_at nodes v).loops l r)

      not_begins_of : (kind : NodeKind) → (node_at nodes v).kind ≡ kind → val (begin_net c v) ≡ not (begins_at (seen new) v (node_at nodes v))
      not_begins_of (Leaf s) e = complement_of (Leaf s) 1 0 0 e refl refl
      not_begins_of (Seq l r) e = complement_of (Seq l r) 2 l r e refl refl
      not_begins_of (Alt l r) e = complement_of (Alt l r) 2 l r e refl refl

      -- the complement of IN'
      pub not_begins : val (begin_net c v) ≡ not (begins_at (seen new) v (node_at nodes v))
      not_begins = not_begins_of (node_at nodes v).kind refl

      abbrev begin_nets : Bool → List ℕ
      begin_nets true = []
      begin_nets false = begin_net c v ∷ []

      begin_same : (scan : Bool) (n : Numbering) → n.not_begins ≡ begin_net c v → map (number n) (begin_inputs scan) ≡ begin_nets scan
      begin_same true n e = refl
      begin_same false n e = ap (λ (k : ℕ). k ∷ []) e

      begins_nor : (kind : NodeKind) → (node_at nodes v).kind ≡ kind → IsNor gates (begin_net c v + 1) (begin_nets (node_at nodes v).scan)
      begins_nor (Leaf s) e =
          subst (IsNor gates (begin_net c v + 1)) (begin_same (node_at nodes v).scan (home_numbers c v (in_net c nodes v) 0 0) refl)
          (kind_nor v (Leaf s) 2 (gate Begins (begin_inputs (node_at nodes v).scan)) lt e refl)
      begins_nor (Seq l r) e =
          subst (IsNor gates (begin_net c v + 1)) (begin_same (node_at nodes v).scan (home_numbers c v (in_net c nodes v) l r) refl)
          (kind_nor v (Seq l r) 3 (gate Begins (begin_inputs (node_at nodes v).scan)) lt e refl)
      begins_nor (Alt l r) e =
          subst (IsNor gates (begin_net c v + 1)) (begin_same (node_at nodes v).scan (home_numbers c v (in_net c nodes v) l r) refl)
          (kind_nor v (Alt l r) 3 (gate Begins (begin_inputs (node_at nodes v).scan)) lt e refl)

      begins_by : (scan : Bool) → (node_at nodes v).scan ≡ scan → IsNor gates (begin_net c v + 1) (begin_nets scan) → val (begin_net c v + 1) ≡ begins_at (seen new) v (node_at nodes v)
      begins_by true e nor = nor_value (begin_net c v + 1) [] (omega arith) nor ∙ rw e refl
      begins_by false e nor = inverted (begin_net c v + 1) (begin_net c v) (omega arith) nor ∙ ap not not_begins ∙ not_not (begins_at (seen new) v (node_at nodes v))

      -- and IN'
      pub begins_value : val (begin_net c v + 1) ≡ begins_at (seen new) v (node_at nodes v)
      begins_value = begins_by (node_at nodes v).scan refl (begins_nor (node_at nodes v).kind refl)

      module _ (l r : ℕ) (kind : ((node_at nodes v).kind ≡ Seq l r) ⊎ ((node_at nodes v).kind ≡ Alt l r)) (here : slice_get nodes v ≡ Some (node_at nodes v)) where
        pub left_value : val (in_net c nodes l) ≡ begins_at (seen new) v (node_at nodes v)
        left_value = ap val (left_fed c tree t v l r (node_at nodes v) here kind) ∙ begins_value

        -- two inverters behind one another
        twice : (net middle : ℕ) (inputs : List ℕ) → net < whole_nets c → middle < whole_nets c → IsNor gates middle inputs → IsNor gates net (middle ∷ [])
            → val net ≡ list_any (value_at new) inputs
        twice net middle inputs nl ml nor inverse =
            inverted net middle nl inverse ∙ ap not (nor_value middle inputs ml nor) ∙ not_not (list_any (value_at new) inputs)

        right_at : (inputs : List ℕ) → IsNor gates (begin_net c v + 2) inputs → IsNor gates (begin_net c v + 3) ((begin_net c v + 2) ∷ [])
            → val (in_net c nodes r) ≡ list_any (value_at new) inputs
        right_at inputs nor inverse =
            ap val (right_fed c tree t v l r (node_at nodes v) here kind)
            ∙ twice (begin_net c v + 3) (begin_net c v + 2) inputs (omega arith) (omega arith) nor inverse

        out_at : (inputs : List ℕ) → IsNor gates (end_net c v) inputs → IsNor gates (end_net c v + 1) (end_net c v ∷ [])
            → val (end_net c v + 1) ≡ list_any (value_at new) inputs
        out_at inputs nor inverse = twice (end_net c v + 1) (end_net c v) inputs (omega arith) (omega arith) nor inverse

      right_any : (l r : ℕ) (eps : Bool) → list_any (value_at new) (map (number (home_numbers c v (in_net c nodes v) l r)) (right_inputs eps))
          ≡ (val (end_net c l + 1) || (eps && val (begin_net c v + 1)))
      right_any l r true = rw (or_false (val (begin_net c v + 1))) refl
      right_any l r false = refl

      end_any : (l r : ℕ) (eps : Bool) → list_any (value_at new) (map (number (home_numbers c v (in_net c nodes v) l r)) (end_inputs eps))
          ≡ (val (end_net c r + 1) || (eps && val (end_net c l + 1)))
      end_any l r true = rw (or_false (val (end_net c l + 1))) refl
      end_any l r false = refl

      sequence_at : (l r : ℕ) → slice_get nodes v ≡ Some (node_at nodes v) → (node_at nodes v).kind ≡ Seq l r
          → SequenceCells nodes (seen new) v (node_at nodes v) l r
      sequence_at l r here e = record {
        left = left_value l r (inl e) here;
        right =
            right_at l r (inl e) here _ (kind_nor v (Seq l r) 4 (gate NotRight (right_inputs (eps_at nodes l))) lt e refl)
            (kind_nor v (Seq l r) 5 (gate RightIn (NotRight ∷ [])) lt e refl)
            ∙ right_any l r (eps_at nodes l) ∙ rw begins_value refl;
        out =
            out_at l r (inl e) here _ (kind_nor v (Seq l r) 0 (gate NotOut (end_inputs (eps_at nodes r))) lt e refl)
            (kind_nor v (Seq l r) 1 (gate Out (NotOut ∷ [])) lt e refl)
            ∙ end_any l r (eps_at nodes r);
      }

      alternative_at : (l r : ℕ) → slice_get nodes v ≡ Some (node_at nodes v) → (node_at nodes v).kind ≡ Alt l r
          → AlternativeCells (seen new) v (node_at nodes v) l r
      alternative_at l r here e = record {
        left = left_value l r (inr e) here;
        right =
            right_at l r (inr e) here ((begin_net c v + 1) ∷ []) (kind_nor v (Alt l r) 4 (gate NotRight (Begins ∷ [])) lt e refl)
            (kind_nor v (Alt l r) 5 (gate RightIn (NotRight ∷ [])) lt e refl)
            ∙ or_false (val (begin_net c v + 1)) ∙ begins_value;
        out =
            out_at l r (inr e) here ((end_net c r + 1) ∷ (end_net c l + 1) ∷ []) (kind_nor v (Alt l r) 0 (gate NotOut (RightOut ∷ LeftOut ∷ [])) lt e refl)
            (kind_nor v (Alt l r) 1 (gate Out (NotOut ∷ [])) lt e refl)
            ∙ rw (or_false (val (end_net c l + 1))) refl;
      }

    -- ---- all nodes

    pub at_node : (v : ℕ) (node : Node) → slice_get nodes v ≡ Some node → node_at nodes v ≡ node
    at_node v node e = get_or_from_slice_get nodes v node (plain_node (Leaf 0) false) e

    pub are_cells : AreCells tree (seen new)
    are_cells = record {
      sequence = λ v l r node e kind.
          let same = at_node v node e in
          subst (λ (x : Node). SequenceCells nodes (seen new) v x l r) same
          (sequence_at v (slice_get_within nodes v node e) l r (rw same e) (rw same kind));
      alternative = λ v l r node e kind.
          let same = at_node v node e in
          subst (λ (x : Node). AlternativeCells (seen new) v x l r) same
          (alternative_at v (slice_get_within nodes v node e) l r (rw same e) (rw same kind));
    }
