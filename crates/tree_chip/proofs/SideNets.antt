-- Which nets of a block lead out at its sides: at a border that an edge crosses those of its bundle, and none elsewhere.
use Rattle.std.proofs.Common.{◌≡◌, ℕ, ◌+◌, ◌-◌, ◌<◌, ◌≤◌, ◌⊎◌, inl, inr, Bool, true, false, not, ◌&&◌, cond, if◌then◌else◌, nat_lt, ◌==◌, Option, Some, None, option_map, List, length, refl, sym, ap, subst, ◌∙◌, arith}
use Rattle.std.specs.Prelude.{find}
use Rattle.std.proofs.lemmas.Bool.{cases_lt, eqb-true, eq-eqb, lt-ltb, le-ltb}
use Rattle.std.proofs.lemmas.Option.{none-some, same_Some, slice_get-get_or}
use Rattle.geom.specs.Rows.{Among}
use Rattle.rx_lang.specs.Tables.{Tables}
use Rattle.star_normal.specs.declared.node.Node.{Node}
use Rattle.star_normal.specs.declared.node.NodeKind.{NodeKind}
use Rattle.star_normal.specs.declared.node.NodeKind.TheVariants.{Leaf, Seq, Alt}
use Rattle.star_normal.specs.Sizes.{size_at, light_child, heavy_child}
use Rattle.star_normal.specs.Tables.{TreeTable, IsTree, plain_node}
use Rattle.micro_tiles.specs.declared.side.Side.{Side}
use Rattle.micro_tiles.specs.declared.side.Side.TheVariants.{North, East, South, West}
use Rattle.block_grid.specs.declared.kind.Turn.{Turn}
use Rattle.block_grid.specs.declared.kind.Turn.TheVariants.{NorthEast, NorthWest, SouthEast, SouthWest}
use Rattle.block_grid.specs.declared.kind.BlockKind.{BlockKind}
use Rattle.block_grid.specs.declared.kind.BlockKind.TheVariants.{Empty, Horizontal, Vertical, Cross, Corner, Node as NodeBlock, Frame as FrameBlock}
use Rattle.block_grid.specs.declared.standing.Standing.{Standing}
use Rattle.block_grid.specs.Sheets.{DrawnEdge, Sheet, IsDrawn, node_on, node_kind, block_at}
use Rattle.block_grid.specs.Bundles.{edge_north, edge_west, GoOn, BundlesGoOn, CrossAtPorts, BundlesEndAtPorts}
use Rattle.block_grid.specs.Bundles.GoOn.{nothing, level, upright, across, north_east, north_west, south_east, south_west}
use Rattle.light_order.specs.Order.{frame, child_of}
use Rattle.cell_network.specs.declared.numbering.Counts.{Counts}
use Rattle.cell_network.specs.Parts.{counts_of, bundle, node_at}
use Rattle.node_cell.specs.Blocks.{light_net, heavy_net, is_left_light, block_sides, node_sides, vdd_wire}
use Rattle.tree_chip.specs.TreePlans.{IsSheetOf}
use Rattle.tree_chip.proofs.Members.{all_among, found_among}
use Rattle.tree_chip.proofs.TreeEdges.{top, light_by_kind, heavy_by_kind, frame_light, frame_heavy, IsOrder, out_child, in_child, no_in_child, node_known, other_number}

-- the edge that crosses the border at a side of a place
abbrev pub edge_at : Sheet → ℕ → ℕ → Side → Option DrawnEdge
edge_at s r c North = edge_north s r c
edge_at s r c South = edge_north s (r + 1) c
edge_at s r c West = edge_west s r c
edge_at s r c East = edge_west s r (c + 1)

-- the net of a part that is a wire of the bundle to its child in a role
abbrev pub kind_out : Counts → List Node → NodeKind → Bool → ℕ → ℕ
kind_out c nodes (Leaf s) heavy i = i
kind_out c nodes (Seq l r) false i = light_net c (is_left_light nodes l r) i
kind_out c nodes (Seq l r) true i = heavy_net c (is_left_light nodes l r) i
kind_out c nodes (Alt l r) false i = light_net c (is_left_light nodes l r) i
kind_out c nodes (Alt l r) true i = heavy_net c (is_left_light nodes l r) i

abbrev pub out_net : TreeTable → Tables → ℕ → Bool → ℕ → ℕ
out_net tree tables v heavy i =
    if nat_lt v (length tree.nodes) then kind_out (counts_of tree tables) tree.nodes (node_at tree.nodes v).kind heavy i else i

module _ (c : Counts) (nodes : List Node) (i : ℕ) where
  kind_north : (k : NodeKind) → node_sides c nodes k North i ≡ Some i
  kind_north (Leaf s) = refl
  kind_north (Seq l r) = refl
  kind_north (Alt l r) = refl

  kind_south : (k : NodeKind) → node_sides c nodes k South i ≡ option_map (λ (x : ℕ). kind_out c nodes k false i) (light_child (size_at nodes) k)
  kind_south (Leaf s) = refl
  kind_south (Seq l r) = refl
  kind_south (Alt l r) = refl

  kind_east : (k : NodeKind) → node_sides c nodes k East i ≡ option_map (λ (x : ℕ). kind_out c nodes k true i) (heavy_child (size_at nodes) k)
  kind_east (Leaf s) = refl
  kind_east (Seq l r) = refl
  kind_east (Alt l r) = refl

  kind_west : (k : NodeKind) → node_sides c nodes k West i ≡ None
  kind_west (Leaf s) = refl
  kind_west (Seq l r) = refl
  kind_west (Alt l r) = refl

module _ (tree : TreeTable) (tables : Tables) (i : ℕ) where
  -- the nets that lead out of a block of v, by the children of v
  pub record OutOf (kind : BlockKind) (v : ℕ) : Type 0 where
    pub north : block_sides tree tables kind North i ≡ cond (nat_lt v (top tree)) (Some i) None
    pub south : block_sides tree tables kind South i ≡ option_map (λ (x : ℕ). out_net tree tables v false i) (child_of tree false v)
    pub east : block_sides tree tables kind East i ≡ option_map (λ (x : ℕ). out_net tree tables v true i) (child_of tree true v)
    pub west : block_sides tree tables kind West i ≡ None

  out_of_node : (v : ℕ) → v < top tree → OutOf (NodeBlock v) v
  out_of_node v lt =
      let c = counts_of tree tables in
      let kind = (node_at tree.nodes v).kind in
      let is = slice_get-get_or tree.nodes v (plain_node (Leaf 0) false) lt in
      let low = lt-ltb v (top tree) lt in
      record {
        north = kind_north c tree.nodes i kind ∙ rw low refl;
        south = kind_south c tree.nodes i kind ∙ rw (light_by_kind tree v (node_at tree.nodes v) is, low) refl;
        east = kind_east c tree.nodes i kind ∙ rw (heavy_by_kind tree v (node_at tree.nodes v) is, low) refl;
        west = kind_west c tree.nodes i kind;
      }

  out_of_frame : OutOf (FrameBlock (top tree)) (top tree)
  out_of_frame =
      let high = le-ltb (top tree) (top tree) (omega arith) in
      record {
        north = rw high refl;
        south = rw (frame_light tree) refl;
        east = rw (frame_heavy tree, high) refl;
        west = refl;
      }

  out_of : (v : ℕ) (f : Bool) → v ≤ top tree → f ≡ (v == frame tree) → OutOf (cond f (FrameBlock v) (NodeBlock v)) v
  out_of v true low e =
      let same = eqb-true v (frame tree) (sym e) in
      subst (λ x. OutOf (FrameBlock x) x) (sym same) out_of_frame
  out_of v false low e = out_of_node v (below (cases_lt v (top tree)))
    where
      below : (v < top tree) ⊎ (top tree ≤ v) → v < top tree
      below (inl lt) = lt
      below (inr ge) = absurd (let on : (v == frame tree) ≡ true = eq-eqb v (frame tree) (omega arith) in cc)

-- what numbers of nets have to keep: a net at a port has the number of the child's wire, and so has the supply everywhere
pub record KeepsMeetings (tree : TreeTable) (tables : Tables) (number : ℕ → ℕ → ℕ) : Type 0 where
  pub meets : (heavy : Bool) (v ch i : ℕ) → v ≤ top tree → child_of tree heavy v ≡ Some ch → i < bundle (counts_of tree tables)
      → number v (out_net tree tables v heavy i) ≡ number ch i
  pub supply : (v : ℕ) → v ≤ top tree → number v (vdd_wire (counts_of tree tables)) ≡ number (top tree) (vdd_wire (counts_of tree tables))

module _ (tree : TreeTable) (tables : Tables) (number : ℕ → ℕ → ℕ) where
  -- the number of a wire of the bundle that an edge draws
  abbrev pub bundle_number : Option DrawnEdge → ℕ → ℕ
  bundle_number None i = number (top tree) (vdd_wire (counts_of tree tables))
  bundle_number (Some e) i = number e.child i

  abbrev pub corner_number : Turn → Option DrawnEdge → Option DrawnEdge → ℕ → ℕ
  corner_number NorthEast n s i = bundle_number n i
  corner_number NorthWest n s i = bundle_number n i
  corner_number SouthEast n s i = bundle_number s i
  corner_number SouthWest n s i = bundle_number s i

  -- the number of a net of a block, by the edges that cross its north, south and west borders
  abbrev pub block_number : BlockKind → Option DrawnEdge → Option DrawnEdge → Option DrawnEdge → ℕ → ℕ
  block_number Empty n s w i = number (top tree) (vdd_wire (counts_of tree tables))
  block_number Horizontal n s w i = bundle_number w i
  block_number Vertical n s w i = bundle_number n i
  block_number Cross n s w i =
      if nat_lt i (bundle (counts_of tree tables)) then bundle_number n i else bundle_number w (i - bundle (counts_of tree tables))
  block_number (Corner turn) n s w i = corner_number turn n s i
  block_number (NodeBlock v) n s w i = number v i
  block_number (FrameBlock v) n s w i = number v i

  -- the number of a wire at a border
  abbrev pub border_number : Option DrawnEdge → ℕ → Option ℕ
  border_number o i = option_map (λ (e : DrawnEdge). number e.child i) o

  -- At each side the wires of the block have the numbers of the bundle that crosses there.
  pub record SidesAgree (kind : BlockKind) (n s w e : Option DrawnEdge) (i : ℕ) : Type 0 where
    pub north : option_map (block_number kind n s w) (block_sides tree tables kind North i) ≡ border_number n i
    pub south : option_map (block_number kind n s w) (block_sides tree tables kind South i) ≡ border_number s i
    pub west : option_map (block_number kind n s w) (block_sides tree tables kind West i) ≡ border_number w i
    pub east : option_map (block_number kind n s w) (block_sides tree tables kind East i) ≡ border_number e i

  wires_agree : (kind : BlockKind) (n s w e : Option DrawnEdge) (i : ℕ) → i < bundle (counts_of tree tables) → GoOn kind n s w e
      → SidesAgree kind n s w e i
  wires_agree _ _ _ _ _ i lt nothing = record { north = refl; south = refl; west = refl; east = refl }
  wires_agree _ _ _ _ _ i lt (level f) = record { north = refl; south = refl; west = refl; east = refl }
  wires_agree _ _ _ _ _ i lt (upright f) = record { north = refl; south = refl; west = refl; east = refl }
  wires_agree _ _ _ _ _ i lt (across f g ne) =
      let low = lt-ltb i (bundle (counts_of tree tables)) lt in
      let high = le-ltb (bundle (counts_of tree tables) + i) (bundle (counts_of tree tables)) (omega arith) in
      let back : bundle (counts_of tree tables) + i - bundle (counts_of tree tables) ≡ i = omega arith in
      record { north = rw low refl; south = rw low refl; west = rw (high, back) refl; east = rw (high, back) refl }
  wires_agree _ _ _ _ _ i lt (north_east f) = record { north = refl; south = refl; west = refl; east = refl }
  wires_agree _ _ _ _ _ i lt (north_west f) = record { north = refl; south = refl; west = refl; east = refl }
  wires_agree _ _ _ _ _ i lt (south_east f) = record { north = refl; south = refl; west = refl; east = refl }
  wires_agree _ _ _ _ _ i lt (south_west f) = record { north = refl; south = refl; west = refl; east = refl }

-- ---- which edge carries which net

-- At each side of the place that the edge crosses, wire i of its bundle is the net x of the block.
abbrev pub Carries : Sheet → TreeTable → Tables → DrawnEdge → ℕ → ℕ → ℕ → ℕ → Type 0
Carries sheet tree tables e i r c x = (side : Side) → edge_at sheet r c side ≡ Some e → block_sides tree tables (block_at sheet r c) side i ≡ Some x

abbrev pub among_four : Option DrawnEdge → Option DrawnEdge → Option DrawnEdge → Option DrawnEdge → Side → Option DrawnEdge
among_four n s w e North = n
among_four n s w e South = s
among_four n s w e West = w
among_four n s w e East = e

module _ (tree : TreeTable) (tables : Tables) (f : DrawnEdge) (i : ℕ) where
  -- in a block of wires the net of an edge that comes by a side leads on by the other one
  abbrev CarriedBy : BlockKind → (n s w e : Option DrawnEdge) → ℕ → Type 0
  CarriedBy kind n s w e x = (side : Side) → among_four n s w e side ≡ Some f → block_sides tree tables kind side i ≡ Some x

  carried : (kind : BlockKind) (n s w e : Option DrawnEdge) (side : Side) → GoOn kind n s w e → among_four n s w e side ≡ Some f
      → (x : ℕ) × CarriedBy kind n s w e x
  carried _ _ _ _ _ North nothing is = absurd (none-some f is)
  carried _ _ _ _ _ South nothing is = absurd (none-some f is)
  carried _ _ _ _ _ West nothing is = absurd (none-some f is)
  carried _ _ _ _ _ East nothing is = absurd (none-some f is)
  carried _ _ _ _ _ side (level g) is = (i, all)
    where
      all : CarriedBy Horizontal None None (Some g) (Some g) i
      all North e = absurd (none-some f e)
      all South e = absurd (none-some f e)
      all West e = refl
      all East e = refl
  carried _ _ _ _ _ side (upright g) is = (i, all)
    where
      all : CarriedBy Vertical (Some g) (Some g) None None i
      all North e = refl
      all South e = refl
      all West e = absurd (none-some f e)
      all East e = absurd (none-some f e)
  carried _ _ _ _ _ side (across g h ne) is = by side is
    where
      first : g ≡ f → CarriedBy Cross (Some g) (Some g) (Some h) (Some h) i
      first own North e = refl
      first own South e = refl
      first own West e = absurd (ne (own ∙ sym (same_Some h f e)))
      first own East e = absurd (ne (own ∙ sym (same_Some h f e)))

      second : h ≡ f → CarriedBy Cross (Some g) (Some g) (Some h) (Some h) (bundle (counts_of tree tables) + i)
      second own North e = absurd (ne (same_Some g f e ∙ sym own))
      second own South e = absurd (ne (same_Some g f e ∙ sym own))
      second own West e = refl
      second own East e = refl

      by : (side : Side) → among_four (Some g) (Some g) (Some h) (Some h) side ≡ Some f
          → (x : ℕ) × CarriedBy Cross (Some g) (Some g) (Some h) (Some h) x
      by North e = (i, first (same_Some g f e))
      by South e = (i, first (same_Some g f e))
      by West e = (bundle (counts_of tree tables) + i, second (same_Some h f e))
      by East e = (bundle (counts_of tree tables) + i, second (same_Some h f e))
  carried _ _ _ _ _ side (north_east g) is = (i, all)
    where
      all : CarriedBy (Corner NorthEast) (Some g) None None (Some g) i
      all North e = refl
      all South e = absurd (none-some f e)
      all West e = absurd (none-some f e)
      all East e = refl
  carried _ _ _ _ _ side (north_west g) is = (i, all)
    where
      all : CarriedBy (Corner NorthWest) (Some g) None (Some g) None i
      all North e = refl
      all South e = absurd (none-some f e)
      all West e = refl
      all East e = absurd (none-some f e)
  carried _ _ _ _ _ side (south_east g) is = (i, all)
    where
      all : CarriedBy (Corner SouthEast) None (Some g) None (Some g) i
      all North e = absurd (none-some f e)
      all South e = refl
      all West e = absurd (none-some f e)
      all East e = refl
  carried _ _ _ _ _ side (south_west g) is = (i, all)
    where
      all : CarriedBy (Corner SouthWest) None (Some g) (Some g) None i
      all North e = absurd (none-some f e)
      all South e = refl
      all West e = refl
      all East e = absurd (none-some f e)

-- ---- on the sheet

module _ (sheet : Sheet) (tree : TreeTable) (tables : Tables) (is_tree : IsTree tree) (of : IsSheetOf tree sheet) (order : IsOrder tree)
    (go_on : BundlesGoOn) (end : BundlesEndAtPorts) where
  -- a node's place, its block and the edges at its ports
  pub record AtNode (r c : ℕ) (node : Standing) : Type 0 where
    pub known : node.node ≤ top tree
    pub kind : block_at sheet r c ≡ node_kind node
    pub frame_is : node.frame ≡ (node.node == frame tree)
    pub north : option_map (λ (e : DrawnEdge). e.child) (edge_north sheet r c) ≡ cond (nat_lt node.node (top tree)) (Some node.node) None
    pub south : option_map (λ (e : DrawnEdge). e.child) (edge_north sheet (r + 1) c) ≡ child_of tree false node.node
    pub west : edge_west sheet r c ≡ None
    pub east : option_map (λ (e : DrawnEdge). e.child) (edge_west sheet r (c + 1)) ≡ child_of tree true node.node

  and_first : (a b : Bool) → (a && b) ≡ true → a ≡ true
  and_first true b e = refl
  and_first false b e = cc

  and_second : (a b : Bool) → (a && b) ≡ true → b ≡ true
  and_second true b e = e
  and_second false b e = cc

  not_true : (b : Bool) → not b ≡ true → b ≡ false
  not_true true e = cc
  not_true false e = refl

  pub at_node : (r c : ℕ) (node : Standing) → node_on sheet.nodes r c ≡ Some node → AtNode r c node
  at_node r c node is =
      let own = found_among (λ (n : Standing). (n.row == r) && (n.col == c)) sheet.nodes node is in
      let known = node_known tree sheet of order node own.0 in
      let v = node.node in
      let ports = end sheet r c node of.is_sheet is in
      record {
        known = known.known;
        kind = rw is refl;
        frame_is = known.frame_is;
        north = ap (option_map (λ (e : DrawnEdge). e.child)) ports.north ∙ to_node v (cases_lt v (top tree)) known.known;
        south = ap (option_map (λ (e : DrawnEdge). e.child)) ports.south
            ∙ out_child tree sheet of (λ (e : DrawnEdge). (e.parent == v) && not e.heavy) false v known.known
            (λ e t. (eqb-true e.parent v (and_first _ _ t), not_true e.heavy (and_second _ _ t)))
            (λ e p h. rw (eq-eqb e.parent v p, h) refl);
        west = ports.west;
        east = ap (option_map (λ (e : DrawnEdge). e.child)) ports.east
            ∙ out_child tree sheet of (λ (e : DrawnEdge). (e.parent == v) && e.heavy) true v known.known
            (λ e t. (eqb-true e.parent v (and_first _ _ t), and_second _ _ t)) (λ e p h. rw (eq-eqb e.parent v p, h) refl);
      }
    where
      to_node : (v : ℕ) → (v < top tree) ⊎ (top tree ≤ v) → v ≤ top tree
          → option_map (λ (e : DrawnEdge). e.child) (find (λ (e : DrawnEdge). e.child == v) sheet.edges) ≡ cond (nat_lt v (top tree)) (Some v) None
      to_node v (inl lt) low = in_child tree sheet of is_tree v lt ∙ rw (lt-ltb v (top tree) lt) refl
      to_node v (inr ge) low =
          let same : v ≡ top tree = omega arith in
          rw (same, le-ltb (top tree) (top tree) (omega arith), no_in_child tree sheet of is_tree) refl

  by_child : (number : ℕ → ℕ → ℕ) (o : Option DrawnEdge) (i : ℕ)
      → border_number tree tables number o i ≡ option_map (λ (ch : ℕ). number ch i) (option_map (λ (e : DrawnEdge). e.child) o)
  by_child number None i = refl
  by_child number (Some e) i = refl

  module _ (number : ℕ → ℕ → ℕ) (keeps : KeepsMeetings tree tables number) where
    -- the number of a net of the block at a place
    abbrev pub place_number : ℕ → ℕ → ℕ → ℕ
    place_number r c = block_number tree tables number (block_at sheet r c) (edge_north sheet r c) (edge_north sheet (r + 1) c) (edge_west sheet r c)

    to_child : (v : ℕ) (heavy : Bool) (i : ℕ) (o : Option ℕ) → v ≤ top tree → i < bundle (counts_of tree tables) → child_of tree heavy v ≡ o
        → option_map (number v) (option_map (λ (x : ℕ). out_net tree tables v heavy i) o) ≡ option_map (λ (ch : ℕ). number ch i) o
    to_child v heavy i None low lt is = refl
    to_child v heavy i (Some ch) low lt is = ap (λ x. Some x) (keeps.meets heavy v ch i low is lt)

    to_parent : (v i : ℕ) (b : Bool) → option_map (number v) (cond b (Some i) None) ≡ option_map (λ (ch : ℕ). number ch i) (cond b (Some v) None)
    to_parent v i true = refl
    to_parent v i false = refl

    numbers_of_node : (v : ℕ) (f : Bool) (n s w : Option DrawnEdge)
        → block_number tree tables number (cond f (FrameBlock v) (NodeBlock v)) n s w ≡ number v
    numbers_of_node v true n s w = refl
    numbers_of_node v false n s w = refl

    node_agrees : (r c i : ℕ) (node : Standing) → node_on sheet.nodes r c ≡ Some node → i < bundle (counts_of tree tables)
        → SidesAgree tree tables number (block_at sheet r c) (edge_north sheet r c) (edge_north sheet (r + 1) c) (edge_west sheet r c)
        (edge_west sheet r (c + 1)) i
    node_agrees r c i node is lt =
        let at = at_node r c node is in
        let v = node.node in
        let out = out_of tree tables i v node.frame at.known at.frame_is in
        let n = edge_north sheet r c in
        let s = edge_north sheet (r + 1) c in
        let w = edge_west sheet r c in
        let e = edge_west sheet r (c + 1) in
        let numbers = numbers_of_node v node.frame n s w in
        let told : (side : Side) (o : Option ℕ) → block_sides tree tables (node_kind node) side i ≡ o
        → option_map (block_number tree tables number (node_kind node) n s w) (block_sides tree tables (node_kind node) side i)
        ≡ option_map (number v) o =
        λ side o k. ap (λ g. option_map g (block_sides tree tables (node_kind node) side i)) numbers ∙ ap (option_map (number v)) k in
        let agrees : SidesAgree tree tables number (node_kind node) n s w e i = record {
          north = told North _ out.north ∙ to_parent v i (nat_lt v (top tree))
              ∙ sym (by_child number n i ∙ ap (option_map (λ (ch : ℕ). number ch i)) at.north);
          south = told South _ out.south ∙ to_child v false i (child_of tree false v) at.known lt refl
              ∙ sym (by_child number s i ∙ ap (option_map (λ (ch : ℕ). number ch i)) at.south);
          west = told West _ out.west ∙ sym (ap (λ o. border_number tree tables number o i) at.west);
          east = told East _ out.east ∙ to_child v true i (child_of tree true v) at.known lt refl
              ∙ sym (by_child number e i ∙ ap (option_map (λ (ch : ℕ). number ch i)) at.east);
        } in
        subst (λ k. SidesAgree tree tables number k n s w e i) (sym at.kind) agrees

    pub sides_agree : (r c i : ℕ) → i < bundle (counts_of tree tables)
        → SidesAgree tree tables number (block_at sheet r c) (edge_north sheet r c) (edge_north sheet (r + 1) c) (edge_west sheet r c)
        (edge_west sheet r (c + 1)) i
    sides_agree r c i lt = by (node_on sheet.nodes r c) refl
      where
        by : (o : Option Standing) → node_on sheet.nodes r c ≡ o
            → SidesAgree tree tables number (block_at sheet r c) (edge_north sheet r c) (edge_north sheet (r + 1) c) (edge_west sheet r c)
            (edge_west sheet r (c + 1)) i
        by (Some node) is = node_agrees r c i node is lt
        by None is = wires_agree tree tables number _ _ _ _ _ i lt (go_on sheet r c of.is_sheet is)

  -- ---- the net that carries a wire

  module _ (e : DrawnEdge) (i : ℕ) where
    four_is : (r c : ℕ) (side : Side)
        → among_four (edge_north sheet r c) (edge_north sheet (r + 1) c) (edge_west sheet r c) (edge_west sheet r (c + 1)) side
        ≡ edge_at sheet r c side
    four_is r c North = refl
    four_is r c South = refl
    four_is r c West = refl
    four_is r c East = refl

    wire_carried : (r c : ℕ) (side : Side) → node_on sheet.nodes r c ≡ None → edge_at sheet r c side ≡ Some e
        → (x : ℕ) × Carries sheet tree tables e i r c x
    wire_carried r c side free is =
        let k = carried tree tables e i _ _ _ _ _ side (go_on sheet r c of.is_sheet free) (four_is r c side ∙ is) in
        (k.0, λ other there. k.1 other (four_is r c other ∙ there))

    -- at a node's place an edge that comes from above is wire i, and one that leaves is the net at the port of its role
    abbrev end_net : ℕ → ℕ
    end_net v = if e.child == v then i else out_net tree tables v e.heavy i

    child_is : (o : Option DrawnEdge) (b : Bool) (v : ℕ) → o ≡ Some e → option_map (λ (x : DrawnEdge). x.child) o ≡ cond b (Some v) None
        → (b ≡ true) × (e.child ≡ v)
    child_is o true v is from = (refl, same_Some e.child v (sym (ap (option_map (λ (x : DrawnEdge). x.child)) is) ∙ from))
    child_is o false v is from = absurd (none-some e.child (sym from ∙ ap (option_map (λ (x : DrawnEdge). x.child)) is))

  -- an edge is not found at two ports of one node: it has different ends, and one role
  pub record LeavesBy (e : DrawnEdge) (v : ℕ) (heavy : Bool) : Type 0 where
    pub parent : e.parent ≡ v
    pub role : e.heavy ≡ heavy
    pub other : (e.child == v) ≡ false

  pub node_carried : (e : DrawnEdge) (i r c : ℕ) (node : Standing) → node_on sheet.nodes r c ≡ Some node
      → Carries sheet tree tables e i r c (end_net e i node.node)
  node_carried e i r c node is =
      λ side there. subst (λ k. block_sides tree tables k side i ≡ Some (end_net e i v)) (sym at.kind) (by side there)
    where
      v : ℕ
      v = node.node

      at : AtNode r c node
      at = at_node r c node is

      out : OutOf tree tables i (node_kind node) node.node
      out = out_of tree tables i node.node node.frame at.known at.frame_is

      ports : CrossAtPorts sheet node.node r c
      ports = end sheet r c node of.is_sheet is

      drawn_of : Among sheet.edges e → IsDrawn sheet e
      drawn_of m = all_among (IsDrawn sheet) sheet.edges e of.is_sheet.drawn m

      differ : Among sheet.edges e → e.parent ≡ node.node → (e.child == node.node) ≡ false
      differ m p = other_number e.child node.node (λ same. (drawn_of m).ends_differ (p ∙ sym same))

      leaves_light : edge_north sheet (r + 1) c ≡ Some e → LeavesBy e node.node false
      leaves_light there =
          let own = found_among (λ (x : DrawnEdge). (x.parent == node.node) && not x.heavy) sheet.edges e (sym ports.south ∙ there) in
          let p = eqb-true e.parent node.node (and_first (e.parent == node.node) (not e.heavy) own.1) in
          record { parent = p; role = not_true e.heavy (and_second (e.parent == node.node) (not e.heavy) own.1); other = differ own.0 p }

      leaves_heavy : edge_west sheet r (c + 1) ≡ Some e → LeavesBy e node.node true
      leaves_heavy there =
          let own = found_among (λ (x : DrawnEdge). (x.parent == node.node) && x.heavy) sheet.edges e (sym ports.east ∙ there) in
          let p = eqb-true e.parent node.node (and_first (e.parent == node.node) e.heavy own.1) in
          record { parent = p; role = and_second (e.parent == node.node) e.heavy own.1; other = differ own.0 p }

      leaving : (heavy : Bool) (o : Option DrawnEdge) → o ≡ Some e → option_map (λ (x : DrawnEdge). x.child) o ≡ child_of tree heavy node.node
          → LeavesBy e node.node heavy
          → option_map (λ (x : ℕ). out_net tree tables node.node heavy i) (child_of tree heavy node.node) ≡ Some (end_net e i node.node)
      leaving heavy o there from own =
          let is : end_net e i node.node ≡ out_net tree tables node.node heavy i = rw (own.other, own.role) refl in
          ap (option_map (λ (x : ℕ). out_net tree tables node.node heavy i)) (sym from ∙ ap (option_map (λ (x : DrawnEdge). x.child)) there)
          ∙ ap (λ x. Some x) (sym is)

      by : (side : Side) → edge_at sheet r c side ≡ Some e → block_sides tree tables (node_kind node) side i ≡ Some (end_net e i node.node)
      by North there =
          let k = child_is e i (edge_north sheet r c) (nat_lt node.node (top tree)) node.node there at.north in
          let own : end_net e i node.node ≡ i = rw (eq-eqb e.child node.node k.1) refl in
          out.north ∙ ap (λ (b : Bool). cond b (Some i) None) k.0 ∙ ap (λ x. Some x) (sym own)
      by South there = out.south ∙ leaving false (edge_north sheet (r + 1) c) there at.south (leaves_light there)
      by West there = absurd (none-some e (sym at.west ∙ there))
      by East there = out.east ∙ leaving true (edge_west sheet r (c + 1)) there at.east (leaves_heavy there)

  -- an edge that comes to a place has one net there for each of its wires
  pub some_carried : (e : DrawnEdge) (i r c : ℕ) (side : Side) → edge_at sheet r c side ≡ Some e → (x : ℕ) × Carries sheet tree tables e i r c x
  some_carried e i r c side there = by (node_on sheet.nodes r c) refl
    where
      by : (o : Option Standing) → node_on sheet.nodes r c ≡ o → (x : ℕ) × Carries sheet tree tables e i r c x
      by None is = wire_carried e i r c side is there
      by (Some node) is = (end_net e i node.node, node_carried e i r c node is)
