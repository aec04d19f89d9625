-- The blocks of a sheet cover its layout, and make it a module.
use Rattle.std.proofs.Common.{◌≡◌, ◌⊎◌, inl, inr, ◌↔◌, ℕ, ◌+◌, ◌-◌, ◌*◌, ◌/◌, ◌%◌, ◌<◌, ◌≤◌, ◌==◌, Bool, true, false, cond, nat_lt, if◌then◌else◌, Option, Some, None, unwrap_or, List, length, refl, sym, ap, subst, ◌∙◌, arith, div-add-mod'}
use Rattle.std.specs.Prelude.{All}
use Rattle.std.proofs.lemmas.Bool.{cases_lt, lt-ltb, le-ltb, eq-eqb, eqb-true}
use Rattle.std.proofs.lemmas.Option.{same_Some}
use Rattle.std.proofs.lemmas.Nat.{mul-le}
use Rattle.geom.specs.Rows.{Among}
use Rattle.rx_lang.specs.Tables.{Tables, IsSpecification}
use Rattle.star_normal.specs.Tables.{TreeTable, IsTree, whole}
use Rattle.star_normal.specs.Trees.{leaves}
use Rattle.micro_tiles.specs.declared.side.Side.{Side}
use Rattle.micro_tiles.specs.declared.side.Side.TheVariants.{North, East, South, West}
use Rattle.stick_grid.specs.Pieces.{Piece}
use Rattle.stick_grid.specs.PlacedModules.{PlacedModule, IsPlaced, ModuleNet, ModulesJoin, AreCovering, whole_net}
use Rattle.stick_grid.specs.PlacedModules.ModulesJoin.{same as same_net}
use Rattle.nor_net.specs.Assembly.{PartNet, part_net, IsPartNet, NetsMeet, PartsJoin}
use Rattle.nor_net.specs.Assembly.PartsJoin.{same as same_part, on as meet_on, back as meet_back}
use Rattle.block_grid.specs.declared.kind.Turn.{Turn}
use Rattle.block_grid.specs.declared.kind.Turn.TheVariants.{NorthEast, NorthWest, SouthEast, SouthWest}
use Rattle.block_grid.specs.declared.kind.BlockKind.{BlockKind}
use Rattle.block_grid.specs.declared.kind.BlockKind.TheVariants.{Empty, Horizontal, Vertical, Cross, Corner, Node as NodeBlock, Frame as FrameBlock}
use Rattle.block_grid.specs.declared.standing.Standing.{Standing}
use Rattle.block_grid.specs.Lines.{BlockPlace, row_of, col_of}
use Rattle.block_grid.specs.Sheets.{DrawnEdge, Sheet, IsDrawn, IsSheet, IsOnSheet, node_on, node_kind, stands_at, block_at}
use Rattle.block_grid.specs.Bundles.{edge_north, edge_west, GoOn, BundlesGoOn, BundlesEndAtPorts, EdgesLead, EdgesHaveEnds, HasEnds, FoundNodesStand, StandingNodesAreFound}
use Rattle.block_grid.specs.Bundles.GoOn.{nothing, level, upright, across, north_east, north_west, south_east, south_west}
use Rattle.light_order.specs.Order.{frame}
use Rattle.channel_route.specs.Drawing.{place_in as place_of}
use Rattle.cell_network.specs.Parts.{counts_of, bundle, part_of}
use Rattle.cell_network.specs.Assembled.{part_count, ports_meet, AreDriven}
use Rattle.cell_network.specs.TreeParts.{AreParts}
use Rattle.cell_network.specs.WireMeetings.{IsWireBelow}
use Rattle.node_cell.specs.Blocks.{block_side, block_nets, block_sides, vdd_wire, IsBlockOf}
use Rattle.node_cell.specs.BlockModules.{IsBlockModule, BlocksAreModules}
use Rattle.tree_chip.specs.TreePlans.{IsSheetOf, tree_plan}
use Rattle.tree_chip.proofs.Members.{all_among, contains_among, found_among, some_found}
use Rattle.tree_chip.proofs.TreeEdges.{top, IsOrder, child_known, drawn_edge, edge_drawn, node_stands, other_number}
use Rattle.tree_chip.proofs.SideNets.{edge_at, among_four, Carries, out_net, KeepsMeetings, bundle_number, corner_number, block_number, place_number, sides_agree, some_carried, node_carried, at_node}
use Rattle.tree_chip.proofs.Numbers.{number, number_of, count, number_below, number_joins, bearer, keeps_meetings, meets_child}
use Rattle.tree_chip.proofs.Places.{modules, place, places, module_is, place_known, row_known, col_known, window, known, holds, once, which}
use Rattle.tree_chip.proofs.Seams.{BordersAgree, eastward, southward}
use Rattle.tree_chip.proofs.EdgeJoins.{join_on, join_back, net_at, wire_leads}

-- what is known of sheets
pub record SheetLaws : Type 0 where
  pub go_on : BundlesGoOn
  pub end : BundlesEndAtPorts
  pub ends : EdgesHaveEnds
  pub lead : EdgesLead
  pub found : FoundNodesStand
  pub standing : StandingNodesAreFound
  pub inside : (s : Sheet) → IsSheet s → (v : ℕ) (p : BlockPlace) → stands_at s.nodes v ≡ Some p → IsOnSheet s p

module _ (sheet : Sheet) (tree : TreeTable) (tables : Tables) (is_tree : IsTree tree) (known_tables : IsSpecification tables)
    (symbols : All (λ s. s < length tables.symbols) (leaves (whole tree))) (of : IsSheetOf tree sheet) (order : IsOrder tree) (laws : SheetLaws)
    (blocks : BlocksAreModules) (driven : AreDriven tree tables) (parts : AreParts tree tables)
    (meet : (a b : PartNet) → NetsMeet (part_of tree tables) (part_count tree) (ports_meet tree tables) a b ↔ IsWireBelow tree tables a b) where
  pub keeps : KeepsMeetings tree tables (number tree tables)
  keeps = keeps_meetings tree tables driven parts meet

  -- ---- the block at each place is one of the tree

  kind_known : (node : Standing) → node.node ≤ top tree → node.frame ≡ (node.node == frame tree) → IsBlockOf tree (node_kind node)
  kind_known node low is = by node.frame is
    where
      by : (f : Bool) → f ≡ (node.node == frame tree) → IsBlockOf tree (cond f (FrameBlock node.node) (NodeBlock node.node))
      by true e = eqb-true node.node (frame tree) (sym e)
      by false e = elim (cases_lt node.node (top tree)) as (λ _. node.node < top tree) [
        | inl lt ↦ lt
        | inr ge ↦ absurd (let on : (node.node == frame tree) ≡ true = eq-eqb node.node (frame tree) (omega arith) in cc)
      ]

  wire_known : (kind : BlockKind) (n s w e : Option DrawnEdge) → GoOn kind n s w e → IsBlockOf tree kind
  wire_known _ _ _ _ _ nothing = tt
  wire_known _ _ _ _ _ (level f) = tt
  wire_known _ _ _ _ _ (upright f) = tt
  wire_known _ _ _ _ _ (across f g ne) = tt
  wire_known _ _ _ _ _ (north_east f) = tt
  wire_known _ _ _ _ _ (north_west f) = tt
  wire_known _ _ _ _ _ (south_east f) = tt
  wire_known _ _ _ _ _ (south_west f) = tt

  is_block : (r c : ℕ) → IsBlockOf tree (block_at sheet r c)
  is_block r c = by (node_on sheet.nodes r c) refl
    where
      by : (o : Option Standing) → node_on sheet.nodes r c ≡ o → IsBlockOf tree (block_at sheet r c)
      by None is = wire_known _ _ _ _ _ (laws.go_on sheet r c of.is_sheet is)
      by (Some node) is =
          let at = at_node sheet tree tables is_tree of order laws.go_on laws.end r c node is in
          subst (IsBlockOf tree) (sym at.kind) (kind_known node at.known at.frame_is)

  pub block_module : (r c : ℕ) → IsBlockModule tree tables (block_at sheet r c)
  block_module r c = blocks tree tables (block_at sheet r c) is_tree known_tables symbols (is_block r c)

  abbrev pub name : ℕ → ℕ → Piece → ℕ
  name r c = (block_module r c).name

  abbrev pub rename : ℕ → ℕ → ℕ → ℕ
  rename r c = place_number sheet tree tables is_tree of order laws.go_on laws.end (number tree tables) keeps r c

  abbrev pub ms : ℕ → PlacedModule
  ms = modules sheet tree tables name rename

  abbrev pub n : ℕ
  n = places sheet tree tables name rename

  abbrev pub net_in : ℕ → ℕ → ℕ → ModuleNet
  net_in = net_at sheet tree tables name rename

  abbrev pub total : ℕ
  total = count tree tables

  abbrev pub vdd : ℕ
  vdd = number tree tables (top tree) (vdd_wire (counts_of tree tables))

  -- ---- numbers of nets of blocks

  wire_is_net : (v i : ℕ) → v ≤ top tree → i < bundle (counts_of tree tables) → IsPartNet (part_of tree tables) (part_count tree) (part_net v i)
  wire_is_net v i low lt = record { known = omega arith; below = by (cases_lt v (top tree)) }
    where
      by : (v < top tree) ⊎ (top tree ≤ v) → i < (part_of tree tables v).nets
      by (inl less) = let nets = parts.node_nets v less in omega arith
      by (inr more) =
          let same : v ≡ top tree = omega arith in
          let nets = parts.frame_nets in
          subst (λ x. i < (part_of tree tables x).nets) (sym same) (omega arith)

  vdd_below : vdd < total
  vdd_below = number_below tree tables driven _ (wire_is_net (top tree) (vdd_wire (counts_of tree tables)) (omega arith) (omega arith))

  -- an edge of the sheet leads to a node
  child_low : (e : DrawnEdge) → Among sheet.edges e → e.child < top tree
  child_low e m =
      let t = drawn_edge tree sheet of e m in
      child_known tree is_tree e.heavy e.parent e.child t.known t.is

  bundle_below : (o : Option DrawnEdge) (i : ℕ) → ((e : DrawnEdge) → o ≡ Some e → e.child < top tree) → i < bundle (counts_of tree tables)
      → bundle_number tree tables (number tree tables) o i < total
  bundle_below None i low lt = vdd_below
  bundle_below (Some e) i low lt =
      number_below tree tables driven _ (wire_is_net e.child i (let k = low e refl in omega arith) lt)

  bundle_supply : (o : Option DrawnEdge) → ((e : DrawnEdge) → o ≡ Some e → e.child < top tree)
      → bundle_number tree tables (number tree tables) o (vdd_wire (counts_of tree tables)) ≡ vdd
  bundle_supply None low = refl
  bundle_supply (Some e) low = keeps.supply e.child (let k = low e refl in omega arith)

  low_north : (r c : ℕ) (e : DrawnEdge) → edge_north sheet r c ≡ Some e → e.child < top tree
  low_north r c e is = child_low e (found_among _ sheet.edges e is).0

  low_west : (r c : ℕ) (e : DrawnEdge) → edge_west sheet r c ≡ Some e → e.child < top tree
  low_west r c e is = child_low e (found_among _ sheet.edges e is).0

  kind_below : (kind : BlockKind) (o s w : Option DrawnEdge) → IsBlockOf tree kind → ((e : DrawnEdge) → o ≡ Some e → e.child < top tree)
      → ((e : DrawnEdge) → s ≡ Some e → e.child < top tree) → ((e : DrawnEdge) → w ≡ Some e → e.child < top tree) → (i : ℕ)
      → i < block_nets tree tables kind
      → block_number tree tables (number tree tables) kind o s w i < total
  kind_below Empty o s w is lo ls lw i lt = absurd (omega arith)
  kind_below Horizontal o s w is lo ls lw i lt = bundle_below w i lw lt
  kind_below Vertical o s w is lo ls lw i lt = bundle_below o i lo lt
  kind_below Cross o s w is lo ls lw i lt = by (nat_lt i (bundle (counts_of tree tables))) refl
    where
      by : (b : Bool) → nat_lt i (bundle (counts_of tree tables)) ≡ b
          → (if b then bundle_number tree tables (number tree tables) o i
          else bundle_number tree tables (number tree tables) w (i - bundle (counts_of tree tables))) < total
      by true e = elim (cases_lt i (bundle (counts_of tree tables))) as (λ _. bundle_number tree tables (number tree tables) o i < total) [
        | inl less ↦ bundle_below o i lo less
        | inr more ↦ absurd (let off = le-ltb i (bundle (counts_of tree tables)) more in cc)
      ]
      by false e = bundle_below w (i - bundle (counts_of tree tables)) lw (omega arith)
  kind_below (Corner turn) o s w is lo ls lw i lt = by turn
    where
      by : (t : Turn) → corner_number tree tables (number tree tables) t o s i < total
      by NorthEast = bundle_below o i lo lt
      by NorthWest = bundle_below o i lo lt
      by SouthEast = bundle_below s i ls lt
      by SouthWest = bundle_below s i ls lt
  kind_below (NodeBlock v) o s w is lo ls lw i lt = number_below tree tables driven _ (record { known = omega arith; below = lt })
  kind_below (FrameBlock v) o s w is lo ls lw i lt = number_below tree tables driven _ (record { known = omega arith; below = lt })

  kind_supply : (kind : BlockKind) (o s w : Option DrawnEdge) → IsBlockOf tree kind → ((e : DrawnEdge) → o ≡ Some e → e.child < top tree)
      → ((e : DrawnEdge) → s ≡ Some e → e.child < top tree) → ((e : DrawnEdge) → w ≡ Some e → e.child < top tree)
      → block_number tree tables (number tree tables) kind o s w (vdd_wire (counts_of tree tables)) ≡ vdd
  kind_supply Empty o s w is lo ls lw = refl
  kind_supply Horizontal o s w is lo ls lw = bundle_supply w lw
  kind_supply Vertical o s w is lo ls lw = bundle_supply o lo
  kind_supply Cross o s w is lo ls lw =
      rw (lt-ltb (vdd_wire (counts_of tree tables)) (bundle (counts_of tree tables)) (omega arith)) (bundle_supply o lo)
  kind_supply (Corner turn) o s w is lo ls lw = by turn
    where
      by : (t : Turn) → corner_number tree tables (number tree tables) t o s (vdd_wire (counts_of tree tables)) ≡ vdd
      by NorthEast = bundle_supply o lo
      by NorthWest = bundle_supply o lo
      by SouthEast = bundle_supply s ls
      by SouthWest = bundle_supply s ls
  kind_supply (NodeBlock v) o s w is lo ls lw = keeps.supply v (omega arith)
  kind_supply (FrameBlock v) o s w is lo ls lw = keeps.supply v (omega arith)

  -- ---- each block in its place

  pub placed : (k : ℕ) → k < n → IsPlaced (tree_plan sheet tree tables) total vdd (ms k)
  placed k lt =
      let r = k / sheet.cols in
      let c = k % sheet.cols in
      record {
        is_module = (block_module r c).is_module;
        window = window sheet tree tables name rename of.is_sheet r c (row_known sheet tree tables name rename k lt)
            (col_known sheet tree tables name rename of.is_sheet k);
        below = kind_below (block_at sheet r c) _ _ _ (is_block r c) (low_north r c) (low_north (r + 1) c) (low_west r c);
        supply = kind_supply (block_at sheet r c) _ _ _ (is_block r c) (low_north r c) (low_north (r + 1) c) (low_west r c);
      }

  pub agree : BordersAgree sheet tree tables name rename of.is_sheet
  agree = record {
    east = λ r c i lt. (sides_agree sheet tree tables is_tree of order laws.go_on laws.end (number tree tables) keeps r c i lt).east
        ∙ sym (sides_agree sheet tree tables is_tree of order laws.go_on laws.end (number tree tables) keeps r (c + 1) i lt).west;
    south = λ r c i lt. (sides_agree sheet tree tables is_tree of order laws.go_on laws.end (number tree tables) keeps r c i lt).south
        ∙ sym (sides_agree sheet tree tables is_tree of order laws.go_on laws.end (number tree tables) keeps (r + 1) c i lt).north;
  }

  -- ---- a node's block

  pub record Stands (v : ℕ) : Type 0 where
    pub row : ℕ
    pub col : ℕ
    pub place_is : place_of sheet v ≡ (row, col)
    pub is_row : row < sheet.rows
    pub is_col : col < sheet.cols
    pub node : Standing
    pub found : node_on sheet.nodes row col ≡ Some node
    pub is : node.node ≡ v

  stands_by : (v : ℕ) (p : BlockPlace) → stands_at sheet.nodes v ≡ Some p → Stands v
  stands_by v p e =
      let found = laws.standing sheet v p of.is_sheet e in
      let inside = laws.inside sheet of.is_sheet v p e in
      record {
        row = row_of p;
        col = col_of p;
        place_is = ap (λ o. unwrap_or o (0, 0)) e;
        is_row = inside.0;
        is_col = inside.1;
        node = found.0;
        found = found.1;
        is = found.2;
      }

  pub stands : (v : ℕ) → v ≤ top tree → Stands v
  stands v low =
      let node = node_stands tree sheet of order v low in
      let place = some_place sheet.nodes node.0 node.1 in
      stands_by v place.0 (ap (stands_at sheet.nodes) (sym node.2) ∙ place.1)
    where
      some_place : (nodes : List Standing) (x : Standing) → Among nodes x → (p : BlockPlace) × (stands_at nodes x.node ≡ Some p)
      some_place nodes x m =
          let some = some_found (λ (y : Standing). y.node == x.node) nodes x m (eq-eqb x.node x.node refl) in
          ((((some.0).row), ((some.0).col)), rw some.1 refl)

  -- the net of the part of v, in its block
  abbrev pub node_net : PartNet → ModuleNet
  node_net a = net_in (row_of (place_of sheet a.which)) (col_of (place_of sheet a.which)) a.net

  node_nets_of : (node : Standing) → block_nets tree tables (node_kind node) ≡ (part_of tree tables node.node).nets
  node_nets_of node = by node.frame
    where
      by : (f : Bool) → block_nets tree tables (cond f (FrameBlock node.node) (NodeBlock node.node)) ≡ (part_of tree tables node.node).nets
      by true = refl
      by false = refl

  node_number : (node : Standing) (o s w : Option DrawnEdge) (x : ℕ) → block_number tree tables (number tree tables) (node_kind node) o s w x
      ≡ number tree tables node.node x
  node_number node o s w x = by node.frame
    where
      by : (f : Bool) → block_number tree tables (number tree tables) (cond f (FrameBlock node.node) (NodeBlock node.node)) o s w x
          ≡ number tree tables node.node x
      by true = refl
      by false = refl

  pub record AtHome (a : PartNet) : Type 0 where
    pub known : (node_net a).which < n
    pub below : (node_net a).net < (ms (node_net a).which).count
    pub number_is : whole_net ms (node_net a) ≡ number_of tree tables a

  pub at_home : (a : PartNet) → IsPartNet (part_of tree tables) (part_count tree) a → AtHome a
  at_home a k =
      let s = stands a.which (let lt = k.known in omega arith) in
      let at = at_node sheet tree tables is_tree of order laws.go_on laws.end s.row s.col s.node s.found in
      let module_here = module_is sheet tree tables name rename s.row s.col s.is_col in
      let known_at : (p : BlockPlace) → p ≡ (s.row, s.col) → place sheet tree tables name rename (row_of p) (col_of p) < n =
      λ p e. subst (λ (q : BlockPlace). place sheet tree tables name rename (row_of q) (col_of q) < n) (sym e)
      (place_known sheet tree tables name rename s.row s.col s.is_row s.is_col) in
      let below_at : a.net < (ms (place sheet tree tables name rename s.row s.col)).count =
      subst (λ m. a.net < m.count) (sym module_here)
      (subst (λ kind. a.net < block_nets tree tables kind) (sym at.kind)
      (subst (λ x. a.net < x) (sym (node_nets_of s.node)) (subst (λ v. a.net < (part_of tree tables v).nets) (sym s.is) k.below))) in
      let number_at : (ms (place sheet tree tables name rename s.row s.col)).rename a.net ≡ number_of tree tables a =
      ap (λ m. m.rename a.net) module_here
      ∙ ap (λ kind. block_number tree tables (number tree tables) kind (edge_north sheet s.row s.col) (edge_north sheet (s.row + 1) s.col)
      (edge_west sheet s.row s.col) a.net) at.kind
      ∙ node_number s.node _ _ _ a.net ∙ ap (λ v. number tree tables v a.net) s.is in
      record {
        known = known_at (place_of sheet a.which) s.place_is;
        below = subst (λ (q : BlockPlace). a.net < (ms (place sheet tree tables name rename (row_of q) (col_of q))).count) (sym s.place_is) below_at;
        number_is = subst (λ (q : BlockPlace). (ms (place sheet tree tables name rename (row_of q) (col_of q))).rename a.net
            ≡ number_of tree tables a)
            (sym s.place_is) number_at;
      }

  -- ---- along the edges of the tree

  abbrev Joins : ModuleNet → ModuleNet → Type 0
  Joins = ModulesJoin ms n

  drawn_of : (e : DrawnEdge) → Among sheet.edges e → IsDrawn sheet e
  drawn_of e m = all_among (IsDrawn sheet) sheet.edges e of.is_sheet.drawn m

  starts_there : (e : DrawnEdge) → Among sheet.edges e → e.start ≡ place_of sheet e.parent
  starts_there e m = sym (ap (λ o. unwrap_or o (0, 0)) (drawn_of e m).starts)

  ends_there : (e : DrawnEdge) → Among sheet.edges e → e.finish ≡ place_of sheet e.child
  ends_there e m = sym (ap (λ o. unwrap_or o (0, 0)) (drawn_of e m).finishes)

  -- the net of a wire at a node's place: wire i where it is the child, and the net of its port where it is the parent
  ends_carry : (e : DrawnEdge) (i : ℕ) → Among sheet.edges e → Carries sheet tree tables e i (row_of e.finish) (col_of e.finish) i
  ends_carry e i m =
      let node = laws.standing sheet e.child e.finish of.is_sheet (drawn_of e m).finishes in
      let k = node_carried sheet tree tables is_tree of order laws.go_on laws.end e i (row_of e.finish) (col_of e.finish) node.0 node.1 in
      let is : (if e.child == (node.0).node then i else out_net tree tables (node.0).node e.heavy i)
      ≡ i = rw (eq-eqb e.child (node.0).node (sym node.2)) refl in
      subst (Carries sheet tree tables e i (row_of e.finish) (col_of e.finish)) is k

  starts_carry : (e : DrawnEdge) (i : ℕ) → Among sheet.edges e
      → Carries sheet tree tables e i (row_of e.start) (col_of e.start) (out_net tree tables e.parent e.heavy i)
  starts_carry e i m =
      let d = drawn_of e m in
      let node = laws.standing sheet e.parent e.start of.is_sheet d.starts in
      let k = node_carried sheet tree tables is_tree of order laws.go_on laws.end e i (row_of e.start) (col_of e.start) node.0 node.1 in
      let off : (e.child == (node.0).node) ≡ false =
      other_number e.child (node.0).node (λ same. d.ends_differ (sym (same ∙ node.2))) in
      let is : (if e.child == (node.0).node then i else out_net tree tables (node.0).node e.heavy i) ≡ out_net tree tables e.parent e.heavy i =
      rw off (ap (λ v. out_net tree tables v e.heavy i) node.2) in
      subst (Carries sheet tree tables e i (row_of e.start) (col_of e.start)) is k

  module _ (e : DrawnEdge) (i : ℕ) (m : Among sheet.edges e) (low : i < bundle (counts_of tree tables)) where
    edge_ends : HasEnds sheet e
    edge_ends = laws.ends sheet e of.is_sheet (contains_among sheet.edges e m)

    -- a net of a block that carries wire i of the edge is joined with wire i of the child
    to_end : (r c x : ℕ) (side : Side) → edge_at sheet r c side ≡ Some e → Carries sheet tree tables e i r c x
        → Joins (net_in r c x) (node_net (part_net e.child i))
    to_end r c x side is on =
        let join = wire_leads sheet tree tables name rename
        (some_carried sheet tree tables is_tree of order laws.go_on laws.end) e i low laws.lead of.is_sheet
        r c x i side is on edge_ends.enters (ends_carry e i m) in
        subst (λ (p : BlockPlace). Joins (net_in r c x) (net_in (row_of p) (col_of p) i)) (ends_there e m) join

    from_start : Joins (node_net (part_net e.parent (out_net tree tables e.parent e.heavy i))) (node_net (part_net e.child i))
    from_start =
        let out = out_net tree tables e.parent e.heavy i in
        subst (λ (p : BlockPlace). Joins (net_in (row_of p) (col_of p) out) (node_net (part_net e.child i))) (starts_there e m)
        (by e.heavy refl)
      where
        by : (h : Bool) → e.heavy ≡ h
            → Joins (net_in (row_of e.start) (col_of e.start) (out_net tree tables e.parent e.heavy i)) (node_net (part_net e.child i))
        by true is = to_end (row_of e.start) (col_of e.start) _ East (edge_ends.leaves_heavy is) (starts_carry e i m)
        by false is = to_end (row_of e.start) (col_of e.start) _ South (edge_ends.leaves_light is) (starts_carry e i m)

  -- nets of parts that meet are joined in the layout
  meeting_joins : (a b : PartNet) → NetsMeet (part_of tree tables) (part_count tree) (ports_meet tree tables) a b → Joins (node_net a) (node_net b)
  meeting_joins a b h =
      let k = meets_child tree tables a b ((meet a b).0 h) in
      let d = edge_drawn tree sheet of k.heavy a.which b.which k.known k.child in
      let join = from_start d.edge b.net d.drawn k.wire in
      let first : out_net tree tables d.edge.parent d.edge.heavy b.net ≡ a.net =
      ap (λ v. out_net tree tables v d.edge.heavy b.net) d.parent ∙ ap (λ x. out_net tree tables a.which x b.net) d.heavy_is ∙ sym k.net in
      subst (λ v. Joins (node_net a) (node_net (part_net v b.net))) d.child
      (subst (λ v. Joins (node_net (part_net v a.net)) (node_net (part_net d.edge.child b.net))) d.parent
      (subst (λ x. Joins (node_net (part_net d.edge.parent x)) (node_net (part_net d.edge.child b.net))) first join))

  pub parts_joined : (a b : PartNet) → PartsJoin (part_of tree tables) (part_count tree) (ports_meet tree tables) a b
      → Joins (node_net a) (node_net b)
  parts_joined _ _ (same_part a) = same_net (node_net a)
  parts_joined _ b (meet_on a d _ h rest) = join_on ms n _ _ _ (meeting_joins a d h) (parts_joined d b rest)
  parts_joined _ b (meet_back a d _ h rest) = join_on ms n _ _ _ (join_back ms n _ _ (meeting_joins d a h)) (parts_joined d b rest)

  -- ---- each net of a block leads to a net of a part with its number

  pub record LedToPart (a : ModuleNet) (k : ℕ) : Type 0 where
    pub part : PartNet
    pub known : IsPartNet (part_of tree tables) (part_count tree) part
    pub number_is : number_of tree tables part ≡ k
    pub join : Joins a (node_net part)

  by_wire : (r c x i k : ℕ) (o : Option DrawnEdge) (side : Side) → i < bundle (counts_of tree tables)
      → edge_at sheet r c side ≡ o → ((e : DrawnEdge) → o ≡ Some e → Carries sheet tree tables e i r c x) → (e : DrawnEdge) → o ≡ Some e
      → number tree tables e.child i ≡ k → LedToPart (net_in r c x) k
  by_wire r c x i k o side low at carries e is named =
      let m = among_side r c side e (at ∙ is) in
      let child = child_low e m in
      record {
        part = part_net e.child i;
        known = wire_is_net e.child i (omega arith) low;
        number_is = named;
        join = to_end e i m low r c x side (at ∙ is) (carries e is);
      }
    where
      among_side : (r c : ℕ) (side : Side) (e : DrawnEdge) → edge_at sheet r c side ≡ Some e → Among sheet.edges e
      among_side r c North e is = (found_among _ sheet.edges e is).0
      among_side r c South e is = (found_among _ sheet.edges e is).0
      among_side r c West e is = (found_among _ sheet.edges e is).0
      among_side r c East e is = (found_among _ sheet.edges e is).0

  -- the edge that a net of a block of wires is drawn by, the side at which it crosses, and the wire
  pub record WireOf (kind : BlockKind) (o s w e : Option DrawnEdge) (x : ℕ) : Type 0 where
    pub side : Side
    pub edge : DrawnEdge
    pub wire : ℕ
    pub low : wire < bundle (counts_of tree tables)
    pub crosses : among_four o s w e side ≡ Some edge
    pub leads_out : block_sides tree tables kind side wire ≡ Some x
    pub number_is : number tree tables edge.child wire ≡ block_number tree tables (number tree tables) kind o s w x

  wire_of : (kind : BlockKind) (o s w e : Option DrawnEdge) (x : ℕ) → GoOn kind o s w e → x < block_nets tree tables kind → WireOf kind o s w e x
  wire_of _ _ _ _ _ x nothing lt = absurd (omega arith)
  wire_of _ _ _ _ _ x (level f) lt = record { side = West; edge = f; wire = x; low = lt; crosses = refl; leads_out = refl; number_is = refl }
  wire_of _ _ _ _ _ x (upright f) lt = record { side = North; edge = f; wire = x; low = lt; crosses = refl; leads_out = refl; number_is = refl }
  wire_of _ _ _ _ _ x (across f g ne) lt = by (cases_lt x (bundle (counts_of tree tables)))
    where
      by : (x < bundle (counts_of tree tables)) ⊎ (bundle (counts_of tree tables) ≤ x) → WireOf Cross (Some f) (Some f) (Some g) (Some g) x
      by (inl less) = record {
        side = North;
        edge = f;
        wire = x;
        low = less;
        crosses = refl;
        leads_out = refl;
        number_is = rw (lt-ltb x (bundle (counts_of tree tables)) less) refl;
      }
      by (inr more) = record {
        side = West;
        edge = g;
        wire = x - bundle (counts_of tree tables);
        low = omega arith;
        crosses = refl;
        leads_out = ap (λ y. Some y) (let back : bundle (counts_of tree tables) + (x - bundle (counts_of tree tables)) ≡ x = omega arith in back);
        number_is = rw (le-ltb x (bundle (counts_of tree tables)) more) refl;
      }
  wire_of _ _ _ _ _ x (north_east f) lt = record { side = North; edge = f; wire = x; low = lt; crosses = refl; leads_out = refl; number_is = refl }
  wire_of _ _ _ _ _ x (north_west f) lt = record { side = North; edge = f; wire = x; low = lt; crosses = refl; leads_out = refl; number_is = refl }
  wire_of _ _ _ _ _ x (south_east f) lt = record { side = South; edge = f; wire = x; low = lt; crosses = refl; leads_out = refl; number_is = refl }
  wire_of _ _ _ _ _ x (south_west f) lt = record { side = South; edge = f; wire = x; low = lt; crosses = refl; leads_out = refl; number_is = refl }

  four_at : (r c : ℕ) (side : Side)
      → among_four (edge_north sheet r c) (edge_north sheet (r + 1) c) (edge_west sheet r c) (edge_west sheet r (c + 1)) side
      ≡ edge_at sheet r c side
  four_at r c North = refl
  four_at r c South = refl
  four_at r c West = refl
  four_at r c East = refl

  wires_lead : (r c x : ℕ) → node_on sheet.nodes r c ≡ None → x < block_nets tree tables (block_at sheet r c)
      → LedToPart (net_in r c x) (rename r c x)
  wires_lead r c x free lt =
      let w = wire_of (block_at sheet r c) _ _ _ _ x (laws.go_on sheet r c of.is_sheet free) lt in
      let crosses : edge_at sheet r c w.side ≡ Some w.edge = sym (four_at r c w.side) ∙ w.crosses in
      let k = some_carried sheet tree tables is_tree of order laws.go_on laws.end w.edge w.wire r c w.side crosses in
      let same : k.0 ≡ x = same_Some k.0 x (sym (k.1 w.side crosses) ∙ w.leads_out) in
      by_wire r c x w.wire (rename r c x) (Some w.edge) w.side w.low crosses
      (λ e is. subst (λ y. Carries sheet tree tables e w.wire r c y) same (subst (λ z. Carries sheet tree tables z w.wire r c k.0)
      (same_Some w.edge e is) k.1))
      w.edge refl w.number_is

  nodes_lead : (r c x : ℕ) (node : Standing) → node_on sheet.nodes r c ≡ Some node → x < block_nets tree tables (block_at sheet r c)
      → LedToPart (net_in r c x) (rename r c x)
  nodes_lead r c x node is lt =
      let at = at_node sheet tree tables is_tree of order laws.go_on laws.end r c node is in
      let stands = laws.found sheet r c node of.is_sheet is in
      let here : place_of sheet node.node ≡ (r, c) = ap (λ o. unwrap_or o (0, 0)) stands in
      record {
        part = part_net node.node x;
        known = record {
          known = (let low = at.known in omega arith);
          below = subst (λ y. x < y) (node_nets_of node) (subst (λ kind. x < block_nets tree tables kind) at.kind lt);
        };
        number_is = sym (ap (λ kind. block_number tree tables (number tree tables) kind (edge_north sheet r c) (edge_north sheet (r + 1) c)
            (edge_west sheet r c) x) at.kind
            ∙ node_number node _ _ _ x);
        join = subst (λ (p : BlockPlace). Joins (net_in r c x) (net_in (row_of p) (col_of p) x)) (sym here) (same_net (net_in r c x));
      }

  places_lead : (r c x : ℕ) → x < block_nets tree tables (block_at sheet r c) → LedToPart (net_in r c x) (rename r c x)
  places_lead r c x lt = by (node_on sheet.nodes r c) refl
    where
      by : (o : Option Standing) → node_on sheet.nodes r c ≡ o → LedToPart (net_in r c x) (rename r c x)
      by None is = wires_lead r c x is lt
      by (Some node) is = nodes_lead r c x node is lt

  -- ---- homes

  abbrev home_by : (k : ℕ) → (k < total) ⊎ (total ≤ k) → ModuleNet
  home_by k (inl lt) = node_net (bearer tree tables k lt).net
  home_by k (inr ge) = record { which = 0; net = 0 }

  abbrev pub home : ℕ → ModuleNet
  home k = home_by k (cases_lt k total)

  pub record IsHome (k : ℕ) (a : ModuleNet) : Type 0 where
    pub part : PartNet
    pub is : a ≡ node_net part
    pub known : IsPartNet (part_of tree tables) (part_count tree) part
    pub number_is : number_of tree tables part ≡ k

  pub is_home : (k : ℕ) → k < total → IsHome k (home k)
  is_home k lt = by (cases_lt k total)
    where
      by : (o : (k < total) ⊎ (total ≤ k)) → IsHome k (home_by k o)
      by (inl less) =
          let b = bearer tree tables k less in
          record { part = b.net; is = refl; known = b.known; number_is = b.number_is }
      by (inr more) = absurd (omega arith)

  pub leads : (a : ModuleNet) → a.which < n → a.net < (ms a.which).count → Joins a (home (whole_net ms a))
  leads a lt below =
      let r = a.which / sheet.cols in
      let c = a.which % sheet.cols in
      let led = places_lead r c a.net below in
      let number_low : whole_net ms a < total = subst (λ x. x < total) led.number_is (number_below tree tables driven led.part led.known) in
      let h = is_home (whole_net ms a) number_low in
      let to_home = parts_joined led.part h.part
      (number_joins tree tables driven led.part h.part led.known h.known (led.number_is ∙ sym h.number_is)) in
      let here : net_in r c a.net ≡ a = ap (λ k. record { which = k; net = a.net }) (div-add-mod' a.which sheet.cols) in
      subst (Joins a) (sym h.is) (subst (λ b. Joins b (node_net h.part)) here (join_on ms n _ _ _ led.join to_home))

  unfoldable pub covering : AreCovering (tree_plan sheet tree tables) total vdd ms n
  covering = record {
    some_row = (let rows = of.is_sheet.some_rows in many sheet.rows rows);
    some_col = (let cols = of.is_sheet.some_cols in many sheet.cols cols);
    placed = placed;
    at = which sheet tree tables name rename;
    known = known sheet tree tables name rename of.is_sheet;
    holds = holds sheet tree tables name rename of.is_sheet;
    once = once sheet tree tables name rename of.is_sheet;
    eastward = eastward sheet tree tables name rename of.is_sheet agree;
    southward = southward sheet tree tables name rename of.is_sheet agree;
    home = home;
    home_known = λ k lt. let h = is_home k lt in subst (λ a. a.which < n) (sym h.is) (at_home h.part h.known).known;
    home_below = λ k lt. let h = is_home k lt in subst (λ a. a.net < (ms a.which).count) (sym h.is) (at_home h.part h.known).below;
    bears = λ k lt. let h = is_home k lt in ap (whole_net ms) h.is ∙ (at_home h.part h.known).number_is ∙ h.number_is;
    leads = leads;
  }
    where
      many : (m : ℕ) → 1 ≤ m → 1 ≤ block_side (counts_of tree tables) * m
      many m le = let more = mul-le 1 1 (block_side (counts_of tree tables)) m (omega arith) le in omega arith
