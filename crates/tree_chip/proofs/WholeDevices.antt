-- The devices of the blocks are those of the parts of the nodes and of the frame, in another order.
use Rattle.std.proofs.Common.{◌≡◌, ◌⊎◌, inl, inr, ◌↔◌, ℕ, ◌+◌, ◌*◌, ◌/◌, ◌%◌, ◌<◌, ◌≤◌, ◌==◌, Bool, true, false, cond, Option, Some, None, unwrap_or, List, [], ◌∷◌, map, length, IsPermutation, refl, sym, ap, subst, ◌∙◌, arith, div-add-mod'}
use Rattle.std.specs.Prelude.{flat_map, All}
use Rattle.std.specs.List.{range_with_len}
use Rattle.std.proofs.lemmas.Bool.{cases_lt}
use Rattle.std.proofs.lemmas.Nat.{div-mul-add, mod-mul-add}
use Rattle.std.proofs.lemmas.List.{append-nil}
use Rattle.rx_lang.specs.Tables.{Tables, IsSpecification}
use Rattle.star_normal.specs.Tables.{TreeTable, IsTree, whole}
use Rattle.star_normal.specs.Trees.{leaves}
use Rattle.switch_net.specs.Circuit.{renamed_device}
use Rattle.switch_net.specs.declared.network.Device.{Device}
use Rattle.stick_grid.specs.PlacedModules.{PlacedModule, devices_in, whole_devices}
use Rattle.nor_net.specs.Assembly.{PartNet, NetsMeet, devices_by, assembled_devices}
use Rattle.block_grid.specs.declared.kind.BlockKind.{BlockKind}
use Rattle.block_grid.specs.declared.kind.BlockKind.TheVariants.{Node as NodeBlock, Frame as FrameBlock}
use Rattle.block_grid.specs.declared.standing.Standing.{Standing}
use Rattle.block_grid.specs.Lines.{row_of, col_of}
use Rattle.block_grid.specs.Sheets.{DrawnEdge, Sheet, node_on, node_kind}
use Rattle.block_grid.specs.Bundles.{edge_north, edge_west, GoOn}
use Rattle.block_grid.specs.Bundles.GoOn.{nothing, level, upright, across, north_east, north_west, south_east, south_west}
use Rattle.channel_route.specs.Drawing.{place_in as place_of}
use Rattle.cell_network.specs.Parts.{part_of}
use Rattle.cell_network.specs.Assembled.{part_count, ports_meet, AreDriven}
use Rattle.cell_network.specs.TreeParts.{AreParts}
use Rattle.cell_network.specs.WireMeetings.{IsWireBelow}
use Rattle.node_cell.specs.Blocks.{block_devices}
use Rattle.node_cell.specs.BlockModules.{BlocksAreModules}
use Rattle.tree_chip.specs.TreePlans.{IsSheetOf}
use Rattle.tree_chip.proofs.Counted.{times, times_cons, times_none, own_time, other_time, flat_flat, flat_same, gathered, range_times_in, range_times_above, nowhere, once_in}
use Rattle.tree_chip.proofs.TreeEdges.{top, IsOrder}
use Rattle.tree_chip.proofs.SideNets.{block_number, at_node}
use Rattle.tree_chip.proofs.Numbers.{number, number_of}
use Rattle.tree_chip.proofs.Places.{place, place_known}
use Rattle.tree_chip.proofs.Covered.{SheetLaws, name, rename, ms, n, stands}

-- the node at a place, if one stands there
abbrev pub listed_node : Option Standing → List ℕ
listed_node None = []
listed_node (Some node) = node.node ∷ []

module _ (sheet : Sheet) (tree : TreeTable) (tables : Tables) (is_tree : IsTree tree) (known_tables : IsSpecification tables)
    (symbols : All (λ s. s < length tables.symbols) (leaves (whole tree))) (of : IsSheetOf tree sheet) (order : IsOrder tree) (laws : SheetLaws)
    (blocks : BlocksAreModules) (driven : AreDriven tree tables) (parts : AreParts tree tables)
    (meet : (a b : PartNet) → NetsMeet (part_of tree tables) (part_count tree) (ports_meet tree tables) a b ↔ IsWireBelow tree tables a b) where
  abbrev mods : ℕ → PlacedModule
  mods = ms sheet tree tables is_tree known_tables symbols of order laws blocks driven parts meet

  abbrev many : ℕ
  many = n sheet tree tables is_tree known_tables symbols of order laws blocks driven parts meet

  abbrev node_here : ℕ → List ℕ
  node_here k = listed_node (node_on sheet.nodes (k / sheet.cols) (k % sheet.cols))

  abbrev of_part : ℕ → List Device
  of_part = devices_by (part_of tree tables) (number_of tree tables)

  -- ---- the devices of one block

  abbrev renamed_in : BlockKind → Option DrawnEdge → Option DrawnEdge → Option DrawnEdge → List Device
  renamed_in kind o s w = map (renamed_device (block_number tree tables (number tree tables) kind o s w)) (block_devices tree tables kind)

  no_devices : (kind : BlockKind) (o s w e : Option DrawnEdge) → GoOn kind o s w e → renamed_in kind o s w ≡ []
  no_devices _ _ _ _ _ nothing = refl
  no_devices _ _ _ _ _ (level f) = refl
  no_devices _ _ _ _ _ (upright f) = refl
  no_devices _ _ _ _ _ (across f g ne) = refl
  no_devices _ _ _ _ _ (north_east f) = refl
  no_devices _ _ _ _ _ (north_west f) = refl
  no_devices _ _ _ _ _ (south_east f) = refl
  no_devices _ _ _ _ _ (south_west f) = refl

  node_devices : (node : Standing) (o s w : Option DrawnEdge) → renamed_in (node_kind node) o s w ≡ of_part node.node
  node_devices node o s w = by node.frame
    where
      by : (f : Bool) → renamed_in (cond f (FrameBlock node.node) (NodeBlock node.node)) o s w ≡ of_part node.node
      by true = refl
      by false = refl

  in_block : (k : ℕ) → devices_in (mods k) ≡ flat_map of_part (node_here k)
  in_block k = by (node_on sheet.nodes (k / sheet.cols) (k % sheet.cols)) refl
    where
      r : ℕ
      r = k / sheet.cols

      c : ℕ
      c = k % sheet.cols

      by : (o : Option Standing) → node_on sheet.nodes (k / sheet.cols) (k % sheet.cols) ≡ o → devices_in (mods k) ≡ flat_map of_part (node_here k)
      by None is =
          no_devices _ _ _ _ _ (laws.go_on sheet (k / sheet.cols) (k % sheet.cols) of.is_sheet is)
          ∙ sym (ap (λ o. flat_map of_part (listed_node o)) is)
      by (Some node) is =
          let at = at_node sheet tree tables is_tree of order laws.go_on laws.end (k / sheet.cols) (k % sheet.cols) node is in
          ap (λ kind. renamed_in kind (edge_north sheet (k / sheet.cols) (k % sheet.cols)) (edge_north sheet (k / sheet.cols + 1) (k % sheet.cols))
          (edge_west sheet (k / sheet.cols) (k % sheet.cols))) at.kind
          ∙ node_devices node _ _ _ ∙ sym (ap (λ o. flat_map of_part (listed_node o)) is ∙ append-nil (of_part node.node))

  all_blocks : whole_devices mods many ≡ flat_map of_part (flat_map node_here (range_with_len 0 many))
  all_blocks = flat_same (λ k. devices_in (mods k)) (λ k. flat_map of_part (node_here k)) (range_with_len 0 many) in_block
      ∙ sym (flat_flat of_part node_here (range_with_len 0 many))

  -- ---- each node stands once

  abbrev Found : ℕ → ℕ → Type 0
  Found v k = (node : Standing) × (node_on sheet.nodes (k / sheet.cols) (k % sheet.cols) ≡ Some node) × (node.node ≡ v)

  here_or_not : (v k : ℕ) → (Found v k → times v (node_here k) ≡ 1) × ((Found v k → ⊥) → times v (node_here k) ≡ 0)
  here_or_not v k = (on, off (node_on sheet.nodes (k / sheet.cols) (k % sheet.cols)) refl)
    where
      on : Found v k → times v (node_here k) ≡ 1
      on f =
          let all = times_cons v (f.0).node [] in
          let none = times_none v in
          let own = own_time v in
          ap (λ o. times v (listed_node o)) f.1 ∙ ap (λ x. times v (x ∷ [])) f.2 ∙ times_cons v v []
          ∙ (let e : cond (v == v) 1 0 + times v [] ≡ 1 = omega arith in e)

      off : (o : Option Standing) → node_on sheet.nodes (k / sheet.cols) (k % sheet.cols) ≡ o → (Found v k → ⊥) → times v (node_here k) ≡ 0
      off None is never = ap (λ o. times v (listed_node o)) is ∙ times_none v
      off (Some node) is never =
          let none = times_none v in
          let other = other_time node.node v (λ e. never (node, is, e)) in
          ap (λ o. times v (listed_node o)) is ∙ times_cons v node.node [] ∙ (let e : cond (node.node == v) 1 0 + times v [] ≡ 0 = omega arith in e)

  stands_once : (v : ℕ) → v ≤ top tree → times v (flat_map node_here (range_with_len 0 many)) ≡ 1
  stands_once v low =
      let s = stands sheet tree tables is_tree known_tables symbols of order laws blocks driven parts meet v low in
      let nm = name sheet tree tables is_tree known_tables symbols of order laws blocks driven parts meet in
      let rn = rename sheet tree tables is_tree known_tables symbols of order laws blocks driven parts meet in
      let at = place sheet tree tables nm rn s.row s.col in
      let known = place_known sheet tree tables nm rn s.row s.col s.is_row s.is_col in
      let row : at / sheet.cols ≡ s.row = div-mul-add s.row sheet.cols s.col s.is_col in
      let col : at % sheet.cols ≡ s.col = mod-mul-add s.row sheet.cols s.col s.is_col in
      let here : Found v at =
      (s.node, ap (λ x. node_on sheet.nodes x (at % sheet.cols)) row ∙ ap (node_on sheet.nodes s.row) col ∙ s.found, s.is) in
      once_in v node_here 0 many at (omega arith) (omega arith) ((here_or_not v at).0 here)
      (λ k ne. (here_or_not v k).1
      (λ f.
      let there = laws.found sheet (k / sheet.cols) (k % sheet.cols) f.0 of.is_sheet f.1 in
      let place_is : place_of sheet v ≡ (k / sheet.cols, k % sheet.cols) = ap (λ x. place_of sheet x) (sym f.2)
      ∙ ap (λ o. unwrap_or o (0, 0)) there in
      let both = sym place_is ∙ s.place_is in
      let same_row : k / sheet.cols ≡ s.row = ap row_of both in
      let same_col : k % sheet.cols ≡ s.col = ap col_of both in
      ne (sym (div-add-mod' k sheet.cols) ∙ ap (λ x. x * sheet.cols + k % sheet.cols) same_row ∙ ap (λ x. s.row * sheet.cols + x) same_col)))

  never_stands : (v : ℕ) → top tree < v → times v (flat_map node_here (range_with_len 0 many)) ≡ 0
  never_stands v high =
      nowhere v node_here 0 many
      (λ k low lt. (here_or_not v k).1
      (λ f.
      let at = at_node sheet tree tables is_tree of order laws.go_on laws.end (k / sheet.cols) (k % sheet.cols) f.0 f.1 in
      let known = at.known in
      let same = f.2 in
      omega arith))

  same_times : (v : ℕ) → times v (range_with_len 0 (part_count tree)) ≡ times v (flat_map node_here (range_with_len 0 many))
  same_times v = by (cases_lt (top tree) v)
    where
      by : (top tree < v) ⊎ (v ≤ top tree) → times v (range_with_len 0 (part_count tree)) ≡ times v (flat_map node_here (range_with_len 0 many))
      by (inl high) = range_times_above v 0 (part_count tree) (omega arith) ∙ sym (never_stands v high)
      by (inr low) = range_times_in v 0 (part_count tree) (omega arith) (omega arith) ∙ sym (stands_once v low)

  pub devices_gathered : IsPermutation (assembled_devices (part_of tree tables) (part_count tree) (number_of tree tables)) (whole_devices mods many)
  devices_gathered =
      subst (IsPermutation (assembled_devices (part_of tree tables) (part_count tree) (number_of tree tables))) (sym all_blocks)
      (gathered of_part (range_with_len 0 (part_count tree)) (flat_map node_here (range_with_len 0 many)) same_times)
