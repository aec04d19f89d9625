-- A spot of a net in a block is a spot of that net in the layout.
use Rattle.std.proofs.Common.{◌≡◌, ◌↔◌, ℕ, ◌+◌, ◌-◌, ◌*◌, ◌/◌, ◌<◌, ◌≤◌, Bool, true, cond, length, pos, ◌+ℤ◌, ◌-ℤ◌, sym, ap, subst, ◌∙◌, arith}
use Rattle.std.specs.Prelude.{All}
use Rattle.std.proofs.lemmas.Bool.{eq-eqb}
use Rattle.std.proofs.lemmas.Int.{ints}
use Rattle.geom.specs.declared.layer.Layer.TheVariants.{Poly}
use Rattle.geom.specs.Squares.{Covered}
use Rattle.geom.specs.Conduction.{Spot, Conducts}
use Rattle.rx_lang.specs.Tables.{Tables, IsSpecification}
use Rattle.star_normal.specs.Tables.{TreeTable, IsTree, whole}
use Rattle.star_normal.specs.Trees.{leaves}
use Rattle.micro_tiles.specs.declared.side.Side.TheVariants.{South}
use Rattle.micro_tiles.specs.Nets.{square_net}
use Rattle.micro_tiles.specs.Table.{boxes}
use Rattle.stick_grid.specs.Plans.{Plan}
use Rattle.stick_grid.specs.Pieces.{Piece, IsIn}
use Rattle.stick_grid.specs.Transistors.{piece}
use Rattle.stick_grid.specs.Windows.{IsWindow, moved_piece}
use Rattle.stick_grid.specs.Depicted.{border_spot}
use Rattle.stick_grid.specs.PlacedModules.{PlacedModule, name_in, whole_name}
use Rattle.nor_net.specs.Assembly.{PartNet, NetsMeet}
use Rattle.block_grid.specs.declared.kind.BlockKind.{BlockKind}
use Rattle.block_grid.specs.declared.kind.BlockKind.TheVariants.{Node as NodeBlock, Frame as FrameBlock}
use Rattle.block_grid.specs.Lines.{BlockPlace, row_of, col_of}
use Rattle.block_grid.specs.Sheets.{Sheet, block_at}
use Rattle.block_grid.specs.Bundles.{edge_north, edge_west}
use Rattle.light_order.specs.Order.{frame}
use Rattle.channel_route.specs.Drawing.{place_in as place_of}
use Rattle.cell_network.specs.Parts.{counts_of, part_of}
use Rattle.cell_network.specs.Assembled.{part_count, ports_meet, AreDriven}
use Rattle.cell_network.specs.TreeParts.{AreParts}
use Rattle.cell_network.specs.WireMeetings.{IsWireBelow}
use Rattle.node_cell.specs.Blocks.{block_side, block_nets, wire_col}
use Rattle.node_cell.specs.BlockTiles.{block_plan}
use Rattle.node_cell.specs.BlockModules.{HasCapSpot, IsBlockModule, BlocksAreModules}
use Rattle.tree_chip.specs.TreePlans.{IsSheetOf, tree_plan, pad_spot}
use Rattle.tree_chip.proofs.TreeEdges.{top, IsOrder}
use Rattle.tree_chip.proofs.SideNets.{block_number, at_node}
use Rattle.tree_chip.proofs.Numbers.{number}
use Rattle.tree_chip.proofs.Places.{quotient, module_is, window, which}
use Rattle.tree_chip.proofs.Covered.{SheetLaws, block_module, name, rename, ms, stands}

-- ---- moving a part of a plan moves its spots

same_across : (away wire own : ℕ) → pos (14 * (away + wire)) +ℤ pos 6 -ℤ pos (14 * (away + own)) ≡ pos (14 * wire) +ℤ pos 6 -ℤ pos (14 * own)
same_across away wire own = omega (arith, ints)

same_upward : (rows away height own : ℕ) → own < height → away + height ≤ rows
    → pos (14 * (rows - 1 - away)) +ℤ pos 0 -ℤ pos (14 * (rows - 1 - (away + own)))
    ≡ pos (14 * (height - 1 - 0)) +ℤ pos 0 -ℤ pos (14 * (height - 1 - own))
same_upward rows away height own lt fits = omega (arith, ints)

-- A spot on poly that leads south from the first row of a part is of the same net in the whole.
pub cap_moved : (part whole : Plan) (row col wire : ℕ) (p : Piece) → IsWindow part whole row col → IsIn part (border_spot part 0 wire South Poly) p
    → IsIn whole (border_spot whole row (col + wire) South Poly) (moved_piece row col p)
cap_moved part whole row col wire p w h =
    let x = pos (14 * wire) +ℤ pos 6 -ℤ pos (14 * p.col) in
    let y = pos (14 * (part.rows - 1 - 0)) +ℤ pos 0 -ℤ pos (14 * (part.rows - 1 - p.row)) in
    let tile = w.tiles p.row p.col h.is_row h.is_col in
    let there = pos (14 * (col + wire)) +ℤ pos 6 -ℤ pos (14 * (col + p.col)) in
    let up = pos (14 * (whole.rows - 1 - row)) +ℤ pos 0 -ℤ pos (14 * (whole.rows - 1 - (row + p.row))) in
    let across : there ≡ x = same_across col wire p.col in
    let upward : up ≡ y =
    same_upward whole.rows row part.rows p.row h.is_row w.rows in
    let lr = h.is_row in
    let lc = h.is_col in
    let fr = w.rows in
    let fc = w.cols in
    record {
      is_row = omega arith;
      is_col = omega arith;
      conducts = subst (λ t. Conducts (Covered (boxes t)) Poly there up) tile
          (subst (λ a. Conducts (Covered (boxes (part.tile p.row p.col))) Poly a up) (sym across)
          (subst (λ b. Conducts (Covered (boxes (part.tile p.row p.col))) Poly x b) (sym upward) h.conducts));
      net = h.net ∙ ap (λ b. square_net (part.tile p.row p.col) Poly x b) (sym upward)
          ∙ ap (λ a. square_net (part.tile p.row p.col) Poly a up) (sym across) ∙ ap (λ t. square_net t Poly there up) tile;
    }

-- ---- the spots of the frame's nets

module _ (sheet : Sheet) (tree : TreeTable) (tables : Tables) (is_tree : IsTree tree) (known_tables : IsSpecification tables)
    (symbols : All (λ s. s < length tables.symbols) (leaves (whole tree))) (of : IsSheetOf tree sheet) (order : IsOrder tree) (laws : SheetLaws)
    (blocks : BlocksAreModules) (driven : AreDriven tree tables) (parts : AreParts tree tables)
    (meet : (a b : PartNet) → NetsMeet (part_of tree tables) (part_count tree) (ports_meet tree tables) a b ↔ IsWireBelow tree tables a b) where
  abbrev mods : ℕ → PlacedModule
  mods = ms sheet tree tables is_tree known_tables symbols of order laws blocks driven parts meet

  abbrev names : ℕ → ℕ → Piece → ℕ
  names = name sheet tree tables is_tree known_tables symbols of order laws blocks driven parts meet

  abbrev numbers : ℕ → ℕ → ℕ → ℕ
  numbers = rename sheet tree tables is_tree known_tables symbols of order laws blocks driven parts meet

  abbrev at : ℕ → ℕ → ℕ
  at = which sheet tree tables names numbers

  abbrev side : ℕ
  side = block_side (counts_of tree tables)

  -- a spot of a net, and the net of a tile that it is of
  pub record IsSpot (spot : Spot) (net : ℕ) : Type 0 where
    pub under : Piece
    pub inside : IsIn (tree_plan sheet tree tables) spot under
    pub bears : whole_name mods at under ≡ number tree tables (top tree) net

  caps_of : (v : ℕ) (kind : BlockKind) → FrameBlock v ≡ kind → (m : IsBlockModule tree tables kind) (net : ℕ) → net < block_nets tree tables kind
      → HasCapSpot (block_plan tree tables kind) m.name net
  caps_of v kind e = subst (λ k. (m : IsBlockModule tree tables k) (net : ℕ) → net < block_nets tree tables k
      → HasCapSpot (block_plan tree tables k) m.name net) e
      (λ m. m.caps)

  pub pad_spots : (net : ℕ) → net < (part_of tree tables (top tree)).nets → IsSpot (pad_spot sheet tree tables net) net
  pad_spots net lt =
      let s = stands sheet tree tables is_tree known_tables symbols of order laws blocks driven parts meet (top tree) (omega arith) in
      let n = at_node sheet tree tables is_tree of order laws.go_on laws.end s.row s.col s.node s.found in
      let is_frame : (s.node).frame ≡ true = n.frame_is ∙ eq-eqb (s.node).node (frame tree) s.is in
      let kind : FrameBlock (top tree) ≡ block_at sheet s.row s.col =
      sym (n.kind ∙ ap (λ (f : Bool). cond f (FrameBlock (s.node).node) (NodeBlock (s.node).node)) is_frame ∙ ap (λ v. FrameBlock v) s.is) in
      let here = block_module sheet tree tables is_tree known_tables symbols of order laws blocks driven parts meet s.row s.col in
      let below : net < block_nets tree tables (block_at sheet s.row s.col) = subst (λ k. net < block_nets tree tables k) kind lt in
      let cap = caps_of (top tree) (block_at sheet s.row s.col) kind here net below in
      let p = cap.piece in
      let open_row = (cap.inside).is_row in
      let open_col = (cap.inside).is_col in
      let w = window sheet tree tables names numbers of.is_sheet s.row s.col s.is_row s.is_col in
      let moved = cap_moved (block_plan tree tables (block_at sheet s.row s.col)) (tree_plan sheet tree tables) (s.row * side) (s.col * side)
      (wire_col net) p w cap.inside in
      let rows : s.row * side ≡ side * s.row = omega arith in
      let cols : s.col * side ≡ side * s.col = omega arith in
      let spot_at : (q : BlockPlace) → q ≡ (s.row, s.col)
      → border_spot (tree_plan sheet tree tables) (s.row * side) (s.col * side + wire_col net) South Poly
      ≡ border_spot (tree_plan sheet tree tables) (side * row_of q) (side * col_of q + wire_col net) South Poly =
      λ q e.
      ap (λ r. border_spot (tree_plan sheet tree tables) r (s.col * side + wire_col net) South Poly) rows
      ∙ ap (λ c. border_spot (tree_plan sheet tree tables) (side * s.row) (c + wire_col net) South Poly) cols
      ∙ ap (λ (z : BlockPlace). border_spot (tree_plan sheet tree tables) (side * row_of z) (side * col_of z + wire_col net) South Poly) (sym e) in
      let row_is : (s.row * side + p.row) / side ≡ s.row = quotient (s.row * side + p.row) s.row side (omega arith) (omega arith) in
      let col_is : (s.col * side + p.col) / side ≡ s.col = quotient (s.col * side + p.col) s.col side (omega arith) (omega arith) in
      let place_is : at (s.row * side + p.row) (s.col * side + p.col) ≡ s.row * sheet.cols + s.col =
      ap (λ x. x * sheet.cols + (s.col * side + p.col) / side) row_is ∙ ap (λ x. s.row * sheet.cols + x) col_is in
      let back_row : s.row * side + p.row - s.row * side ≡ p.row = omega arith in
      let back_col : s.col * side + p.col - s.col * side ≡ p.col = omega arith in
      let moved_p = moved_piece (s.row * side) (s.col * side) p in
      let named : whole_name mods at moved_p ≡ numbers s.row s.col (here.name p) =
      ap (λ k. name_in (mods k) moved_p) place_is
      ∙ ap (λ m. name_in m moved_p) (module_is sheet tree tables names numbers s.row s.col s.is_col)
      ∙ ap (λ r. numbers s.row s.col (here.name (piece r (s.col * side + p.col - s.col * side) p.net))) back_row
      ∙ ap (λ c. numbers s.row s.col (here.name (piece p.row c p.net))) back_col in
      let numbered : numbers s.row s.col net ≡ number tree tables (top tree) net =
      ap (λ k. block_number tree tables (number tree tables) k (edge_north sheet s.row s.col) (edge_north sheet (s.row + 1) s.col)
      (edge_west sheet s.row s.col) net) (sym kind) in
      record {
        under = moved_p;
        inside = subst (λ spot. IsIn (tree_plan sheet tree tables) spot moved_p) (spot_at (place_of sheet (top tree)) s.place_is) moved;
        bears = named ∙ ap (numbers s.row s.col) cap.bears ∙ numbered;
      }
