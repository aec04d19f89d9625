-- Where one block ends and another begins, the same nets lead out of both.
use Rattle.std.proofs.Common.{◌≡◌, ℕ, ◌+◌, ◌-◌, ◌*◌, ◌/◌, ◌%◌, ◌<◌, ◌==◌, Bool, Option, Some, None, option_map, refl, sym, ap, ◌∙◌, arith}
use Rattle.std.specs.Prelude.{find}
use Rattle.std.specs.List.{range_with_len}
use Rattle.std.specs.Option.{option_and_then}
use Rattle.geom.specs.declared.layer.Layer.{Layer}
use Rattle.geom.specs.declared.layer.Layer.TheVariants.{Diffusion, Poly, Metal, Cut, Implant}
use Rattle.rx_lang.specs.Tables.{Tables}
use Rattle.star_normal.specs.Tables.{TreeTable}
use Rattle.micro_tiles.specs.declared.side.Side.TheVariants.{North, East, South, West}
use Rattle.stick_grid.specs.Pieces.{Piece}
use Rattle.stick_grid.specs.PlacedModules.{PlacedModule, StandBeside, StandAbove, border_in}
use Rattle.block_grid.specs.Sheets.{Sheet, IsSheet, block_at}
use Rattle.cell_network.specs.Parts.{counts_of, bundle}
use Rattle.node_cell.specs.Blocks.{block_sides, net_in_col, wire_in_row, wire_col, wire_row}
use Rattle.tree_chip.proofs.Members.{found_among, among_ranged}
use Rattle.tree_chip.proofs.Places.{side, module_at, modules, places, is_next, is_below}

-- a wire that is found is one of the bundle
pub found_below : (test : ℕ → Bool) (n i : ℕ) → find test (range_with_len 0 n) ≡ Some i → i < n
found_below test n i e = let k = (among_ranged 0 n i (found_among test (range_with_len 0 n) i e).0).1 in omega arith

module _ (sheet : Sheet) (tree : TreeTable) (tables : Tables) (name : ℕ → ℕ → Piece → ℕ) (rename : ℕ → ℕ → ℕ → ℕ) (is_sheet : IsSheet sheet) where
  abbrev wires : ℕ
  wires = bundle (counts_of tree tables)

  -- The blocks on both sides of a border have the same nets for each wire.
  pub record BordersAgree : Type 0 where
    pub east : (r c i : ℕ) → i < wires → option_map (rename r c) (block_sides tree tables (block_at sheet r c) East i)
        ≡ option_map (rename r (c + 1)) (block_sides tree tables (block_at sheet r (c + 1)) West i)
    pub south : (r c i : ℕ) → i < wires → option_map (rename r c) (block_sides tree tables (block_at sheet r c) South i)
        ≡ option_map (rename (r + 1) c) (block_sides tree tables (block_at sheet (r + 1) c) North i)

  module _ (agree : BordersAgree) where
    abbrev at : ℕ → ℕ → PlacedModule
    at = module_at sheet tree tables name rename

    east_wire : (r c : ℕ) (o : Option ℕ) → ((i : ℕ) → o ≡ Some i → i < wires)
        → option_map (rename r c) (option_and_then (block_sides tree tables (block_at sheet r c) East) o)
        ≡ option_map (rename r (c + 1)) (option_and_then (block_sides tree tables (block_at sheet r (c + 1)) West) o)
    east_wire r c None low = refl
    east_wire r c (Some i) low = agree.east r c i (low i refl)

    south_wire : (r c : ℕ) (o : Option ℕ) → ((i : ℕ) → o ≡ Some i → i < wires)
        → option_map (rename r c) (option_and_then (block_sides tree tables (block_at sheet r c) South) o)
        ≡ option_map (rename (r + 1) c) (option_and_then (block_sides tree tables (block_at sheet (r + 1) c) North) o)
    south_wire r c None low = refl
    south_wire r c (Some i) low = agree.south r c i (low i refl)

    east_seam : (r c row : ℕ) (layer : Layer) → border_in (at r c) East row layer ≡ border_in (at r (c + 1)) West row layer
    east_seam r c row Metal =
        let place = row - r * side sheet tree tables name rename in
        east_wire r c (wire_in_row (counts_of tree tables) place) (λ i e. found_below (λ j. wire_row (counts_of tree tables) j == place) wires i e)
    east_seam r c row Poly = refl
    east_seam r c row Diffusion = refl
    east_seam r c row Cut = refl
    east_seam r c row Implant = refl

    south_seam : (r c col : ℕ) (layer : Layer) → border_in (at r c) South col layer ≡ border_in (at (r + 1) c) North col layer
    south_seam r c col Poly =
        let place = col - c * side sheet tree tables name rename in
        south_wire r c (net_in_col wires place) (λ i e. found_below (λ j. wire_col j == place) wires i e)
    south_seam r c col Metal = refl
    south_seam r c col Diffusion = refl
    south_seam r c col Cut = refl
    south_seam r c col Implant = refl

    pub eastward : (k l row col : ℕ) (layer : Layer)
        → StandBeside (modules sheet tree tables name rename) (places sheet tree tables name rename) k l row col
        → border_in (modules sheet tree tables name rename k) East row layer ≡ border_in (modules sheet tree tables name rename l) West row layer
    eastward k l row col layer stand =
        let next = is_next sheet tree tables name rename is_sheet k l row col stand in
        let r = k / sheet.cols in
        let c = k % sheet.cols in
        east_seam r c row layer
        ∙ sym (ap (λ x. border_in (at x (l % sheet.cols)) West row layer) next.row ∙ ap (λ x. border_in (at r x) West row layer) next.col)

    pub southward : (k l row col : ℕ) (layer : Layer)
        → StandAbove (modules sheet tree tables name rename) (places sheet tree tables name rename) k l row col
        → border_in (modules sheet tree tables name rename k) South col layer ≡ border_in (modules sheet tree tables name rename l) North col layer
    southward k l row col layer stand =
        let next = is_below sheet tree tables name rename is_sheet k l row col stand in
        let r = k / sheet.cols in
        let c = k % sheet.cols in
        south_seam r c col layer
        ∙ sym (ap (λ x. border_in (at x (l % sheet.cols)) North col layer) next.row ∙ ap (λ x. border_in (at (r + 1) x) North col layer) next.col)
