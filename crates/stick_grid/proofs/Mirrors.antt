-- The mirror image of a module.
use Rattle.std.proofs.Common.{◌≡◌, ℕ, ◌+◌, ◌-◌, ◌<◌, ◌≤◌, ◌==◌, Bool, true, false, Some, None, refl, sym, ap, ◌∙◌, subst, arith}
use Rattle.std.specs.Prelude.{option_map, nat_le, if◌then◌else◌}
use Rattle.std.proofs.lemmas.Bool.{leb-false}
use Rattle.geom.specs.declared.layer.Layer.{Layer}
use Rattle.micro_tiles.specs.declared.side.Port.{Port}
use Rattle.micro_tiles.specs.declared.side.Side.{Side}
use Rattle.micro_tiles.specs.declared.side.Side.TheVariants.{North, East, South, West}
use Rattle.micro_tiles.specs.Sides.{Carries, carries, mirrored_side}
use Rattle.micro_tiles.specs.Designs.{side_net}
use Rattle.micro_tiles.specs.Nets.{named_net}
use Rattle.micro_tiles.specs.Table.{tile_count, transpose_of, design_of, port_at}
use Rattle.micro_tiles.specs.Transposes.{TransposesAreMirrored}
use Rattle.stick_grid.specs.Plans.{Plan, IsPlan}
use Rattle.stick_grid.specs.Pieces.{Piece, MeetsAtEast, MeetsAtSouth, Connected}
use Rattle.stick_grid.specs.Pieces.Connected.{same, east, west, south, north}
use Rattle.stick_grid.specs.Names.{IsPiece, AreNames}
use Rattle.stick_grid.specs.Modules.{Border, places_along, net_along}
use Rattle.stick_grid.specs.Mirrors.{mirrored_plan, mirrored_piece, mirrored_border}

-- The table has the transpose of each tile.
transposed_below : (tile : ℕ) → tile < tile_count → transpose_of tile < tile_count
transposed_below tile known = by_tests (tile == 0) (nat_le 28 tile) refl
  where
    by_tests : (none late : Bool) → nat_le 28 tile ≡ late → (if none then 0 else if late then tile - 27 else tile + 27) < tile_count
    by_tests true late e = omega arith
    by_tests false true e = omega arith
    by_tests false false e = let early = leb-false 28 tile e in omega arith

module _ (mirrored : TransposesAreMirrored) where
  -- what the transpose has at a side
  module _ (tile : ℕ) (known : tile < tile_count) where
    pub port_is : (side : Side) → port_at (transpose_of tile) side ≡ port_at tile (mirrored_side side)
    port_is North = (mirrored tile known).port West
    port_is East = (mirrored tile known).port South
    port_is South = (mirrored tile known).port East
    port_is West = (mirrored tile known).port North

    pub net_is : (side : Side) (layer : Layer) → side_net (design_of (transpose_of tile)) side layer ≡ side_net (design_of tile)
        (mirrored_side side) layer
    net_is North layer = (mirrored tile known).net West layer
    net_is East layer = (mirrored tile known).net South layer
    net_is South layer = (mirrored tile known).net East layer
    net_is West layer = (mirrored tile known).net North layer

    pub named_is : (side : Side) (layer : Layer) → named_net (transpose_of tile) side layer ≡ named_net tile (mirrored_side side) layer
    named_is side layer =
        ap (λ (p : Port). if carries p layer then Some (side_net (design_of (transpose_of tile)) side layer) else None) (port_is side)
        ∙ ap (λ (n : ℕ). if carries (port_at tile (mirrored_side side)) layer then Some n else None) (net_is side layer)

  module _ (plan : Plan) (is : IsPlan plan) where
    abbrev image : Plan
    image = mirrored_plan plan

    table : (row col : ℕ) → row < plan.rows → col < plan.cols → transpose_of (plan.tile row col) < tile_count
    table row col is_row is_col = transposed_below (plan.tile row col) (is.known row col is_row is_col)

    pub image_plan : IsPlan image
    image_plan = record {
      known = λ row col is_row is_col. table col row is_col is_row;
      eastward = λ row col is_row is_col.
          port_is (plan.tile col row) (is.known col row (omega arith) is_row) East ∙ is.southward col row is_col is_row
          ∙ sym (port_is (plan.tile (col + 1) row) (is.known (col + 1) row is_col is_row) West);
      southward = λ row col is_row is_col.
          port_is (plan.tile col row) (is.known col row is_col (omega arith)) South ∙ is.eastward col row is_col is_row
          ∙ sym (port_is (plan.tile col (row + 1)) (is.known col (row + 1) is_col is_row) North);
    }

    -- ---- nets that meet

    module _ (p : Piece) (is_row : p.row < plan.rows) (is_col : p.col < plan.cols) where
      tile_known : plan.tile p.row p.col < tile_count
      tile_known = is.known p.row p.col is_row is_col

      -- what is carried in the image is carried in the plan, on the same net, and the other way round
      carried_in : (side : Side) (layer : Layer) → Carries (port_at (plan.tile p.row p.col) (mirrored_side side)) layer
          → Carries (port_at (transpose_of (plan.tile p.row p.col)) side) layer
      carried_in side layer h = subst (λ (q : Port). Carries q layer) (sym (port_is (plan.tile p.row p.col) tile_known side)) h

      carried_out : (side : Side) (layer : Layer) → Carries (port_at (transpose_of (plan.tile p.row p.col)) side) layer
          → Carries (port_at (plan.tile p.row p.col) (mirrored_side side)) layer
      carried_out side layer h = subst (λ (q : Port). Carries q layer) (port_is (plan.tile p.row p.col) tile_known side) h

      number_in : (side : Side) (layer : Layer) → p.net ≡ side_net (design_of (plan.tile p.row p.col)) (mirrored_side side) layer
          → p.net ≡ side_net (design_of (transpose_of (plan.tile p.row p.col))) side layer
      number_in side layer h = h ∙ sym (net_is (plan.tile p.row p.col) tile_known side layer)

      number_out : (side : Side) (layer : Layer) → p.net ≡ side_net (design_of (transpose_of (plan.tile p.row p.col))) side layer
          → p.net ≡ side_net (design_of (plan.tile p.row p.col)) (mirrored_side side) layer
      number_out side layer h = h ∙ net_is (plan.tile p.row p.col) tile_known side layer

    double : (side : Side) → mirrored_side (mirrored_side side) ≡ side
    double North = refl
    double East = refl
    double South = refl
    double West = refl

    piece_in : (p : Piece) → IsPiece plan p → IsPiece image (mirrored_piece p)
    piece_in p h =
        let other = double h.side in
        record {
          is_row = h.is_col;
          is_col = h.is_row;
          side = mirrored_side h.side;
          layer = h.layer;
          carried = carried_in p h.is_row h.is_col (mirrored_side h.side) h.layer
              (subst (λ (s : Side). Carries (port_at (plan.tile p.row p.col) s) h.layer) (sym other) h.carried);
          number = number_in p h.is_row h.is_col (mirrored_side h.side) h.layer
              (subst (λ (s : Side). p.net ≡ side_net (design_of (plan.tile p.row p.col)) s h.layer) (sym other) h.number);
        }

    piece_out : (p : Piece) → IsPiece image p → IsPiece plan (mirrored_piece p)
    piece_out p h = record {
      is_row = h.is_col;
      is_col = h.is_row;
      side = mirrored_side h.side;
      layer = h.layer;
      carried = carried_out (mirrored_piece p) h.is_col h.is_row h.side h.layer h.carried;
      number = number_out (mirrored_piece p) h.is_col h.is_row h.side h.layer h.number;
    }

    east_out : (a b : Piece) → MeetsAtEast image a b → MeetsAtSouth plan (mirrored_piece a) (mirrored_piece b)
    east_out a b m =
        let a_col : a.col < plan.rows = (let e = m.col in let h = m.is_col in omega arith) in
        let b_row : b.row < plan.cols = (let e = m.row in let h = m.is_row in omega arith) in
        record {
          layer = m.layer;
          row = m.col;
          col = m.row;
          is_row = m.is_col;
          is_col = m.is_row;
          carried = carried_out (mirrored_piece a) a_col m.is_row East m.layer m.carried;
          first = number_out (mirrored_piece a) a_col m.is_row East m.layer m.first;
          second = number_out (mirrored_piece b) m.is_col b_row West m.layer m.second;
        }

    south_out : (a b : Piece) → MeetsAtSouth image a b → MeetsAtEast plan (mirrored_piece a) (mirrored_piece b)
    south_out a b m =
        let a_row : a.row < plan.cols = (let e = m.row in let h = m.is_row in omega arith) in
        let b_col : b.col < plan.rows = (let e = m.col in let h = m.is_col in omega arith) in
        record {
          layer = m.layer;
          row = m.col;
          col = m.row;
          is_row = m.is_col;
          is_col = m.is_row;
          carried = carried_out (mirrored_piece a) m.is_col a_row South m.layer m.carried;
          first = number_out (mirrored_piece a) m.is_col a_row South m.layer m.first;
          second = number_out (mirrored_piece b) b_col m.is_row North m.layer m.second;
        }

    east_in : (a b : Piece) → MeetsAtEast plan a b → MeetsAtSouth image (mirrored_piece a) (mirrored_piece b)
    east_in a b m =
        let a_col : a.col < plan.cols = (let e = m.col in let h = m.is_col in omega arith) in
        let b_row : b.row < plan.rows = (let e = m.row in let h = m.is_row in omega arith) in
        record {
          layer = m.layer;
          row = m.col;
          col = m.row;
          is_row = m.is_col;
          is_col = m.is_row;
          carried = carried_in a m.is_row a_col South m.layer m.carried;
          first = number_in a m.is_row a_col South m.layer m.first;
          second = number_in b b_row m.is_col North m.layer m.second;
        }

    south_in : (a b : Piece) → MeetsAtSouth plan a b → MeetsAtEast image (mirrored_piece a) (mirrored_piece b)
    south_in a b m =
        let a_row : a.row < plan.rows = (let e = m.row in let h = m.is_row in omega arith) in
        let b_col : b.col < plan.cols = (let e = m.col in let h = m.is_col in omega arith) in
        record {
          layer = m.layer;
          row = m.col;
          col = m.row;
          is_row = m.is_col;
          is_col = m.is_row;
          carried = carried_in a a_row m.is_col East m.layer m.carried;
          first = number_in a a_row m.is_col East m.layer m.first;
          second = number_in b m.is_row b_col West m.layer m.second;
        }

    joined_in : (a b : Piece) → Connected plan a b → Connected image (mirrored_piece a) (mirrored_piece b)
    joined_in _ _ (same a) = same (mirrored_piece a)
    joined_in _ _ (east a m b h rest) = south (mirrored_piece a) (mirrored_piece m) (mirrored_piece b) (east_in a m h) (joined_in m b rest)
    joined_in _ _ (west a m b h rest) = north (mirrored_piece a) (mirrored_piece m) (mirrored_piece b) (east_in m a h) (joined_in m b rest)
    joined_in _ _ (south a m b h rest) = east (mirrored_piece a) (mirrored_piece m) (mirrored_piece b) (south_in a m h) (joined_in m b rest)
    joined_in _ _ (north a m b h rest) = west (mirrored_piece a) (mirrored_piece m) (mirrored_piece b) (south_in m a h) (joined_in m b rest)

    -- ---- names

    module _ (count : ℕ) (name : Piece → ℕ) where
      pub image_names : AreNames plan count name → AreNames image count (λ p. name (mirrored_piece p))
      image_names names = record {
        below = λ p h. names.below (mirrored_piece p) (piece_out p h);
        eastward = λ a b m. names.southward (mirrored_piece a) (mirrored_piece b) (east_out a b m);
        southward = λ a b m. names.eastward (mirrored_piece a) (mirrored_piece b) (south_out a b m);
        home = λ n. mirrored_piece (names.home n);
        exists = λ n few. piece_in (names.home n) (names.exists n few);
        bears = names.bears;
        leads = λ p h. joined_in (mirrored_piece p) (names.home (name (mirrored_piece p))) (names.leads (mirrored_piece p) (piece_out p h));
      }

      pub image_border : (border : Border) → 1 ≤ plan.rows → 1 ≤ plan.cols
          → ((side : Side) (place : ℕ) (layer : Layer) → place < places_along plan side
          → net_along plan name side place layer ≡ border side place layer)
          → (side : Side) (place : ℕ) (layer : Layer) → place < places_along image side
          → net_along image (λ p. name (mirrored_piece p)) side place layer ≡ mirrored_border border side place layer
      image_border border some_row some_col each North place layer below =
          ap (option_map (λ net. name (record { row = place; col = 0; net = net })))
          (named_is (plan.tile place 0) (is.known place 0 below (omega arith)) North layer)
          ∙ each West place layer below
      image_border border some_row some_col each East place layer below =
          ap (option_map (λ net. name (record { row = plan.rows - 1; col = place; net = net })))
          (named_is (plan.tile (plan.rows - 1) place) (is.known (plan.rows - 1) place (omega arith) below) East layer)
          ∙ each South place layer below
      image_border border some_row some_col each South place layer below =
          ap (option_map (λ net. name (record { row = place; col = plan.cols - 1; net = net })))
          (named_is (plan.tile place (plan.cols - 1)) (is.known place (plan.cols - 1) below (omega arith)) South layer)
          ∙ each East place layer below
      image_border border some_row some_col each West place layer below =
          ap (option_map (λ net. name (record { row = 0; col = place; net = net })))
          (named_is (plan.tile 0 place) (is.known 0 place (omega arith) below) West layer)
          ∙ each North place layer below
