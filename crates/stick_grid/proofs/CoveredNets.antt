-- The nets of modules that cover a plan.
use Rattle.std.proofs.Common.{◌≡◌, ℕ, ◌+◌, ◌-◌, ◌<◌, Some, refl, sym, ap, ◌∙◌, subst, arith}
use Rattle.geom.specs.declared.layer.Layer.{Layer}
use Rattle.micro_tiles.specs.declared.side.Side.{Side}
use Rattle.micro_tiles.specs.declared.side.Side.TheVariants.{North, East, South, West}
use Rattle.micro_tiles.specs.Sides.{Carries}
use Rattle.micro_tiles.specs.Designs.{side_net}
use Rattle.micro_tiles.specs.Table.{design_of, port_at}
use Rattle.stick_grid.specs.Plans.{Plan, IsPlan}
use Rattle.stick_grid.specs.Pieces.{Piece, MeetsAtEast, MeetsAtSouth, Connected}
use Rattle.stick_grid.specs.Transistors.{piece}
use Rattle.stick_grid.specs.Names.{IsPiece}
use Rattle.stick_grid.specs.Windows.{moved_piece, KeepsPlan}
use Rattle.stick_grid.specs.Modules.{places_along, row_along, col_along}
use Rattle.stick_grid.specs.PlacedModules.{PlacedModule, IsPlaced, Holds}
use Rattle.stick_grid.proofs.Carried.{carries_layer, layer_carried, led_out, leads_out}
use Rattle.stick_grid.proofs.PlanWindows.{keeps_plan}

-- ---- one module in its place

-- where the module has a net of a tile of the whole
abbrev pub local_piece : PlacedModule → Piece → Piece
local_piece m p = piece (p.row - m.row) (p.col - m.col) p.net

module _ (whole : Plan) (count vdd : ℕ) (m : PlacedModule) (placed : IsPlaced whole count vdd m) where
  module _ (row col : ℕ) (holds : Holds m row col) where
    pub local_row : row - m.row < m.plan.rows
    local_row = let low = holds.from_row in let high = holds.to_row in omega arith

    pub local_col : col - m.col < m.plan.cols
    local_col = let low = holds.from_col in let high = holds.to_col in omega arith

    row_back : m.row + (row - m.row) ≡ row
    row_back = let low = holds.from_row in omega arith

    col_back : m.col + (col - m.col) ≡ col
    col_back = let low = holds.from_col in omega arith

    pub tile_is : m.plan.tile (row - m.row) (col - m.col) ≡ whole.tile row col
    tile_is =
        placed.window.tiles (row - m.row) (col - m.col) local_row local_col
        ∙ ap (λ (k : ℕ). whole.tile k (m.col + (col - m.col))) row_back ∙ ap (whole.tile row) col_back

  moved_back : (p : Piece) → Holds m p.row p.col → moved_piece m.row m.col (local_piece m p) ≡ p
  moved_back p h =
      let r = row_back p.row p.col h in
      let c = col_back p.row p.col h in
      λ i. record { row = r i; col = c i; net = p.net }

  -- nets that meet within the module
  pub meet_east_here : (a b : Piece) → Holds m a.row a.col → Holds m b.row b.col → MeetsAtEast whole a b
      → MeetsAtEast m.plan (local_piece m a) (local_piece m b)
  meet_east_here a b h k meets =
      let row = meets.row in
      let col = meets.col in
      let low = h.from_col in
      let first = sym (tile_is a.row a.col h) in
      let second = sym (tile_is b.row b.col k) in
      record {
        layer = meets.layer;
        row = ap (λ (n : ℕ). n - m.row) row;
        col = omega arith;
        is_row = local_row a.row a.col h;
        is_col = local_col b.row b.col k;
        carried = subst (λ t. Carries (port_at t East) meets.layer) first meets.carried;
        first = subst (λ t. a.net ≡ side_net (design_of t) East meets.layer) first meets.first;
        second = subst (λ t. b.net ≡ side_net (design_of t) West meets.layer) second meets.second;
      }

  pub meet_south_here : (a b : Piece) → Holds m a.row a.col → Holds m b.row b.col → MeetsAtSouth whole a b
      → MeetsAtSouth m.plan (local_piece m a) (local_piece m b)
  meet_south_here a b h k meets =
      let row = meets.row in
      let col = meets.col in
      let low = h.from_row in
      let first = sym (tile_is a.row a.col h) in
      let second = sym (tile_is b.row b.col k) in
      record {
        layer = meets.layer;
        row = omega arith;
        col = ap (λ (n : ℕ). n - m.col) col;
        is_row = local_row b.row b.col k;
        is_col = local_col a.row a.col h;
        carried = subst (λ t. Carries (port_at t South) meets.layer) first meets.carried;
        first = subst (λ t. a.net ≡ side_net (design_of t) South meets.layer) first meets.first;
        second = subst (λ t. b.net ≡ side_net (design_of t) North meets.layer) second meets.second;
      }

  -- ---- what leads out of the module

  -- the net of a tile along a side
  abbrev side_piece : Side → ℕ → Layer → Piece
  side_piece side q layer = piece (row_along m.plan side q) (col_along m.plan side q)
      (side_net (design_of (m.plan.tile (row_along m.plan side q) (col_along m.plan side q))) side layer)

  abbrev side_carries : Side → ℕ → Layer → Type 0
  side_carries side q layer = Carries (port_at (m.plan.tile (row_along m.plan side q) (col_along m.plan side q)) side) layer

  pub carried_out : (side : Side) (q : ℕ) (layer : Layer) → q < places_along m.plan side → side_carries side q layer
      → m.border side q layer ≡ Some (m.name (side_piece side q layer))
  carried_out side q layer below h =
      sym (placed.is_module.border_is side q layer below)
      ∙ led_out (λ net. m.name (piece (row_along m.plan side q) (col_along m.plan side q) net)) _ _ (layer_carried _ layer h)

  pub out_carried : (side : Side) (q : ℕ) (layer : Layer) (net : ℕ) → q < places_along m.plan side → m.border side q layer ≡ Some net
      → side_carries side q layer × (m.name (side_piece side q layer) ≡ net)
  out_carried side q layer net below h =
      let o = leads_out (λ n. m.name (piece (row_along m.plan side q) (col_along m.plan side q) n)) _ _ net
      (placed.is_module.border_is side q layer below ∙ h) in
      (carries_layer _ layer o.0, o.1)

module _ (whole : Plan) (count vdd : ℕ) (is : IsPlan whole) (m : PlacedModule) (placed : IsPlaced whole count vdd m) where
  abbrev keeps : KeepsPlan m.plan whole m.row m.col
  keeps = keeps_plan m.plan whole m.row m.col placed.window is

  pub piece_here : (p : Piece) → Holds m p.row p.col → IsPiece whole p → IsPiece m.plan (local_piece m p)
  piece_here p h of =
      keeps.piece_back (local_piece m p) (local_row whole count vdd m placed p.row p.col h) (local_col whole count vdd m placed p.row p.col h)
      (subst (IsPiece whole) (sym (moved_back whole count vdd m placed p h)) of)

  -- ---- homes

  abbrev pub home_piece : ℕ → Piece
  home_piece net = moved_piece m.row m.col (placed.is_module.names.home net)

  -- Each net of a tile is joined with the home of its net of the module.
  pub leads_home : (p : Piece) → IsPiece m.plan p → Connected whole (moved_piece m.row m.col p) (home_piece (m.name p))
  leads_home p of = keeps.joined p (placed.is_module.names.home (m.name p)) (placed.is_module.names.leads p of)

  pub leads_local : (p : Piece) → Holds m p.row p.col → IsPiece whole p → Connected whole p (home_piece (m.name (local_piece m p)))
  leads_local p h of =
      subst (λ (q : Piece). Connected whole q (home_piece (m.name (local_piece m p)))) (moved_back whole count vdd m placed p h)
      (leads_home (local_piece m p) (piece_here p h of))

  module _ (net : ℕ) (few : net < m.count) where
    home_here : IsPiece m.plan (placed.is_module.names.home net)
    home_here = placed.is_module.names.exists net few

    pub home_exists : IsPiece whole (home_piece net)
    home_exists = keeps.piece (placed.is_module.names.home net) home_here

    pub home_holds : Holds m (home_piece net).row (home_piece net).col
    home_holds =
        let row = home_here.is_row in
        let col = home_here.is_col in
        record { from_row = omega arith; to_row = omega arith; from_col = omega arith; to_col = omega arith }

    pub home_named : m.name (local_piece m (home_piece net)) ≡ net
    home_named =
        let p = placed.is_module.names.home net in
        let r : m.row + p.row - m.row ≡ p.row = omega arith in
        let s : m.col + p.col - m.col ≡ p.col = omega arith in
        let same : local_piece m (home_piece net) ≡ p = λ i. record { row = r i; col = s i; net = p.net } in
        ap m.name same ∙ placed.is_module.names.bears net few

  -- ---- the nets that lead out, in the whole

  module _ (side : Side) (q : ℕ) (layer : Layer) (net : ℕ) (below : q < places_along m.plan side)
      (is_row : row_along m.plan side q < m.plan.rows) (is_col : col_along m.plan side q < m.plan.cols) (led : m.border side q layer ≡ Some net) where
    abbrev pub whole_piece : Piece
    whole_piece = moved_piece m.row m.col (side_piece whole count vdd m placed side q layer)

    is_piece : IsPiece m.plan (side_piece whole count vdd m placed side q layer)
    is_piece = record {
      is_row = is_row;
      is_col = is_col;
      side = side;
      layer = layer;
      carried = (out_carried whole count vdd m placed side q layer net below led).0;
      number = refl;
    }

    -- It leads to the home of this net.
    pub side_leads : Connected whole whole_piece (home_piece net)
    side_leads =
        subst (λ (x : ℕ). Connected whole whole_piece (home_piece x)) (out_carried whole count vdd m placed side q layer net below led).1
        (leads_home (side_piece whole count vdd m placed side q layer) is_piece)

    same_tile : m.plan.tile (row_along m.plan side q) (col_along m.plan side q) ≡ whole.tile whole_piece.row whole_piece.col
    same_tile = placed.window.tiles (row_along m.plan side q) (col_along m.plan side q) is_row is_col

    pub whole_carries : Carries (port_at (whole.tile whole_piece.row whole_piece.col) side) layer
    whole_carries = subst (λ t. Carries (port_at t side) layer) same_tile (out_carried whole count vdd m placed side q layer net below led).0

    pub whole_number : whole_piece.net ≡ side_net (design_of (whole.tile whole_piece.row whole_piece.col)) side layer
    whole_number = ap (λ t. side_net (design_of t) side layer) same_tile

    pub whole_row : whole_piece.row < whole.rows
    whole_row = let fits = placed.window.rows in let low = is_row in omega arith

    pub whole_col : whole_piece.col < whole.cols
    whole_col = let fits = placed.window.cols in let low = is_col in omega arith
