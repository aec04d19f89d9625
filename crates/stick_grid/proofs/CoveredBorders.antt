-- What leads out of a plan that modules cover.
use Rattle.std.proofs.Common.{◌≡◌, ℕ, ◌-◌, ◌<◌, Option, Some, None, refl, sym, ap, ◌∙◌, arith}
use Rattle.std.specs.Prelude.{option_map}
use Rattle.geom.specs.declared.layer.Layer.{Layer}
use Rattle.micro_tiles.specs.declared.side.Side.{Side}
use Rattle.micro_tiles.specs.declared.side.Side.TheVariants.{North, East, South, West}
use Rattle.micro_tiles.specs.Nets.{named_net}
use Rattle.stick_grid.specs.Plans.{Plan}
use Rattle.stick_grid.specs.Transistors.{piece}
use Rattle.stick_grid.specs.Modules.{places_along, row_along, col_along, net_along}
use Rattle.stick_grid.specs.PlacedModules.{PlacedModule, IsPlaced, Holds, AreCovering, whole_name, place_in, border_in, whole_border}
use Rattle.stick_grid.proofs.CoveredNets.{tile_is}

map_twice : (f g : ℕ → ℕ) (o : Option ℕ) → option_map (λ x. g (f x)) o ≡ option_map g (option_map f o)
map_twice f g None = refl
map_twice f g (Some x) = refl

module _ (whole : Plan) (count vdd : ℕ) (modules : ℕ → PlacedModule) (n : ℕ) (c : AreCovering whole count vdd modules n) where
  module _ (side : Side) (place : ℕ) (layer : Layer) (row col : ℕ) (is_row : row < whole.rows) (is_col : col < whole.cols) where
    abbrev m : PlacedModule
    m = modules (c.at row col)

    pl : IsPlaced whole count vdd m
    pl = c.placed (c.at row col) (c.known row col is_row is_col)

    pub held : Holds m row col
    held = c.holds row col is_row is_col

    -- the tile there is a tile of the module, at this place along its side
    at_place : place_in m side place < places_along m.plan side → row_along m.plan side (place_in m side place) ≡ row - m.row
        → col_along m.plan side (place_in m side place) ≡ col - m.col
        → option_map (λ net. whole_name modules c.at (piece row col net)) (named_net (whole.tile row col) side layer) ≡ border_in m side place layer
    at_place below r s =
        let q = place_in m side place in
        let local = λ (net : ℕ). m.name (piece (row - m.row) (col - m.col) net) in
        let tile = tile_is whole count vdd m pl row col held in
        let inner : option_map local (named_net (whole.tile row col) side layer) ≡ net_along m.plan m.name side q layer =
        ap (λ (t : ℕ). option_map local (named_net t side layer)) (sym tile)
        ∙ ap (λ (x : ℕ). option_map (λ net. m.name (piece x (col - m.col) net)) (named_net (m.plan.tile x (col - m.col)) side layer)) (sym r)
        ∙ ap (λ (x : ℕ). option_map (λ net. m.name (piece (row_along m.plan side q) x net))
        (named_net (m.plan.tile (row_along m.plan side q) x) side layer)) (sym s) in
        map_twice local m.rename (named_net (whole.tile row col) side layer)
        ∙ ap (option_map m.rename) (inner ∙ pl.is_module.border_is side q layer below)

  pub border_is : (side : Side) (place : ℕ) (layer : Layer) → place < places_along whole side
      → net_along whole (whole_name modules c.at) side place layer ≡ whole_border whole modules c.at side place layer
  border_is North place layer below =
      let row_in : 0 < whole.rows = (let some = c.some_row in omega arith) in
      let h = held North place layer 0 place row_in below in
      let low = h.from_row in
      let left = h.from_col in
      let right = h.to_col in
      at_place North place layer 0 place row_in below (omega arith) (omega arith) refl
  border_is South place layer below =
      let row = whole.rows - 1 in
      let row_in : row < whole.rows = (let some = c.some_row in omega arith) in
      let h = held South place layer row place row_in below in
      let fits = (c.placed (c.at row place) (c.known row place row_in below)).window.rows in
      let high = h.to_row in
      let low = h.from_row in
      let left = h.from_col in
      let right = h.to_col in
      at_place South place layer row place row_in below (omega arith) (omega arith) refl
  border_is East place layer below =
      let col = whole.cols - 1 in
      let col_in : col < whole.cols = (let some = c.some_col in omega arith) in
      let h = held East place layer place col below col_in in
      let fits = (c.placed (c.at place col) (c.known place col below col_in)).window.cols in
      let left = h.from_col in
      let right = h.to_col in
      let low = h.from_row in
      let high = h.to_row in
      at_place East place layer place col below col_in (omega arith) refl (omega arith)
  border_is West place layer below =
      let col_in : 0 < whole.cols = (let some = c.some_col in omega arith) in
      let h = held West place layer place 0 below col_in in
      let left = h.from_col in
      let low = h.from_row in
      let high = h.to_row in
      at_place West place layer place 0 below col_in (omega arith) refl (omega arith)
