-- Plans with the same tiles are the same modules.
use Rattle.std.proofs.Common.{◌≡◌, ℕ, ◌-◌, ◌<◌, ◌≤◌, sym, ap, ◌∙◌, subst, arith}
use Rattle.std.specs.Prelude.{option_map}
use Rattle.geom.specs.declared.layer.Layer.{Layer}
use Rattle.micro_tiles.specs.declared.side.Side.{Side}
use Rattle.micro_tiles.specs.declared.side.Side.TheVariants.{North, East, South, West}
use Rattle.micro_tiles.specs.Nets.{named_net}
use Rattle.stick_grid.specs.Plans.{Plan}
use Rattle.stick_grid.specs.Pieces.{Piece}
use Rattle.stick_grid.specs.Transistors.{piece}
use Rattle.stick_grid.specs.Devices.{IsNamedDevice}
use Rattle.stick_grid.specs.Windows.{HaveSameTiles}
use Rattle.stick_grid.specs.Modules.{places_along, net_along, SameTilesAreModules}
use Rattle.stick_grid.proofs.PlanWindows.{same_tiles_agree}
use Rattle.nmos_model.specs.Lists.{Matched}

module _ (one other : Plan) (h : HaveSameTiles one other) (some_row : 1 ≤ one.rows) (some_col : 1 ≤ one.cols) where
  below_too : (side : Side) (place : ℕ) → place < places_along other side → place < places_along one side
  below_too North place below = subst (λ (n : ℕ). place < n) (sym h.cols) below
  below_too East place below = subst (λ (n : ℕ). place < n) (sym h.rows) below
  below_too South place below = subst (λ (n : ℕ). place < n) (sym h.cols) below
  below_too West place below = subst (λ (n : ℕ). place < n) (sym h.rows) below

  along_too : (name : Piece → ℕ) (side : Side) (place : ℕ) (layer : Layer) → place < places_along one side
      → net_along other name side place layer ≡ net_along one name side place layer
  along_too name North place layer below =
      ap (λ (t : ℕ). option_map (λ net. name (piece 0 place net)) (named_net t North layer)) (sym (h.tiles 0 place (omega arith) below))
  along_too name South place layer below =
      ap (λ (n : ℕ). option_map (λ net. name (piece (n - 1) place net)) (named_net (other.tile (n - 1) place) South layer)) (sym h.rows)
      ∙ ap (λ (t : ℕ). option_map (λ net. name (piece (one.rows - 1) place net)) (named_net t South layer))
      (sym (h.tiles (one.rows - 1) place (omega arith) below))
  along_too name East place layer below =
      ap (λ (n : ℕ). option_map (λ net. name (piece place (n - 1) net)) (named_net (other.tile place (n - 1)) East layer)) (sym h.cols)
      ∙ ap (λ (t : ℕ). option_map (λ net. name (piece place (one.cols - 1) net)) (named_net t East layer))
      (sym (h.tiles place (one.cols - 1) below (omega arith)))
  along_too name West place layer below =
      ap (λ (t : ℕ). option_map (λ net. name (piece place 0 net)) (named_net t West layer)) (sym (h.tiles place 0 below (omega arith)))

pub same_tiles_are_modules : SameTilesAreModules
same_tiles_are_modules one other count name vdd devices border h some_row some_col is =
    let agree = same_tiles_agree one other h in
    record {
      is_plan = agree.plan is.is_plan;
      names = agree.names count name is.names;
      drawn = is.drawn;
      transistors = subst (λ l. Matched (IsNamedDevice name vdd) l is.drawn) agree.transistors is.transistors;
      as_drawn = is.as_drawn;
      border_is = λ side place layer below.
          let inside = below_too one other h some_row some_col side place below in
          along_too one other h some_row some_col name side place layer inside ∙ is.border_is side place layer inside;
    }
