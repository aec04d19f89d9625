-- The plan that modules cover is one: its neighbouring tiles meet.
use Rattle.std.proofs.Common.{◌≡◌, ℕ, ◌+◌, ◌-◌, ◌<◌, inl, inr, Option, refl, sym, ap, ◌∙◌, subst, arith}
use Rattle.std.specs.Prelude.{option_map, is_some}
use Rattle.std.proofs.lemmas.Bool.{cases_eq, cases_lt}
use Rattle.geom.specs.declared.layer.Layer.{Layer}
use Rattle.micro_tiles.specs.declared.side.Side.{Side}
use Rattle.micro_tiles.specs.declared.side.Side.TheVariants.{North, East, South, West}
use Rattle.micro_tiles.specs.Sides.{carries}
use Rattle.micro_tiles.specs.Designs.{side_net}
use Rattle.micro_tiles.specs.Table.{tile_count, design_of, port_at}
use Rattle.stick_grid.specs.Tilings.{MeetsEast, MeetsSouth}
use Rattle.stick_grid.specs.Plans.{Plan, IsPlan}
use Rattle.stick_grid.specs.Transistors.{piece}
use Rattle.stick_grid.specs.Modules.{places_along, row_along, col_along}
use Rattle.stick_grid.specs.PlacedModules.{PlacedModule, IsPlaced, Holds, StandBeside, StandAbove, AreCovering, border_in, place_in}
use Rattle.stick_grid.proofs.Carried.{led_test}
use Rattle.stick_grid.proofs.SamePorts.{same_ports}
use Rattle.stick_grid.proofs.CoveredNets.{local_row, local_col, tile_is}

module _ (whole : Plan) (count vdd : ℕ) (modules : ℕ → PlacedModule) (n : ℕ) (c : AreCovering whole count vdd modules n) where
  -- ---- neighbouring places in two modules

  pub beside_at : (row col : ℕ) → row < whole.rows → col + 1 < whole.cols → (c.at row col ≡ c.at row (col + 1) → ⊥)
      → StandBeside modules n (c.at row col) (c.at row (col + 1)) row col
  beside_at row col is_row is_col differ =
      let k = c.at row col in
      let l = c.at row (col + 1) in
      let k_known = c.known row col is_row (omega arith) in
      let l_known = c.known row (col + 1) is_row is_col in
      let h = c.holds row col is_row (omega arith) in
      let j = c.holds row (col + 1) is_row is_col in
      let k_row = h.from_row in
      let k_high = h.to_row in
      let k_col = h.from_col in
      let k_end = h.to_col in
      let l_row = j.from_row in
      let l_high = j.to_row in
      let l_col = j.from_col in
      let l_end = j.to_col in
      record {
        first_known = k_known;
        second_known = l_known;
        first_holds = h;
        second_holds = j;
        first_ends = elim (cases_lt (col + 1) ((modules k).col + (modules k).plan.cols)) [
          | inl more ↦
              absurd (differ (sym (c.once k row (col + 1) k_known
              (record { from_row = k_row; to_row = k_high; from_col = omega arith; to_col = more }))))
          | inr last ↦ omega arith
        ];
        second_begins = elim (cases_lt (modules l).col (col + 1)) [
          | inl more ↦
              absurd (differ (c.once l row col l_known
              (record { from_row = l_row; to_row = l_high; from_col = omega arith; to_col = omega arith })))
          | inr first ↦ omega arith
        ];
      }

  pub above_at : (row col : ℕ) → row + 1 < whole.rows → col < whole.cols → (c.at row col ≡ c.at (row + 1) col → ⊥)
      → StandAbove modules n (c.at row col) (c.at (row + 1) col) row col
  above_at row col is_row is_col differ =
      let k = c.at row col in
      let l = c.at (row + 1) col in
      let k_known = c.known row col (omega arith) is_col in
      let l_known = c.known (row + 1) col is_row is_col in
      let h = c.holds row col (omega arith) is_col in
      let j = c.holds (row + 1) col is_row is_col in
      let k_row = h.from_row in
      let k_high = h.to_row in
      let k_col = h.from_col in
      let k_end = h.to_col in
      let l_row = j.from_row in
      let l_high = j.to_row in
      let l_col = j.from_col in
      let l_end = j.to_col in
      record {
        first_known = k_known;
        second_known = l_known;
        first_holds = h;
        second_holds = j;
        first_ends = elim (cases_lt (row + 1) ((modules k).row + (modules k).plan.rows)) [
          | inl more ↦
              absurd (differ (sym (c.once k (row + 1) col k_known
              (record { from_row = omega arith; to_row = more; from_col = k_col; to_col = k_end }))))
          | inr last ↦ omega arith
        ];
        second_begins = elim (cases_lt (modules l).row (row + 1)) [
          | inl more ↦
              absurd (differ (c.once l row col l_known
              (record { from_row = omega arith; to_row = omega arith; from_col = l_col; to_col = l_end })))
          | inr first ↦ omega arith
        ];
      }

  -- ---- what the side of a module carries

  module _ (k : ℕ) (k_known : k < n) where
    abbrev m : PlacedModule
    m = modules k

    pl : IsPlaced whole count vdd (modules k)
    pl = c.placed k k_known

    -- a layer leads out of the module where the tile there carries it
    carries_there : (side : Side) (place row col : ℕ) (layer : Layer) → Holds (modules k) row col → place_in m side place < places_along m.plan side
        → row_along m.plan side (place_in m side place) ≡ row - m.row → col_along m.plan side (place_in m side place) ≡ col - m.col
        → is_some (border_in m side place layer) ≡ carries (port_at (whole.tile row col) side) layer
    carries_there side place row col layer h below r s =
        let q = place_in m side place in
        let x = row_along m.plan side q in
        let y = col_along m.plan side q in
        let tile : m.plan.tile x y ≡ whole.tile row col =
        ap (λ (z : ℕ). m.plan.tile z y) r ∙ ap (m.plan.tile (row - m.row)) s ∙ tile_is whole count vdd m pl row col h in
        ap (λ (o : Option ℕ). is_some (option_map m.rename o)) (sym (pl.is_module.border_is side q layer below))
        ∙ led_test (λ net. m.name (piece x y net)) (side_net (design_of (m.plan.tile x y)) side layer)
        (carries (port_at (m.plan.tile x y) side) layer) m.rename
        ∙ ap (λ (t : ℕ). carries (port_at t side) layer) tile

  -- ---- neighbouring tiles meet

  module _ (row col : ℕ) where
    east_same : (is_row : row < whole.rows) (is_col : col + 1 < whole.cols) → c.at row col ≡ c.at row (col + 1)
        → MeetsEast (whole.tile row col) (whole.tile row (col + 1))
    east_same is_row is_col e =
        let k = c.at row col in
        let m = modules k in
        let pl = c.placed k (c.known row col is_row (omega arith)) in
        let h = c.holds row col is_row (omega arith) in
        let j = subst (λ (l : ℕ). Holds (modules l) row (col + 1)) (sym e) (c.holds row (col + 1) is_row is_col) in
        let low = h.from_col in
        let next : col + 1 - m.col ≡ col - m.col + 1 = omega arith in
        let end = local_col whole count vdd m pl row (col + 1) j in
        let first = tile_is whole count vdd m pl row col h in
        let second = ap (m.plan.tile (row - m.row)) (sym next) ∙ tile_is whole count vdd m pl row (col + 1) j in
        subst (λ t. MeetsEast t (whole.tile row (col + 1))) first
        (subst (MeetsEast (m.plan.tile (row - m.row) (col - m.col))) second
        (pl.is_module.is_plan.eastward (row - m.row) (col - m.col) (local_row whole count vdd m pl row col h) (omega arith)))

    east_other : (is_row : row < whole.rows) (is_col : col + 1 < whole.cols) → (c.at row col ≡ c.at row (col + 1) → ⊥)
        → MeetsEast (whole.tile row col) (whole.tile row (col + 1))
    east_other is_row is_col differ =
        let b = beside_at row col is_row is_col differ in
        let k = c.at row col in
        let l = c.at row (col + 1) in
        let h = b.first_holds in
        let j = b.second_holds in
        let k_row = h.from_row in
        let k_high = h.to_row in
        let k_col = h.from_col in
        let k_end = h.to_col in
        let l_row = j.from_row in
        let l_high = j.to_row in
        let ends = b.first_ends in
        let begins = b.second_begins in
        same_ports (whole.tile row col) (whole.tile row (col + 1)) East West (λ layer.
        sym (carries_there k b.first_known East row row col layer h (omega arith) refl (omega arith))
        ∙ ap (λ (o : Option ℕ). is_some o) (c.eastward k l row col layer b)
        ∙ carries_there l b.second_known West row row (col + 1) layer j (omega arith) refl (omega arith))

    south_same : (is_row : row + 1 < whole.rows) (is_col : col < whole.cols) → c.at row col ≡ c.at (row + 1) col
        → MeetsSouth (whole.tile row col) (whole.tile (row + 1) col)
    south_same is_row is_col e =
        let k = c.at row col in
        let m = modules k in
        let pl = c.placed k (c.known row col (omega arith) is_col) in
        let h = c.holds row col (omega arith) is_col in
        let j = subst (λ (l : ℕ). Holds (modules l) (row + 1) col) (sym e) (c.holds (row + 1) col is_row is_col) in
        let low = h.from_row in
        let next : row + 1 - m.row ≡ row - m.row + 1 = omega arith in
        let end = local_row whole count vdd m pl (row + 1) col j in
        let first = tile_is whole count vdd m pl row col h in
        let second = ap (λ (x : ℕ). m.plan.tile x (col - m.col)) (sym next) ∙ tile_is whole count vdd m pl (row + 1) col j in
        subst (λ t. MeetsSouth t (whole.tile (row + 1) col)) first
        (subst (MeetsSouth (m.plan.tile (row - m.row) (col - m.col))) second
        (pl.is_module.is_plan.southward (row - m.row) (col - m.col) (omega arith) (local_col whole count vdd m pl row col h)))

    south_other : (is_row : row + 1 < whole.rows) (is_col : col < whole.cols) → (c.at row col ≡ c.at (row + 1) col → ⊥)
        → MeetsSouth (whole.tile row col) (whole.tile (row + 1) col)
    south_other is_row is_col differ =
        let b = above_at row col is_row is_col differ in
        let k = c.at row col in
        let l = c.at (row + 1) col in
        let h = b.first_holds in
        let j = b.second_holds in
        let k_row = h.from_row in
        let k_high = h.to_row in
        let k_col = h.from_col in
        let k_end = h.to_col in
        let l_col = j.from_col in
        let l_end = j.to_col in
        let ends = b.first_ends in
        let begins = b.second_begins in
        same_ports (whole.tile row col) (whole.tile (row + 1) col) South North (λ layer.
        sym (carries_there k b.first_known South col row col layer h (omega arith) (omega arith) refl)
        ∙ ap (λ (o : Option ℕ). is_some o) (c.southward k l row col layer b)
        ∙ carries_there l b.second_known North col (row + 1) col layer j (omega arith) (omega arith) refl)

  pub is_plan : IsPlan whole
  is_plan = record {
    known = λ row col is_row is_col.
        let pl = c.placed (c.at row col) (c.known row col is_row is_col) in
        let h = c.holds row col is_row is_col in
        let m = modules (c.at row col) in
        subst (λ t. t < tile_count) (tile_is whole count vdd m pl row col h)
        (pl.is_module.is_plan.known (row - m.row) (col - m.col) (local_row whole count vdd m pl row col h)
        (local_col whole count vdd m pl row col h));
    eastward = λ row col is_row is_col. elim (cases_eq (c.at row col) (c.at row (col + 1))) [
      | inl e ↦ east_same row col is_row is_col e
      | inr differ ↦ east_other row col is_row is_col differ
    ];
    southward = λ row col is_row is_col. elim (cases_eq (c.at row col) (c.at (row + 1) col)) [
      | inl e ↦ south_same row col is_row is_col e
      | inr differ ↦ south_other row col is_row is_col differ
    ];
  }
