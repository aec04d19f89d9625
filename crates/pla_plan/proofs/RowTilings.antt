-- The tiles of a row of an array are a grid.
use Rattle.std.proofs.Common.{◌≡◌, ◌↔◌, ℤ, ℕ, ◌+◌, ◌<◌, List, map, sym, ap, subst, ◌∙◌, arith}
use Rattle.std.specs.List.{range_with_len}
use Rattle.std.proofs.lemmas.List.{append-nil}
use Rattle.geom.specs.declared.layer.Layer.{Layer}
use Rattle.geom.specs.Squares.{BoxShape, Covered}
use Rattle.geom.specs.Merged.{Merges}
use Rattle.stick_grid.specs.Tilings.{Tiling, IsTiling}
use Rattle.stick_grid.specs.Plans.{Plan, Covers, plan_of}
use Rattle.stick_grid.specs.Windows.{tiling_of, IsWindow, HaveSameTiles, PlansAreTilings, SameTilesAgree, WindowsKeepPlans}
use Rattle.pla_plan.specs.Planes.{PlaneTables, planes_tile, planes_plan}
use Rattle.pla_plan.specs.Fits.{IsArray, PlanesArePlans}
use Rattle.pla_plan.specs.RowChips.{row_plan, DrawsRow}

module _ (planes : PlaneTables) (array : IsArray planes) (row : ℕ) (below : row < planes.rows) (tilings : PlansAreTilings) (plans : PlanesArePlans)
    (windows : WindowsKeepPlans) where
  abbrev alone : Plan
  alone = row_plan (planes_plan planes) row

  row_window : IsWindow alone (planes_plan planes) row 0
  row_window = record {
    rows = omega arith;
    cols = omega arith;
    tiles = λ r c is_row is_col.
        let r_is : row ≡ row + r = omega arith in
        let c_is : c ≡ 0 + c = omega arith in
        ap (λ (x : ℕ). planes_tile planes x c) r_is ∙ ap (λ (x : ℕ). planes_tile planes (row + r) x) c_is;
  }

  both : IsTiling (tiling_of alone) × HaveSameTiles alone (plan_of (tiling_of alone))
  both =
      let cols = array.cols_fit in
      tilings alone (windows alone (planes_plan planes) row 0 (plans planes array) row_window).plan (omega arith) (omega arith) (omega arith) array.few_cols

  pub row_is : (cols : ℕ) (tiles : List ℕ) → cols ≡ planes.cols → tiles ≡ map (planes_tile planes row) (range_with_len 0 planes.cols)
      → ◌≡◌ {A = Tiling} (record { rows = 1; cols = cols; tiles = tiles }) (tiling_of alone)
  row_is cols tiles count are =
      let e : tiles ≡ (tiling_of alone).tiles = are ∙ sym (append-nil (map (planes_tile planes row) (range_with_len 0 planes.cols))) in
      λ i. record { rows = 1; cols = count i; tiles = e i }

  pub row_tiling : (grid : Tiling) → grid ≡ tiling_of alone → IsTiling grid
  row_tiling grid e = subst IsTiling (sym e) both.0

  pub row_drawn : SameTilesAgree → (grid : Tiling) (drawn merged : List BoxShape) → grid ≡ tiling_of alone
      → ((layer : Layer) (x y : ℤ) → Covered drawn layer x y ↔ Covers (plan_of grid) layer x y) → Merges drawn merged
      → DrawsRow (planes_plan planes) row merged
  row_drawn agree grid drawn merged e covers merges =
      let same = agree alone (plan_of (tiling_of alone)) both.1 in
      record {
        runs = merges.runs;
        squares = λ layer x y.
            let there = subst (λ (g : Tiling). Covered drawn layer x y ↔ Covers (plan_of g) layer x y) e (covers layer x y) in (
              λ h. (same.squares layer x y).1 (there.0 ((merges.same layer x y).0 h)),
              λ h. (merges.same layer x y).1 (there.1 ((same.squares layer x y).0 h)),
            );
      }
