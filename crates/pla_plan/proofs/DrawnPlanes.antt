-- The tiles of an array, row by row.
use Rattle.std.proofs.Common.{◌≡◌, ℕ, zero, suc, ◌+◌, List, ◌++◌, map, append_assoc, sym, ap, ◌∙◌, add-one, arith}
use Rattle.std.specs.Prelude.{flat_map}
use Rattle.std.specs.List.{range_with_len}
use Rattle.std.proofs.lemmas.List.{append-nil}
use Rattle.stick_grid.specs.Tilings.{Tiling, IsTiling}
use Rattle.stick_grid.specs.Windows.{tiling_of, PlansAreTilings}
use Rattle.pla_plan.specs.Planes.{PlaneTables, planes_tile, planes_plan}
use Rattle.pla_plan.specs.Fits.{IsArray, PlanesArePlans}

flat_more : (f : ℕ → List ℕ) (a n j : ℕ) → a + n ≡ j → flat_map f (range_with_len a (suc n)) ≡ flat_map f (range_with_len a n) ++ f j
flat_more f a zero j e = let h : a ≡ j = omega arith in append-nil (f a) ∙ ap f h
flat_more f a (suc n) j e =
    ap (λ l. f a ++ l) (flat_more f (a + 1) n j (omega arith)) ∙ sym (append_assoc (f a) (flat_map f (range_with_len (a + 1) n)) (f j))

-- one row more
pub rows_more : (f : ℕ → List ℕ) (old tiles : List ℕ) (n : ℕ) → old ≡ flat_map f (range_with_len 0 n) → tiles ≡ old ++ f n
    → tiles ≡ flat_map f (range_with_len 0 (n + 1))
rows_more f old tiles n e h =
    let here : 0 + n ≡ n = omega arith in
    h ∙ ap (λ l. l ++ f n) e ∙ sym (flat_more f 0 n n here) ∙ ap (λ (k : ℕ). flat_map f (range_with_len 0 k)) (sym (add-one n))

module _ (planes : PlaneTables) (array : IsArray planes) where
  pub drawn : (rows cols n : ℕ) (tiles : List ℕ) → rows ≡ planes.rows → cols ≡ planes.cols → n ≡ planes.rows
      → tiles ≡ flat_map (λ row. map (planes_tile planes row) (range_with_len 0 planes.cols)) (range_with_len 0 n)
      → ◌≡◌ {A = Tiling} (record { rows = rows; cols = cols; tiles = tiles }) (tiling_of (planes_plan planes))
  drawn rows cols n tiles row_count col_count last so_far =
      let e : tiles ≡ (tiling_of (planes_plan planes)).tiles =
      so_far ∙ ap (λ (k : ℕ). flat_map (λ row. map (planes_tile planes row) (range_with_len 0 planes.cols)) (range_with_len 0 k)) last in
      λ i. record { rows = row_count i; cols = col_count i; tiles = e i }

  pub tiling : PlansAreTilings → PlanesArePlans → IsTiling (tiling_of (planes_plan planes))
  tiling tilings plans =
      let rows = array.rows_fit in
      let cols = array.cols_fit in
      (tilings (planes_plan planes) (plans planes array) (omega arith) array.few_rows (omega arith) array.few_cols).0
