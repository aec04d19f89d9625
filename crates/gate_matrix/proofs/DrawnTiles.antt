-- The tiles of a matrix, row by row.
use Rattle.std.proofs.Common.{◌≡◌, ℕ, zero, suc, ◌+◌, ◌-◌, ◌<◌, ◌≤◌, ◌^◌, ◌==◌, List, [], ◌∷◌, ◌++◌, length, get_or, map, take, replicate, append_assoc, refl, sym, subst, ap, ◌∙◌, arith}
use Rattle.std.specs.Prelude.{flat_map}
use Rattle.std.specs.List.{range_with_len}
use Rattle.std.proofs.lemmas.List.{take_all}
use Rattle.std.proofs.lemmas.List.FromFn.{length-map-range_with_len, map-range_with_len_more, get_or-map-range_with_len}
use Rattle.micro_tiles.specs.Basics.{number_named}
use Rattle.stick_grid.specs.Tilings.{Tiling, IsTiling}
use Rattle.stick_grid.specs.Plans.{plan_of}
use Rattle.stick_grid.specs.Modules.{SameTilesAreModules}
use Rattle.stick_grid.specs.Windows.{tiling_of, PlansAreTilings}
use Rattle.nor_net.specs.Part.{PartTables, part_devices}
use Rattle.gate_matrix.specs.declared.column.Column.{Column}
use Rattle.gate_matrix.specs.declared.column.Column.TheVariants.{Load}
use Rattle.gate_matrix.specs.Rows.{MatrixRow, blank_row}
use Rattle.gate_matrix.specs.Columns.{column_of}
use Rattle.gate_matrix.specs.Cells.{cell, row_tiles, Matrix, matrix_tile, matrix_plan}
use Rattle.gate_matrix.specs.Matrices.{IsMatrix, MatricesArePlans}
use Rattle.gate_matrix.specs.PartRows.{rows_of_part, height_of_part}
use Rattle.gate_matrix.specs.Modules.{part_name, part_border, IsPartPlan, IsPartGrid}
use Rattle.gate_matrix.specs.Drawn.{part_matrix, part_plan, FitsPart}
use Rattle.gate_matrix.proofs.Chains.{long_rows, rows_lead_on}
use Rattle.gate_matrix.proofs.FilledColumns.{room}

same_map : {X : Type 0} (f g : ℕ → X) (a n : ℕ) → ((k : ℕ) → k < a + n → f k ≡ g k) → map f (range_with_len a n) ≡ map g (range_with_len a n)
same_map f g a zero each = refl
same_map f g a (suc n) each =
    ap (λ x. x ∷ map f (range_with_len (a + 1) n)) (each a (omega arith))
    ∙ ap (λ l. g a ∷ l) (same_map f g (a + 1) n (λ k below. each k (omega arith)))

flat_rows : (g : MatrixRow → List ℕ) (h : ℕ → List ℕ) (a : ℕ) (rows : List MatrixRow)
    → ((k : ℕ) → k < length rows → g (get_or rows k blank_row) ≡ h (a + k))
    → flat_map g rows ≡ flat_map h (range_with_len a (length rows))
flat_rows g h a [] each = refl
flat_rows g h a (row ∷ rows) each =
    let here : a + 0 ≡ a = omega arith in
    ap (λ l. l ++ flat_map g rows) (each 0 (omega arith) ∙ ap h here)
    ∙ ap (λ l. h a ++ l) (flat_rows g h (a + 1) rows (λ k below. each (suc k) (omega arith)
    ∙ ap h (let next : a + suc k ≡ a + 1 + k = omega arith in next)))

-- one tile more
pub tiles_more : (f : ℕ → ℕ) (old : List ℕ) (n : ℕ) → (old ++ map f (range_with_len 0 n)) ++ f n ∷ [] ≡ old ++ map f (range_with_len 0 (n + 1))
tiles_more f old n =
    let e : 0 + n ≡ n = omega arith in
    append_assoc old (map f (range_with_len 0 n)) (f n ∷ []) ∙ ap (λ l. old ++ l) (sym (map-range_with_len_more f 0 n n e))

module _ (matrix : Matrix) where
  abbrev all : List Column
  all = map (column_of matrix.at) (range_with_len 0 matrix.cols)

  long : length all ≡ matrix.cols
  long = length-map-range_with_len (column_of matrix.at) 0 matrix.cols

  row_is : (r : ℕ) → row_tiles (get_or matrix.rows r blank_row) all ≡ map (matrix_tile matrix r) (range_with_len 0 matrix.cols)
  row_is r =
      let row = get_or matrix.rows r blank_row in
      ap (λ (n : ℕ). map (λ (col : ℕ). number_named (cell row (get_or all col Load) (col + 1 == n))) (range_with_len 0 n)) long
      ∙ same_map (λ (col : ℕ). number_named (cell row (get_or all col Load) (col + 1 == matrix.cols))) (matrix_tile matrix r) 0 matrix.cols
      (λ col below.
      let here : 0 + col ≡ col = omega arith in
      ap (λ c. number_named (cell row c (col + 1 == matrix.cols)))
      (get_or-map-range_with_len (column_of matrix.at) 0 matrix.cols col col Load (omega arith) here))

  pub tiles_are : flat_map (λ row. row_tiles row all) matrix.rows ≡ (tiling_of (matrix_plan matrix)).tiles
  tiles_are = flat_rows (λ row. row_tiles row all) (λ r. map (matrix_tile matrix r) (range_with_len 0 matrix.cols)) 0 matrix.rows
      (λ k below. row_is k ∙ ap (λ (r : ℕ). map (matrix_tile matrix r) (range_with_len 0 matrix.cols)) (let here : k ≡ 0 + k = omega arith in here))

module _ (part : PartTables) (at : List ℕ) (rows cols : ℕ) (fits : FitsPart part at rows cols) where
  abbrev list : List MatrixRow
  list = replicate (rows - height_of_part part) blank_row ++ rows_of_part part

  is_matrix : IsMatrix (part_matrix part at rows cols)
  is_matrix = record { columns = fits.columns; rows = rows_lead_on part (rows - height_of_part part) }

  pub drawn : (columns : List Column) (drawn_rows : List MatrixRow) (n : ℕ) (tiles : List ℕ) → columns ≡ map (column_of at) (range_with_len 0 cols)
      → drawn_rows ≡ list
      → length drawn_rows ≤ n → tiles ≡ flat_map (λ row. row_tiles row columns) (take n drawn_rows)
      → ◌≡◌ {A = Tiling} (record { rows = rows; cols = cols; tiles = tiles }) (tiling_of (part_plan part at rows cols))
  drawn columns drawn_rows n tiles columns_are rows_are whole tiles_so_far =
      let count = sym (long_rows part rows fits.rows_fit) in
      let e : tiles ≡ (tiling_of (part_plan part at rows cols)).tiles =
      tiles_so_far ∙ ap (flat_map (λ row. row_tiles row columns)) (take_all n drawn_rows whole ∙ rows_are)
      ∙ ap (λ c. flat_map (λ row. row_tiles row c) list) columns_are ∙ tiles_are (part_matrix part at rows cols) in
      λ i. record { rows = count i; cols = cols; tiles = e i }

  pub tiling : PlansAreTilings → MatricesArePlans → rows ≤ 2 ^ 20 → cols ≤ 2 ^ 20 → IsTiling (tiling_of (part_plan part at rows cols))
  tiling tilings plans few_rows few_cols =
      let count = long_rows part rows fits.rows_fit in
      let wide = room at cols 2 fits.columns in
      let some = fits.some_row in
      (tilings (part_plan part at rows cols) (plans (part_matrix part at rows cols) is_matrix) (omega arith) (omega arith) (omega arith) few_cols).0

  -- The grid with these tiles is a module of the part.
  pub grid_is : PlansAreTilings → SameTilesAreModules → rows ≤ 2 ^ 20 → cols ≤ 2 ^ 20 → IsPartPlan part at rows cols (part_plan part at rows cols)
      → (grid : Tiling) → grid ≡ tiling_of (part_plan part at rows cols) → IsPartGrid part at rows cols grid
  grid_is tilings modules few_rows few_cols is grid e =
      let plan = part_plan part at rows cols in
      let count = long_rows part rows fits.rows_fit in
      let wide = room at cols 2 fits.columns in
      let some = fits.some_row in
      let some_row : 1 ≤ plan.rows = omega arith in
      let same = (tilings plan is.is_plan some_row (omega arith) (omega arith) few_cols).1 in
      subst (IsPartGrid part at rows cols) (sym e)
      (modules plan (plan_of (tiling_of plan)) part.nets (part_name part at rows cols) part.vdd (part_devices part) (part_border at) same some_row
      (omega arith) is)
