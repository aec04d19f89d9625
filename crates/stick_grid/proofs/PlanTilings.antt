-- The tiling of a plan, row by row.
use Rattle.std.proofs.Common.{◌≡◌, ℕ, zero, suc, ◌+◌, ◌*◌, ◌<◌, List, ◌++◌, length, get_or, map, refl, sym, ap, ◌∙◌, subst, arith}
use Rattle.std.specs.List.{range_with_len, flat_map}
use Rattle.std.proofs.lemmas.List.{length-append, get_or-append-add, get_or_append_left}
use Rattle.std.proofs.lemmas.List.FromFn.{length-map-range_with_len, get_or-map-range_with_len}
use Rattle.stick_grid.specs.Plans.{Plan, plan_of}
use Rattle.stick_grid.specs.Windows.{HaveSameTiles, tiling_of, PlansAreTilings}
use Rattle.stick_grid.proofs.PlanWindows.{same_plan}

module _ (plan : Plan) where
  abbrev row_of : ℕ → List ℕ
  row_of row = map (plan.tile row) (range_with_len 0 plan.cols)

  long : (row : ℕ) → length (row_of row) ≡ plan.cols
  long row = length-map-range_with_len (plan.tile row) 0 plan.cols

  length_rows : (a n : ℕ) → length (flat_map row_of (range_with_len a n)) ≡ n * plan.cols
  length_rows a zero = let e : 0 ≡ 0 * plan.cols = omega arith in e
  length_rows a (suc n) =
      let e : plan.cols + n * plan.cols ≡ suc n * plan.cols = omega arith in
      length-append (row_of a) (flat_map row_of (range_with_len (a + 1) n))
      ∙ ap (λ (k : ℕ). k + length (flat_map row_of (range_with_len (a + 1) n))) (long a)
      ∙ ap (λ (k : ℕ). plan.cols + k) (length_rows (a + 1) n) ∙ e

  listed : (a n row col : ℕ) → row < n → col < plan.cols → get_or (flat_map row_of (range_with_len a n)) (row * plan.cols + col) 0 ≡ plan.tile (a + row) col
  listed a zero row col is_row is_col = absurd (omega arith)
  listed a (suc n) zero col is_row is_col =
      let at : 0 * plan.cols + col ≡ col = omega arith in
      let here : 0 + col ≡ col = omega arith in
      let row : a ≡ a + 0 = omega arith in
      ap (λ (i : ℕ). get_or (row_of a ++ flat_map row_of (range_with_len (a + 1) n)) i 0) at
      ∙ get_or_append_left (row_of a) (flat_map row_of (range_with_len (a + 1) n)) 0 col (subst (λ k. col < k) (sym (long a)) is_col)
      ∙ get_or-map-range_with_len (plan.tile a) 0 plan.cols col col 0 is_col here
      ∙ ap (λ (r : ℕ). plan.tile r col) row
  listed a (suc n) (suc row) col is_row is_col =
      let at : suc row * plan.cols + col ≡ plan.cols + (row * plan.cols + col) = omega arith in
      let moved : a + 1 + row ≡ a + suc row = omega arith in
      ap (λ (i : ℕ). get_or (row_of a ++ flat_map row_of (range_with_len (a + 1) n)) i 0) (at ∙ ap (λ (k : ℕ). k + (row * plan.cols + col)) (sym (long a)))
      ∙ get_or-append-add (row_of a) (flat_map row_of (range_with_len (a + 1) n)) (row * plan.cols + col) 0
      ∙ listed (a + 1) n row col (omega arith) is_col
      ∙ ap (λ (r : ℕ). plan.tile r col) moved

  same_tiles : HaveSameTiles plan (plan_of (tiling_of plan))
  same_tiles = record {
    rows = refl;
    cols = refl;
    tiles = λ row col is_row is_col.
        let e : 0 + row ≡ row = omega arith in
        sym (listed 0 plan.rows row col is_row is_col ∙ ap (λ (r : ℕ). plan.tile r col) e);
  }

pub plans_are_tilings : PlansAreTilings
plans_are_tilings plan known some_row few_rows some_col few_cols =
    let made = same_plan plan (plan_of (tiling_of plan)) (same_tiles plan) known in (
      record {
        some_row = some_row;
        few_rows = few_rows;
        some_col = some_col;
        few_cols = few_cols;
        size = length_rows plan 0 plan.rows;
        known = made.known;
        eastward = made.eastward;
        southward = made.southward;
      },
      same_tiles plan,
    )
