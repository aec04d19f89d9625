-- Two tilings, one above the other, are one.
use Rattle.std.proofs.Common.{◌≡◌, ℕ, ◌+◌, ◌-◌, ◌*◌, ◌<◌, ◌≤◌, List, ◌++◌, length, get_or, inl, inr, refl, sym, ◌∙◌, subst, ap, arith}
use Rattle.std.proofs.lemmas.List.{length-append, get_or_append_left, get_or-append-add}
use Rattle.std.proofs.lemmas.Nat.{mul-add-lt}
use Rattle.std.proofs.lemmas.Bool.{cases_lt, cases_eq}
use Rattle.micro_tiles.specs.Table.{tile_count}
use Rattle.stick_grid.specs.Tilings.{Tiling, IsTiling, MeetsEast, MeetsSouth, tile_at}
use Rattle.stick_grid.specs.Joins.{MeetsBelow, IsAbove}

module _ (upper lower : Tiling) (rows cols : ℕ) (tiles : List ℕ) (north : IsTiling upper) (south : IsTiling lower) (meets : MeetsBelow upper lower)
    (as_rows : rows ≡ upper.rows + lower.rows) (as_cols : cols ≡ upper.cols) (all : tiles ≡ upper.tiles ++ lower.tiles) where
  in_north : (row col : ℕ) → row < upper.rows → col < cols → get_or tiles (row * cols + col) 0 ≡ tile_at upper row col
  in_north row col is_row is_col =
      let small : col < upper.cols = rw (← as_cols) is_col in
      let before : row * upper.cols + col < upper.cols * upper.rows = mul-add-lt row upper.cols col upper.rows is_row small in
      let turn : upper.rows * upper.cols ≡ upper.cols * upper.rows = omega arith in
      let size = north.size in
      rw (all, as_cols) (get_or_append_left upper.tiles lower.tiles 0 (row * upper.cols + col) (omega arith))

  in_south : (row col : ℕ) → col < cols → get_or tiles ((upper.rows + row) * cols + col) 0 ≡ tile_at lower row col
  in_south row col is_col =
      let place : (upper.rows + row) * upper.cols + col ≡ upper.rows * upper.cols + (row * upper.cols + col) = omega arith in
      let far : (upper.rows + row) * upper.cols + col ≡ length upper.tiles + (row * upper.cols + col) = place ∙ ap (λ m. m + (row * upper.cols + col)) (sym north.size) in
      rw (all, as_cols, far, ← meets.cols) (get_or-append-add upper.tiles lower.tiles (row * upper.cols + col) 0)

  pub above_tiles : IsAbove upper lower (record { rows = rows; cols = cols; tiles = tiles })
  above_tiles = record {
    rows = as_rows;
    cols = as_cols;
    north = λ row col is_row is_col. in_north row col is_row (omega arith);
    south = λ row col is_row is_col. in_south row col (let same = meets.cols in omega arith);
  }

  -- a tile of the lower part, by its row in the whole
  past_north : (row col : ℕ) → upper.rows ≤ row → col < cols → get_or tiles (row * cols + col) 0 ≡ tile_at lower (row - upper.rows) col
  past_north row col past is_col =
      let back : upper.rows + (row - upper.rows) ≡ row = omega arith in
      subst (λ r. get_or tiles (r * cols + col) 0 ≡ tile_at lower (row - upper.rows) col) back (in_south (row - upper.rows) col is_col)

  known : (row col : ℕ) → row < rows → col < cols → get_or tiles (row * cols + col) 0 < tile_count
  known row col is_row is_col = elim (cases_lt row upper.rows) [
    | inl inner ↦ rw (in_north row col inner is_col) (north.known row col inner (omega arith))
    | inr outer ↦ let same = meets.cols in rw (past_north row col outer is_col) (south.known (row - upper.rows) col (omega arith) (omega arith))
  ]

  eastward : (row col : ℕ) → row < rows → col + 1 < cols → MeetsEast (get_or tiles (row * cols + col) 0) (get_or tiles (row * cols + (col + 1)) 0)
  eastward row col is_row is_col = elim (cases_lt row upper.rows) [
    | inl inner ↦ rw (in_north row col inner (omega arith), in_north row (col + 1) inner is_col) (north.eastward row col inner (omega arith))
    | inr outer ↦
        let same = meets.cols in
        rw (past_north row col outer (omega arith), past_north row (col + 1) outer is_col) (south.eastward (row - upper.rows) col (omega arith) (omega arith))
  ]

  southward : (row col : ℕ) → row + 1 < rows → col < cols → MeetsSouth (get_or tiles (row * cols + col) 0) (get_or tiles ((row + 1) * cols + col) 0)
  southward row col is_row is_col = elim (cases_lt (row + 1) upper.rows) [
    | inl inner ↦ rw (in_north row col (omega arith) is_col, in_north (row + 1) col inner is_col) (north.southward row col inner (omega arith))
    | inr outer ↦ elim (cases_eq (row + 1) upper.rows) [
      | inl border ↦
          let last : row ≡ upper.rows - 1 = omega arith in
          let first : row + 1 - upper.rows ≡ 0 = omega arith in
          rw (in_north row col (omega arith) is_col, past_north (row + 1) col outer is_col, first, last) (meets.ports col (omega arith))
      | inr past ↦
          let next : row + 1 - upper.rows ≡ row - upper.rows + 1 = omega arith in
          let same = meets.cols in
          rw (past_north row col (omega arith) is_col, past_north (row + 1) col outer is_col, next) (south.southward (row - upper.rows) col (omega arith) (omega arith))
    ]
  ]

  pub above_tiling : IsTiling (record { rows = rows; cols = cols; tiles = tiles })
  above_tiling = record {
    some_row = let some = north.some_row in omega arith;
    few_rows = rw as_rows meets.few;
    some_col = rw as_cols north.some_col;
    few_cols = rw as_cols north.few_cols;
    size =
        let sum : length tiles ≡ length upper.tiles + length lower.tiles = rw all (length-append upper.tiles lower.tiles) in
        let parts : (upper.rows + lower.rows) * upper.cols ≡ upper.rows * upper.cols + lower.rows * upper.cols = omega arith in
        sum ∙ rw (as_rows, as_cols, parts, north.size, south.size, ← meets.cols) refl;
    known = known;
    eastward = eastward;
    southward = southward;
  }
