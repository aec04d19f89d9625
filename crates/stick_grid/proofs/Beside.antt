-- Two tilings side by side are one.
use Rattle.std.proofs.Common.{◌≡◌, ℕ, ◌+◌, ◌-◌, ◌*◌, ◌<◌, ◌≤◌, List, get_or, inl, inr, true, false, nat_lt, refl, sym, ◌∙◌, subst, arith}
use Rattle.std.proofs.lemmas.Nat.{mul-add-lt}
use Rattle.std.proofs.lemmas.Bool.{cases_lt, cases_eq, lt-ltb, le-ltb}
use Rattle.micro_tiles.specs.Table.{tile_count}
use Rattle.stick_grid.specs.Tilings.{Tiling, IsTiling, MeetsEast, MeetsSouth, tile_at}
use Rattle.stick_grid.specs.Joins.{MeetsRight, IsBeside, tile_of_two}
use Rattle.stick_grid.proofs.Filled.{IsFilled}

module _ (left right : Tiling) (rows cols n : ℕ) (tiles : List ℕ) (west : IsTiling left) (east : IsTiling right) (meets : MeetsRight left right)
    (as_rows : rows ≡ left.rows) (as_cols : cols ≡ left.cols + right.cols) (all : n ≡ left.rows * left.cols + right.rows * right.cols)
    (filled : IsFilled cols n (λ row col tile. tile ≡ tile_of_two left right row col) tiles) where
  whole : n ≡ rows * cols
  whole =
      let all_rows : n ≡ left.rows * left.cols + left.rows * right.cols = subst (λ m. n ≡ left.rows * left.cols + m * right.cols) (sym meets.rows) all in
      let parts : left.rows * (left.cols + right.cols) ≡ left.rows * left.cols + left.rows * right.cols = omega arith in
      rw (as_rows, as_cols, parts) all_rows

  tile_in : (row col : ℕ) → row < rows → col < cols → get_or tiles (row * cols + col) 0 ≡ tile_of_two left right row col
  tile_in row col is_row is_col =
      let before : row * cols + col < cols * rows = mul-add-lt row cols col rows is_row is_col in
      let size = whole in
      let turn : rows * cols ≡ cols * rows = omega arith in
      filled.each row col is_col (omega arith)

  in_west : (row col : ℕ) → row < rows → col < left.cols → get_or tiles (row * cols + col) 0 ≡ tile_at left row col
  in_west row col is_row is_col =
      let test : nat_lt col left.cols ≡ true = lt-ltb _ _ is_col in
      tile_in row col is_row (omega arith) ∙ rw test refl

  in_east : (row col : ℕ) → row < rows → col < right.cols → get_or tiles (row * cols + (left.cols + col)) 0 ≡ tile_at right row col
  in_east row col is_row is_col =
      let test : nat_lt (left.cols + col) left.cols ≡ false = le-ltb _ _ (omega arith) in
      let back : left.cols + col - left.cols ≡ col = omega arith in
      tile_in row (left.cols + col) is_row (omega arith) ∙ rw (test, back) refl

  pub beside_tiles : IsBeside left right (record { rows = rows; cols = cols; tiles = tiles })
  beside_tiles = record {
    rows = as_rows;
    cols = as_cols;
    west = λ row col is_row is_col. in_west row col (omega arith) is_col;
    east = λ row col is_row is_col. in_east row col (let same = meets.rows in omega arith) is_col;
  }

  -- a tile of the right part, by its column in the whole
  past_west : (row col : ℕ) → row < rows → col < cols → left.cols ≤ col → get_or tiles (row * cols + col) 0 ≡ tile_at right row (col - left.cols)
  past_west row col is_row is_col past =
      let back : left.cols + (col - left.cols) ≡ col = omega arith in
      subst (λ c. get_or tiles (row * cols + c) 0 ≡ tile_at right row (col - left.cols)) back (in_east row (col - left.cols) is_row (omega arith))

  known : (row col : ℕ) → row < rows → col < cols → get_or tiles (row * cols + col) 0 < tile_count
  known row col is_row is_col = elim (cases_lt col left.cols) [
    | inl inner ↦ rw (in_west row col is_row inner) (west.known row col (omega arith) inner)
    | inr outer ↦ let same = meets.rows in rw (past_west row col is_row is_col outer) (east.known row (col - left.cols) (omega arith) (omega arith))
  ]

  eastward : (row col : ℕ) → row < rows → col + 1 < cols → MeetsEast (get_or tiles (row * cols + col) 0) (get_or tiles (row * cols + (col + 1)) 0)
  eastward row col is_row is_col = elim (cases_lt (col + 1) left.cols) [
    | inl inner ↦ rw (in_west row col is_row (omega arith), in_west row (col + 1) is_row inner) (west.eastward row col (omega arith) inner)
    | inr outer ↦ elim (cases_eq (col + 1) left.cols) [
      | inl border ↦
          let last : col ≡ left.cols - 1 = omega arith in
          let first : col + 1 - left.cols ≡ 0 = omega arith in
          rw (in_west row col is_row (omega arith), past_west row (col + 1) is_row is_col outer, first, last) (meets.ports row (omega arith))
      | inr past ↦
          let next : col + 1 - left.cols ≡ col - left.cols + 1 = omega arith in
          let same = meets.rows in
          rw (past_west row col is_row (omega arith) (omega arith), past_west row (col + 1) is_row is_col outer, next) (east.eastward row (col - left.cols) (omega arith) (omega arith))
    ]
  ]

  southward : (row col : ℕ) → row + 1 < rows → col < cols → MeetsSouth (get_or tiles (row * cols + col) 0) (get_or tiles ((row + 1) * cols + col) 0)
  southward row col is_row is_col = elim (cases_lt col left.cols) [
    | inl inner ↦ rw (in_west row col (omega arith) inner, in_west (row + 1) col is_row inner) (west.southward row col (omega arith) inner)
    | inr outer ↦
        let same = meets.rows in
        rw (past_west row col (omega arith) is_col outer, past_west (row + 1) col is_row is_col outer) (east.southward row (col - left.cols) (omega arith) (omega arith))
  ]

  pub beside_tiling : IsTiling (record { rows = rows; cols = cols; tiles = tiles })
  beside_tiling = record {
    some_row = rw as_rows west.some_row;
    few_rows = rw as_rows west.few_rows;
    some_col = let some = west.some_col in omega arith;
    few_cols = rw as_cols meets.few;
    size = filled.size ∙ whole;
    known = known;
    eastward = eastward;
    southward = southward;
  }
