-- The mirror image of a tiling is one.
use Rattle.std.proofs.Common.{◌≡◌, ℕ, ◌+◌, ◌*◌, ◌<◌, List, get_or, sym, ◌∙◌, arith}
use Rattle.std.proofs.lemmas.Nat.{mul-add-lt}
use Rattle.micro_tiles.specs.declared.side.Side.{Side}
use Rattle.micro_tiles.specs.declared.side.Side.TheVariants.{North, East, South, West}
use Rattle.micro_tiles.specs.Sides.{mirrored_side}
use Rattle.micro_tiles.specs.Table.{tile_count, port_at, transpose_of}
use Rattle.stick_grid.specs.Tilings.{Tiling, IsTiling, tile_at}
use Rattle.stick_grid.specs.Joins.{IsTransposed}
use Rattle.stick_grid.proofs.Filled.{IsFilled}

-- a tile of the mirror image: its number, which the table has, and what its sides carry
abbrev pub Turned : Tiling → ℕ → ℕ → ℕ → Type 0
Turned tiling row col tile = (tile ≡ transpose_of (tile_at tiling col row)) × (tile < tile_count) × ((side : Side) → port_at tile (mirrored_side side) ≡ port_at (tile_at tiling col row) side)

module _ (tiling : Tiling) (rows cols n : ℕ) (tiles : List ℕ) (given : IsTiling tiling) (as_rows : rows ≡ tiling.cols) (as_cols : cols ≡ tiling.rows)
    (all : n ≡ tiling.rows * tiling.cols) (filled : IsFilled cols n (Turned tiling) tiles) where
  whole : n ≡ rows * cols
  whole = rw (all, as_rows, as_cols) (let turn : tiling.rows * tiling.cols ≡ tiling.cols * tiling.rows = omega arith in turn)

  turned_at : (row col : ℕ) → row < rows → col < cols → Turned tiling row col (get_or tiles (row * cols + col) 0)
  turned_at row col is_row is_col =
      let before : row * cols + col < cols * rows = mul-add-lt row cols col rows is_row is_col in
      let size = whole in
      let turn : rows * cols ≡ cols * rows = omega arith in
      filled.each row col is_col (omega arith)

  pub turned_tiles : IsTransposed tiling (record { rows = rows; cols = cols; tiles = tiles })
  turned_tiles = record { rows = as_rows; cols = as_cols; tiles = λ row col is_row is_col. (turned_at row col is_row is_col).0 }

  pub turned_tiling : IsTiling (record { rows = rows; cols = cols; tiles = tiles })
  turned_tiling = record {
    some_row = rw as_rows given.some_col;
    few_rows = rw as_rows given.few_cols;
    some_col = rw as_cols given.some_row;
    few_cols = rw as_cols given.few_rows;
    size = filled.size ∙ whole;
    known = λ row col is_row is_col. (turned_at row col is_row is_col).1;
    eastward = λ row col is_row is_col.
        let here = (turned_at row col is_row (omega arith)).2 South in
        let next = (turned_at row (col + 1) is_row is_col).2 North in
        here ∙ given.southward col row (rw (← as_cols) is_col) (rw (← as_rows) is_row) ∙ sym next;
    southward = λ row col is_row is_col.
        let here = (turned_at row col (omega arith) is_col).2 East in
        let next = (turned_at (row + 1) col is_row is_col).2 West in
        here ∙ given.eastward col row (rw (← as_cols) is_col) (rw (← as_rows) is_row) ∙ sym next;
  }
