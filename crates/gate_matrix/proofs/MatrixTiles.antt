-- The tile of a matrix by its rows and columns.
use Rattle.std.proofs.Common.{◌≡◌, ℕ, ◌+◌, ◌<◌, ◌==◌, List, length, get_or, map, ap, ◌∙◌, arith}
use Rattle.std.specs.List.{range_with_len}
use Rattle.std.proofs.lemmas.List.{get_or_default}
use Rattle.std.proofs.lemmas.List.FromFn.{get_or-map-range_with_len}
use Rattle.micro_tiles.specs.declared.basic.Basic.{Basic}
use Rattle.micro_tiles.specs.Basics.{number_named}
use Rattle.gate_matrix.specs.declared.column.Column.{Column}
use Rattle.gate_matrix.specs.Rows.{MatrixRow, blank_row}
use Rattle.gate_matrix.specs.Columns.{column_of}
use Rattle.gate_matrix.specs.Cells.{cell, matrix_tile}

column_read : (at : List ℕ) (columns : List Column) (n col : ℕ) (k : Column) → columns ≡ map (column_of at) (range_with_len 0 n) → col < n
    → k ≡ get_or columns col k → k ≡ column_of at col
column_read at columns n col k are below read =
    read ∙ ap (λ l. get_or l col k) are ∙ get_or-map-range_with_len (column_of at) 0 n col col k below (omega arith)

pub tile_read : (rows : List MatrixRow) (at : List ℕ) (columns : List Column) (row col len : ℕ) (r : MatrixRow) (k : Column) (basic : Basic) (tile : ℕ)
    → columns ≡ map (column_of at) (range_with_len 0 (length columns)) → row < length rows → col < length columns
    → r ≡ get_or rows row r → k ≡ get_or columns col k → len ≡ length columns → basic ≡ cell r k (col + 1 == len) → tile ≡ number_named basic
    → tile ≡ matrix_tile (record { rows = rows; at = at; cols = length columns }) row col
tile_read rows at columns row col len r k basic tile are is_row is_col read_row read_column long made numbered =
    let row_is : r ≡ get_or rows row blank_row = read_row ∙ get_or_default rows row r blank_row is_row in
    let column_is : k ≡ column_of at col = column_read at columns (length columns) col k are is_col read_column in
    numbered ∙ ap number_named (made ∙ ap (λ (x : MatrixRow). cell x k (col + 1 == len)) row_is
    ∙ ap (λ (x : Column). cell (get_or rows row blank_row) x (col + 1 == len)) column_is
    ∙ ap (λ (n : ℕ). cell (get_or rows row blank_row) (column_of at col) (col + 1 == n)) long)
