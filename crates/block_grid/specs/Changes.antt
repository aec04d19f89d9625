-- Sheets that grow by rows and columns, and sheets joined.
use Rattle.std.specs.Prelude.{ℕ, ◌+◌, ◌<◌, true, false, nat_lt, cond, max, List, [], ◌∷◌, ◌++◌, map, All}
use Rattle.block_grid.specs.declared.kind.BlockKind.{BlockKind}
use Rattle.block_grid.specs.declared.kind.BlockKind.TheVariants.{Empty, Node, Frame}
use Rattle.block_grid.specs.declared.standing.Standing.{Standing}
use Rattle.block_grid.specs.Lines.{BlockPlace, row_of, col_of}
use Rattle.block_grid.specs.Sheets.{DrawnEdge, Sheet}

-- the number of a line once `by` lines stand before line `at`
abbrev pub shifted : ℕ → ℕ → ℕ → ℕ
shifted at by x = cond (nat_lt x at) x (x + by)

-- a place once `by` rows stand before row `at`, or `by` columns before column `at`
abbrev pub rows_shifted : ℕ → ℕ → BlockPlace → BlockPlace
rows_shifted at by p = (shifted at by (row_of p), col_of p)

abbrev pub cols_shifted : ℕ → ℕ → BlockPlace → BlockPlace
cols_shifted at by p = (row_of p, shifted at by (col_of p))

-- nodes and edges whose places move
abbrev pub node_moved : (BlockPlace → BlockPlace) → Standing → Standing
node_moved h node = record node { row = row_of (h (node.row, node.col)); col = col_of (h (node.row, node.col)) }

abbrev pub edge_moved : (BlockPlace → BlockPlace) → DrawnEdge → DrawnEdge
edge_moved h e = record e { start = h e.start; turns = map h e.turns; finish = h e.finish }

-- the sheet with its nodes and edges moved, and with other numbers of rows and columns
abbrev pub sheet_moved : (BlockPlace → BlockPlace) → ℕ → ℕ → Sheet → Sheet
sheet_moved h rows cols s = record { rows = rows; cols = cols; nodes = map (node_moved h) s.nodes; edges = map (edge_moved h) s.edges }

-- the sheet with `by` further rows before row `at`, or `by` further columns before column `at`
abbrev pub with_rows : Sheet → ℕ → ℕ → Sheet
with_rows s at by = sheet_moved (rows_shifted at by) (s.rows + by) s.cols s

abbrev pub with_cols : Sheet → ℕ → ℕ → Sheet
with_cols s at by = sheet_moved (cols_shifted at by) s.rows (s.cols + by) s

-- One sheet with another at its east side, or at its south side. The smaller one is filled up with empty blocks.
abbrev pub side_by_side : Sheet → Sheet → Sheet
side_by_side s t =
    let right = with_cols t 0 s.cols in
    record { rows = max s.rows t.rows; cols = right.cols; nodes = s.nodes ++ right.nodes; edges = s.edges ++ right.edges }

abbrev pub stacked : Sheet → Sheet → Sheet
stacked s t =
    let below = with_rows t 0 s.rows in
    record { rows = below.rows; cols = max s.cols t.cols; nodes = s.nodes ++ below.nodes; edges = s.edges ++ below.edges }

-- a single block
abbrev pub single_nodes : BlockKind → List Standing
single_nodes (Node v) = record { node = v; frame = false; row = 0; col = 0 } ∷ []
single_nodes (Frame v) = record { node = v; frame = true; row = 0; col = 0 } ∷ []
single_nodes kind = []

abbrev pub single : BlockKind → Sheet
single kind = record { rows = 1; cols = 1; nodes = single_nodes kind; edges = [] }

-- The block holds nothing or a node.
abbrev pub IsSingle : BlockKind → Type 0
IsSingle Empty = Unit {0}
IsSingle (Node v) = Unit {0}
IsSingle (Frame v) = Unit {0}
IsSingle kind = ⊥

-- the numbers of the edge's places, and `by` more, are below the limit
pub record StaysBelow (along : BlockPlace → ℕ) (limit by : ℕ) (e : DrawnEdge) : Type 0 where
  pub start : along e.start + by < limit
  pub turns : All (λ p. along p + by < limit) e.turns
  pub finish : along e.finish + by < limit
