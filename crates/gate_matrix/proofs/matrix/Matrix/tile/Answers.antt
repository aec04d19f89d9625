-- The tile is made of the row and the column that were read.
use Rattle.std.proofs.Common.{◌<◌, length, sym, ap, subst, ◌∙◌}
use Rattle.gate_matrix.specs.Cells.{Matrix, matrix_tile}
use Rattle.gate_matrix.proofs.MatrixTiles.{tile_read}
use Rattle.gate_matrix.proofs.matrix.Matrix.tile.Goals as goal

pub returns : goal.returns
returns c =
    let m = c.self.inside in
    let is_row = subst (λ (x : Matrix). c.args.row < length x.rows) (sym c.self.view_is) c.requires.is_row in
    let is_col = subst (λ (x : Matrix). c.args.col < x.cols) (sym c.self.view_is) c.requires.is_col in
    tile_read m.rows.items m.at.items m.columns.items c.args.row c.args.col c.len.result c.index.result.now c.index-2.result.now c.cell.result c.tile.result
    c.self.invariant is_row is_col c.index.ensures c.index-2.ensures (c.len.ensures ∙ m.columns.ok.0) c.cell.ensures c.tile.ensures
    ∙ ap (λ (x : Matrix). matrix_tile x c.args.row c.args.col) c.self.view_is
