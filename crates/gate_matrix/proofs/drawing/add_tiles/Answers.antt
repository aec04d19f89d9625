-- One tile more.
use Rattle.std.proofs.Common.{◌≡◌, ℕ, ◌+◌, ◌++◌, ◌==◌, [], ◌∷◌, length, get_or, map, ap, ◌∙◌}
use Rattle.std.specs.List.{range_with_len}
use Rattle.micro_tiles.specs.Basics.{number_named}
use Rattle.gate_matrix.specs.declared.column.Column.TheVariants as columns
use Rattle.gate_matrix.specs.Cells.{cell}
use Rattle.gate_matrix.proofs.DrawnTiles.{tiles_more}
use Rattle.gate_matrix.proofs.drawing.add_tiles.Goals as goal

pub loop-col-preserved : goal.loop-col-preserved
loop-col-preserved c =
    let f = λ (col : ℕ). number_named (cell c.args.row.now (get_or c.args.columns.now col columns.Load) (col + 1 == length c.args.columns.now)) in
    let n = c.loop-col.col in
    let old = c.args.tiles.now.items in
    let tile : c.tile.result ≡ f n = c.tile.ensures ∙ ap number_named c.cell.ensures in
    c.in_ok-push.ensures.items ∙ ap (λ l. l ++ c.tile.result ∷ []) c.loop-col.invariant
    ∙ ap (λ (t : ℕ). (old ++ map f (range_with_len 0 n)) ++ t ∷ []) tile ∙ tiles_more f old n
