-- One column more.
use Rattle.std.proofs.Common.{◌≡◌, ◌+◌, ◌++◌, ◌∷◌, [], map, append_assoc, sym, ap, ◌∙◌, arith}
use Rattle.std.specs.List.{range_with_len}
use Rattle.std.proofs.lemmas.List.FromFn.{map-range_with_len_more}
use Rattle.block_grid.specs.Raster.{wire_at}
use Rattle.block_grid.proofs.raster.add_row.Goals as goal

pub loop-col-preserved : goal.loop-col-preserved
loop-col-preserved c =
    let n = c.loop-col.col in
    let f = wire_at c.args.norths.now c.args.wests.now c.args.rows c.args.cols c.args.row in
    let old = c.args.kinds.now.items in
    let here : 0 + n ≡ n = omega arith in
    c.in_ok-push.ensures.items ∙ ap (λ l. l ++ c.wire_kind.result ∷ []) c.loop-col.invariant
    ∙ append_assoc old (map f (range_with_len 0 n)) (c.wire_kind.result ∷ [])
    ∙ ap (λ k. old ++ (map f (range_with_len 0 n) ++ k ∷ [])) c.wire_kind.ensures ∙ ap (λ l. old ++ l) (sym (map-range_with_len_more f 0 n n here))
