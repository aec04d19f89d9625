-- One column more.
use Rattle.std.proofs.Common.{◌≡◌, ◌+◌, ◌*◌, ◌++◌, ◌∷◌, [], sym, ap, ◌∙◌, arith}
use Rattle.std.proofs.lemmas.List.FromFn.{map-range_with_len_more}
use Rattle.node_cell.specs.Blocks.{wire_col}
use Rattle.node_cell.proofs.matrix.net_cols.Goals as goal

pub loop-net-preserved : goal.loop-net-preserved
loop-net-preserved c =
    let n = c.loop-net.net in
    let here : 0 + n ≡ n = omega arith in
    c.in_ok-push.ensures.items ∙ ap (λ l. l ++ (2 + 2 * n) ∷ []) c.loop-net.invariant ∙ sym (map-range_with_len_more wire_col 0 n n here)
