-- One tile more.
use Rattle.std.proofs.Common.{◌≡◌, ℕ, ◌+◌, ◌<◌, ◌++◌, ◌∷◌, List, [], length, get_or, map, sym, ap, ◌∙◌, arith}
use Rattle.std.specs.List.{range_with_len}
use Rattle.std.proofs.lemmas.List.FromFn.{get_or-map-range_with_len, map-range_with_len_more, length-map-range_with_len}
use Rattle.micro_tiles.specs.declared.basic.Basic.{Basic}
use Rattle.gate_matrix.specs.declared.column.Column.{Column}
use Rattle.gate_matrix.specs.Columns.{column_of}
use Rattle.pla_plan.specs.Planes.{cap, cap_in}
use Rattle.pla_plan.proofs.plane_parts.caps.Goals as goal

column_read : (at : List ℕ) (columns : List Column) (n col : ℕ) (k : Column) → columns ≡ map (column_of at) (range_with_len 0 n) → col < n
    → k ≡ get_or columns col k → k ≡ column_of at col
column_read at columns n col k are below read =
    read ∙ ap (λ l. get_or l col k) are ∙ get_or-map-range_with_len (column_of at) 0 n col col k below (omega arith)

pub index-requires : goal.index-requires
index-requires c =
    let long = ap length c.in_ok-columns.ensures ∙ length-map-range_with_len (column_of c.at.result.now) 0 c.cols.result in
    omega (arith, c.in_ok-columns.columns.ok.0)

pub loop-col-preserved : goal.loop-col-preserved
loop-col-preserved c =
    let planes = c.args.planes.now in
    let n = c.loop-col.col in
    let here : 0 + n ≡ n = omega arith in
    let column : c.index.result.now ≡ column_of planes.at n =
    column_read c.at.result.now c.in_ok-columns.columns.items c.cols.result n c.index.result.now c.in_ok-columns.ensures (omega arith) c.index.ensures
    ∙ ap (λ at. column_of at n) c.at.ensures.columns in
    let tile : c.cap_in.result ≡ cap planes n =
    c.cap_in.ensures ∙ ap (λ (k : Column). cap_in k c.is_fed.result) column ∙ ap (cap_in (column_of planes.at n)) c.is_fed.ensures in
    c.in_ok-push.ensures.items ∙ ap (λ l. l ++ c.cap_in.result ∷ []) c.loop-col.invariant
    ∙ ap (λ (t : Basic). map (cap planes) (range_with_len 0 n) ++ t ∷ []) tile ∙ sym (map-range_with_len_more (cap planes) 0 n n here)
