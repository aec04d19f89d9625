-- As many columns as were asked for.
use Rattle.std.proofs.Common.{◌≡◌, ℕ, length, map, sym, ap, ◌∙◌}
use Rattle.std.specs.List.{range_with_len}
use Rattle.std.proofs.lemmas.List.FromFn.{length-map-range_with_len}
use Rattle.gate_matrix.specs.Columns.{column_of}
use Rattle.gate_matrix.proofs.matrix.Matrix.new.Goals as goal

pub invariant_of-result : goal.invariant_of-result
invariant_of-result c =
    let at = c.args.at.items in
    let e = rw (c.deref.ensures.value) at c.in_ok-columns.ensures in
    let long : length c.in_ok-columns.columns.items ≡ c.args.cols = ap length e ∙ length-map-range_with_len (column_of at) 0 c.args.cols in
    e ∙ ap (λ (n : ℕ). map (column_of at) (range_with_len 0 n)) (sym long)

pub returns : goal.returns
returns c =
    let e = c.in_ok-columns.ensures in
    let long : length c.in_ok-columns.columns.items ≡ c.args.cols = ap length e ∙ length-map-range_with_len (column_of c.deref.result.now) 0 c.args.cols in
    λ i. record { rows = c.args.rows.items; at = c.args.at.items; cols = long i }
