-- The columns of the nets so far.
use Rattle.std.proofs.Common.{◌≡◌, ℕ, ◌<◌, length, get_or, take}
use Rattle.gate_matrix.specs.declared.column.Column.TheVariants.{Free}
use Rattle.gate_matrix.specs.Columns.{column_of}
use Rattle.gate_matrix.proofs.column.columns_of.Given as goal

abbrev pub invariant-loop-net : goal.invariant-loop-net
invariant-loop-net l =
    (length l.columns.items ≡ l.cols) × ((col : ℕ) → col < l.cols → get_or l.columns.items col Free ≡ column_of (take l.net l.at) col)
