use Rattle.std.proofs.Common.{◌≡◌, ℕ, ◌<◌, ◌≤◌, true}
use Rattle.nmos_model.specs.Regions.{is_kind, cover_in}
use Rattle.nmos_model.proofs.channel_squares.ChannelSquares.all_of_row.Given as goal

abbrev pub invariant-loop-column : goal.invariant-loop-column
invariant-loop-column l = (column : ℕ) → l.fn.columns.from ≤ column → column < l.column → is_kind l.kind (cover_in l.self column l.row) ≡ true
