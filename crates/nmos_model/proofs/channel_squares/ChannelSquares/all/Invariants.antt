use Rattle.std.proofs.Common.{◌≡◌, ℕ, ◌<◌, ◌≤◌, true}
use Rattle.nmos_model.specs.Rasters.{IsIn}
use Rattle.nmos_model.specs.Regions.{is_kind, cover_in}
use Rattle.nmos_model.proofs.channel_squares.ChannelSquares.all.Given as goal

abbrev pub invariant-loop-row : goal.invariant-loop-row
invariant-loop-row l = (column row : ℕ) → IsIn l.fn.block.columns column → l.fn.block.rows.from ≤ row → row < l.row → is_kind l.kind (cover_in l.self column row) ≡ true
