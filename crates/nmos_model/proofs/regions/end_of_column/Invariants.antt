use Rattle.std.proofs.Common.{◌≡◌, ℕ, ◌<◌, ◌≤◌, true}
use Rattle.nmos_model.specs.Regions.{is_channel, cover_in}
use Rattle.nmos_model.proofs.regions.end_of_column.Given as goal

abbrev pub invariant-loop-at : goal.invariant-loop-at
invariant-loop-at l = (at : ℕ) → l.row ≤ at → at < l.at → is_channel (cover_in l.squares l.column at) ≡ true
