-- What is wrong with the numbers and the distances of a command.
use Rattle.std.specs.Prelude.{◌≡◌, ◌⊎◌, ℤ, List, flat_map}
use Rattle.std.specs.List.{list_any}
use Rattle.std.specs.Bool.{Decides}
use Rattle.geom.specs.CifCommands.{CifScale, CifMove, move_parts}
use Rattle.geom.specs.CifCodes.{SomeIs, IsOffGrid, IsFarOff, IsTooGreat, part_numbers, move_distances, is_oblique_move}
use Rattle.cif_codes.specs.declared.checks.Checks.{Checks}
use Rattle.cif_codes.specs.declared.calls.MoveChecks.{MoveChecks}

-- These are the numbers of a command, and twice its distances: whether a distance is off the grid; and whether a number is too
-- great, or a distance too far off.
pub record Checked (scale : CifScale) (numbers distances : List ℤ) (checks : Checks) : Type 0 where
  pub off : Decides checks.off (SomeIs (IsOffGrid scale) distances)
  pub far : Decides checks.far (SomeIs IsTooGreat numbers ⊎ SomeIs (IsFarOff scale) distances)

-- What is wrong with these transformations: their numbers and distances, and whether one turns into a direction that is not along an axis.
pub record MovesChecked (scale : CifScale) (moves : List CifMove) (found : MoveChecks) : Type 0 where
  pub numbers : Checked scale (flat_map part_numbers (flat_map move_parts moves)) (flat_map move_distances moves) found.checks
  pub oblique : found.oblique ≡ list_any is_oblique_move moves
