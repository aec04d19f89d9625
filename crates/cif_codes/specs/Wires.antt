-- What is wrong with wires.
use Rattle.std.specs.Prelude.{◌≡◌, ◌⊎◌, false, ℕ, List, length, flat_map}
use Rattle.std.specs.List.{list_all}
use Rattle.std.specs.Bool.{Decides}
use Rattle.geom.specs.declared.point.Point.{Point}
use Rattle.geom.specs.CifCommands.{CifScale, DrawsWire, command_parts}
use Rattle.geom.specs.CifShapes.{wire_segments, is_axis_segment}
use Rattle.geom.specs.CifCodes.{SomeIs, IsTooGreat, part_numbers, command_distances}
use Rattle.cif_codes.specs.declared.wires.WireChecks.{WireChecks}
use Rattle.cif_codes.specs.Checks.{Checked}

-- The width is 0, or a segment lies along no axis.
abbrev pub IsOddWire : ℕ → List Point → Type 0
IsOddWire width points = (width ≡ 0) ⊎ (list_all is_axis_segment (wire_segments points) ≡ false)

-- What is wrong with the numbers and the edges of a wire, how many points it has, and, unless a number is too great, whether it is
-- outside the profile.
pub record WireChecked (scale : CifScale) (width : ℕ) (points : List Point) (found : WireChecks) : Type 0 where
  pub checked : Checked scale (flat_map part_numbers (command_parts (DrawsWire width points))) (command_distances (DrawsWire width points)) found.checks
  pub count : found.count ≡ length points
  pub odd : (SomeIs IsTooGreat (flat_map part_numbers (command_parts (DrawsWire width points))) → ⊥) → Decides found.odd (IsOddWire width points)
