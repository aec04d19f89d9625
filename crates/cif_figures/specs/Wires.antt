-- Wires that meet no code.
use Rattle.std.specs.Prelude.{◌≢◌, ℕ, List, [], flat_map}
use Rattle.geom.specs.declared.point.Point.{Point}
use Rattle.geom.specs.CifCommands.{CifScale, DrawsWire, command_parts}
use Rattle.geom.specs.CifCodes.{SomeIs, IsTooGreat, IsOffGrid, IsFarOff, part_numbers, command_distances}
use Rattle.cif_values.specs.Parts.{PartsAt}
use Rattle.cif_codes.specs.Wires.{IsOddWire}

-- This wire stands here up to a semicolon, it is in the profile, and after scaling all edges are on the grid and within 2^40 λ of the
-- origin.
pub record IsClearWire (text : List ℕ) (at : ℕ) (scale : CifScale) (w : ℕ) (points : List Point) : Type 0 where
  pub stop : ℕ
  pub some : points ≢ []
  pub parts : PartsAt text at stop (command_parts (DrawsWire w points))
  pub few : SomeIs IsTooGreat (flat_map part_numbers (command_parts (DrawsWire w points))) → ⊥
  pub on_grid : SomeIs (IsOffGrid scale) (command_distances (DrawsWire w points)) → ⊥
  pub not_far : SomeIs (IsFarOff scale) (command_distances (DrawsWire w points)) → ⊥
  pub even : IsOddWire w points → ⊥
