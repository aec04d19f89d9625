-- Points that meet no code.
use Rattle.std.specs.Prelude.{ℕ, List, flat_map}
use Rattle.geom.specs.declared.point.Point.{Point}
use Rattle.geom.specs.CifCommands.{CifScale, point_parts}
use Rattle.geom.specs.CifCodes.{SomeIs, IsTooGreat, IsOffGrid, IsFarOff, part_numbers, point_distances}
use Rattle.cif_values.specs.Parts.{PartsAt}

-- These points stand here up to a semicolon, and after scaling all are on the grid and within 2^40 λ of the origin.
pub record AreClearPoints (text : List ℕ) (at : ℕ) (scale : CifScale) (points : List Point) : Type 0 where
  pub stop : ℕ
  pub parts : PartsAt text at stop (flat_map point_parts points)
  pub few : SomeIs IsTooGreat (flat_map part_numbers (flat_map point_parts points)) → ⊥
  pub on_grid : SomeIs (IsOffGrid scale) (flat_map point_distances points) → ⊥
  pub not_far : SomeIs (IsFarOff scale) (flat_map point_distances points) → ⊥
