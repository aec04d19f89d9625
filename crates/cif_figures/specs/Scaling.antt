-- Coordinates in λ of coordinates in units.
use Rattle.std.specs.Prelude.{⊤, ◌≡◌, ℤ, pos, ◌*ℤ◌, List, [], ◌∷◌}
use Rattle.geom.specs.declared.point.Point.{Point}
use Rattle.geom.specs.Turns.{IsReachable}
use Rattle.geom.specs.CifDrawings.{scaled}
use Rattle.cif_codes.specs.declared.scale.Scale.{Scale}
use Rattle.cif_codes.specs.Scales.{ratio, grid_of}

-- The second coordinate is the first one in λ, with no rest, and at most 2^40 from 0.
pub record IsScaled (scale : Scale) (units lambdas : ℤ) : Type 0 where
  pub is : lambdas ≡ scaled (ratio scale) (pos 2 *ℤ units)
  pub exact : lambdas *ℤ pos (grid_of scale) ≡ (pos 2 *ℤ units) *ℤ pos scale.times
  pub reachable : IsReachable lambdas

-- Both coordinates are such.
abbrev pub IsScaledPoint : Scale → Point → Point → Type 0
IsScaledPoint scale p q = IsScaled scale p.x q.x × IsScaled scale p.y q.y

-- The points are such, one by one.
abbrev pub AreScaledPoints : Scale → List Point → List Point → Type 0
AreScaledPoints scale [] [] = ⊤
AreScaledPoints scale (p ∷ ps) (q ∷ qs) = IsScaledPoint scale p q × AreScaledPoints scale ps qs
AreScaledPoints scale ps qs = ⊥
