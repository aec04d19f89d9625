-- Scales of definitions.
use Rattle.std.specs.Prelude.{ℕ, ◌*◌, ◌^◌, ◌≤◌, ◌<◌}
use Rattle.geom.specs.CifCommands.{CifScale}
use Rattle.cif_codes.specs.declared.scale.Scale.{Scale}

-- the scale a/b
abbrev pub ratio : Scale → CifScale
ratio scale = record { times = scale.times; per = scale.per }

-- what remainders are taken by, to tell whether twice a distance is on the grid
abbrev pub grid_of : Scale → ℕ
grid_of scale = 400 * scale.per

-- Both numbers of the scale are from 1 to 2^40.
pub record IsScale (scale : Scale) : Type 0 where
  pub some_times : 0 < scale.times
  pub few_times : scale.times ≤ 2 ^ 40
  pub some_per : 0 < scale.per
  pub few_per : scale.per ≤ 2 ^ 40
