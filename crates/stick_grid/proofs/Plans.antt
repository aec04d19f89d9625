-- Tilings are plans.
use Rattle.stick_grid.specs.Tilings.{Tiling, IsTiling}
use Rattle.stick_grid.specs.Plans.{IsPlan, plan_of}

pub tilings_are_plans : (tiling : Tiling) → IsTiling tiling → IsPlan (plan_of tiling)
tilings_are_plans tiling given = record { known = given.known; eastward = given.eastward; southward = given.southward }
