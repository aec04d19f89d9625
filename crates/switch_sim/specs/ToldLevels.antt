-- Nets that are told, one after another.
use Rattle.std.specs.Prelude.{◌≡◌, ◌⊎◌, ◌<◌, ℕ, Bool, List, Option, Some, slice_set}
use Rattle.std.specs.List.{sum_by}
use Rattle.switch_net.specs.Circuit.{Circuit}
use Rattle.switch_net.specs.LeastLevels.{Tells, AreToldByOnes, IsRefinedBy}
use Rattle.switch_net.specs.Ternary.{level_of}
use Rattle.switch_net.specs.declared.network.Level.{Level}
use Rattle.switch_net.specs.declared.network.Level.TheVariants.{Low, High, Unknown}
use Rattle.switch_sim.specs.Grouping.{told_at}
use Rattle.switch_sim.specs.Simulation.{level_at}

-- An unknown net was told its level.
pub record TellsAt (old new : List Level) (told : List (Option Bool)) (net : ℕ) : Type 0 where
  pub level : Bool
  pub is : told_at told net ≡ Some level
  pub unknown : level_at old net ≡ Unknown
  pub written : new ≡ slice_set old net (level_of level)

abbrev pub one_unknown : Level → ℕ
one_unknown Unknown = 1
one_unknown Low = 0
one_unknown High = 0

-- how many nets are unknown
abbrev pub unknowns : List Level → ℕ
unknowns levels = sum_by one_unknown levels

-- The second levels are told one by one from the first.
pub record LeadsOn (circuit : Circuit) (drives : List Bool) (charges old new : List Level) : Type 0 where
  pub ones : AreToldByOnes circuit drives (level_at charges) (level_at old) → AreToldByOnes circuit drives (level_at charges) (level_at new)
  pub more : IsRefinedBy circuit (level_at old) (level_at new)

-- Fewer nets are unknown, or nothing was told and no more nets wait.
abbrev pub IsCloser : List Level → List ℕ → List Level → List ℕ → Type 0
IsCloser levels next levels_new next_new = (unknowns levels_new < unknowns levels) ⊎ ((levels_new ≡ levels) × (next_new ≡ next))

-- The net is not unknown, or an update tells it nothing.
abbrev pub IsToldNothing : Circuit → List Bool → List Level → List Level → ℕ → Type 0
IsToldNothing circuit drives charges levels net = level_at levels net ≡ Unknown
    → (level : Bool) → ¬ Tells circuit drives (level_at charges) (level_at levels) net level
