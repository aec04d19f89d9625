-- Plans with the same tiles agree, and plans have tilings.
use Rattle.stick_grid.proofs.PlanTilings as tilings
use Rattle.stick_grid.proofs.PlanWindows as windows
use Rattle.stick_grid.proofs.SameModules as modules
use Rattle.stick_grid.proofs.laws.same_tiles_agree.Goals as goal

pub returns-clause-plans : goal.returns-clause-plans
returns-clause-plans c = windows.same_tiles_agree

pub returns-clause-tilings : goal.returns-clause-tilings
returns-clause-tilings c = tilings.plans_are_tilings

pub returns-clause-modules : goal.returns-clause-modules
returns-clause-modules c = modules.same_tiles_are_modules
