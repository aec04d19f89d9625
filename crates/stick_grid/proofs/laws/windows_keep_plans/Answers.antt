-- Parts of plans are plans.
use Rattle.stick_grid.proofs.PlanWindows as windows
use Rattle.stick_grid.proofs.laws.windows_keep_plans.Goals as goal

pub returns : goal.returns
returns c = windows.windows_keep_plans
