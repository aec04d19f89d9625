use Rattle.pla_plan.proofs.RowChips as chips
use Rattle.pla_plan.proofs.laws.row_chips_cover_plans.Goals as goal

pub returns : goal.returns
returns c = chips.row_chips_cover_plans
