use Rattle.pla_plan.proofs.RowKinds as kinds
use Rattle.pla_plan.proofs.laws.row_chips_have_rows.Goals as goal

pub returns : goal.returns
returns c = kinds.row_chips_have_rows c.tiles_keep_inside.ensures
