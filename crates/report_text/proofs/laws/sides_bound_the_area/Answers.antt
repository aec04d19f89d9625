use Rattle.report_text.proofs.AreaBounds.{area_within}
use Rattle.report_text.proofs.laws.sides_bound_the_area.Goals as goal

pub returns : goal.returns
returns c = area_within
