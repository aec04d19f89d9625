use Rattle.std.proofs.Common.{arith}
use Rattle.report_text.proofs.AreaBounds.{low_powers}
use Rattle.report_text.proofs.figures.side_bound.Goals as goal

pub overflow_sub-result : goal.overflow_sub-result
overflow_sub-result c = omega (arith, (low_powers c.args.level c.requires).1, c.pow.ensures, c.from.ensures)
