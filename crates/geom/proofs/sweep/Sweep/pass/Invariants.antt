-- The strip is passed up to the row.
use Rattle.geom.proofs.Sweeps.{PassedTo, rows_left}
use Rattle.geom.proofs.sweep.Sweep.pass.Given as goal

abbrev pub invariant-loop-row : goal.invariant-loop-row
invariant-loop-row l = PassedTo l.fn.self l.strip l.row l.self

abbrev pub decreases-loop-row : goal.decreases-loop-row
decreases-loop-row l = rows_left l.strip l.row
