-- The span begins at the middle at the earliest.
use Rattle.std.proofs.Common.{rules}
use Rattle.geom.proofs.span.Span.above.Goals as goal
use Rattle.geom.proofs.span.Span.above.Goals.{in_default-via-in-Some+else-to-middle, in_default-via-in_default}

pub returns-in_default : goal.returns-in_default
returns-in_default c = elim c.in_default.branch [
  | in_default-via-in-Some+else-to-middle w ↦ search rules
  | in_default-via-in_default w ↦ search rules
]
