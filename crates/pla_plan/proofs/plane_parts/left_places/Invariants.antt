-- The columns so far.
use Rattle.std.proofs.Common.{◌≡◌}
use Rattle.pla_plan.specs.Planes.{left_places}
use Rattle.pla_plan.proofs.plane_parts.left_places.Given as goal

abbrev pub invariant-loop-net : goal.invariant-loop-net
invariant-loop-net l = l.places.items ≡ left_places l.net
