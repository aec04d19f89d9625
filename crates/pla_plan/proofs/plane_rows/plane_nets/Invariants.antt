-- The nets so far.
use Rattle.std.proofs.Common.{◌≡◌, ◌+◌, ◌-◌, map, take}
use Rattle.pla_plan.proofs.plane_rows.plane_nets.Given as goal

abbrev pub invariant-loop-net : goal.invariant-loop-net
invariant-loop-net l = l.nets.items ≡ map (λ net. net - l.first + 1) (take l.net-index l.terms)
