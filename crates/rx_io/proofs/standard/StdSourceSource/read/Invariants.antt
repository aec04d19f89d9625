use Rattle.std.proofs.Common.{◌≡◌}
use Rattle.rx_io.proofs.standard.StdSourceSource.read.Given as goal

-- nothing is counted before the loop has ended
abbrev pub invariant-loop : goal.invariant-loop
invariant-loop g l = l.self-inside.faults ≡ l.initial.self-inside.faults
