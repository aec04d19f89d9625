use Rattle.std.proofs.Common.{◌≡◌, ◌+◌, ◌*◌, ◌++◌, map}
use Rattle.std.specs.List.{range_with_len}
use Rattle.position_nfa.proofs.array_orders.add_run.Given as goal

abbrev pub invariant-loop-i : goal.invariant-loop-i
invariant-loop-i l = l.order.items ≡ l.initial.order.items ++ map (λ i. l.from + l.apart * i) (range_with_len 0 l.i)
