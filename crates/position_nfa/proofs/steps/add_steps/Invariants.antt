use Rattle.std.specs.Prelude.{flat_map}
use Rattle.std.proofs.Common.{◌≡◌, ◌++◌, map}
use Rattle.std.specs.List.{range_with_len}
use Rattle.position_nfa.specs.Registers.{state_named, step_named, step_at}
use Rattle.position_nfa.proofs.steps.add_steps.Given as goal

abbrev pub invariant-loop-symbol : goal.invariant-loop-symbol
invariant-loop-symbol l =
    map step_named l.steps.items ≡ map step_named l.initial.steps.items ++ flat_map (step_at l.nfa (state_named l.state)) (range_with_len 0 l.symbol)
