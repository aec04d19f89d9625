use Rattle.std.specs.Prelude.{flat_map}
use Rattle.std.proofs.Common.{◌≡◌, ◌++◌, map}
use Rattle.std.specs.List.{range_with_len}
use Rattle.rx_lang.specs.Positions.{start, scan_start, after}
use Rattle.position_nfa.specs.Registers.{state_named, marked_at}
use Rattle.position_nfa.proofs.steps.marked_states.Given as goal

abbrev pub invariant-loop-position : goal.invariant-loop-position
invariant-loop-position l =
    map state_named l.states.items ≡ marked_at l.nfa start ++ marked_at l.nfa scan_start ++ flat_map (λ p. marked_at l.nfa (after p)) (range_with_len 0 l.position)
