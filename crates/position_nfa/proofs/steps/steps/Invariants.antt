use Rattle.std.specs.Prelude.{flat_map}
use Rattle.std.proofs.Common.{◌≡◌, ◌++◌, map}
use Rattle.std.specs.List.{range_with_len}
use Rattle.rx_lang.specs.Positions.{start, scan_start, after}
use Rattle.position_nfa.specs.Registers.{step_named, steps_from}
use Rattle.position_nfa.proofs.steps.steps.Given as goal

abbrev pub invariant-loop-position : goal.invariant-loop-position
invariant-loop-position l =
    map step_named l.steps.items ≡ steps_from l.symbols l.nfa start ++ steps_from l.symbols l.nfa scan_start ++ flat_map (λ p. steps_from l.symbols l.nfa (after p)) (range_with_len 0 l.position)
