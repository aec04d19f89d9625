use Rattle.std.specs.Prelude.{flat_map}
use Rattle.std.proofs.Common.{◌≡◌, map}
use Rattle.std.specs.List.{range_with_len}
use Rattle.position_nfa.specs.Registers.{step_named, feeding_term}
use Rattle.position_nfa.proofs.planes.feeding_terms.Given as goal

abbrev pub invariant-loop-k : goal.invariant-loop-k
invariant-loop-k l = l.inputs.items ≡ flat_map (feeding_term l.counts l.nfa (map step_named l.steps) l.position) (range_with_len 0 l.k)
