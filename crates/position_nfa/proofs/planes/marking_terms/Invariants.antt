use Rattle.std.specs.Prelude.{flat_map}
use Rattle.std.proofs.Common.{◌≡◌, map}
use Rattle.std.specs.List.{range_with_len}
use Rattle.position_nfa.specs.Registers.{state_named, marking_term}
use Rattle.position_nfa.proofs.planes.marking_terms.Given as goal

abbrev pub invariant-loop-k : goal.invariant-loop-k
invariant-loop-k l = l.inputs.items ≡ flat_map (marking_term l.counts l.nfa l.from (map state_named l.marked) l.output) (range_with_len 0 l.k)
