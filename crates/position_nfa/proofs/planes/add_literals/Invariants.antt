use Rattle.std.specs.Prelude.{flat_map}
use Rattle.std.proofs.Common.{◌≡◌, ◌++◌, slice_index_or}
use Rattle.std.specs.List.{range_with_len}
use Rattle.rx_lang.specs.declared.pattern.PatternBit.TheVariants.{Any}
use Rattle.position_nfa.specs.Registers.{literal}
use Rattle.position_nfa.proofs.planes.add_literals.Given as goal

abbrev pub invariant-loop-line : goal.invariant-loop-line
invariant-loop-line l =
    l.inputs.items ≡ l.initial.inputs.items ++ flat_map (λ line. literal l.counts line (slice_index_or l.pattern line Any)) (range_with_len 0 l.line)
