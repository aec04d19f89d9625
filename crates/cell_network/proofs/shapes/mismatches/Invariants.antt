use Rattle.std.specs.Prelude.{flat_map}
use Rattle.std.proofs.Common.{◌≡◌, slice_index_or}
use Rattle.std.specs.List.{range_with_len}
use Rattle.rx_lang.specs.declared.pattern.PatternBit.TheVariants.{Any}
use Rattle.cell_network.specs.Shapes.{mismatch}
use Rattle.cell_network.proofs.shapes.mismatches.Given as goal

abbrev pub invariant-loop-line : goal.invariant-loop-line
invariant-loop-line l =
    l.nets.items ≡ flat_map (λ line. mismatch line (slice_index_or l.pattern line Any)) (range_with_len 0 l.line)
