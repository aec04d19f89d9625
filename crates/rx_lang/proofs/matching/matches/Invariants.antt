use Rattle.std.proofs.Common.{ℕ, ◌<◌, ◌==◌, get_or}
use Rattle.std.specs.Int.{bit_at}
use Rattle.rx_lang.specs.declared.pattern.PatternBit.TheVariants.{Zero}
use Rattle.rx_lang.specs.Vector.{Agrees}
use Rattle.rx_lang.proofs.matching.matches.Given as goal

abbrev pub invariant-loop-line : goal.invariant-loop-line
invariant-loop-line l = (k : ℕ) → k < l.line → Agrees (get_or l.pattern k Zero) (bit_at l.vector.bits k == 1)
