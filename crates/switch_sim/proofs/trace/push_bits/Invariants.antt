use Rattle.std.proofs.Common.{◌≡◌, ◌++◌, take}
use Rattle.switch_sim.specs.TraceReading.{bits_in}
use Rattle.switch_sim.proofs.trace.push_bits.Given as goal

abbrev pub invariant-loop-byte : goal.invariant-loop-byte
invariant-loop-byte l = l.bits.items ≡ l.fn.bits.items ++ bits_in (take l.byte-index l.line)
