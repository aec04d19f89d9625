use Rattle.std.proofs.Common.{◌≡◌, map, take}
use Rattle.rx_syntax.specs.Accepted.{place_bit}
use Rattle.rx_syntax.proofs.naming.pattern_of.Given as goal

abbrev pub invariant-loop-byte : goal.invariant-loop-byte
invariant-loop-byte l = l.pattern.items ≡ map place_bit (take l.byte-index l.word)
