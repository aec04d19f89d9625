use Rattle.std.proofs.Common.{◌≡◌, ◌++◌, map, take}
use Rattle.rx_syntax.specs.Tokens.{place_byte}
use Rattle.rx_syntax.proofs.print.put_pattern.Given as goal

abbrev pub invariant-loop-place : goal.invariant-loop-place
invariant-loop-place l = l.text.items ≡ l.initial.text.items ++ map place_byte (take l.place-index l.pattern)
