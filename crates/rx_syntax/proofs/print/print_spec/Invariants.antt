use Rattle.std.proofs.Common.{◌≡◌, ◌++◌, flat_map, take}
use Rattle.rx_syntax.specs.Printed.{symbol_text}
use Rattle.rx_syntax.proofs.print.print_spec.Given as goal

abbrev pub invariant-loop-symbol : goal.invariant-loop-symbol
invariant-loop-symbol l = l.text.items ≡ l.initial.text.items ++ flat_map symbol_text (take l.symbol-index l.symbol-items)
