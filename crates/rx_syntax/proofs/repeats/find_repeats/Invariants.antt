use Rattle.std.proofs.Common.{◌≡◌, map, take}
use Rattle.rx_lang.specs.Tables.{trees}
use Rattle.rx_syntax.specs.Printed.{has_repeat}
use Rattle.rx_syntax.proofs.repeats.find_repeats.Given as goal

abbrev pub invariant-loop-node : goal.invariant-loop-node
invariant-loop-node l = l.tests.items ≡ map has_repeat (trees (take l.node-index l.node-items))
