use Rattle.std.proofs.Common.{◌≡◌, ◌++◌, flat_map, take}
use Rattle.rx_syntax.specs.Pieces.{node_statement}
use Rattle.rx_syntax.proofs.print.put_statements.Given as goal

abbrev pub invariant-loop-root : goal.invariant-loop-root
invariant-loop-root l = l.text.items ≡ l.initial.text.items ++ flat_map (node_statement l.spec l.keyword) (take l.root-index l.roots)
