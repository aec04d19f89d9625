use Rattle.std.proofs.Common.{◌≡◌, ◌++◌}
use Rattle.rx_syntax.specs.Pieces.{ArePieces, counts_of, node_text, waiting_text}
use Rattle.rx_syntax.proofs.print.put_expr.Given as goal

abbrev pub invariant-loop-piece : goal.invariant-loop-piece
invariant-loop-piece l =
    (l.text.items ++ waiting_text l.spec l.stack.items ≡ l.initial.text.items ++ node_text l.spec l.root) × ArePieces l.spec l.stack.items

abbrev pub decreases-loop-piece : goal.decreases-loop-piece
decreases-loop-piece l = counts_of l.spec l.stack.items
