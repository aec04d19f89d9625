use Rattle.std.proofs.Common.{◌<◌, length, subst}
use Rattle.rx_syntax.specs.Pieces.{IsPiece}
use Rattle.rx_syntax.proofs.Printing.{puts_enclosed}
use Rattle.rx_syntax.proofs.print.put_piece.Goals as goal

pub returns-in_ok-push-in-Enclosed-3 : goal.returns-in_ok-push-in-Enclosed-3
returns-in_ok-push-in-Enclosed-3 c =
    let within : c.in-Enclosed.node < length c.args.spec.now.nodes = subst (IsPiece c.args.spec.now) c.in-Enclosed.is c.requires in
    rw (c.in-Enclosed.is, c.in_ok-push-in-Enclosed-3.ensures.items, c.in_ok-push-in-Enclosed-2.ensures.items, c.in_ok-push-in-Enclosed.ensures.items)
    (puts_enclosed c.args.spec.now c.in-Enclosed.node c.args.text.now.items c.args.stack.now.items within)
