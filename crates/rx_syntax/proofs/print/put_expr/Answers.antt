use Rattle.std.proofs.Common.{◌≡◌, ◌∙◌, ◌++◌, ◌+◌, sym, ap, subst, arith}
use Rattle.rx_syntax.specs.Pieces.{ArePieces, count_of, counts_of, waiting_text}
use Rattle.rx_syntax.proofs.Printing.{counts_push, pieces_pop, waiting_push}
use Rattle.rx_syntax.proofs.print.put_expr.Goals as goal

pub put_piece-requires : goal.put_piece-requires
put_piece-requires c =
    (pieces_pop c.args.spec.now c.pop.new.self.items c.in-Some.piece (subst (ArePieces c.args.spec.now) c.in-Some.ensures.items c.loop-piece.invariant.1)).1

pub loop-piece-smaller : goal.loop-piece-smaller
loop-piece-smaller c =
    let before : counts_of c.args.spec.now c.loop-piece.stack.items ≡ counts_of c.args.spec.now c.pop.new.self.items + count_of c.args.spec.now c.in-Some.piece
    = ap (counts_of c.args.spec.now) c.in-Some.ensures.items ∙ counts_push c.args.spec.now c.pop.new.self.items c.in-Some.piece in
    omega (arith, before, c.in_ok-put_piece.ensures.fewer)

pub loop-piece-preserved : goal.loop-piece-preserved
loop-piece-preserved c = (
  c.in_ok-put_piece.ensures.same
      ∙ ap (λ t. c.loop-piece.text.items ++ t)
      (sym (ap (waiting_text c.args.spec.now) c.in-Some.ensures.items ∙ waiting_push c.args.spec.now c.pop.new.self.items c.in-Some.piece))
      ∙ c.loop-piece.invariant.0,
  c.in_ok-put_piece.ensures.pieces
      (pieces_pop c.args.spec.now c.pop.new.self.items c.in-Some.piece (subst (ArePieces c.args.spec.now) c.in-Some.ensures.items c.loop-piece.invariant.1)).0,
)
