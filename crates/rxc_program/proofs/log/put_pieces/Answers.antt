use Rattle.rxc_program.proofs.Pieces.{AppendsFront-at, TakesText-failed}
use Rattle.rxc_program.proofs.log.put_pieces.Goals as goal

pub returns-in_err-put_all-clause-bytes : goal.returns-in_err-put_all-clause-bytes
returns-in_err-put_all-clause-bytes g c = TakesText-failed _ _ _ _ c.from_residual.ensures.0
    (AppendsFront-at (λ piece. piece.now) _ _ _ c.args.pieces.now c.loop-piece.piece-index _ c.loop-piece-test.true c.loop-piece.invariant.0 c.in_err-put_all.ensures.err)
