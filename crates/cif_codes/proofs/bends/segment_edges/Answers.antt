-- Both directions.
use Rattle.std.proofs.Common.{pos}
use Rattle.cif_codes.proofs.Checking.{stands_word}
use Rattle.cif_codes.proofs.Bending.{span_word, edges_by}
use Rattle.cif_codes.proofs.bends.segment_edges.Goals as goal

pub returns-clause-stand : goal.returns-clause-stand
returns-clause-stand c = λ m w p q st a b.
    let width = stands_word m (pos w) c.args.width st in
    let x = c.span-left.result in
    let y = c.span-bottom.result in
    edges_by m w p q _ (span_word m w p.x q.x x.0 x.1 c.span-left.ensures.low_near c.span-left.ensures.high_near (c.span-left.ensures.stand m w p.x q.x width a.0 b.0))
    (span_word m w p.y q.y y.0 y.1 c.span-bottom.ensures.low_near c.span-bottom.ensures.high_near (c.span-bottom.ensures.stand m w p.y q.y width a.1 b.1))
