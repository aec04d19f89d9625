-- One stroke after another is counted, or refused.
use Rattle.std.proofs.lemmas.Result.{err_from_is_err_and}
use Rattle.cif_drawing.proofs.Lists.{among_item}
use Rattle.cif_drawing.proofs.Counting.{counted_next, counted_refused}
use Rattle.cif_drawing.proofs.flattening.count_boxes.Goals as goal

pub count_stroke-requires-clause-stroke : goal.count_stroke-requires-clause-stroke
count_stroke-requires-clause-stroke c =
    c.requires.strokes c.stroke-item.result (among_item c.args.strokes.now c.loop-stroke.stroke-index c.stroke-item.result c.loop-stroke-test.true c.stroke-item.is)

pub returns-in_err-count-clause-fault : goal.returns-in_err-count-clause-fault
returns-in_err-count-clause-fault c =
    let p = err_from_is_err_and c.from_residual.result c.from_residual.ensures.1 in
    rw (p.1, p.2)
    (counted_refused c.args.symbols.now c.args.strokes.now c.loop-stroke.stroke-index c.stroke-item.result c.loop-stroke.count _ c.loop-stroke-test.true c.stroke-item.is
    c.loop-stroke.invariant c.in_err-count.ensures.fault)

pub loop-stroke-preserved : goal.loop-stroke-preserved
loop-stroke-preserved c =
    counted_next c.args.symbols.now c.args.strokes.now c.loop-stroke.stroke-index c.stroke-item.result c.loop-stroke.count _ c.loop-stroke-test.true c.stroke-item.is
    c.loop-stroke.invariant c.in_ok-count.ensures.count
