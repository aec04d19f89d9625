-- The squares of each box are added in turn.
use Rattle.std.proofs.Common.{pos, sym}
use Rattle.geom.specs.Squares.{BoxShape}
use Rattle.canonical_boxes.specs.Canonical.{IsAt}
use Rattle.box_distances.proofs.Besides.{all_beside, beside_more}
use Rattle.box_distances.proofs.pairs.squares_beside.Goals as goal

pub loop-number-preserved : goal.loop-number-preserved
loop-number-preserved c =
    let b : BoxShape = c.index-boxes-number.result in
    let at : IsAt c.args.boxes.now c.loop-number.number b = record { within = c.loop-number-test.true; is = sym c.index-boxes-number.is } in
    beside_more (pos c.args.reach) c.args.boxes.now c.loop-number.number b c.loop-number.squares.items c.add_squares.new.squares.items at
    c.loop-number.invariant c.in_ok-add_squares.ensures

pub returns : goal.returns
returns c = all_beside (pos c.args.reach) c.args.boxes.now c.loop-number.number c.loop-number.squares.items c.loop-number-test.false c.loop-number.invariant
