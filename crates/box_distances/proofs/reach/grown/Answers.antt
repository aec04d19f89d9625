-- Each box is grown in turn.
use Rattle.std.proofs.Common.{pos, sym}
use Rattle.geom.specs.Squares.{BoxShape}
use Rattle.canonical_boxes.specs.Canonical.{IsAt}
use Rattle.box_distances.proofs.Reached.{all_grown, grown_more}
use Rattle.box_distances.proofs.reach.grown.Goals as goal

pub loop-number-preserved : goal.loop-number-preserved
loop-number-preserved c =
    let b : BoxShape = c.index-boxes-number.result in
    let at : IsAt c.args.boxes.now c.loop-number.number b = record { within = c.loop-number-test.true; is = sym c.index-boxes-number.is } in
    grown_more (pos c.args.back) (pos c.args.ahead) c.args.boxes.now c.loop-number.number b c.grown_box.result c.loop-number.grown.items c.push.new.self.items at
    c.grown_box.ensures c.in_ok-push.ensures.items c.loop-number.invariant

pub returns : goal.returns
returns c = all_grown (pos c.args.back) (pos c.args.ahead) c.args.boxes.now c.loop-number.number c.loop-number.grown.items c.loop-number-test.false
    c.loop-number.invariant
