-- The pairs above of each box are added in turn, and then those beside.
use Rattle.std.proofs.Common.{pos, List, length, sym, ap, subst, arith}
use Rattle.geom.specs.Squares.{BoxShape}
use Rattle.canonical_boxes.specs.Canonical.{IsAt}
use Rattle.box_distances.specs.Near.{AddsAbove, AddsBesidePairs}
use Rattle.box_distances.proofs.Nears.{are_ahead}
use Rattle.box_distances.proofs.Rows.{above_more}
use Rattle.box_distances.proofs.pairs.near_ahead.Goals as goal

pub loop-number-preserved : goal.loop-number-preserved
loop-number-preserved c =
    let n = c.loop-number.number in
    let b : BoxShape = c.index-ones-number.result in
    let P : List BoxShape → Type 0 = λ bs. IsAt bs n b in
    let there : IsAt c.boxes-ones.result.now n b = record { within = c.loop-number-test.true; is = sym c.index-ones-number.is } in
    let Q : List BoxShape → Type 0 = λ bs. AddsAbove (pos c.args.reach) b bs n c.loop-number.found.items c.add_above.new.found.items in
    above_more (pos c.args.reach) c.args.one.now c.args.other.now n b c.loop-number.found.items c.add_above.new.found.items
    (subst P c.boxes-ones.ensures.list there) c.loop-number.invariant (subst Q c.boxes-others.ensures.list c.in_ok-add_above.ensures)

pub returns : goal.returns
returns c =
    let P : List BoxShape → Type 0 = λ bs. AddsBesidePairs (pos c.args.reach) bs c.args.other.now c.loop-number.found.items c.add_beside.new.found.items in
    record {
      ahead = are_ahead (pos c.args.reach) c.args.one.now c.args.other.now c.loop-number.number c.loop-number.found.items c.add_beside.new.found.items
          (omega (arith, ap length c.boxes-ones.ensures.list, c.loop-number-test.false)) c.loop-number.invariant
          (subst P c.boxes-ones.ensures.list c.in_ok-add_beside.ensures);
      one = c.boxes-ones.ensures.canonical;
      other = c.boxes-others.ensures.canonical;
    }
