-- What begins at the upper edge in this column is over the square there.
use Rattle.std.proofs.Common.{rules, ℤ, pos, neg_ℤ, ◌+ℤ◌, ◌<ℤ◌, ◌≤ℤ◌, ◌^◌, List, ap, arith}
use Rattle.std.proofs.lemmas.Int.{ints, to_z-of_z}
use mir.Val.{SFits}
use mir.Syntax.{w64}
use Rattle.geom.specs.Squares.{BoxShape, IsBox}
use Rattle.geom.specs.Rows.{Among}
use Rattle.canonical_boxes.specs.Canonical.{IsCanonical}
use Rattle.canonical_boxes.specs.Held.{HasColumn}
use Rattle.canonical_boxes.proofs.Climbs.{counted_above, counted_behind, counted_none, fits_next, numbers_of}
use Rattle.canonical_boxes.proofs.holding.above.Goals as goal

-- the next column is within reach
next_fits : (m : List BoxShape) (b : BoxShape) (x : ℤ) → IsCanonical m → Among m b → HasColumn b x → SFits w64 (x +ℤ pos 1)
next_fits m b x canonical among column =
    let box : IsBox b = canonical.boxes b among in
    let low : (neg_ℤ (pos (2 ^ 40)) ≤ℤ b.x1) = box.across.first in
    let high : (b.x2 ≤ℤ pos (2 ^ 40)) = box.across.last in
    let left : (b.x1 ≤ℤ x) = column.left in
    let right : (x <ℤ b.x2) = column.right in
    fits_next x (omega (arith, ints)) (omega (arith, ints))

pub overflow_add-x : goal.overflow_add-x
overflow_add-x c = rw (to_z-of_z w64 c.args.x c.ranges.x)
    (next_fits c.args.boxes.now c.args.b c.args.x c.requires.canonical c.requires.among c.requires.column)

pub returns-then-next-end-clause-located : goal.returns-then-next-end-clause-located
returns-then-next-end-clause-located c =
    let m = c.args.boxes.now in
    let fy : SFits w64 c.b.inside.y2 = search rules in
    counted_above m c.requires.canonical c.args.b c.args.x c.begun_among-next.result.0 c.begun_among-next.result.1
    (numbers_of m c.begun_among-next.result.0 c.begun_among-next.result.1 c.args.b c.b.inside.y2 c.args.x fy c.ranges.x
    (next_fits m c.args.b c.args.x c.requires.canonical c.requires.among c.requires.column)
    (ap (λ (d : BoxShape). d.y2) c.b.view_is) c.begun_among-next.ensures.numbers)
    c.begun_among-next.ensures.within c.if-next-end.true

pub returns-then-next-end-clause-behind : goal.returns-then-next-end-clause-behind
returns-then-next-end-clause-behind c =
    let m = c.args.boxes.now in
    let fy : SFits w64 c.b.inside.y2 = search rules in
    counted_behind m c.requires.canonical c.args.b c.args.x c.begun_among-next.result.0 c.begun_among-next.result.1
    (numbers_of m c.begun_among-next.result.0 c.begun_among-next.result.1 c.args.b c.b.inside.y2 c.args.x fy c.ranges.x
    (next_fits m c.args.b c.args.x c.requires.canonical c.requires.among c.requires.column)
    (ap (λ (d : BoxShape). d.y2) c.b.view_is) c.begun_among-next.ensures.numbers)
    c.begun_among-next.ensures.within c.if-next-end.true

pub returns-else-next-end-clause-located : goal.returns-else-next-end-clause-located
returns-else-next-end-clause-located c =
    let m = c.args.boxes.now in
    let fy : SFits w64 c.b.inside.y2 = search rules in
    counted_none m c.requires.canonical c.args.b c.args.x c.begun_among-next.result.0 c.begun_among-next.result.1
    (numbers_of m c.begun_among-next.result.0 c.begun_among-next.result.1 c.args.b c.b.inside.y2 c.args.x fy c.ranges.x
    (next_fits m c.args.b c.args.x c.requires.canonical c.requires.among c.requires.column)
    (ap (λ (d : BoxShape). d.y2) c.b.view_is) c.begun_among-next.ensures.numbers)
    c.if-next-end.false c.requires.among c.requires.column
