-- Each step adds its squares.
use Rattle.std.proofs.Common.{rules, ℤ, pos, neg_ℤ, ◌-ℤ◌, ◌≤ℤ◌, ◌<ℤ◌, ◌^◌, sym, subst, arith}
use Rattle.std.proofs.lemmas.Int.{ints, to_z-of_z}
use mir.Val.{SFits, to_z}
use mir.Syntax.{w64}
use Rattle.canonical_boxes.specs.Skies.{AddsRectangle}
use Rattle.canonical_boxes.proofs.Skies.{IsWalked, walked_more, walked_all, some_step, fits_plane, less_is, less_fails, max_less, room_falls}
use Rattle.canonical_boxes.proofs.gaps.add_below.Goals as goal

-- the column before the end is within reach
before_end : (from to end : ℤ) → neg_ℤ (pos (2 ^ 40)) ≤ℤ from → to ≤ℤ pos (2 ^ 40) → from <ℤ end → end ≤ℤ to → SFits w64 (end -ℤ pos 1)
before_end from to end low high l r = fits_plane (end -ℤ pos 1) (omega (arith, ints)) (omega (arith, ints))

pub add_rectangle-requires-clause-order : goal.add_rectangle-requires-clause-order
add_rectangle-requires-clause-order c =
    let end : ℤ = to_z w64 c.loop-end.end-bits in
    let ff : SFits w64 c.args.from = c.ranges.from in
    let ft : SFits w64 c.args.to = c.ranges.to in
    let fy : SFits w64 c.args.y = c.ranges.y in
    let fs : SFits w64 c.in-Some.step.from = search rules in
    let fl : SFits w64 c.max-left.result = search rules in
    let i = simp to_z-of_z at c.loop-end.invariant in
    let more : c.args.from <ℤ end = less_is c.args.from end (simp to_z-of_z at c.loop-end-test.true) in
    let fe : SFits w64 (end -ℤ pos 1) = before_end c.args.from c.args.to end c.requires.first c.requires.last more i.right in
    let step = simp to_z-of_z at c.in-Some.ensures in
    rw (to_z-of_z w64 c.max-left.result fl) (max_less c.max-left.result c.in-Some.step.from c.args.from end
    (simp to_z-of_z at c.max-left.ensures.value) step.up_to more)

pub add_rectangle-requires-clause-bottom : goal.add_rectangle-requires-clause-bottom
add_rectangle-requires-clause-bottom c =
    let fh : SFits w64 c.in-Some.step.height = search rules in
    rw (to_z-of_z w64 c.in-Some.step.height fh) (c.requires.sky.bottom c.in-Some.step.from c.in-Some.step.height c.in-Some.ensures.value)

pub loop-end-smaller-in-Some : goal.loop-end-smaller-in-Some
loop-end-smaller-in-Some c =
    let end : ℤ = to_z w64 c.loop-end.end-bits in
    let ff : SFits w64 c.args.from = c.ranges.from in
    let ft : SFits w64 c.args.to = c.ranges.to in
    let fy : SFits w64 c.args.y = c.ranges.y in
    let fs : SFits w64 c.in-Some.step.from = search rules in
    let fl : SFits w64 c.max-left.result = search rules in
    let i = simp to_z-of_z at c.loop-end.invariant in
    let more : c.args.from <ℤ end = less_is c.args.from end (simp to_z-of_z at c.loop-end-test.true) in
    let fe : SFits w64 (end -ℤ pos 1) = before_end c.args.from c.args.to end c.requires.first c.requires.last more i.right in
    let step = simp to_z-of_z at c.in-Some.ensures in
    let less : c.max-left.result <ℤ end = max_less c.max-left.result c.in-Some.step.from c.args.from end
    (simp to_z-of_z at c.max-left.ensures.value) step.up_to more in
    rw (to_z-of_z w64 c.max-left.result fl, to_z-of_z w64 c.args.from ff) (room_falls c.args.from c.max-left.result end less more)

pub loop-end-preserved-in-Some : goal.loop-end-preserved-in-Some
loop-end-preserved-in-Some c =
    let end : ℤ = to_z w64 c.loop-end.end-bits in
    let ff : SFits w64 c.args.from = c.ranges.from in
    let ft : SFits w64 c.args.to = c.ranges.to in
    let fy : SFits w64 c.args.y = c.ranges.y in
    let fs : SFits w64 c.in-Some.step.from = search rules in
    let fh : SFits w64 c.in-Some.step.height = search rules in
    let fl : SFits w64 c.max-left.result = search rules in
    let i = simp to_z-of_z at c.loop-end.invariant in
    let more : c.args.from <ℤ end = less_is c.args.from end (simp to_z-of_z at c.loop-end-test.true) in
    let fe : SFits w64 (end -ℤ pos 1) = before_end c.args.from c.args.to end c.requires.first c.requires.last more i.right in
    let m = simp to_z-of_z at c.max-left.ensures.value in
    let P : ℤ → Type 0 = λ z. AddsRectangle z c.in-Some.step.height end c.args.y c.loop-end.free.items c.add_rectangle.new.free.items in
    let Q : ℤ → Type 0 = λ z. IsWalked c.args.tops.now c.args.from c.args.to c.args.y z c.args.free.now.items c.add_rectangle.new.free.items in
    let adds : AddsRectangle c.max-left.result c.in-Some.step.height end c.args.y c.loop-end.free.items c.add_rectangle.new.free.items =
    simp to_z-of_z at c.in_ok-add_rectangle-in-Some.ensures in
    rw (to_z-of_z w64 c.args.from ff, to_z-of_z w64 c.args.to ft, to_z-of_z w64 c.args.y fy, to_z-of_z w64 c.max-left.result fl)
    (subst Q (sym m) (walked_more c.args.tops.now c.args.from c.args.to c.args.y end c.in-Some.step.from c.in-Some.step.height c.args.free.now.items c.loop-end.free.items
    c.add_rectangle.new.free.items more (simp to_z-of_z at c.in-Some.ensures) (subst P m adds) i))

pub loop-end-smaller : goal.loop-end-smaller
loop-end-smaller c =
    let end : ℤ = to_z w64 c.loop-end.end-bits in
    let ff : SFits w64 c.args.from = c.ranges.from in
    let more : c.args.from <ℤ end = less_is c.args.from end (simp to_z-of_z at c.loop-end-test.true) in
    rw (to_z-of_z w64 c.args.from ff) (room_falls c.args.from c.args.from end more more)

pub loop-end-preserved : goal.loop-end-preserved
loop-end-preserved c =
    let end : ℤ = to_z w64 c.loop-end.end-bits in
    let ff : SFits w64 c.args.from = c.ranges.from in
    let ft : SFits w64 c.args.to = c.ranges.to in
    let fy : SFits w64 c.args.y = c.ranges.y in
    let i = simp to_z-of_z at c.loop-end.invariant in
    let more : c.args.from <ℤ end = less_is c.args.from end (simp to_z-of_z at c.loop-end-test.true) in
    let fe : SFits w64 (end -ℤ pos 1) = before_end c.args.from c.args.to end c.requires.first c.requires.last more i.right in
    let first = c.requires.first in
    absurd (some_step c.args.tops.now (end -ℤ pos 1) c.requires.sky (omega (arith, ints)) (simp to_z-of_z at c.in-None.ensures))

pub returns : goal.returns
returns c =
    let ff : SFits w64 c.args.from = c.ranges.from in
    let ft : SFits w64 c.args.to = c.ranges.to in
    let fy : SFits w64 c.args.y = c.ranges.y in
    walked_all c.args.tops.now c.args.from c.args.to c.args.y (to_z w64 c.loop-end.end-bits) c.args.free.now.items c.loop-end.free.items
    (less_fails c.args.from (to_z w64 c.loop-end.end-bits) (simp to_z-of_z at c.loop-end-test.false)) (simp to_z-of_z at c.loop-end.invariant)
