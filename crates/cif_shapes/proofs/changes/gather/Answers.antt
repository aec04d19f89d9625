-- One corner after another, as long as they are no higher than the row.
use Rattle.std.proofs.Common.{inr, ℤ, ◌≤ℤ◌, ◌<ℤ◌, pos, get_or, subst, to_z, of_z, w64, FitsSigned, rules}
use Rattle.std.proofs.lemmas.Int.{to_z-of_z}
use Rattle.geom.specs.declared.point.Point.{Point}
use Rattle.cif_shapes.specs.Changes.{ReachRow}
use Rattle.cif_shapes.proofs.Integers.{true_le, false_le}
use Rattle.cif_shapes.proofs.Gathering.{gathered_more, gathered_all}
use Rattle.cif_shapes.proofs.changes.gather.Goals as goal

abbrev origin : Point
origin = record { x = pos 0; y = pos 0 }

pub loop-next-preserved : goal.loop-next-preserved
loop-next-preserved c =
    let p : Point = get_or c.args.corners.now c.loop-next.next origin in
    let across : FitsSigned w64 p.x = search rules in
    let upward : FitsSigned w64 p.y = search rules in
    let low : to_z w64 (of_z w64 p.y) ≤ℤ to_z w64 (of_z w64 c.args.row) = true_le _ _ c.if-corners-next.true in
    let P : ℤ → Type 0 = λ v. v ≤ℤ to_z w64 (of_z w64 c.args.row) in
    gathered_more c.args.corners.now (to_z w64 (of_z w64 c.args.row)) c.loop-next.next c.loop-next.columns.items c.push.new.self.items origin
    (to_z w64 (of_z w64 p.x)) c.loop-next-test.true (subst P (to_z-of_z w64 p.y upward) low) c.in_ok-push.ensures.items (to_z-of_z w64 p.x across) c.loop-next.invariant

pub returns-else-corners-next-clause-reach : goal.returns-else-corners-next-clause-reach
returns-else-corners-next-clause-reach c =
    let p : Point = get_or c.args.corners.now c.loop-next.next origin in
    let upward : FitsSigned w64 p.y = search rules in
    let high : to_z w64 (of_z w64 c.args.row) <ℤ to_z w64 (of_z w64 p.y) = false_le _ _ c.if-corners-next.false in
    let P : ℤ → Type 0 = λ v. to_z w64 (of_z w64 c.args.row) <ℤ v in
    let Q : ℤ → Type 0 = λ v. ReachRow c.args.corners.now c.loop-next.next v in
    subst Q (to_z-of_z w64 c.args.row c.ranges.row)
    (gathered_all c.args.corners.now (to_z w64 (of_z w64 c.args.row)) c.loop-next.next c.loop-next.columns.items origin c.requires.rise
    (inr (c.loop-next-test.true, subst P (to_z-of_z w64 p.y upward) high)) c.loop-next.invariant)
