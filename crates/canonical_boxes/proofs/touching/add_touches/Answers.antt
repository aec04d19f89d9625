-- The boxes that begin where the lower one ends are the upper ones, each added in turn.
use Rattle.std.proofs.Common.{rules, ◌↔◌, ℕ, ◌≤◌, ◌<◌, sym, subst}
use Rattle.std.proofs.lemmas.Int.{to_z-of_z}
use mir.Val.{SFits}
use mir.Syntax.{w64}
use Rattle.geom.specs.Squares.{BoxShape}
use Rattle.canonical_boxes.specs.Canonical.{IsAt}
use Rattle.canonical_boxes.specs.Standing.{BeginsAmong}
use Rattle.canonical_boxes.proofs.Pairs.{pair_more, pairs_are}
use Rattle.canonical_boxes.proofs.touching.add_touches.Goals as goal

pub loop-upper-preserved : goal.loop-upper-preserved
loop-upper-preserved c =
    pair_more c.args.lower c.begun_among-first.result.0 c.loop-upper.upper c.begun_among-first.result.1 c.args.found.now.items c.loop-upper.found.items c.push.new.self.items
    c.loop-upper.auto.upper c.loop-upper-test.true c.in_ok-push.ensures.items c.loop-upper.invariant

pub returns : goal.returns
returns c =
    let b : BoxShape = c.index-boxes-lower.result in
    let at : IsAt c.args.boxes.now c.args.lower b = record { within = c.requires.within; is = sym c.index-boxes-lower.is } in
    let fy : SFits w64 c.b.inside.y2 = search rules in
    let ff : SFits w64 c.b.inside.x1 = search rules in
    let ft : SFits w64 c.b.inside.x2 = search rules in
    let numbers : (k : ℕ) (d : BoxShape) → IsAt c.args.boxes.now k d →
    ((c.begun_among-first.result.0 ≤ k) × (k < c.begun_among-first.result.1)) ↔ BeginsAmong d b.y2 b.x1 b.x2 =
    λ k d p.
    let P : BoxShape → Type 0 = λ v. ((c.begun_among-first.result.0 ≤ k) × (k < c.begun_among-first.result.1)) ↔ BeginsAmong d v.y2 v.x1 v.x2 in
    subst P c.b.view_is (simp to_z-of_z at (c.begun_among-first.ensures.numbers k d p)) in
    pairs_are c.args.boxes.now c.args.lower c.begun_among-first.result.0 c.loop-upper.upper c.begun_among-first.result.1 b c.args.found.now.items c.loop-upper.found.items
    at c.begun_among-first.ensures.within c.loop-upper-test.false numbers c.loop-upper.invariant
