-- The rows above the box, one by one.
use Rattle.std.proofs.Common.{◌≡◌, ℤ, pos, ◌+◌, ◌+ℤ◌, ◌-ℤ◌, ◌∙◌, ap, subst, arith, rules}
use Rattle.std.proofs.lemmas.Int.{ints, to_z-of_z}
use mir.Val.{SFits}
use mir.Syntax.{w64}
use Rattle.geom.specs.Squares.{BoxShape}
use Rattle.box_distances.specs.Near.{AddsRow}
use Rattle.box_distances.proofs.Rows.{GapsSoFar, gap_more, gaps_are}
use Rattle.box_distances.proofs.pairs.add_above.Goals as goal

pub loop-gap-preserved : goal.loop-gap-preserved
loop-gap-preserved c =
    let b : BoxShape = c.args.b.now in
    let fx1 : SFits w64 c.b.inside.x1 = search rules in
    let fx2 : SFits w64 c.b.inside.x2 = search rules in
    let fy2 : SFits w64 c.b.inside.y2 = search rules in
    let ff : SFits w64 c.behind-from.result = search rules in
    let ft : SFits w64 c.ahead-to.result = search rules in
    let fy : SFits w64 c.ahead-y.result = search rules in
    let from : c.behind-from.result ≡ b.x1 -ℤ pos c.args.reach =
    (simp to_z-of_z at c.behind-from.ensures) ∙ ap (λ (v : BoxShape). v.x1 -ℤ pos c.args.reach) c.b.view_is in
    let to : c.ahead-to.result ≡ b.x2 +ℤ pos c.args.reach =
    (simp to_z-of_z at c.ahead-to.ensures) ∙ ap (λ (v : BoxShape). v.x2 +ℤ pos c.args.reach) c.b.view_is in
    let y : c.ahead-y.result ≡ b.y2 +ℤ pos c.loop-gap.gap =
    (simp to_z-of_z at c.ahead-y.ensures) ∙ ap (λ (v : BoxShape). v.y2 +ℤ pos c.loop-gap.gap) c.b.view_is in
    let adds : AddsRow c.args.others.now c.args.one c.ahead-y.result c.behind-from.result c.ahead-to.result c.loop-gap.found.items c.add_row.new.found.items =
    (λ p. simp to_z-of_z at (c.in_ok-add_row.ensures p)) in
    let P : ℤ → Type 0 = λ z. AddsRow c.args.others.now c.args.one z c.behind-from.result c.ahead-to.result c.loop-gap.found.items c.add_row.new.found.items in
    let Q : ℤ → Type 0 = λ z. AddsRow c.args.others.now c.args.one (b.y2 +ℤ pos c.loop-gap.gap) z c.ahead-to.result c.loop-gap.found.items c.add_row.new.found.items in
    let R : ℤ → Type 0 = λ z. AddsRow c.args.others.now c.args.one (b.y2 +ℤ pos c.loop-gap.gap) (b.x1 -ℤ pos c.args.reach) z c.loop-gap.found.items
    c.add_row.new.found.items in
    let next : pos c.loop-gap.gap +ℤ pos 1 ≡ pos (c.loop-gap.gap + 1) = omega (arith, ints) in
    let S : ℤ → Type 0 = λ z. GapsSoFar (pos c.args.reach) z b c.args.others.now c.args.one c.args.found.now.items c.add_row.new.found.items in
    subst S next
    (gap_more (pos c.args.reach) (pos c.loop-gap.gap) b c.args.others.now c.args.one c.args.found.now.items c.loop-gap.found.items c.add_row.new.found.items
    (omega (arith, ints)) (subst R to (subst Q from (subst P y adds))) c.loop-gap.invariant)

pub returns : goal.returns
returns c = gaps_are (pos c.args.reach) (pos c.loop-gap.gap) c.args.b.now c.args.others.now c.args.one c.args.found.now.items c.loop-gap.found.items
    (omega (arith, ints)) (omega (arith, ints)) c.loop-gap.invariant
