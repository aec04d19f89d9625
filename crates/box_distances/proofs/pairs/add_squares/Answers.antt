-- The squares to the left and to the right, one by one.
use Rattle.std.proofs.Common.{◌≡◌, ℤ, pos, ◌+◌, ◌+ℤ◌, ◌-ℤ◌, [], ◌∷◌, ◌++◌, ◌∙◌, ap, subst, arith, rules}
use Rattle.std.proofs.lemmas.Int.{ints, to_z-of_z}
use mir.Val.{SFits}
use mir.Syntax.{w64}
use Rattle.geom.specs.Squares.{BoxShape}
use Rattle.box_distances.specs.declared.pairs.BesideSquare.{BesideSquare}
use Rattle.box_distances.proofs.Besides.{SquaresSoFar, beside, square_step, squares_are}
use Rattle.box_distances.proofs.pairs.add_squares.Goals as goal

pub loop-gap-preserved : goal.loop-gap-preserved
loop-gap-preserved c =
    let b : BoxShape = c.args.b.now in
    let fx1 : SFits w64 c.b.inside.x1 = search rules in
    let fx2 : SFits w64 c.b.inside.x2 = search rules in
    let fy1 : SFits w64 c.b.inside.y1 = search rules in
    let fl : SFits w64 c.behind-left.result = search rules in
    let fr : SFits w64 c.ahead-right.result = search rules in
    let left : c.behind-left.result ≡ b.x1 -ℤ pos (c.loop-gap.gap + 1) =
    (simp to_z-of_z at c.behind-left.ensures) ∙ ap (λ (v : BoxShape). v.x1 -ℤ pos (c.loop-gap.gap + 1)) c.b.view_is in
    let right : c.ahead-right.result ≡ b.x2 +ℤ pos c.loop-gap.gap =
    (simp to_z-of_z at c.ahead-right.ensures) ∙ ap (λ (v : BoxShape). v.x2 +ℤ pos c.loop-gap.gap) c.b.view_is in
    let row : c.b.inside.y1 ≡ b.y1 = ap (λ (v : BoxShape). v.y1) c.b.view_is in
    let one : c.beside.result ≡ beside c.args.number c.behind-left.result c.b.inside.y1 = simp to_z-of_z at c.beside.ensures in
    let two : c.beside-in-loop-gap.result ≡ beside c.args.number c.ahead-right.result c.b.inside.y1 = simp to_z-of_z at c.beside-in-loop-gap.ensures in
    let next : pos c.loop-gap.gap +ℤ pos 1 ≡ pos (c.loop-gap.gap + 1) = omega (arith, ints) in
    let S : ℤ → Type 0 = λ z. SquaresSoFar z b c.args.number c.args.squares.now.items c.push-in-loop-gap.new.self.items in
    subst S next
    (square_step (pos c.loop-gap.gap) c.behind-left.result c.ahead-right.result c.b.inside.y1 b c.args.number c.args.squares.now.items c.loop-gap.squares.items
    c.push.new.self.items c.push-in-loop-gap.new.self.items (omega (arith, ints)) (omega (arith, ints)) right row
    (c.in_ok-push.ensures.items ∙ ap (λ (v : BesideSquare). c.loop-gap.squares.items ++ v ∷ []) one)
    (c.in_ok-push-2.ensures.items ∙ ap (λ (v : BesideSquare). c.push.new.self.items ++ v ∷ []) two)
    c.loop-gap.invariant)

pub returns : goal.returns
returns c = squares_are (pos c.args.reach) (pos c.loop-gap.gap) c.args.b.now c.args.number c.args.squares.now.items c.loop-gap.squares.items
    (omega (arith, ints)) (omega (arith, ints)) c.loop-gap.invariant
