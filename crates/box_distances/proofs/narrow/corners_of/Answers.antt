-- No square that the set does not have, and none beyond the plane, lies in the block of a corner.
use Rattle.std.proofs.Common.{◌≡◌, ◌↔◌, ℤ, pos, neg_ℤ, ◌^◌, ◌-ℤ◌, ◌≤ℤ◌, List, subst, arith, rules}
use Rattle.std.proofs.lemmas.Int.{ints, to_z-of_z}
use mir.Val.{SFits}
use mir.Syntax.{w64}
use Rattle.geom.specs.Squares.{BoxShape}
use Rattle.geom.specs.Rows.{Over}
use Rattle.box_distances.specs.Narrow.{AreReached, IsStrip}
use Rattle.box_distances.proofs.Blocks.{corners_are, others_are}
use Rattle.box_distances.proofs.Reached.{fits_far}
use Rattle.box_distances.proofs.narrow.corners_of.Goals as goal

pub returns : goal.returns
returns c =
    let last : ℤ = pos c.args.last in
    let m : List BoxShape = c.args.set.now in
    let beyond : List BoxShape = c.in_ok-beyond.beyond in
    let ff : SFits w64 c.from-first.result = search rules in
    let e : c.from-first.result ≡ last = c.from-first.ensures in
    let fd : SFits w64 (pos (2 ^ 40) -ℤ c.from-first.result) = fits_far (pos (2 ^ 40) -ℤ c.from-first.result) (omega (arith, ints)) (omega (arith, ints)) in
    let P : ℤ → Type 0 = λ z. IsStrip (pos (2 ^ 40) -ℤ z) (neg_ℤ (pos (2 ^ 40))) c.strip.result in
    let Q : ℤ → Type 0 = λ z. IsStrip (neg_ℤ (pos (2 ^ 40))) (pos (2 ^ 40) -ℤ z) c.strip-2.result in
    let right : P last = subst P e (simp to_z-of_z at c.strip.ensures) in
    let top : Q last = subst Q e (simp to_z-of_z at c.strip-2.ensures) in
    let R : List BoxShape → Type 0 = λ l. AreReached last (pos 0) l c.in_ok-others.others.items in
    let reached : AreReached last (pos 0) beyond c.in_ok-others.others.items = subst R c.boxes.ensures.list c.in_ok-others.ensures in
    let S : List BoxShape → Type 0 = λ l. (x y : ℤ) → Over c.in_ok-others-2.others x y ↔ Over l x y in
    let cover = subst S c.deref.ensures.value c.in_ok-others-2.ensures in
    let are = others_are last beyond c.in_ok-others.others.items c.push.new.self.items _ c.strip.result c.strip-2.result reached right top
    c.in_ok-push.ensures.items c.in_ok-push-2.ensures.items in
    let some : (pos 1 ≤ℤ last) = omega (arith, ints) in
    record {
      corners = corners_are last some m beyond c.in_ok-beyond.ensures.squares c.in_ok-beyond.ensures.plane c.in_ok-others-2.others c.in_ok-corners.corners
          (λ x y. ((λ o. (are x y).0 ((cover x y).0 o)), (λ h. (cover x y).1 ((are x y).1 h)))) c.in_ok-corners.ensures;
      plane = c.in_ok-beyond.ensures.plane;
    }
