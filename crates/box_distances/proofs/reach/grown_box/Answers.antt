-- The edges are kept within the plane, and in order.
use Rattle.std.proofs.Common.{ℤ, pos, ◌+ℤ◌, ◌-ℤ◌, subst, arith, rules}
use Rattle.std.proofs.lemmas.Int.{ints, to_z-of_z}
use mir.Val.{SFits}
use mir.Syntax.{w64}
use Rattle.geom.specs.Squares.{BoxShape, IsBox}
use Rattle.box_distances.specs.Narrow.{IsLow, IsHigh}
use Rattle.box_distances.proofs.Reached.{in_order, reached_box}
use Rattle.box_distances.proofs.reach.grown_box.Goals as goal

pub invariant_of-result : goal.invariant_of-result
invariant_of-result c =
    let b : BoxShape = c.args.b.now in
    let box : IsBox b = subst IsBox c.b.view_is c.b.invariant in
    let fx1 : SFits w64 c.b.inside.x1 = search rules in
    let fy1 : SFits w64 c.b.inside.y1 = search rules in
    let fx2 : SFits w64 c.b.inside.x2 = search rules in
    let fy2 : SFits w64 c.b.inside.y2 = search rules in
    let gx1 : SFits w64 c.low.result = search rules in
    let gy1 : SFits w64 c.low-2.result = search rules in
    let gx2 : SFits w64 c.high.result = search rules in
    let gy2 : SFits w64 c.high-2.result = search rules in
    let Low : ℤ → ℤ → Type 0 = λ e k. IsLow (e -ℤ pos c.args.back) k in
    let High : ℤ → ℤ → Type 0 = λ e k. IsHigh (e +ℤ pos c.args.ahead) k in
    let x1 : IsLow (b.x1 -ℤ pos c.args.back) c.low.result = subst (λ (v : BoxShape). Low v.x1 c.low.result) c.b.view_is (simp to_z-of_z at c.low.ensures) in
    let y1 : IsLow (b.y1 -ℤ pos c.args.back) c.low-2.result = subst (λ (v : BoxShape). Low v.y1 c.low-2.result) c.b.view_is (simp to_z-of_z at c.low-2.ensures) in
    let x2 : IsHigh (b.x2 +ℤ pos c.args.ahead) c.high.result = subst (λ (v : BoxShape). High v.x2 c.high.result) c.b.view_is (simp to_z-of_z at c.high.ensures) in
    let y2 : IsHigh (b.y2 +ℤ pos c.args.ahead) c.high-2.result = subst (λ (v : BoxShape). High v.y2 c.high-2.result) c.b.view_is (simp to_z-of_z at c.high-2.ensures) in
    simp to_z-of_z (record {
      across = record {
        first = x1.plane;
        order = in_order (pos c.args.back) (pos c.args.ahead) b.x1 b.x2 c.low.result c.high.result box.across.order box.across.first box.across.last
            (omega (arith, ints)) (omega (arith, ints)) x1 x2;
        last = x2.plane;
      };
      upward = record {
        first = y1.plane;
        order = in_order (pos c.args.back) (pos c.args.ahead) b.y1 b.y2 c.low-2.result c.high-2.result box.upward.order box.upward.first box.upward.last
            (omega (arith, ints)) (omega (arith, ints)) y1 y2;
        last = y2.plane;
      };
    })

pub returns : goal.returns
returns c =
    let b : BoxShape = c.args.b.now in
    let box : IsBox b = subst IsBox c.b.view_is c.b.invariant in
    let fx1 : SFits w64 c.b.inside.x1 = search rules in
    let fy1 : SFits w64 c.b.inside.y1 = search rules in
    let fx2 : SFits w64 c.b.inside.x2 = search rules in
    let fy2 : SFits w64 c.b.inside.y2 = search rules in
    let gx1 : SFits w64 c.low.result = search rules in
    let gy1 : SFits w64 c.low-2.result = search rules in
    let gx2 : SFits w64 c.high.result = search rules in
    let gy2 : SFits w64 c.high-2.result = search rules in
    let Low : ℤ → ℤ → Type 0 = λ e k. IsLow (e -ℤ pos c.args.back) k in
    let High : ℤ → ℤ → Type 0 = λ e k. IsHigh (e +ℤ pos c.args.ahead) k in
    let x1 : IsLow (b.x1 -ℤ pos c.args.back) c.low.result = subst (λ (v : BoxShape). Low v.x1 c.low.result) c.b.view_is (simp to_z-of_z at c.low.ensures) in
    let y1 : IsLow (b.y1 -ℤ pos c.args.back) c.low-2.result = subst (λ (v : BoxShape). Low v.y1 c.low-2.result) c.b.view_is (simp to_z-of_z at c.low-2.ensures) in
    let x2 : IsHigh (b.x2 +ℤ pos c.args.ahead) c.high.result = subst (λ (v : BoxShape). High v.x2 c.high.result) c.b.view_is (simp to_z-of_z at c.high.ensures) in
    let y2 : IsHigh (b.y2 +ℤ pos c.args.ahead) c.high-2.result = subst (λ (v : BoxShape). High v.y2 c.high-2.result) c.b.view_is (simp to_z-of_z at c.high-2.ensures) in
    simp to_z-of_z (reached_box (pos c.args.back) (pos c.args.ahead) b _ box (omega (arith, ints)) (omega (arith, ints)) x1 y1 x2 y2)
