-- The edges of one box.
use Rattle.std.proofs.Common.{rules, ◌+ℤ◌, ◌<ℤ◌, sym, ap, ◌∙◌, arith}
use Rattle.std.proofs.lemmas.Int.{ints, to_z-of_z}
use mir.Val.{SFits}
use mir.Syntax.{w64}
use Rattle.geom.specs.Squares.{BoxShape}
use Rattle.cif_write.specs.WrittenChips.{shifted}
use Rattle.chip_box.specs.declared.extent.Extent.{Extent}
use Rattle.chip_box.proofs.Surrounding.{box_surrounds}
use Rattle.chip_box.proofs.extent.placed.Goals as goal

pub returns : goal.returns
returns c =
    let w : SFits w64 c.moved.result = search rules in
    let s : SFits w64 c.moved-2.result = search rules in
    let a : SFits w64 c.moved-3.result = search rules in
    let n : SFits w64 c.moved-4.result = search rules in
    let f0 : SFits w64 c.b.inside.x1 = search rules in
    let f1 : SFits w64 c.b.inside.y1 = search rules in
    let f2 : SFits w64 c.b.inside.x2 = search rules in
    let f3 : SFits w64 c.b.inside.y2 = search rules in
    let g0 : SFits w64 c.args.call.x = search rules in
    let g1 : SFits w64 c.args.call.y = search rules in
    let call = c.args.call in
    let b = shifted call.x call.y c.args.b in
    let e : Extent = record { west = c.moved.result; south = c.moved-2.result; east = c.moved-3.result; north = c.moved-4.result } in
    let x1 = ap (λ (o : BoxShape). o.x1) c.b.view_is in
    let y1 = ap (λ (o : BoxShape). o.y1) c.b.view_is in
    let x2 = ap (λ (o : BoxShape). o.x2) c.b.view_is in
    let y2 = ap (λ (o : BoxShape). o.y2) c.b.view_is in
    let across = c.b.invariant.across.order in
    let upward = c.b.invariant.upward.order in
    let wide : (c.args.b.x1 +ℤ call.x) <ℤ (c.args.b.x2 +ℤ call.x) = omega (arith, ints, x1, x2, across) in
    let high : (c.args.b.y1 +ℤ call.y) <ℤ (c.args.b.y2 +ℤ call.y) = omega (arith, ints, y1, y2, upward) in
    simp to_z-of_z (record {
      surrounds = box_surrounds b e (wide, high)
          (ap (λ v. v +ℤ call.x) (sym x1) ∙ sym (simp to_z-of_z at c.moved.ensures.value))
          (ap (λ v. v +ℤ call.y) (sym y1) ∙ sym (simp to_z-of_z at c.moved-2.ensures.value))
          (ap (λ v. v +ℤ call.x) (sym x2) ∙ sym (simp to_z-of_z at c.moved-3.ensures.value))
          (ap (λ v. v +ℤ call.y) (sym y2) ∙ sym (simp to_z-of_z at c.moved-4.ensures.value));
      within = record {
        west = c.moved.ensures.reached;
        south = c.moved-2.ensures.reached;
        east = c.moved-3.ensures.reached;
        north = c.moved-4.ensures.reached;
      };
    })
