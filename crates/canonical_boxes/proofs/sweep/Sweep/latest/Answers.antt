-- The box at the greatest key reaches above the row, or has ended and goes.
use Rattle.std.proofs.Common.{rules, ◌≡◌, ℤ, Some, None, sym, ◌∙◌, ap, subst}
use Rattle.std.proofs.lemmas.Int.{to_z-of_z}
use Rattle.std.specs.BTreeMap.{get}
use Rattle.std.specs.Ordering.{int_cmp}
use mir.Val.{SFits}
use mir.Syntax.{w64}
use Rattle.geom.specs.Squares.{BoxShape}
use Rattle.canonical_boxes.specs.Canonical.{IsAt}
use Rattle.canonical_boxes.specs.Sweeps.{IsGreatestAt}
use Rattle.canonical_boxes.proofs.Sweeps.{Sets, held_less, greatest_left, number_fits, latest_found, less_then, less_not, one_fewer}
use Rattle.canonical_boxes.proofs.sweep.Sweep.latest.Goals as goal

pub returns-then-y-b-clause-latest : goal.returns-then-y-b-clause-latest
returns-then-y-b-clause-latest c =
    let m = c.args.self.now.boxes.now in
    let n = c.args.self.now.begun in
    let b : BoxShape = c.index-boxes-number.result in
    let fx : SFits w64 c.args.x = c.ranges.x in
    let fy : SFits w64 c.args.y = c.ranges.y in
    let fb : SFits w64 c.b.inside.y2 = search rules in
    let greatest : IsGreatestAt c.loop-number.self.runs c.args.x c.in-Some.number = simp to_z-of_z at c.in-Some.ensures in
    let h = simp to_z-of_z at c.loop-number.invariant.held in
    let at : IsAt m c.in-Some.number b = record {
      within = number_fits m n c.args.y c.args.x c.in-Some.number c.loop-number.self.runs greatest h;
      is = sym c.index-boxes-number.is;
    } in
    latest_found m n c.args.y c.args.x c.in-Some.number b c.loop-number.self.runs at
    (less_then c.args.y c.b.inside.y2 b.y2 fy fb (ap (λ (d : BoxShape). d.y2) c.b.view_is) c.if-y-b.true) greatest h

pub loop-number-smaller : goal.loop-number-smaller
loop-number-smaller c =
    let m = c.args.self.now.boxes.now in
    let n = c.args.self.now.begun in
    let b : BoxShape = c.index-boxes-number.result in
    let fx : SFits w64 c.args.x = c.ranges.x in
    let fy : SFits w64 c.args.y = c.ranges.y in
    let greatest : IsGreatestAt c.loop-number.self.runs c.args.x c.in-Some.number = simp to_z-of_z at c.in-Some.ensures in
    let h = simp to_z-of_z at c.loop-number.invariant.held in
    let at : IsAt m c.in-Some.number b = record {
      within = number_fits m n c.args.y c.args.x c.in-Some.number c.loop-number.self.runs greatest h;
      is = sym c.index-boxes-number.is;
    } in
    let left : c.b.inside.x1 ≡ b.x1 = ap (λ (d : BoxShape). d.x1) c.b.view_is in
    let P : ℤ → Type 0 = λ q. get int_cmp c.loop-number.self.runs q ≡ Some c.in-Some.number in
    let was : get int_cmp c.loop-number.self.runs c.b.inside.x1 ≡ Some c.in-Some.number =
    subst P (sym left) (greatest_left m n c.args.y c.args.x c.in-Some.number b c.loop-number.self.runs at greatest h) in
    one_fewer _ _ c.remove.result c.in-Some.number (c.remove.ensures.value ∙ was) c.remove.ensures.len

pub loop-number-preserved : goal.loop-number-preserved
loop-number-preserved c =
    let m = c.args.self.now.boxes.now in
    let n = c.args.self.now.begun in
    let b : BoxShape = c.index-boxes-number.result in
    let fx : SFits w64 c.args.x = c.ranges.x in
    let fy : SFits w64 c.args.y = c.ranges.y in
    let fb : SFits w64 c.b.inside.y2 = search rules in
    let greatest : IsGreatestAt c.loop-number.self.runs c.args.x c.in-Some.number = simp to_z-of_z at c.in-Some.ensures in
    let h = simp to_z-of_z at c.loop-number.invariant.held in
    let at : IsAt m c.in-Some.number b = record {
      within = number_fits m n c.args.y c.args.x c.in-Some.number c.loop-number.self.runs greatest h;
      is = sym c.index-boxes-number.is;
    } in
    let left : c.b.inside.x1 ≡ b.x1 = ap (λ (d : BoxShape). d.x1) c.b.view_is in
    let P : ℤ → Type 0 = λ q. Sets c.loop-number.self.runs c.remove.new.self q None in
    let u = c.remove.ensures.updates in
    let sets : Sets c.loop-number.self.runs c.remove.new.self b.x1 None = subst P left (record { at = u.1; others = u.2 }) in
    record {
      held = rw (to_z-of_z w64 c.args.y c.ranges.y)
          (held_less m n c.args.y b.x1 c.in-Some.number b c.loop-number.self.runs c.remove.new.self at
          (less_not c.args.y c.b.inside.y2 b.y2 fy fb (ap (λ (d : BoxShape). d.y2) c.b.view_is) c.if-y-b.false)
          (greatest_left m n c.args.y c.args.x c.in-Some.number b c.loop-number.self.runs at greatest h) sets h);
      boxes = c.loop-number.invariant.boxes;
      begun = c.loop-number.invariant.begun;
    }
