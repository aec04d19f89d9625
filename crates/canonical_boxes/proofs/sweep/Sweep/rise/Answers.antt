-- The boxes that begin at or below the row are held one by one.
use Rattle.std.proofs.Common.{rules, ◌≡◌, ℕ, ℤ, pos, ◌^◌, ◌<◌, ◌≤◌, Some, length, sym, ap, subst, arith}
use Rattle.std.proofs.lemmas.Int.{to_z-of_z}
use mir.Val.{SFits}
use mir.Syntax.{w64}
use Rattle.geom.specs.Squares.{BoxShape}
use Rattle.canonical_boxes.specs.Canonical.{IsAt}
use Rattle.canonical_boxes.specs.Sweeps.{IsHeld, HasBegun}
use Rattle.canonical_boxes.proofs.Lists.{at_among}
use Rattle.canonical_boxes.proofs.Sweeps.{Sets, held_more, begun_all, none_past}
use Rattle.canonical_boxes.proofs.sweep.Sweep.rise.Goals as goal

pub loop-number-preserved : goal.loop-number-preserved
loop-number-preserved c =
    let m = c.args.self.now.boxes.now in
    let n = c.loop-number.number in
    let b : BoxShape = c.index-boxes-number.result in
    let fy : SFits w64 c.args.y = c.ranges.y in
    let fits : c.count_passed-end.result ≤ length m = c.count_passed-end.ensures.within in
    let more : n < c.count_passed-end.result = c.loop-number-test.true in
    let all : HasBegun m c.count_passed-end.result c.args.y = begun_all m c.args.y (pos (2 ^ 40)) c.count_passed-end.result
    (λ d i at. (c.requires.canonical.boxes d (at_among m i d at)).across.last)
    (λ k d at. simp to_z-of_z at (c.count_passed-end.ensures.numbers k d at)) in
    let at : IsAt m n b = record { within = omega arith; is = sym c.index-boxes-number.is } in
    let left : c.b.inside.x1 ≡ b.x1 = ap (λ (d : BoxShape). d.x1) c.b.view_is in
    let fb : SFits w64 c.b.inside.x1 = search rules in
    let u = simp to_z-of_z at c.in_ok-insert.ensures.updates in
    let P : ℤ → Type 0 = λ q. Sets c.loop-number.self.runs c.insert.new.self q (Some n) in
    let sets : Sets c.loop-number.self.runs c.insert.new.self b.x1 (Some n) = subst P left (record { at = u.1; others = u.2 }) in
    let h = simp to_z-of_z at c.loop-number.invariant.held in
    record {
      held = rw (to_z-of_z w64 c.args.y c.ranges.y) (held_more m c.requires.canonical n b c.args.y c.loop-number.self.runs c.insert.new.self at
          ((all n b at).0 more) sets h);
      boxes = c.loop-number.invariant.boxes;
    }

pub returns-clause-held : goal.returns-clause-held
returns-clause-held c =
    let m = c.args.self.now.boxes.now in
    let end = c.count_passed-end.result in
    let fy : SFits w64 c.args.y = c.ranges.y in
    let all : HasBegun m end c.args.y = begun_all m c.args.y (pos (2 ^ 40)) end
    (λ d i at. (c.requires.canonical.boxes d (at_among m i d at)).across.last)
    (λ k d at. simp to_z-of_z at (c.count_passed-end.ensures.numbers k d at)) in
    let past : c.args.self.now.begun ≤ end = none_past m c.args.self.now.begun end c.args.y c.args.self.now.runs c.requires.held all in
    let last : c.loop-number.number ≡ end = omega arith in
    let h = simp to_z-of_z at c.loop-number.invariant.held in
    let P : ℕ → Type 0 = λ k. IsHeld m k c.args.y c.loop-number.self.runs in
    subst P last h

pub returns-clause-begun : goal.returns-clause-begun
returns-clause-begun c =
    let fy : SFits w64 c.args.y = c.ranges.y in
    begun_all c.args.self.now.boxes.now c.args.y (pos (2 ^ 40)) c.count_passed-end.result
    (λ b i at. (c.requires.canonical.boxes b (at_among c.args.self.now.boxes.now i b at)).across.last)
    (λ k b at. simp to_z-of_z at (c.count_passed-end.ensures.numbers k b at))
