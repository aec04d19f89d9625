-- Each box is put on, and what is above them all is added.
use Rattle.std.proofs.Common.{rules, ◌≤◌, List, length, sym, subst}
use Rattle.std.proofs.lemmas.Int.{to_z-of_z}
use mir.Val.{SFits}
use mir.Syntax.{w64}
use Rattle.geom.specs.Squares.{BoxShape}
use Rattle.canonical_boxes.specs.Canonical.{IsAt}
use Rattle.canonical_boxes.specs.Skies.{AddsBelow, IsRaised}
use Rattle.canonical_boxes.proofs.Gapped.{gapped_more, gapped_all, in_plane}
use Rattle.canonical_boxes.proofs.gaps.gaps.Goals as goal

pub loop-number-preserved : goal.loop-number-preserved
loop-number-preserved c =
    let m = c.args.set.now in
    let b : BoxShape = c.index-boxes-number.result in
    let f1 : SFits w64 c.b.inside.x1 = search rules in
    let f2 : SFits w64 c.b.inside.y1 = search rules in
    let f3 : SFits w64 c.b.inside.x2 = search rules in
    let f4 : SFits w64 c.b.inside.y2 = search rules in
    let P : List BoxShape → Type 0 = λ l. IsAt l c.loop-number.number b in
    let within = c.loop-number-test.true in
    let at : IsAt m c.loop-number.number b = subst P c.boxes-boxes.ensures.list (record { within = within; is = sym c.index-boxes-number.is }) in
    let Q : BoxShape → Type 0 = λ d. AddsBelow c.loop-number.tops d.x1 d.x2 d.y1 c.loop-number.free.items c.add_below.new.free.items in
    let R : BoxShape → Type 0 = λ d. IsRaised d.x1 d.x2 d.y2 c.loop-number.tops c.raise.new.tops in
    let adds : Q b = subst Q c.b.view_is (simp to_z-of_z at c.in_ok-add_below.ensures) in
    let raised : R b = subst R c.b.view_is (simp to_z-of_z at c.in_ok-raise.ensures) in
    gapped_more m c.boxes-boxes.ensures.canonical c.loop-number.number b c.loop-number.tops c.raise.new.tops c.loop-number.free.items c.add_below.new.free.items at adds raised
    c.loop-number.invariant

pub returns-clause-free : goal.returns-clause-free
returns-clause-free c =
    let P : List BoxShape → Type 0 = λ l. length l ≤ c.loop-number.number in
    gapped_all c.args.set.now c.boxes-boxes.ensures.canonical c.loop-number.number c.loop-number.tops c.loop-number.free.items c.add_below-2.new.free.items
    (subst P c.boxes-boxes.ensures.list c.loop-number-test.false) c.in_ok-add_below-2.ensures c.loop-number.invariant

pub returns-clause-plane : goal.returns-clause-plane
returns-clause-plane c = in_plane c.args.set.now c.boxes-boxes.ensures.canonical
