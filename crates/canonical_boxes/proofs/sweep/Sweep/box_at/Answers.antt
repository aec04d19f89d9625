-- The box that begins last is over the square, or none is.
use Rattle.std.proofs.Common.{rules, sym, ap}
use Rattle.std.proofs.lemmas.Int.{to_z-of_z}
use mir.Val.{SFits}
use mir.Syntax.{w64}
use Rattle.geom.specs.Squares.{BoxShape}
use Rattle.canonical_boxes.specs.Canonical.{IsAt}
use Rattle.canonical_boxes.specs.Sweeps.{IsLatestAt}
use Rattle.canonical_boxes.proofs.Sweeps.{over_latest, past_latest, none_latest, less_then, less_not}
use Rattle.canonical_boxes.proofs.sweep.Sweep.box_at.Goals as goal

pub returns-then-x-b-clause-located : goal.returns-then-x-b-clause-located
returns-then-x-b-clause-located c =
    let m = c.args.self.now.boxes.now in
    let n = c.args.self.now.begun in
    let b : BoxShape = c.index-boxes-number.result in
    let fx : SFits w64 c.args.x = c.ranges.x in
    let fy : SFits w64 c.args.y = c.ranges.y in
    let fb : SFits w64 c.b.inside.x2 = search rules in
    let latest : IsLatestAt m n c.args.x c.args.y c.in-Some.number = simp to_z-of_z at c.in-Some.ensures.latest in
    let at : IsAt m c.in-Some.number b = record { within = latest.at.within; is = sym c.index-boxes-number.is } in
    over_latest m c.requires.canonical n c.args.y c.args.x c.requires.begun c.in-Some.number b at
    (less_then c.args.x c.b.inside.x2 b.x2 fx fb (ap (λ (d : BoxShape). d.x2) c.b.view_is) c.if-x-b.true) latest

pub returns-else-x-b-clause-located : goal.returns-else-x-b-clause-located
returns-else-x-b-clause-located c =
    let m = c.args.self.now.boxes.now in
    let n = c.args.self.now.begun in
    let b : BoxShape = c.index-boxes-number.result in
    let fx : SFits w64 c.args.x = c.ranges.x in
    let fy : SFits w64 c.args.y = c.ranges.y in
    let fb : SFits w64 c.b.inside.x2 = search rules in
    let latest : IsLatestAt m n c.args.x c.args.y c.in-Some.number = simp to_z-of_z at c.in-Some.ensures.latest in
    let at : IsAt m c.in-Some.number b = record { within = latest.at.within; is = sym c.index-boxes-number.is } in
    past_latest m c.requires.canonical n c.args.y c.args.x c.requires.begun c.in-Some.number b at
    (less_not c.args.x c.b.inside.x2 b.x2 fx fb (ap (λ (d : BoxShape). d.x2) c.b.view_is) c.if-x-b.false) latest

pub returns-in-None-clause-located : goal.returns-in-None-clause-located
returns-in-None-clause-located c =
    let fx : SFits w64 c.args.x = c.ranges.x in
    let fy : SFits w64 c.args.y = c.ranges.y in
    none_latest c.args.self.now.boxes.now c.requires.canonical c.args.self.now.begun c.args.y c.args.x c.requires.begun
    (simp to_z-of_z at c.in-None.ensures.latest)
