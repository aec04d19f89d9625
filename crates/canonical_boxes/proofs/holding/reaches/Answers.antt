-- The box is too narrow, or high enough, or the one above it is next.
use Rattle.std.proofs.Common.{rules, ◌≡◌, ◌<◌, ◌<ℤ◌, ◌≤ℤ◌, length, refl, sym, ap, arith}
use Rattle.std.proofs.lemmas.Int.{ints, to_z-of_z}
use mir.Val.{SFits}
use mir.Syntax.{w64}
use Rattle.geom.specs.Squares.{BoxShape}
use Rattle.geom.specs.Rows.{Over}
use Rattle.canonical_boxes.specs.Canonical.{IsAt}
use Rattle.canonical_boxes.proofs.Lists.{at_among}
use Rattle.canonical_boxes.proofs.Sweeps.{less_then, less_not}
use Rattle.canonical_boxes.proofs.Climbs.{IsReachedBy, first_reached, too_narrow, high_enough, nothing_above, next_reached, at_most_then, at_most_not}
use Rattle.canonical_boxes.proofs.holding.reaches.Goals as goal

pub up-init : goal.up-init
up-init c = first_reached c.args.boxes.now c.requires.canonical c.args.area c.requires.across c.requires.upward c.args.first c.requires.first

pub offset_bounds-boxes-number : goal.offset_bounds-boxes-number
offset_bounds-boxes-number c = let w : c.up.number < length c.args.boxes.now = c.up.invariant.within in omega arith

pub bounds-boxes-number : goal.bounds-boxes-number
bounds-boxes-number c = c.up.invariant.within

pub returns-then-b-area : goal.returns-then-b-area
returns-then-b-area c =
    let b : BoxShape = c.index-boxes-number.result in
    let r : IsReachedBy c.args.boxes.now c.args.area b = c.up.invariant.reached b
    (record { within = c.up.invariant.within; is = sym c.index-boxes-number.is }) in
    let x2 : c.b.inside.x2 ≡ b.x2 = ap (λ (d : BoxShape). d.x2) c.b.view_is in
    let fb : SFits w64 c.b.inside.x2 = search rules in
    let fa : SFits w64 c.args.area.x2 = search rules in
    let narrow : c.b.inside.x2 <ℤ c.args.area.x2 = less_then c.b.inside.x2 c.args.area.x2 c.args.area.x2 fb fa refl c.if-b-area.true in (
      (λ f. absurd (search rules)),
      (λ all. absurd (too_narrow c.args.boxes.now c.requires.canonical c.args.area c.requires.across c.requires.upward b r
          (omega (arith, ints)) all)),
    )

pub returns-then-area-b : goal.returns-then-area-b
returns-then-area-b c =
    let b : BoxShape = c.index-boxes-number.result in
    let r : IsReachedBy c.args.boxes.now c.args.area b = c.up.invariant.reached b
    (record { within = c.up.invariant.within; is = sym c.index-boxes-number.is }) in
    let fx : SFits w64 c.b.inside.x2 = search rules in
    let fa : SFits w64 c.args.area.x2 = search rules in
    let fy : SFits w64 c.b.inside.y2 = search rules in
    let fe : SFits w64 c.args.area.y2 = search rules in
    let x2 : c.b.inside.x2 ≡ b.x2 = ap (λ (d : BoxShape). d.x2) c.b.view_is in
    let y2 : c.b.inside.y2 ≡ b.y2 = ap (λ (d : BoxShape). d.y2) c.b.view_is in
    let wide : c.args.area.x2 ≤ℤ c.b.inside.x2 = less_not c.b.inside.x2 c.args.area.x2 c.args.area.x2 fx fa refl c.if-b-area.false in
    let high : c.args.area.y2 ≤ℤ b.y2 = at_most_then c.args.area.y2 c.b.inside.y2 b.y2 fe fy y2 c.if-area-b.true in (
      (λ f. high_enough c.args.boxes.now c.requires.canonical c.args.area c.requires.across c.requires.upward b r (omega (arith, ints)) high),
      (λ all. search rules),
    )

pub above-requires-clause-among : goal.above-requires-clause-among
above-requires-clause-among c =
    let b : BoxShape = c.index-boxes-number.result in
    at_among c.args.boxes.now c.up.number b (record { within = c.up.invariant.within; is = sym c.index-boxes-number.is })

pub above-requires-clause-column : goal.above-requires-clause-column
above-requires-clause-column c =
    let b : BoxShape = c.index-boxes-number.result in
    let fa : SFits w64 c.args.area.x1 = search rules in
    rw (to_z-of_z w64 c.args.area.x1 fa) (c.up.invariant.reached b
    (record { within = c.up.invariant.within; is = sym c.index-boxes-number.is })).column

pub up-smaller : goal.up-smaller
up-smaller c =
    let b : BoxShape = c.index-boxes-number.result in
    let at : IsAt c.args.boxes.now c.up.number b = record { within = c.up.invariant.within; is = sym c.index-boxes-number.is } in
    let more : c.up.number < c.in-Some.next = c.in-Some.ensures.behind c.up.number at in
    let w : c.in-Some.next < length c.args.boxes.now = c.in-Some.ensures.located.at.within in
    omega arith

pub up-preserved : goal.up-preserved
up-preserved c =
    let b : BoxShape = c.index-boxes-number.result in
    let r : IsReachedBy c.args.boxes.now c.args.area b = c.up.invariant.reached b
    (record { within = c.up.invariant.within; is = sym c.index-boxes-number.is }) in
    let fx : SFits w64 c.b.inside.x2 = search rules in
    let fa : SFits w64 c.args.area.x2 = search rules in
    let fy : SFits w64 c.b.inside.y2 = search rules in
    let fe : SFits w64 c.args.area.y2 = search rules in
    let fl : SFits w64 c.args.area.x1 = search rules in
    let x2 : c.b.inside.x2 ≡ b.x2 = ap (λ (d : BoxShape). d.x2) c.b.view_is in
    let y2 : c.b.inside.y2 ≡ b.y2 = ap (λ (d : BoxShape). d.y2) c.b.view_is in
    let wide : c.args.area.x2 ≤ℤ c.b.inside.x2 = less_not c.b.inside.x2 c.args.area.x2 c.args.area.x2 fx fa refl c.if-b-area.false in
    let low : b.y2 <ℤ c.args.area.y2 = at_most_not c.args.area.y2 c.b.inside.y2 b.y2 fe fy y2 c.if-area-b.false in
    next_reached c.args.boxes.now c.requires.canonical c.args.area c.requires.across c.requires.upward b r c.in-Some.next (omega (arith, ints)) low
    (simp to_z-of_z at c.in-Some.ensures.located)

pub returns-in-None : goal.returns-in-None
returns-in-None c =
    let b : BoxShape = c.index-boxes-number.result in
    let r : IsReachedBy c.args.boxes.now c.args.area b = c.up.invariant.reached b
    (record { within = c.up.invariant.within; is = sym c.index-boxes-number.is }) in
    let fy : SFits w64 c.b.inside.y2 = search rules in
    let fe : SFits w64 c.args.area.y2 = search rules in
    let fl : SFits w64 c.args.area.x1 = search rules in
    let y2 : c.b.inside.y2 ≡ b.y2 = ap (λ (d : BoxShape). d.y2) c.b.view_is in
    let low : b.y2 <ℤ c.args.area.y2 = at_most_not c.args.area.y2 c.b.inside.y2 b.y2 fe fy y2 c.if-area-b.false in
    let none : Over c.args.boxes.now c.args.area.x1 b.y2 → ⊥ = simp to_z-of_z at c.in-None.ensures.located in (
      (λ f. absurd (search rules)),
      (λ all. absurd (nothing_above c.args.boxes.now c.requires.canonical c.args.area c.requires.across c.requires.upward b r low none all)),
    )
