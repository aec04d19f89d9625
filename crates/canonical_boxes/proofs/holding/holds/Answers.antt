-- Each rectangle is looked at from the box over its lower left square.
use Rattle.std.proofs.Common.{◌≡◌, ℕ, ◌<◌, pos, List, Option, None, map, length, get_or, sym, ◌∙◌, subst, arith}
use Rattle.std.proofs.lemmas.List.{get_or_default}
use Rattle.geom.specs.declared.point.Point.{Point}
use Rattle.geom.specs.Squares.{BoxShape}
use Rattle.canonical_boxes.specs.declared.holding.Area.{Area}
use Rattle.canonical_boxes.specs.Canonical.{IsAt}
use Rattle.canonical_boxes.specs.Located.{IsLocated, AreLocated}
use Rattle.canonical_boxes.specs.Held.{corner}
use Rattle.canonical_boxes.proofs.Lists.{at_of}
use Rattle.canonical_boxes.proofs.Held.{map_at, held_more}
use Rattle.canonical_boxes.proofs.holding.holds.Goals as goal

-- what is found at the corner of a rectangle
found_at : (m : List BoxShape) (areas : List Area) (corners : List Point) (firsts : List (Option ℕ)) (n : ℕ) (a : Area) (first : Option ℕ)
    → corners ≡ map corner areas
    → AreLocated m corners firsts → IsAt areas n a → first ≡ get_or firsts n first → IsLocated m a.x1 a.y1 first
found_at m areas corners firsts n a first e located at is =
    let P : List Point → Type 0 = λ l. IsAt l n (corner a) in
    let q : IsAt corners n (corner a) = subst P (sym e) (map_at corner areas n a at) in
    let w : n < length corners = q.within in
    let size : length firsts ≡ length corners = located.size in
    let same : get_or firsts n None ≡ first = get_or_default firsts n None first (omega arith) ∙ sym is in
    let Q : Option ℕ → Type 0 = λ o. IsLocated m a.x1 a.y1 o in
    subst Q same (located.each n (corner a) q)

pub has_all-requires-clause-first : goal.has_all-requires-clause-first
has_all-requires-clause-first c =
    let blank : Area = record { x1 = pos 0; y1 = pos 0; x2 = pos 0; y2 = pos 0 } in
    let a : Area = get_or c.args.areas.now c.loop-number.number blank in
    let P : List BoxShape → Type 0 = λ m. IsLocated m a.x1 a.y1 c.index.result.now in
    subst P (sym c.boxes-boxes.ensures.list)
    (found_at c.args.set.now c.args.areas.now c.deref.result.now c.in_ok-firsts.firsts.items c.loop-number.number a c.index.result.now
    (c.deref.ensures.value ∙ c.in_ok-corners.ensures)
    c.in_ok-firsts.ensures (at_of c.args.areas.now c.loop-number.number blank c.loop-number-test.true) c.index.ensures)

pub loop-number-preserved : goal.loop-number-preserved
loop-number-preserved c =
    let blank : Area = record { x1 = pos 0; y1 = pos 0; x2 = pos 0; y2 = pos 0 } in
    let a : Area = get_or c.args.areas.now c.loop-number.number blank in
    held_more c.args.set.now c.args.areas.now c.loop-number.number a c.loop-number.held.items c.push.new.self.items c.has_all.result
    (at_of c.args.areas.now c.loop-number.number blank c.loop-number-test.true) c.in_ok-push.ensures.items
    (rw c.boxes-boxes.ensures.list at c.has_all.ensures) c.loop-number.invariant
