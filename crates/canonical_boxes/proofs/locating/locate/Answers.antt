-- Each query in turn is asked at its row.
use Rattle.std.proofs.Common.{rules, ◌≡◌, ℤ, pos, ◌<◌, List, length, get_or, refl, sym, ◌∙◌, subst, arith}
use Rattle.std.proofs.lemmas.Int.{to_z-of_z}
use mir.Val.{SFits, to_z, of_z}
use mir.Syntax.{w64}
use Rattle.geom.specs.declared.point.Point.{Point}
use Rattle.geom.specs.Squares.{BoxShape}
use Rattle.canonical_boxes.specs.declared.locating.Query.{Query}
use Rattle.canonical_boxes.specs.Canonical.{IsAt}
use Rattle.canonical_boxes.specs.Located.{IsLocated}
use Rattle.canonical_boxes.specs.Queries.{AreQueries}
use Rattle.canonical_boxes.specs.Sweeps.{IsHeld}
use Rattle.canonical_boxes.proofs.Lists.{at_of, at_read, at_left, at_among}
use Rattle.canonical_boxes.proofs.Queries.{none_asked, asked_more, all_asked}
use Rattle.canonical_boxes.proofs.locating.locate.Goals as goal

pub loop-query-init : goal.loop-query-init
loop-query-init c =
    let P : List Query → Type 0 = λ l. AreQueries c.args.squares.now l in
    let queries : AreQueries c.args.squares.now c.deref-query-items.result.now = subst P
    (sym c.deref-query-items.ensures.value) c.in_ok-queries.ensures in
    let Q : ℤ → List BoxShape → Type 0 = λ y m. IsHeld m c.new-sweep.result.begun y c.new-sweep.result.runs in
    record {
      asked = none_asked c.args.set.now c.args.squares.now c.deref-query-items.result.now c.new-sweep.result.begun c.new-sweep.result.runs c.in_ok-found.found.items
          (λ y. subst (Q y) c.boxes.ensures.list (c.new-sweep.ensures.held y)) queries (let e = c.in_ok-found.ensures.len in omega (arith, e));
      boxes = c.new-sweep.ensures.boxes ∙ c.boxes.ensures.list;
    }

pub rise-requires-clause-held : goal.rise-requires-clause-held
rise-requires-clause-held c =
    let items = c.deref-query-items.result.now in
    let blank : Query = record { y = pos 0; number = 0 } in
    let q : Query = get_or items c.loop-query.query-index blank in
    let at : IsAt items c.loop-query.query-index q = at_of items c.loop-query.query-index blank c.loop-query-test.true in
    let fy : SFits w64 q.y = search rules in
    let P : List BoxShape → Type 0 = λ m. IsHeld m c.loop-query.sweep.begun (to_z w64 (of_z w64 q.y)) c.loop-query.sweep.runs in
    subst P (sym c.loop-query.invariant.boxes) (rw (to_z-of_z w64 q.y fy)
    (c.loop-query.invariant.asked.held q (at_left items c.loop-query.query-index q at)))

pub offset_bounds-squares-query : goal.offset_bounds-squares-query
offset_bounds-squares-query c =
    let items = c.deref-query-items.result.now in
    let blank : Query = record { y = pos 0; number = 0 } in
    let q : Query = get_or items c.loop-query.query-index blank in
    let at : IsAt items c.loop-query.query-index q = at_of items c.loop-query.query-index blank c.loop-query-test.true in
    let P : List Query → Type 0 = λ l. AreQueries c.args.squares.now l in
    let queries : AreQueries c.args.squares.now items = subst P (sym c.deref-query-items.ensures.value) c.in_ok-queries.ensures in
    let w : q.number < length c.args.squares.now = (queries.all.back q (at_among items c.loop-query.query-index q at)).1.within in
    omega arith

pub bounds-squares-query : goal.bounds-squares-query
bounds-squares-query c =
    let items = c.deref-query-items.result.now in
    let blank : Query = record { y = pos 0; number = 0 } in
    let q : Query = get_or items c.loop-query.query-index blank in
    let at : IsAt items c.loop-query.query-index q = at_of items c.loop-query.query-index blank c.loop-query-test.true in
    let P : List Query → Type 0 = λ l. AreQueries c.args.squares.now l in
    let queries : AreQueries c.args.squares.now items = subst P (sym c.deref-query-items.ensures.value) c.in_ok-queries.ensures in
    (queries.all.back q (at_among items c.loop-query.query-index q at)).1.within

pub index_mut-requires : goal.index_mut-requires
index_mut-requires c =
    let items = c.deref-query-items.result.now in
    let blank : Query = record { y = pos 0; number = 0 } in
    let q : Query = get_or items c.loop-query.query-index blank in
    let at : IsAt items c.loop-query.query-index q = at_of items c.loop-query.query-index blank c.loop-query-test.true in
    let P : List Query → Type 0 = λ l. AreQueries c.args.squares.now l in
    let queries : AreQueries c.args.squares.now items = subst P (sym c.deref-query-items.ensures.value) c.in_ok-queries.ensures in
    let w : q.number < length c.args.squares.now = (queries.all.back q (at_among items c.loop-query.query-index q at)).1.within in
    let size : length c.loop-query.found.items ≡ length c.args.squares.now = c.loop-query.invariant.asked.size in
    omega arith

pub loop-query-preserved : goal.loop-query-preserved
loop-query-preserved c =
    let items = c.deref-query-items.result.now in
    let blank : Query = record { y = pos 0; number = 0 } in
    let q : Query = get_or items c.loop-query.query-index blank in
    let at : IsAt items c.loop-query.query-index q = at_of items c.loop-query.query-index blank c.loop-query-test.true in
    let P : List Query → Type 0 = λ l. AreQueries c.args.squares.now l in
    let queries : AreQueries c.args.squares.now items = subst P (sym c.deref-query-items.ensures.value) c.in_ok-queries.ensures in
    let w = queries.all.back q (at_among items c.loop-query.query-index q at) in
    let origin : Point = record { x = pos 0; y = pos 0 } in
    let square : Point = get_or c.args.squares.now q.number origin in
    let same : square ≡ w.0 = at_read c.args.squares.now q.number origin w.0 w.1 in
    let fx : SFits w64 square.x = search rules in
    let fy : SFits w64 q.y = search rules in
    let set : c.rise.new.self.boxes.now ≡ c.args.set.now = c.rise.ensures.boxes ∙ c.loop-query.invariant.boxes in
    let Q : List BoxShape → Type 0 = λ m. IsLocated m square.x q.y c.box_at.result in
    let R : Point → Type 0 = λ p. IsLocated c.args.set.now p.x q.y c.box_at.result in
    let S : List BoxShape → Type 0 = λ m. IsHeld m c.box_at.new.self.begun q.y c.box_at.new.self.runs in
    let over : IsLocated c.args.set.now w.0.x q.y c.box_at.result = subst R same (subst Q set (simp to_z-of_z at c.box_at.ensures.located)) in
    let held : IsHeld c.args.set.now c.box_at.new.self.begun q.y c.box_at.new.self.runs = subst S set (simp to_z-of_z at c.box_at.ensures.held) in
    record {
      asked = asked_more c.args.set.now c.args.squares.now items c.loop-query.query-index q w.0 c.loop-query.sweep.begun c.box_at.new.self.begun c.loop-query.sweep.runs
          c.box_at.new.self.runs c.loop-query.found.items _ c.box_at.result at w.1 w.2 refl over held c.loop-query.invariant.asked;
      boxes = c.box_at.ensures.boxes ∙ set;
    }

pub returns : goal.returns
returns c =
    let P : List Query → Type 0 = λ l. AreQueries c.args.squares.now l in
    let queries : AreQueries c.args.squares.now c.deref-query-items.result.now = subst P
    (sym c.deref-query-items.ensures.value) c.in_ok-queries.ensures in
    all_asked c.args.set.now c.args.squares.now c.deref-query-items.result.now c.loop-query.query-index c.loop-query.sweep.begun c.loop-query.sweep.runs c.loop-query.found.items
    (omega arith) queries c.loop-query.invariant.asked
