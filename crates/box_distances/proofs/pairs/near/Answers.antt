-- The pairs that are ahead either way.
use Rattle.std.proofs.Common.{pos, List, take, get_or, sym, subst, arith}
use Rattle.std.proofs.lemmas.Int.{ints}
use Rattle.std.proofs.lemmas.List.{take_more, take_all}
use Rattle.box_distances.specs.declared.pairs.NearPair.{NearPair}
use Rattle.box_distances.specs.Near.{AreAhead}
use Rattle.box_distances.proofs.Nears.{BothSoFar, behind_more, near_pairs}
use Rattle.box_distances.proofs.pairs.near.Goals as goal

abbrev blank : NearPair
blank = record { one = 0; other = 0 }

pub loop-pair-preserved : goal.loop-pair-preserved
loop-pair-preserved c =
    let items = c.deref-pair-items.result.now in
    let i = c.loop-pair.pair-index in
    let q : NearPair = get_or items i blank in
    let P : List NearPair → Type 0 = λ l. BothSoFar c.in_ok-found.found.items l c.push.new.self.items in
    subst P (sym (take_more items i blank c.loop-pair-test.true))
    (behind_more c.in_ok-found.found.items (take i items) c.loop-pair.found.items c.push.new.self.items q c.in_ok-push.ensures.items c.loop-pair.invariant)

pub returns : goal.returns
returns c =
    let items = c.deref-pair-items.result.now in
    let P : List NearPair → Type 0 = λ l. BothSoFar c.in_ok-found.found.items l c.loop-pair.found.items in
    let Q : List NearPair → Type 0 = λ l. AreAhead (pos c.args.reach) c.args.other.now c.args.one.now l in
    near_pairs c.boxes_are_numbered.ensures (pos c.args.reach) (omega (arith, ints)) c.args.one.now c.args.other.now c.in_ok-found.ensures.one
    c.in_ok-found.ensures.other c.in_ok-found.found.items items c.loop-pair.found.items c.in_ok-found.ensures.ahead
    (subst Q (sym c.deref-pair-items.ensures.value) c.in_ok-back.ensures.ahead)
    (subst P (take_all c.loop-pair.pair-index items c.loop-pair-test.false) c.loop-pair.invariant)
