use Rattle.std.proofs.Common.{rules, ◌≡◌, length, arith, sym, ◌∙◌}
use Rattle.nmos_model.proofs.Opening.{opened, behind_last, free_at}
use Rattle.nmos_model.proofs.classes.Flood.visit.Goals as goal

-- src/classes.rt:131:25
pub overflow_cast-class : goal.overflow_cast-class
overflow_cast-class g c =
    let few = c.requires.flooded.few in
    let small = c.ranges.number.fits in
    let same = c.len-class.ensures in
    omega arith

-- src/classes.rt:135:13
pub spread-requires-clause-flooded : goal.spread-requires-clause-flooded
spread-requires-clause-flooded g c =
    let node = sym c.is_node.ensures ∙ c.if-is_node.true in
    let free = free_at c.args.self.now.numbers.items c.args.number c.index.result.now c.index.ensures c.if-is_none.ensures in
    let count : c.len-class.result ≡ length c.args.self.now.firsts.items = search rules in
    rw (count, c.in_ok-push.ensures.items, c.in_ok-push-2.ensures.items, c.requires.rest, behind_last c.args.self.now.firsts.items c.args.number)
    (opened _ _ _ _ _ _ c.requires.flooded node free c.requires.within)
