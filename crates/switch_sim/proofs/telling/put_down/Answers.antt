use Rattle.std.proofs.Common.{◌≡◌, ◌<◌, length, get_or, true, false, subst, ◌∙◌, arith}
use Rattle.std.specs.Prelude.{None}
use Rattle.std.proofs.lemmas.List.{length-set}
use Rattle.switch_sim.specs.Grouping.{told_at}
use Rattle.switch_sim.proofs.RightlyTold.{each_waits, one_written, rest_written}
use Rattle.switch_sim.proofs.telling.put_down.Goals as goal

pub loop-at-preserved : goal.loop-at-preserved
loop-at-preserved c =
    let before = c.loop-at.invariant in
    let nets = c.args.part.now.nets in
    let net = c.get-net.ensures.net in
    let count = c.len-at-end.ensures.count in
    let lt : c.loop-at.at < length nets = omega arith in
    let one = before.seen_length in
    let two = before.told_length in
    let seen_size = c.requires.seen_size in
    let told_size = c.requires.told_size in
    let below = c.get-net.ensures.within in
    let in_seen : get_or nets c.loop-at.at 0 < length c.loop-at.seen = subst (λ n. n < length c.loop-at.seen) net (omega arith) in
    let in_told : get_or nets c.loop-at.at 0 < length c.loop-at.told = subst (λ n. n < length c.loop-at.told) net (omega arith) in
    rw net (record {
      seen_length = length-set c.loop-at.seen _ true ∙ before.seen_length;
      told_length = length-set c.loop-at.told _ c.args.level ∙ before.told_length;
      seen = one_written nets c.loop-at.seen false true c.loop-at.at in_seen before.seen;
      told = one_written nets c.loop-at.told None c.args.level c.loop-at.at in_told before.told;
      seen_rest = λ k none. rest_written nets c.loop-at.seen false true c.loop-at.at in_seen lt k none ∙ before.seen_rest k none;
      told_rest = λ k none. rest_written nets c.loop-at.told None c.args.level c.loop-at.at in_told lt k none ∙ before.told_rest k none;
    })

pub returns-clause-seen : goal.returns-clause-seen
returns-clause-seen c =
    let count = c.len-at-end.ensures.count in
    each_waits (λ k. get_or c.loop-at.seen k false ≡ true) c.args.part.now.nets c.loop-at.at (omega arith) c.loop-at.invariant.seen

pub returns-clause-told : goal.returns-clause-told
returns-clause-told c =
    let count = c.len-at-end.ensures.count in
    each_waits (λ k. told_at c.loop-at.told k ≡ c.args.level) c.args.part.now.nets c.loop-at.at (omega arith) c.loop-at.invariant.told
