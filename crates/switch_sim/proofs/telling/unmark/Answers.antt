use Rattle.std.proofs.Common.{◌≡◌, ◌<◌, length, get_or, false, subst, ◌∙◌, arith}
use Rattle.std.proofs.lemmas.List.{length-set}
use Rattle.switch_sim.proofs.RightlyTold.{each_waits, one_written, rest_written}
use Rattle.switch_sim.proofs.DueNets.{only_unset}
use Rattle.switch_sim.proofs.telling.unmark.Goals as goal

pub loop-at-preserved : goal.loop-at-preserved
loop-at-preserved c =
    let before = c.loop-at.invariant in
    let nets = c.args.group.now.nets in
    let net = c.get.ensures.net in
    let count = c.len-at-end.ensures.count in
    let lt : c.loop-at.at < length nets = omega arith in
    let one = before.size in
    let size = c.requires in
    let below = c.get.ensures.within in
    let within : get_or nets c.loop-at.at 0 < length c.loop-at.seen = subst (λ n. n < length c.loop-at.seen) net (omega arith) in
    rw net (record {
      size = length-set c.loop-at.seen _ false ∙ before.size;
      off = one_written nets c.loop-at.seen false false c.loop-at.at within before.off;
      rest = λ k none. rest_written nets c.loop-at.seen false false c.loop-at.at within lt k none ∙ before.rest k none;
      only = λ k e. before.only k (only_unset c.loop-at.seen (get_or nets c.loop-at.at 0) k within e);
    })

pub returns-clause-off : goal.returns-clause-off
returns-clause-off c =
    let count = c.len-at-end.ensures.count in
    each_waits (λ k. get_or c.loop-at.seen k false ≡ false) c.args.group.now.nets c.loop-at.at (omega arith) c.loop-at.invariant.off
