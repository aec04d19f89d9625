use Rattle.std.proofs.Common.{◌≡◌, inl, inr, ◌<◌, length, get_or, true, false, sym, subst, ◌∙◌, arith}
use Rattle.switch_sim.specs.Grouping.{lit}
use Rattle.switch_sim.specs.Waiting.{Waits}
use Rattle.switch_sim.specs.declared.group.Conduct.TheVariants as which
use Rattle.switch_sim.proofs.Grouping.{number_waits}
use Rattle.switch_sim.proofs.RightlyTold.{all_in, each_waits, group_is_free, next_seen, waits_or_not}
use Rattle.switch_sim.proofs.telling.look.Goals as goal

pub loop-at-preserved : goal.loop-at-preserved
loop-at-preserved c =
    let before = c.loop-at.invariant in
    let nets = c.explore-possible.new.group.nets in
    let count = c.len-at-end.ensures.count in
    let lt : c.loop-at.at < length nets = omega arith in
    let member = subst (Waits nets) (sym c.get.ensures.net) (number_waits nets c.loop-at.at lt) in
    let one = c.look_part.ensures.seen_length in
    let two = c.look_part.ensures.told_length in
    record {
      room = c.look_part.ensures.room ∙ before.room;
      seen_length = one ∙ before.seen_length;
      told_length = two ∙ before.told_length;
      right = c.look_part.ensures.right c.args.net nets c.explore-possible.ensures.explored c.requires.free member before.right;
      seen = next_seen nets c.loop-at.seen c.look_part.new.seen c.loop-at.at c.look_part.ensures.kept
          (subst (λ k. get_or c.look_part.new.seen k false ≡ true) c.get.ensures.net c.look_part.ensures.here) before.seen;
      kept = λ k e. c.look_part.ensures.kept k (before.kept k e);
      only = λ k e. elim (c.look_part.ensures.only c.args.net nets c.explore-possible.ensures.explored c.requires.free member k e) [
        | inl old ↦ before.only k old
        | inr w ↦ inr w
      ];
    }

pub returns-clause-members : goal.returns-clause-members
returns-clause-members c = λ k w.
    group_is_free c.args.sight.now.network.now c.args.sight.now.drive.now (lit c.args.sight.now which.Possible) c.args.net k c.requires.free
    (c.explore-possible.ensures.explored.sound.grouped k w)

pub returns-clause-seen : goal.returns-clause-seen
returns-clause-seen c =
    let count = c.len-at-end.ensures.count in
    each_waits (λ k. get_or c.loop-at.seen k false ≡ true) c.explore-possible.new.group.nets c.loop-at.at (omega arith) c.loop-at.invariant.seen

pub returns-clause-right : goal.returns-clause-right
returns-clause-right c = λ k w.
    let count = c.len-at-end.ensures.count in
    c.loop-at.invariant.right k w
    (each_waits (λ n. get_or c.loop-at.seen n false ≡ true) c.explore-possible.new.group.nets c.loop-at.at (omega arith) c.loop-at.invariant.seen k w)

pub returns-clause-kept : goal.returns-clause-kept
returns-clause-kept c = λ k e.
    let count = c.len-at-end.ensures.count in
    elim (waits_or_not c.explore-possible.new.group.nets k) [
      | inl w ↦
          each_waits (λ n. get_or c.loop-at.seen n false ≡ true) c.explore-possible.new.group.nets c.loop-at.at (omega arith) c.loop-at.invariant.seen k w
      | inr none ↦ c.loop-at.invariant.kept k (c.unmark.ensures.rest k none ∙ e)
    ]

pub returns-clause-closed : goal.returns-clause-closed
returns-clause-closed c = λ k m w g.
    all_in c.args.sight.now which.Possible c.args.net c.explore-possible.new.group.nets c.explore-possible.result c.explore-possible.ensures.explored k m w g
