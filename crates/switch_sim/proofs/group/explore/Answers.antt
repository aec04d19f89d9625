use Rattle.std.proofs.Common.{◌<◌, ◌≤◌, length, refl, sym, subst, ◌∙◌, arith}
use Rattle.switch_sim.specs.Grouping.{IsVisited}
use Rattle.switch_sim.specs.Waiting.{Waits, IsBehind}
use Rattle.switch_sim.proofs.Grouping.{begin_sound, kept_more, number_waits, one_visited, whole_visited}
use Rattle.switch_sim.proofs.group.explore.Goals as goal

pub loop-at-init : goal.loop-at-init
loop-at-init c = record {
  room = c.add.ensures.size ∙ c.clear.ensures.room;
  begun = c.add.ensures.waits;
  sound = begin_sound c.args.sight.now c.args.conduct c.args.net _ _
      (subst (λ old. IsBehind old c.args.net c.add.new.self.nets) c.clear.ensures.none c.add.ensures.behind) refl refl refl refl;
  visited = λ i lt. absurd (omega arith);
}

pub loop-at-preserved : goal.loop-at-preserved
loop-at-preserved c =
    let before = c.loop-at.invariant in
    let nets = c.loop-at.group.nets in
    let count = c.len.ensures.count in
    let lt : c.loop-at.at < length nets = omega arith in
    record {
      room = c.visit.ensures.room ∙ before.room;
      begun = kept_more _ _ _ _ c.visit.ensures.more c.args.net before.begun;
      sound = c.visit.ensures.sound c.args.net (subst (Waits nets) (sym c.get.ensures.net) (number_waits nets c.loop-at.at lt)) before.sound;
      visited = one_visited c.args.sight.now c.args.conduct c.args.net _ _ _ _ c.loop-at.at lt c.visit.ensures.more before.visited
          (subst (IsVisited c.args.sight.now c.args.conduct _ _) c.get.ensures.net c.visit.ensures.visited);
    }

pub returns-clause-explored : goal.returns-clause-explored
returns-clause-explored c =
    let before = c.loop-at.invariant in
    let count = c.len.ensures.count in
    let past : length c.loop-at.group.nets ≤ c.loop-at.at = omega arith in
    record {
      begun = before.begun;
      sound = before.sound;
      whole = whole_visited c.args.sight.now c.args.conduct c.args.net _ _ c.loop-at.at past before.visited;
    }
