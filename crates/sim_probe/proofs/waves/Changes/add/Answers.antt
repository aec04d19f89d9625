use Rattle.std.proofs.Common.{◌++◌, ◌∷◌, [], sym, ◌∙◌, subst}
use Rattle.sim_probe.specs.Changing.{HasLasts}
use Rattle.sim_probe.proofs.Behind.{last_clock_more}
use Rattle.sim_probe.proofs.Lasts.{has_lasts_more}
use Rattle.sim_probe.proofs.waves.Changes.add.Goals as goal

pub returns-in_ok-push-clause-follows : goal.returns-in_ok-push-clause-follows
returns-in_ok-push-clause-follows c before follows =
    let sample = c.args.sample in
    let updates = c.in_ok-last.ensures.updates in
    record {
      lasts = subst (λ lasts. HasLasts lasts (before ++ sample ∷ [])) (sym c.in_ok-push.ensures.lasts)
          (has_lasts_more c.args.self.now.lasts c.insert.new.self before sample follows.lasts updates.1 updates.2 c.in_ok-last.ensures.entries);
      clock = c.in_ok-push.ensures.clock ∙ sym (last_clock_more before sample);
    }

pub returns-else-is_change-clause-follows : goal.returns-else-is_change-clause-follows
returns-else-is_change-clause-follows c before follows =
    let sample = c.args.sample in
    let updates = c.in_ok-last.ensures.updates in
    record {
      lasts = has_lasts_more c.args.self.now.lasts c.insert.new.self before sample follows.lasts updates.1 updates.2 c.in_ok-last.ensures.entries;
      clock = sym (last_clock_more before sample);
    }
