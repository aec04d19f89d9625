use Rattle.std.proofs.Common.{sym, ◌∙◌}
use Rattle.switch_sim.proofs.Grouping.{true_met}
use Rattle.switch_sim.proofs.group.meet.Goals as goal

pub returns-in-None-clause-sound : goal.returns-in-None-clause-sound
returns-in-None-clause-sound c = λ conduct net j.
    true_met c.args.sight.now conduct net c.args.other.0 _ _ _ c.add.ensures.behind
    (c.requires.within, sym (c.requires.sight.fixed c.args.other.0) ∙ c.in-None.is) (j c.if-here.true)
