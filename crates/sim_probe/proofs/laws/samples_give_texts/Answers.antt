use Rattle.std.proofs.Common.{refl}
use Rattle.std.specs.Fmt.{digits}
use Rattle.sim_probe.proofs.laws.samples_give_texts.Goals as goal

pub returns-clause-followed_waves : goal.returns-clause-followed_waves
unfolding digits
returns-clause-followed_waves c = refl

pub returns-clause-quiet_waves : goal.returns-clause-quiet_waves
unfolding digits
returns-clause-quiet_waves c = refl

pub returns-clause-late_waves : goal.returns-clause-late_waves
unfolding digits
returns-clause-late_waves c = refl

pub returns-clause-followed_toggles : goal.returns-clause-followed_toggles
unfolding digits
returns-clause-followed_toggles c = refl

pub returns-clause-mixed_toggles : goal.returns-clause-mixed_toggles
unfolding digits
returns-clause-mixed_toggles c = refl
