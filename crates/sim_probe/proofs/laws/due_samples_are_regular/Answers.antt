use Rattle.sim_probe.proofs.DueRegular.{regular}
use Rattle.sim_probe.proofs.laws.due_samples_are_regular.Goals as goal

pub returns : goal.returns
returns c = regular
