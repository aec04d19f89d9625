use Rattle.sim_probe.proofs.Ends.{ends_at_stop}
use Rattle.sim_probe.proofs.laws.toggles_end_at_stops.Goals as goal

pub returns : goal.returns
returns c = ends_at_stop
