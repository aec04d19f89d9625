use Rattle.std.proofs.Common.{take}
use Rattle.sim_probe.specs.Tallies.{HasTallies}
use Rattle.sim_probe.proofs.toggles.tallies_of.Given as goal

abbrev pub invariant-loop-sample : goal.invariant-loop-sample
invariant-loop-sample l = HasTallies l.tallies (take l.sample-index l.samples)
