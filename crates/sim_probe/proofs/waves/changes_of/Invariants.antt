use Rattle.std.proofs.Common.{◌≡◌, [], false, take, drop}
use Rattle.sim_probe.specs.WavesText.{change_lines}
use Rattle.sim_probe.specs.Changing.{Follows, all_lines}
use Rattle.sim_probe.proofs.waves.changes_of.Given as goal

abbrev pub invariant-loop-sample : goal.invariant-loop-sample
invariant-loop-sample l = record {
  follows : Follows l.changes (take l.sample-index l.samples);
  lines : all_lines l.changes (take l.sample-index l.samples) (drop l.sample-index l.samples) ≡ change_lines [] false l.samples;
}
