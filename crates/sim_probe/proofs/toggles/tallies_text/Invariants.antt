use Rattle.std.proofs.Common.{◌≡◌, ◌++◌}
use Rattle.std.specs.List.{flat_map}
use Rattle.sim_probe.specs.Tallies.{tally_line}
use Rattle.sim_probe.proofs.toggles.tallies_text.Given as goal

abbrev pub invariant-loop-pad : goal.invariant-loop-pad
invariant-loop-pad l = l.text.items ++ flat_map tally_line l.pad-iterator ≡ flat_map tally_line l.tallies.entries
