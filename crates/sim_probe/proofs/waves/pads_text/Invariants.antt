use Rattle.std.proofs.Common.{◌≡◌, ◌++◌}
use Rattle.std.specs.List.{flat_map}
use Rattle.std.specs.BTreeMap.{keys}
use Rattle.sim_probe.specs.WavesText.{pad_line}
use Rattle.sim_probe.proofs.waves.pads_text.Given as goal

abbrev pub invariant-loop-pad : goal.invariant-loop-pad
invariant-loop-pad l = l.text.items ++ flat_map pad_line l.pad-iterator ≡ flat_map pad_line (keys l.lasts)
