use Rattle.std.proofs.Common.{take}
use Rattle.nmos_model.specs.Pads.{AreNamed}
use Rattle.tile_tests.proofs.grids.see_names.Given as goal

abbrev pub invariant-loop-label : goal.invariant-loop-label
invariant-loop-label l = AreNamed (take l.label-index l.labels)
