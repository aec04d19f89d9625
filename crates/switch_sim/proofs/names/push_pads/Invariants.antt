use Rattle.std.proofs.Common.{◌≡◌, ◌++◌, map, take}
use Rattle.switch_sim.proofs.names.push_pads.Given as goal

abbrev pub invariant-loop-pad : goal.invariant-loop-pad
invariant-loop-pad l = l.nets.items ≡ l.fn.nets.items ++ map (λ pad. pad.net.0) (take l.pad-index l.pads)
