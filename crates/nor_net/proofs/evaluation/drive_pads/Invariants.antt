use Rattle.std.proofs.Common.{◌≡◌, ◌≤◌, ◌+◌, drop}
use Rattle.switch_net.specs.Clock.{drives_from, drives_of}
use Rattle.nor_net.specs.Netlist.{input_count}
use Rattle.nor_net.specs.Evaluation.{driven}
use Rattle.nor_net.proofs.evaluation.drive_pads.Given as goal

abbrev pub invariant-loop-pad : goal.invariant-loop-pad
invariant-loop-pad l =
    (driven (drop l.pad-index l.pads) (drives_from l.drive (drop l.line l.drive.lines) (drop l.pad-index l.pads)) l.values
    ≡ driven l.pads (drives_of l.drive l.pads) l.fn.values)
    × (l.line + input_count (drop l.pad-index l.pads) ≤ 16)
