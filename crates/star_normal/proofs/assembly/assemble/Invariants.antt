use Rattle.std.proofs.Common.{map, drop}
use Rattle.star_normal.specs.Labels.{label_of}
use Rattle.star_normal.specs.Assembly.{Assembled}
use Rattle.star_normal.proofs.assembly.assemble.Given as goal

abbrev pub invariant-loop-i : goal.invariant-loop-i
invariant-loop-i l = Assembled (drop l.i (map label_of l.labels)) l.nodes.items l.tops.items
