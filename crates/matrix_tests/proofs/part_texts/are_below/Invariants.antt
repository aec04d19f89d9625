-- The nets so far are below the number.
use Rattle.std.proofs.Common.{◌<◌, All, take}
use Rattle.matrix_tests.proofs.part_texts.are_below.Given as goal

abbrev pub invariant-loop-net : goal.invariant-loop-net
invariant-loop-net l = All (λ net. net < l.count) (take l.net-index l.nets)
