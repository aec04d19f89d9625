-- The nets so far differ.
use Rattle.std.proofs.Common.{◌≢◌, AllPairs, take}
use Rattle.matrix_tests.proofs.part_texts.differ.Given as goal

abbrev pub invariant-loop-at : goal.invariant-loop-at
invariant-loop-at l = AllPairs (λ a b. a ≢ b) (take l.at l.nets)
