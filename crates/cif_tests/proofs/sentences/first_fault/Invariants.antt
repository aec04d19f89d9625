-- The next sentence begins within the text.
use Rattle.std.proofs.Common.{◌≤◌, length}
use Rattle.cif_tests.proofs.sentences.first_fault.Given as goal

abbrev pub invariant-loop : goal.invariant-loop
invariant-loop l = l.from ≤ length l.text
