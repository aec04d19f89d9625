-- Digits stand so far, and their number.
use Rattle.std.proofs.Common.{◌≡◌, ◌≤◌, ◌-◌, length}
use Rattle.std.specs.Str.Parse.{digits_value}
use Rattle.cif_syntax.specs.Ends.{between}
use Rattle.cif_values.specs.Runs.{Counts, behind_digits}
use Rattle.cif_values.proofs.numbers.digits.Given as goal

abbrev pub invariant-loop-at : goal.invariant-loop-at
invariant-loop-at l = record {
  order : l.fn.from ≤ l.at;
  within : l.at ≤ length l.text;
  same : behind_digits l.text l.at ≡ behind_digits l.text l.fn.from;
  counts : Counts l.fn.divisor (digits_value 10 (between l.text l.fn.from l.at)) l.value;
}

abbrev pub decreases-loop-at : goal.decreases-loop-at
decreases-loop-at l = length l.text - l.at
