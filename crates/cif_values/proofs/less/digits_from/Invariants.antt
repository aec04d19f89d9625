-- Digits stand so far.
use Rattle.std.proofs.Common.{◌≡◌, ◌≤◌, ◌-◌, true, length}
use Rattle.std.specs.List.{list_all}
use Rattle.rx_text.specs.NumberInText.{is_digit}
use Rattle.cif_syntax.specs.Ends.{between}
use Rattle.cif_values.specs.Runs.{behind_digits}
use Rattle.cif_values.proofs.less.digits_from.Given as goal

abbrev pub invariant-loop-to : goal.invariant-loop-to
invariant-loop-to l = record {
  order : l.fn.from ≤ l.to;
  within : l.to ≤ length l.text;
  digits : list_all is_digit (between l.text l.fn.from l.to) ≡ true;
  same : behind_digits l.text l.to ≡ behind_digits l.text l.fn.from;
}

abbrev pub decreases-loop-to : goal.decreases-loop-to
decreases-loop-to l = length l.text - l.to
