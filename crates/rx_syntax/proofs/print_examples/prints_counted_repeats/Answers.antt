use Rattle.std.proofs.Common.{refl, arith}
use Rattle.std.proofs.lemmas.Fmt.{decimal_digit}
use Rattle.rx_syntax.proofs.print_examples.prints_counted_repeats.Goals as goal

pub returns-clause-symbols : goal.returns-clause-symbols
returns-clause-symbols c = rw (decimal_digit 2 (omega arith), decimal_digit 3 (omega arith)) refl

pub returns-clause-sequences : goal.returns-clause-sequences
returns-clause-sequences c = rw (decimal_digit 0 (omega arith), decimal_digit 1 (omega arith)) refl

pub returns-clause-repeats : goal.returns-clause-repeats
returns-clause-repeats c = rw (decimal_digit 0 (omega arith), decimal_digit 1 (omega arith), decimal_digit 2 (omega arith)) refl
