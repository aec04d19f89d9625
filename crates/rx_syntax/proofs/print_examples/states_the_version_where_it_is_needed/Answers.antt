use Rattle.std.proofs.Common.{refl, arith}
use Rattle.std.proofs.lemmas.Fmt.{decimal_digit}
use Rattle.rx_syntax.proofs.print_examples.states_the_version_where_it_is_needed.Goals as goal

pub returns-clause-repeats : goal.returns-clause-repeats
returns-clause-repeats c = rw (decimal_digit 2 (omega arith), decimal_digit 3 (omega arith)) refl
