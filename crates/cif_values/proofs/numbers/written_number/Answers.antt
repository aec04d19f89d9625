-- With a sign, and without one.
use Rattle.cif_values.proofs.Written.{minus_written, plain_written, some_word}
use Rattle.cif_values.proofs.numbers.written_number.Goals as goal

pub returns-in-Some-clause-number : goal.returns-in-Some-clause-number
returns-in-Some-clause-number c =
    let n = c.in-Some.ensures.number in
    minus_written c.args.divisor c.args.word.now n.0 c.in-Some.value (some_word c.args.word.now c.is_empty.result c.is_empty.ensures c.if-not-is_empty.true)
    c.if-word-eq45.true n.1 n.2

pub returns-in-Some-digits_alone-clause-number : goal.returns-in-Some-digits_alone-clause-number
returns-in-Some-digits_alone-clause-number c =
    let n = c.in-Some-digits_alone.ensures.number in
    plain_written c.args.divisor c.args.word.now n.0 c.in-Some-digits_alone.value n.1 n.2
