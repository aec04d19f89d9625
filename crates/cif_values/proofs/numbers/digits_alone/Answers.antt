-- Digits up to the end.
use Rattle.cif_values.proofs.Written.{none_here, none_whole, number_whole}
use Rattle.cif_values.proofs.numbers.digits_alone.Goals as goal

pub returns-then-behind-from-clause-none : goal.returns-then-behind-from-clause-none
returns-then-behind-from-clause-none c = λ e n w.
    none_here c.args.word.now c.args.from c.digits-value.result.1 n c.digits-value.ensures.place c.if-behind-from.true w

pub returns-then-behind-word-clause-none : goal.returns-then-behind-word-clause-none
returns-then-behind-word-clause-none c = λ e n w.
    none_whole c.args.word.now c.args.from c.digits-value.result.1 n c.requires.place c.digits-value.ensures.place c.if-behind-word.true w

pub returns-clause-number : goal.returns-clause-number
returns-clause-number c =
    number_whole c.args.divisor c.args.word.now c.args.from c.digits-value.result.1 c.digits-value.result.0 c.requires.place c.digits-value.ensures.place
    c.if-behind-from.false c.if-behind-word.false c.digits-value.ensures.value
