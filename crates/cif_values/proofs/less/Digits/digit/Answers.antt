-- A digit within the run.
use Rattle.std.proofs.Common.{◌-◌, arith}
use Rattle.cif_values.proofs.Ordering.{digit_small, digit_great}
use Rattle.cif_values.proofs.less.Digits.digit.Goals as goal

pub overflow_sub-result-else-i-before : goal.overflow_sub-result-else-i-before
overflow_sub-result-else-i-before c =
    digit_great c.args.text.now c.args.self (c.args.i - (c.args.count - c.count.result)) c.requires.run
    (omega (arith, c.count.ensures, c.requires.inside, c.requires.few, c.if-i-before.false))

pub returns-else-i-before-clause-small : goal.returns-else-i-before-clause-small
returns-else-i-before-clause-small c =
    digit_small c.args.text.now c.args.self (c.args.i - (c.args.count - c.count.result)) c.requires.run
    (omega (arith, c.count.ensures, c.requires.inside, c.requires.few, c.if-i-before.false))
