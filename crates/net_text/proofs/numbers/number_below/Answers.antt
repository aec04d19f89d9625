use Rattle.std.proofs.Common.{take, sym, ap, ◌∙◌}
use Rattle.std.proofs.lemmas.List.{length-take-le}
use Rattle.net_text.proofs.Numerals.{read_too_large, read_below, read_at_limit}
use Rattle.net_text.proofs.numbers.number_below.Goals as goal

pub returns-in-Err-NumberTooLarge-clause-is : goal.returns-in-Err-NumberTooLarge-clause-is
returns-in-Err-NumberTooLarge-clause-is c =
    let said = sym c.read_number.ensures ∙ c.in-Err-NumberTooLarge.is in
    rw (← c.split_at.ensures.back)
    (read_too_large c.args.limit c.args.code c.args.at c.split_at.result.1.now _ (ap (λ n. take n c.split_at.result.1.now) c.numeral_length-count.ensures.count)
    c.in-Err-NumberTooLarge.field-0 (rw c.from.ensures at said) c.in-Err-NumberTooLarge.field-0-is)

pub returns-then-value-from-clause-is : goal.returns-then-value-from-clause-is
returns-then-value-from-clause-is c =
    let said = sym c.read_number.ensures ∙ c.in-Ok.is in
    rw (← c.split_at.ensures.back)
    (read_below c.args.limit c.args.code c.args.at c.split_at.result.1.now _ (ap (λ n. take n c.split_at.result.1.now) c.numeral_length-count.ensures.count)
    c.in-Ok.value c.in-Ok.field-0-1 c.numeral_length-count.result (rw c.from.ensures at said) (rw c.from-in-Ok.ensures at c.if-value-from.true)
    (length-take-le _ _ c.numeral_length-count.ensures.within))

pub returns-else-value-from-clause-is : goal.returns-else-value-from-clause-is
returns-else-value-from-clause-is c =
    let said = sym c.read_number.ensures ∙ c.in-Ok.is in
    rw (← c.split_at.ensures.back)
    (read_at_limit c.args.limit c.args.code c.args.at c.split_at.result.1.now _ (ap (λ n. take n c.split_at.result.1.now) c.numeral_length-count.ensures.count)
    c.in-Ok.value c.in-Ok.field-0-1 (rw c.from.ensures at said) (rw c.from-in-Ok.ensures at c.if-value-from.false))
