-- Digits behind a sign, and without one.
use Rattle.std.proofs.Common.{arith}
use Rattle.cif_values.proofs.Ordering.{minus_digits, plain_digits}
use Rattle.cif_values.proofs.less.signed_digits.Goals as goal
use Rattle.cif_values.proofs.less.signed_digits.Goals.{else-at-text-via-then-at-text+else-text-at-eq45, else-at-text-via-else-at-text}

pub returns-then-text-at-eq45-clause-number : goal.returns-then-text-at-eq45-clause-number
returns-then-text-at-eq45-clause-number c = λ stop p ps k h.
    minus_digits c.args.text.now c.args.at stop p ps c.digits_from.result k h c.if-at-text.true c.if-text-at-eq45.true c.digits_from.ensures.from
    c.digits_from.ensures.to

pub returns-else-at-text-clause-number : goal.returns-else-at-text-clause-number
returns-else-at-text-clause-number c = λ stop p ps k h.
    plain_digits c.args.text.now c.args.at stop p ps c.digits_from-else-at-text.result k h
    (λ w b. elim c.else-at-text.branch [
      | else-at-text-via-then-at-text+else-text-at-eq45 v ↦ v.if-text-at-eq45.false b
      | else-at-text-via-else-at-text v ↦ omega (arith, w, v.if-at-text.false)
    ])
    c.digits_from-else-at-text.ensures.from c.digits_from-else-at-text.ensures.to
