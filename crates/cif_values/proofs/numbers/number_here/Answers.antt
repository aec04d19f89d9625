-- Numbers with a sign and without one.
use Rattle.std.proofs.Common.{arith}
use Rattle.cif_values.proofs.Standing.{minus_read, plain_read}
use Rattle.cif_values.proofs.numbers.number_here.Goals as goal
use Rattle.cif_values.proofs.numbers.number_here.Goals.{else-at-text-via-then-at-text+else-text-at-eq45, else-at-text-via-else-at-text}

pub returns-then-text-at-eq45-clause-parts : goal.returns-then-text-at-eq45-clause-parts
returns-then-text-at-eq45-clause-parts c = λ stop part parts k h.
    let d = c.digits-value in
    minus_read c.args.divisor c.args.text.now c.args.at stop part parts d.result.0 d.result.1 c.skip_blanks.result c.if-at-text.true c.if-text-at-eq45.true
    d.ensures.place c.skip_blanks.ensures.place d.ensures.value k h

pub returns-else-at-text-clause-parts : goal.returns-else-at-text-clause-parts
returns-else-at-text-clause-parts c = λ stop part parts k h.
    let d = c.digits-value-else-at-text in
    plain_read c.args.divisor c.args.text.now c.args.at stop part parts d.result.0 d.result.1 c.skip_blanks-else-at-text.result
    (λ w b. elim c.else-at-text.branch [
      | else-at-text-via-then-at-text+else-text-at-eq45 v ↦ v.if-text-at-eq45.false b
      | else-at-text-via-else-at-text v ↦ omega (arith, w, v.if-at-text.false)
    ])
    d.ensures.place c.skip_blanks-else-at-text.ensures.place d.ensures.value k h
