use Rattle.std.proofs.Common.{sym, ◌∙◌, refl}
use Rattle.rx_text.proofs.Digits.{one_more, not_too_large, too_large, stays_too_large}
use Rattle.rx_text.proofs.number.value.Goals as goal

-- src/number.rt
pub returns-in_err-value : goal.returns-in_err-value
returns-in_err-value c =
    let large = too_large _ c.args.most c.longer.result c.longer.ensures c.in_err-value.was in
    let stays = stays_too_large c.args.digits.now c.loop-digit.digit-index 0 c.args.most c.loop-digit-test.true (rw (c.loop-digit.invariant.0) at large) in
    c.from_residual.ensures ∙ sym (rw stays refl)

-- src/number.rt
pub loop-digit-preserved : goal.loop-digit-preserved
loop-digit-preserved c =
    let next = not_too_large _ c.args.most c.in_ok-value.value c.longer.result c.longer.ensures c.in_ok-value.was in
    (next.0 ∙ rw (c.loop-digit.invariant.0) (sym (one_more c.args.digits.now c.loop-digit.digit-index 0 c.loop-digit-test.true)), next.1)
