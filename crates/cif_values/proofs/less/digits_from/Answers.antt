-- One digit more.
use Rattle.std.proofs.Common.{◌≡◌, true, get_or, sym, ◌∙◌, arith}
use Rattle.rx_text.specs.NumberInText.{is_digit}
use Rattle.cif_values.proofs.Texts.{run_more}
use Rattle.cif_values.proofs.Ordering.{digits_push}
use Rattle.cif_values.proofs.less.digits_from.Goals as goal

pub loop-to-preserved : goal.loop-to-preserved
loop-to-preserved c =
    let text = c.args.text.now in
    let i = c.loop-to.to in
    let v = c.loop-to.invariant in
    let d : is_digit (get_or text i 0) ≡ true = sym c.is_digit.ensures ∙ c.if-is_digit.true in
    record {
      order = omega (arith, v.order);
      within = omega (arith, c.loop-to-test.true);
      digits = digits_push text c.args.from i v.order c.loop-to-test.true v.digits d;
      same = run_more is_digit text i c.loop-to-test.true d ∙ v.same;
    }
