-- One digit more.
use Rattle.std.proofs.Common.{◌≡◌, true, ℕ, ◌*◌, ◌+◌, sym, ◌∙◌, ap, subst, arith, get_or}
use Rattle.std.specs.Char.{digit_value}
use Rattle.std.specs.Str.Parse.{digits_value}
use Rattle.std.proofs.lemmas.Int.Digits.{digits_value_push}
use Rattle.rx_text.specs.NumberInText.{is_digit}
use Rattle.cif_syntax.specs.Ends.{between}
use Rattle.cif_values.specs.Runs.{Counts}
use Rattle.cif_values.proofs.Texts.{run_more, between_push}
use Rattle.cif_values.proofs.numbers.digits.Goals as goal

pub loop-at-preserved : goal.loop-at-preserved
loop-at-preserved c =
    let text = c.args.text.now in
    let i = c.loop-at.at in
    let v = c.loop-at.invariant in
    let d : is_digit (get_or text i 0) ≡ true = sym c.is_digit.ensures ∙ c.if-is_digit.true in
    let e : digits_value 10 (between text c.args.from (i + 1)) ≡ digits_value 10 (between text c.args.from i) * 10 + digit_value (get_or text i 0) =
    ap (digits_value 10) (between_push text c.args.from i v.order c.loop-at-test.true) ∙ digits_value_push 10 (between text c.args.from i) (get_or text i 0) in
    let P : ℕ → Type 0 = λ n. Counts c.args.divisor n c.longer-value.result in
    record {
      order = omega (arith, v.order);
      within = omega (arith, c.loop-at-test.true);
      same = run_more is_digit text i c.loop-at-test.true d ∙ v.same;
      counts = subst P (sym e) (c.longer-value.ensures (digits_value 10 (between text c.args.from i)) v.counts);
    }
