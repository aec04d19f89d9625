-- One digit more.
use Rattle.std.proofs.Common.{◌≡◌, ℕ, ◌*◌, ◌+◌, ◌%◌, ◌/◌, subst, arith}
use Rattle.std.specs.Char.{digit_value}
use Rattle.std.proofs.lemmas.Str.{digit_value_digit}
use Rattle.cif_values.specs.Runs.{Counts}
use Rattle.cif_values.proofs.Bytes.{digit_bounds}
use Rattle.cif_values.proofs.Counting.{counts_more, counts_rest}
use Rattle.cif_values.proofs.numbers.longer.Goals as goal

pub returns-then-next-le-MOST : goal.returns-then-next-le-MOST
returns-then-next-le-MOST c = λ n h.
    let v : digit_value c.args.digit + 48 ≡ c.args.digit = digit_value_digit c.args.digit (digit_bounds c.args.digit c.requires.digit) in
    let e : digit_value c.args.digit ≡ c.from.result = omega (arith, v) in
    let P : ℕ → Type 0 = λ d. Counts c.args.divisor (n * 10 + digit_value c.args.digit) (10 * c.args.value + d) in
    subst P e (counts_more c.args.divisor n c.args.value (digit_value c.args.digit) (omega (arith, e)) h)

pub returns-else-next-le-MOST : goal.returns-else-next-le-MOST
returns-else-next-le-MOST c = λ n h.
    let v : digit_value c.args.digit + 48 ≡ c.args.digit = digit_value_digit c.args.digit (digit_bounds c.args.digit c.requires.digit) in
    let e : digit_value c.args.digit ≡ c.from.result = omega (arith, v) in
    let P : ℕ → Type 0 = λ d. Counts c.args.divisor (n * 10 + digit_value c.args.digit)
    ((10 * c.args.value + d) % c.args.divisor + c.args.divisor * (1099511627776 / c.args.divisor + 1)) in
    subst P e (counts_rest c.args.divisor n c.args.value (digit_value c.args.digit) c.requires.some c.requires.few (omega (arith, e)) h)
