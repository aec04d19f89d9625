use Rattle.std.proofs.Common.{◌≡◌, false, true, nat_le, length, refl, ap, ◌∙◌, arith}
use Rattle.std.specs.List.{list_all}
use Rattle.std.proofs.lemmas.Bool.{le-leb, lt-leb}
use Rattle.rx_text.specs.NumberInText.{is_digit}
use Rattle.rxc_program.proofs.DemoWords.{not_digits, read_number_is, too_long}
use Rattle.rxc_program.specs.Naming.{kept}
use Rattle.rxc_program.proofs.demo_words.number.Goals as goal

-- src/demo_words.rt
pub returns-then-word-digits : goal.returns-then-word-digits
returns-then-word-digits c =
    let word = c.args.word.now in
    let long : nat_le (length word) c.args.digits ≡ false = lt-leb (length word) c.args.digits (grind (arith)) in
    rw (too_long c.args.digits c.args.least c.args.most word long) refl

pub returns-then-not-are_digits : goal.returns-then-not-are_digits
returns-then-not-are_digits c =
    let none : list_all is_digit c.args.word.now ≡ false = cc in
    rw (not_digits c.args.digits c.args.least c.args.most c.args.word.now none) refl

pub returns : goal.returns
returns c =
    let word = c.args.word.now in
    let all : list_all is_digit word ≡ true = cc in
    let few : nat_le (length word) c.args.digits ≡ true = le-leb (length word) c.args.digits (grind (arith)) in
    c.kept.ensures ∙ ap (kept c.args.least) c.read_number.ensures ∙ read_number_is c.args.digits c.args.least c.args.most word all few
