use Rattle.rx_text.specs.NumberInText.{is_digit}
use Rattle.rx_text.proofs.Digits.{run_all}
use Rattle.rx_text.proofs.number.digits_at.Goals as goal

-- src/number.rt
pub returns-clause-all : goal.returns-clause-all
returns-clause-all c = rw (c.digit_count.ensures.count) (run_all is_digit c.split_at.result.1.now)
