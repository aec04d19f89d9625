use Rattle.rx_syntax.proofs.RepeatTests.{test_read}
use Rattle.rx_syntax.proofs.repeats.test_at.Goals as goal

pub returns : goal.returns
returns c = λ made e. test_read c.args.tests.now made c.args.k _ e c.requires
