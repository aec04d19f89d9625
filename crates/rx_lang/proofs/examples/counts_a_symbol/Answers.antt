use Rattle.std.proofs.Common.{refl}
use Rattle.rx_lang.specs.Examples.{counted_symbol}
use Rattle.rx_lang.proofs.Answered.{answered}
use Rattle.rx_lang.proofs.examples.counts_a_symbol.Goals as goal

pub returns : goal.returns
returns c = answered counted_symbol 0 _ _ refl
