use Rattle.std.proofs.Common.{refl}
use Rattle.rx_lang.specs.Examples.{overlapping_symbols}
use Rattle.rx_lang.proofs.Answered.{answered}
use Rattle.rx_lang.proofs.examples.matches_several_symbols.Goals as goal

pub returns : goal.returns
returns c = record { first = answered overlapping_symbols 0 _ _ refl; second = answered overlapping_symbols 1 _ _ refl }
