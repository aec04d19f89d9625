use Rattle.std.proofs.Common.{refl}
use Rattle.rx_lang.specs.Examples.{last_symbol_marked}
use Rattle.rx_lang.proofs.Answered.{answered}
use Rattle.rx_lang.proofs.examples.marks_the_last_symbol.Goals as goal

pub returns : goal.returns
returns c = answered last_symbol_marked 0 _ _ refl
