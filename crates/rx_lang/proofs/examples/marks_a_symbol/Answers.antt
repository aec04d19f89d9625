use Rattle.std.proofs.Common.{refl}
use Rattle.rx_lang.specs.Examples.{marked_symbol}
use Rattle.rx_lang.proofs.Answered.{answered}
use Rattle.rx_lang.proofs.examples.marks_a_symbol.Goals as goal

pub returns : goal.returns
returns c = answered marked_symbol 0 _ _ refl
