use Rattle.std.proofs.Common.{refl}
use Rattle.rx_lang.specs.Examples.{unmarked_symbol}
use Rattle.rx_lang.proofs.Answered.{answered}
use Rattle.rx_lang.proofs.examples.marks_nothing_without_a_mark.Goals as goal

pub returns : goal.returns
returns c = answered unmarked_symbol 0 _ _ refl
