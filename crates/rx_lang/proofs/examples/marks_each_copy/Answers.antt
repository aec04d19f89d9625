use Rattle.std.proofs.Common.{refl}
use Rattle.rx_lang.specs.Examples.{mark_in_repeat}
use Rattle.rx_lang.proofs.Answered.{answered}
use Rattle.rx_lang.proofs.examples.marks_each_copy.Goals as goal

pub returns : goal.returns
returns c = answered mark_in_repeat 0 _ _ refl
