use Rattle.std.proofs.Common.{refl}
use Rattle.rx_lang.specs.Examples.{mark_in_each_part}
use Rattle.rx_lang.proofs.Answered.{answered}
use Rattle.rx_lang.proofs.examples.marks_each_part_for_its_output.Goals as goal

pub returns : goal.returns
returns c = record { first = answered mark_in_each_part 0 _ _ refl; second = answered mark_in_each_part 1 _ _ refl }
