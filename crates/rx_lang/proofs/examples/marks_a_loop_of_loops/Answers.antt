use Rattle.std.proofs.Common.{refl}
use Rattle.rx_lang.specs.Examples.{loop_in_loop}
use Rattle.rx_lang.proofs.Answered.{answered}
use Rattle.rx_lang.proofs.examples.marks_a_loop_of_loops.Goals as goal

pub returns : goal.returns
returns c = answered loop_in_loop 0 _ _ refl
