use Rattle.std.proofs.Common.{refl}
use Rattle.rx_lang.specs.Examples.{marked_option_in_loop}
use Rattle.rx_lang.proofs.Answered.{answered}
use Rattle.rx_lang.proofs.examples.marks_an_option_in_a_loop.Goals as goal

pub returns : goal.returns
returns c = answered marked_option_in_loop 0 _ _ refl
