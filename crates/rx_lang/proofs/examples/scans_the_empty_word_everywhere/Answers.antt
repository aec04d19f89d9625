use Rattle.std.proofs.Common.{refl}
use Rattle.rx_lang.specs.Examples.{scanned_option}
use Rattle.rx_lang.proofs.Answered.{answered}
use Rattle.rx_lang.proofs.examples.scans_the_empty_word_everywhere.Goals as goal

pub returns : goal.returns
returns c = record { first = answered scanned_option 0 _ _ refl; second = answered scanned_option 1 _ _ refl }
