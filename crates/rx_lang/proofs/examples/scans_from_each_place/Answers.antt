use Rattle.std.proofs.Common.{refl}
use Rattle.rx_lang.specs.Examples.{scanned_pair}
use Rattle.rx_lang.proofs.Answered.{answered}
use Rattle.rx_lang.proofs.examples.scans_from_each_place.Goals as goal

pub returns : goal.returns
returns c = answered scanned_pair 0 _ _ refl
