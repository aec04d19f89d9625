-- Each square has one box, and boxes are in order.
use Rattle.canonical_boxes.proofs.Numbers.{numbered}
use Rattle.canonical_boxes.proofs.laws.boxes_are_numbered.Goals as goal

pub returns : goal.returns
returns c = numbered
