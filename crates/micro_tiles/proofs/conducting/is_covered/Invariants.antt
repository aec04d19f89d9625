-- None of the boxes so far covers the square.
use Rattle.std.proofs.Common.{◌≡◌, false, take}
use Rattle.std.specs.List.{list_any}
use Rattle.micro_tiles.specs.Conducting.{covers}
use Rattle.micro_tiles.specs.Table.{boxes}
use Rattle.micro_tiles.proofs.conducting.is_covered.Given as goal

abbrev pub invariant-loop-index : goal.invariant-loop-index
invariant-loop-index l = list_any (covers l.layer l.x l.y) (take l.index (boxes l.tile)) ≡ false
