-- Both lists are the tall runs of the same squares, in order.
use Rattle.geom.proofs.Canonical.{merged_one}
use Rattle.geom.proofs.merging.merged_once.Goals as goal

pub returns : goal.returns
returns c = record { one = merged_one }
