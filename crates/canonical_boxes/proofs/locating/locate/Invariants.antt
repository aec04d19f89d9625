-- What was asked is found.
use Rattle.std.proofs.Common.{◌≡◌, take, drop}
use Rattle.canonical_boxes.proofs.Queries.{AreAsked}
use Rattle.canonical_boxes.proofs.locating.locate.Given as goal

abbrev pub invariant-loop-query : goal.invariant-loop-query
invariant-loop-query l = record {
  asked : AreAsked l.set l.squares (take l.query-index l.query-items) (drop l.query-index l.query-items) l.sweep.begun l.sweep.runs l.found.items;
  boxes : l.sweep.boxes.now ≡ l.set;
}
