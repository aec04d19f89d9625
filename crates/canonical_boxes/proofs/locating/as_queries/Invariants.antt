-- The queries so far.
use Rattle.canonical_boxes.specs.Queries.{AreQueriesBelow}
use Rattle.canonical_boxes.proofs.locating.as_queries.Given as goal

abbrev pub invariant-loop-number : goal.invariant-loop-number
invariant-loop-number l = AreQueriesBelow l.squares l.number l.queries.items
