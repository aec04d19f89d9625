-- The boxes of the columns so far.
use Rattle.std.proofs.Common.{◌≡◌, ◌*◌, ◌++◌, drop}
use Rattle.cif_shapes.specs.Changes.{run_boxes}
use Rattle.cif_shapes.proofs.changes.add_runs.Given as goal

abbrev pub invariant-loop-at : goal.invariant-loop-at
invariant-loop-at l = l.boxes.items ++ run_boxes l.layer l.fn.low l.fn.high (drop (2 * l.at) l.columns) ≡ l.initial.boxes.items ++ run_boxes l.layer l.fn.low l.fn.high l.columns
