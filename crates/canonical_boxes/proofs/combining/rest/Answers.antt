-- What is covered, and what is outside of that.
use Rattle.canonical_boxes.proofs.Combined.{rest_squares}
use Rattle.canonical_boxes.proofs.combining.rest.Goals as goal

pub returns : goal.returns
returns c = rest_squares c.args.boxes.now c.in_ok-covered.covered c.in_ok-set.set c.in_ok-covered.ensures c.in_ok-set.ensures.squares
