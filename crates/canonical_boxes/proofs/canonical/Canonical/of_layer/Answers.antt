-- The boxes chosen of a list in runs are canonical, and cover the squares of the layer.
use Rattle.canonical_boxes.proofs.Parted.{canonical_chosen, chosen_squares}
use Rattle.canonical_boxes.proofs.canonical.Canonical.of_layer.Goals as goal

pub invariant_of-result : goal.invariant_of-result
invariant_of-result c = canonical_chosen c.args.merged.now c.args.layer c.in_ok-boxes.boxes.items c.requires c.in_ok-boxes.ensures

pub returns : goal.returns
returns c = chosen_squares c.args.merged.now c.args.layer c.in_ok-boxes.boxes.items c.in_ok-boxes.ensures
