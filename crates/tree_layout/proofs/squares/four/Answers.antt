use Rattle.tree_layout.proofs.Steps.{same_apart}
use Rattle.tree_layout.proofs.squares.four.Goals as goal

pub above-requires-clause-differ : goal.above-requires-clause-differ
above-requires-clause-differ c = same_apart _ _ _ _ c.in_ok-north.ensures c.in_ok-south.ensures c.requires.differ
