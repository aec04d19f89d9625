use Rattle.tree_layout.proofs.squares.+square.Given as goal

abbrev pub decreases-square : goal.decreases-square
decreases-square l = l.level
