-- None of the blocks so far is this one.
use Rattle.std.proofs.Common.{◌≡◌, ℕ, ◌<◌, get_or}
use Rattle.block_grid.specs.declared.kind.BlockKind.{BlockKind}
use Rattle.tree_chip.proofs.kind_numbers.stands_among.Given as goal

abbrev pub invariant-loop-at : goal.invariant-loop-at
invariant-loop-at l = (k : ℕ) (d : BlockKind) → k < l.at → get_or l.places k d ≡ l.kind → ⊥
