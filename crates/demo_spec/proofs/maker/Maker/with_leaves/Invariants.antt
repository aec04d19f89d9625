use Rattle.std.proofs.Common.{◌≡◌, ◌+◌, ◌-◌, ◌≤◌}
use Rattle.demo_spec.specs.Generator.{with_leaves}
use Rattle.demo_spec.specs.Piles.{leaf_count, making, stack_of}
use Rattle.demo_spec.proofs.maker.Maker.with_leaves.Given as goal

abbrev pub invariant-loop-made : goal.invariant-loop-made
invariant-loop-made l = record {
  same : with_leaves (l.leaves - l.made) (making l.maker) ≡ with_leaves l.leaves (making l.fn.self);
  counted : leaf_count (stack_of l.maker.pile) ≡ leaf_count (stack_of l.fn.self.pile) + l.made;
  within : l.made ≤ l.leaves;
}

abbrev pub decreases-loop-made : goal.decreases-loop-made
decreases-loop-made l = l.leaves - l.made
