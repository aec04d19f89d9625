use Rattle.std.proofs.Common.{◌≡◌, ◌++◌}
use Rattle.position_nfa.specs.LeafRows.{firsts}
use Rattle.position_nfa.specs.Waiting.{numbered_tree, waiting_firsts}
use Rattle.position_nfa.proofs.FirstSteps.{AreSubtrees, subtrees_weight}
use Rattle.position_nfa.proofs.firsts.add_firsts.Given as goal

abbrev pub invariant-loop-subtree : goal.invariant-loop-subtree
invariant-loop-subtree l =
    AreSubtrees l.nodes l.subtrees.items
    × (l.list.items ++ waiting_firsts l.nodes l.subtrees.items ≡ l.initial.list.items ++ firsts (numbered_tree l.nodes l.fn.subtree))

abbrev pub decreases-loop-subtree : goal.decreases-loop-subtree
decreases-loop-subtree l = subtrees_weight l.nodes l.subtrees.items
