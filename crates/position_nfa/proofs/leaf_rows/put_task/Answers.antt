use Rattle.std.proofs.Common.{arith, subst, sym}
use Rattle.position_nfa.specs.Waiting.{IsSubtree}
use Rattle.position_nfa.proofs.FirstSteps.{seq_parts, alt_parts}
use Rattle.position_nfa.proofs.leaf_rows.put_task.Goals as goal

pub put_sequence-requires-clause-left : goal.put_sequence-requires-clause-left
put_sequence-requires-clause-left c =
    let is = subst (IsSubtree c.args.nodes.now) (sym c.subtree-subtree.ensures) c.requires.subtree in
    (seq_parts c.args.nodes.now c.args.summaries.now c.requires.order c.requires.summaries c.subtree-subtree.result is c.in-Seq.left c.in-Seq.right c.in-Seq.is).left

pub put_sequence-requires-clause-right : goal.put_sequence-requires-clause-right
put_sequence-requires-clause-right c =
    let is = subst (IsSubtree c.args.nodes.now) (sym c.subtree-subtree.ensures) c.requires.subtree in
    (seq_parts c.args.nodes.now c.args.summaries.now c.requires.order c.requires.summaries c.subtree-subtree.result is c.in-Seq.left c.in-Seq.right c.in-Seq.is).right

pub put_alternative-requires-clause-fits : goal.put_alternative-requires-clause-fits
put_alternative-requires-clause-fits c =
    let is = subst (IsSubtree c.args.nodes.now) (sym c.subtree-subtree.ensures) c.requires.subtree in
    let p = alt_parts c.args.nodes.now c.args.summaries.now c.requires.order c.requires.summaries c.subtree-subtree.result is c.in-Alt.left c.in-Alt.right c.in-Alt.is in
    omega (arith, p.right.few)
