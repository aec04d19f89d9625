use Rattle.std.proofs.Common.{arith}
use Rattle.position_nfa.proofs.FirstSteps.{seq_parts, alt_parts}
use Rattle.position_nfa.proofs.firsts.put_first.Goals as goal

pub right_subtree-requires-clause-fits : goal.right_subtree-requires-clause-fits
right_subtree-requires-clause-fits c =
    let p = seq_parts c.args.nodes.now c.args.summaries.now c.requires.order c.requires.summaries c.args.subtree c.requires.subtree c.in-Seq.left c.in-Seq.right c.in-Seq.is in
    omega (arith, p.right.few)

pub right_subtree-requires-in-Alt-clause-fits : goal.right_subtree-requires-in-Alt-clause-fits
right_subtree-requires-in-Alt-clause-fits c =
    let p = alt_parts c.args.nodes.now c.args.summaries.now c.requires.order c.requires.summaries c.args.subtree c.requires.subtree c.in-Alt.left c.in-Alt.right c.in-Alt.is in
    omega (arith, p.right.few)
