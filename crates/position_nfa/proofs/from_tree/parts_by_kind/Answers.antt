use Rattle.std.proofs.Common.{◌∙◌, sym, arith}
use Rattle.position_nfa.proofs.FirstSteps.{alt_parts}
use Rattle.position_nfa.proofs.from_tree.parts_by_kind.Goals as goal

pub right_subtree-behind-requires-clause-fits : goal.right_subtree-behind-requires-clause-fits
right_subtree-behind-requires-clause-fits c =
    let p = alt_parts c.args.nodes.now c.args.summaries.now c.requires.order c.requires.summaries c.args.root c.requires.root c.in-Alt.left c.in-Alt.right
    (sym c.requires.kind ∙ c.in-Alt.is) in
    omega (arith, p.right.few)
