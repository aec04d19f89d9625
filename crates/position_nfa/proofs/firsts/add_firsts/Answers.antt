use Rattle.std.proofs.Common.{◌∙◌, ◌++◌, sym, ap, subst}
use Rattle.position_nfa.specs.Waiting.{first_subtrees, waiting_firsts}
use Rattle.position_nfa.proofs.FirstSteps.{AreSubtrees, subtrees_pop, subtrees_append, first_step, first_put, first_less}
use Rattle.position_nfa.proofs.firsts.add_firsts.Goals as goal

pub put_first-requires-clause-subtree : goal.put_first-requires-clause-subtree
put_first-requires-clause-subtree c =
    (subtrees_pop c.args.nodes.now c.pop.new.self.items c.in-Some.subtree (subst (AreSubtrees c.args.nodes.now) c.in-Some.ensures.items c.loop-subtree.invariant.0)).1

pub loop-subtree-smaller : goal.loop-subtree-smaller
loop-subtree-smaller c =
    let popped = subtrees_pop c.args.nodes.now c.pop.new.self.items c.in-Some.subtree (subst (AreSubtrees c.args.nodes.now) c.in-Some.ensures.items c.loop-subtree.invariant.0) in
    rw (c.in_ok-put_first.ensures.subtrees, c.in-Some.ensures.items)
    (first_less c.args.nodes.now c.args.summaries.now c.requires.order c.requires.summaries c.in-Some.subtree popped.1 c.pop.new.self.items)

pub loop-subtree-preserved : goal.loop-subtree-preserved
loop-subtree-preserved c =
    let popped = subtrees_pop c.args.nodes.now c.pop.new.self.items c.in-Some.subtree (subst (AreSubtrees c.args.nodes.now) c.in-Some.ensures.items c.loop-subtree.invariant.0) in
    let step = first_step c.args.nodes.now c.args.summaries.now c.requires.order c.requires.summaries c.in-Some.subtree popped.1 in
    rw (c.in_ok-put_first.ensures.subtrees, c.in_ok-put_first.ensures.list) (
      subtrees_append c.args.nodes.now c.pop.new.self.items (first_subtrees c.args.nodes.now c.args.summaries.now c.in-Some.subtree) popped.0 step.subtrees,
      first_put c.args.nodes.now c.args.summaries.now c.requires.order c.requires.summaries c.in-Some.subtree popped.1 c.loop-subtree.list.items c.pop.new.self.items
          ∙ ap (λ ss. c.loop-subtree.list.items ++ waiting_firsts c.args.nodes.now ss) (sym c.in-Some.ensures.items)
          ∙ c.loop-subtree.invariant.1,
    )
