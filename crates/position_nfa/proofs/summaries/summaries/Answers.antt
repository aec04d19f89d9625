use Rattle.std.proofs.Common.{◌≡◌, ◌∙◌, ◌<◌, ◌≤◌, length, sym, subst, arith}
use Rattle.std.proofs.lemmas.List.{get_or_read}
use Rattle.star_normal.specs.Sizes.{AreSizes, size_at}
use Rattle.position_nfa.specs.Waiting.{AreOrdered}
use Rattle.position_nfa.proofs.TreeTables.{ordered, below_all, summary_next}
use Rattle.position_nfa.proofs.summaries.summaries.Goals as goal

pub empty_mask-empties-requires-clause-nodes : goal.empty_mask-empties-requires-clause-nodes
empty_mask-empties-requires-clause-nodes c =
    let order = subst AreOrdered (sym c.nodes-nodes.ensures.nodes) (ordered c.args.tree.now c.nodes-nodes.ensures.tree) in
    below_all c.loop-k.k (length c.nodes-nodes.result.now) _ (omega arith) (order c.loop-k.k c.loop-k-test.true)

pub empty_mask-empties-requires-clause-before : goal.empty_mask-empties-requires-clause-before
empty_mask-empties-requires-clause-before c =
    let order = subst AreOrdered (sym c.nodes-nodes.ensures.nodes) (ordered c.args.tree.now c.nodes-nodes.ensures.tree) in
    let enough : c.loop-k.k ≤ length c.deref.result.now = rw c.deref.ensures.value (omega (arith, c.loop-k.invariant.size)) in
    below_all c.loop-k.k (length c.deref.result.now) _ enough (order c.loop-k.k c.loop-k-test.true)

pub loop-k-preserved : goal.loop-k-preserved
loop-k-preserved c =
    let order = subst AreOrdered (sym c.nodes-nodes.ensures.nodes) (ordered c.args.tree.now c.nodes-nodes.ensures.tree) in
    let next = summary_next c.nodes-nodes.result.now order c.loop-k.k c.loop-k-test.true c.loop-k.summaries.items c.loop-k.invariant in
    let sized : AreSizes c.nodes-nodes.result.now c.in_ok-sizes.sizes.items = subst (λ ns. AreSizes ns c.in_ok-sizes.sizes.items) (sym c.nodes-nodes.ensures.nodes) c.in_ok-sizes.ensures in
    let within : c.loop-k.k < length c.in_ok-sizes.sizes.items = let lt = c.loop-k-test.true in let size = sized.size in omega arith in
    let leaves : c.index.result.now ≡ size_at c.nodes-nodes.result.now c.loop-k.k =
    get_or_read c.in_ok-sizes.sizes.items _ _ within c.index.ensures 0 ∙ sized.each c.loop-k.k c.loop-k-test.true in
    rw (c.in_ok-push.ensures.items, c.empty_mask-empties.ensures, c.deref.ensures.value, leaves) next
