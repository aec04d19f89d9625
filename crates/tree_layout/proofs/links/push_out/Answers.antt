use Rattle.tree_layout.specs.Squares.{links_from}
use Rattle.tree_layout.proofs.Entries.{flat_step, links_are}
use Rattle.tree_layout.proofs.links.push_out.Goals as goal

pub loop-number-preserved : goal.loop-number-preserved
loop-number-preserved c = flat_step (links_from c.args.entries.now c.args.border c.args.end) _ _ _ _ _ _ c.args.from c.loop-number.number c.loop-number.auto.number
    c.loop-number.invariant c.in_ok-push_link.ensures c.in_ok-push_link-2.ensures
    (links_are c.args.entries.now c.args.border c.args.end c.loop-number.number _ _ c.child_at.ensures c.child_at-in-loop-number.ensures)
