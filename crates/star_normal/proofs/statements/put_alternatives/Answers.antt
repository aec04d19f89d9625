use Rattle.std.proofs.Common.{◌-◌, arith, length}
use Rattle.star_normal.specs.Outlines.{copied_trees}
use Rattle.star_normal.proofs.Stated.{alternative_next}
use Rattle.star_normal.proofs.statements.put_alternatives.Goals as goal

pub loop-j-preserved : goal.loop-j-preserved
loop-j-preserved c = rw (c.in_ok-push.ensures.items, c.label.ensures, c.none.ensures, c.index.ensures)
    (alternative_next (copied_trees c.args.nodes.now) (length c.args.outlines.now) c.args.outlines.now c.requires.outlines c.args.roots.now c.requires.roots
    (c.loop-j.j - 1) c.index.result.now c.in_ok-fronts.fronts.items c.loop-j.labels.items _ (omega (arith, c.loop-j-test.true)) (omega (arith, c.loop-j-test.true, c.loop-j.auto.j)) c.in_ok-fronts.ensures c.loop-j.invariant)
