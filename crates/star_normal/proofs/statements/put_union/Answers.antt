use Rattle.std.proofs.Common.{◌∙◌, arith, map}
use Rattle.star_normal.specs.Labels.{label_of}
use Rattle.star_normal.specs.Outlines.{copied_trees}
use Rattle.star_normal.proofs.Stated.{put_next, all_put}
use Rattle.star_normal.proofs.statements.put_union.Goals as goal

pub loop-root-preserved : goal.loop-root-preserved
loop-root-preserved c =
    c.in_ok-put_normal.ensures
    ∙ put_next (copied_trees c.args.nodes.now) c.args.roots.now c.loop-root.root-index _ (map label_of c.loop-root.labels.items) (map label_of c.put_alternatives.new.labels.items) c.loop-root-test.true c.loop-root.invariant

pub returns : goal.returns
returns c =
    c.loop-root.invariant
    ∙ all_put (copied_trees c.args.nodes.now) c.args.roots.now c.loop-root.root-index (map label_of c.put_alternatives.new.labels.items) (map label_of c.args.labels.now.items) (omega (arith, c.loop-root-test.false)) c.in_ok-put_alternatives.ensures
