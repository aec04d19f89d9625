use Rattle.std.proofs.Common.{length, ap, arith}
use Rattle.light_order.specs.Crossings.{crosses}
use Rattle.light_order.proofs.Counted.{turn, finished}
use Rattle.light_order.proofs.crossings.crossing.Goals as goal

pub loop-parent-preserved : goal.loop-parent-preserved
loop-parent-preserved c = (
  omega arith,
  turn c.args.tree.now c.nodes-nodes.ensures.tree (crosses c.args.order.now c.args.from c.args.to c.args.place) c.nodes-nodes.result.now c.nodes-nodes.ensures.nodes
      _ _ _ _ c.loop-parent-test.true c.loop-parent.invariant.1 c.crossing_from-count.ensures.number,
)

pub returns : goal.returns
returns c =
    let long = ap length c.nodes-nodes.ensures.nodes in
    finished c.args.tree.now c.nodes-nodes.ensures.tree (crosses c.args.order.now c.args.from c.args.to c.args.place) c.loop-parent.parent _ _ _ _ (omega arith) long
    c.root.ensures.root c.loop-parent.invariant.1 c.crosses.ensures.number
