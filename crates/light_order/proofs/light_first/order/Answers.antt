use Rattle.std.proofs.Common.{rules, ap, length, arith}
use Rattle.light_order.proofs.Unrolled.{started, taken, turned, smaller, finished}
use Rattle.light_order.proofs.light_first.order.Goals as goal

pub loop-node-init : goal.loop-node-init
loop-node-init c = started c.args.tree.now c.nodes-frame.ensures.tree _ _ _ _ _ _ (ap length c.nodes-frame.ensures.nodes) c.root.ensures.root c.in_ok-order.ensures.items c.new-waiting.ensures.items
    c.in_ok-push.ensures.items c.in_ok-push-2.ensures.items

pub children-light-requires-clause-node : goal.children-light-requires-clause-node
children-light-requires-clause-node c =
    let h = taken c.args.tree.now c.nodes-frame.ensures.tree _ _ _ _ c.loop-node.invariant c.in-Some.ensures.items in omega arith

pub loop-node-smaller : goal.loop-node-smaller
loop-node-smaller c = smaller c.args.tree.now c.nodes-frame.ensures.tree _ _ _ _ c.loop-node.invariant c.in-Some.ensures.items _ _ _ _
    c.children-light.ensures.heavy c.children-light.ensures.light c.in_ok-push_some.ensures c.in_ok-push_some-2.ensures

pub loop-node-preserved : goal.loop-node-preserved
loop-node-preserved c = turned c.args.tree.now c.nodes-frame.ensures.tree _ _ _ _ c.loop-node.invariant c.in-Some.ensures.items _ _ _ _ _
    c.in_ok-push-3.ensures.items c.children-light.ensures.heavy c.children-light.ensures.light c.in_ok-push_some.ensures c.in_ok-push_some-2.ensures

pub returns : goal.returns
returns c = finished c.args.tree.now _ _ c.loop-node.invariant (search rules)
