use Rattle.std.proofs.Common.{◌∙◌, ◌<◌, length, ap, arith}
use Rattle.light_order.proofs.ChildrenAt.{light_at, heavy_at, light_inside}
use Rattle.light_order.proofs.light_children.children.Goals as goal

pub returns-clause-light : goal.returns-clause-light
returns-clause-light c =
    let w : c.args.node < length c.args.tree.now.nodes = grind (arith, ap length c.nodes-nodes.ensures.nodes) in
    c.children_of.ensures.light ∙ light_at c.args.tree.now c.nodes-nodes.ensures.tree c.args.sizes.now c.requires.sizes c.args.node w _ c.nodes-nodes.ensures.nodes _

pub returns-clause-heavy : goal.returns-clause-heavy
returns-clause-heavy c =
    let w : c.args.node < length c.args.tree.now.nodes = grind (arith, ap length c.nodes-nodes.ensures.nodes) in
    c.children_of.ensures.heavy ∙ heavy_at c.args.tree.now c.nodes-nodes.ensures.tree c.args.sizes.now c.requires.sizes c.args.node w _ c.nodes-nodes.ensures.nodes _

pub returns-clause-inside : goal.returns-clause-inside
returns-clause-inside c =
    let w : c.args.node < length c.args.tree.now.nodes = grind (arith, ap length c.nodes-nodes.ensures.nodes) in
    light_inside c.args.tree.now c.nodes-nodes.ensures.tree c.args.node w _
    (c.children_of.ensures.light ∙ light_at c.args.tree.now c.nodes-nodes.ensures.tree c.args.sizes.now c.requires.sizes c.args.node w _ c.nodes-nodes.ensures.nodes _)
