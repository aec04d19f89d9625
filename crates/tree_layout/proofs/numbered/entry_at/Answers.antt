use Rattle.std.proofs.Common.{◌∙◌, arith}
use Rattle.tree_layout.proofs.Numbering.{OrderLaws, small, light_entry, behind, heavy_entry, whole_entry}
use Rattle.tree_layout.proofs.numbered.entry_at.Goals as goal

pub overflow_add-number : goal.overflow_add-number
overflow_add-number c =
    let laws : OrderLaws c.args.tree.now = record {
      once = c.each_node_stands_once.ensures.once c.args.tree.now c.children-light.ensures.tree;
      size = c.each_node_stands_once.ensures.number c.args.tree.now c.children-light.ensures.tree;
      light = c.children_stand_behind.ensures.light c.args.tree.now c.children-light.ensures.tree;
      heavy = c.children_stand_behind.ensures.heavy c.args.tree.now c.children-light.ensures.tree;
      alone = c.children_stand_behind.ensures.alone c.args.tree.now c.children-light.ensures.tree;
    } in
    let h = small c.args.tree.now laws c.children-light.ensures.few c.args.sizes.now c.requires.sizes c.args.node c.args.number c.requires.number in omega arith

pub heavy_number-requires-clause-next : goal.heavy_number-requires-clause-next
heavy_number-requires-clause-next c =
    let laws : OrderLaws c.args.tree.now = record {
      once = c.each_node_stands_once.ensures.once c.args.tree.now c.children-light.ensures.tree;
      size = c.each_node_stands_once.ensures.number c.args.tree.now c.children-light.ensures.tree;
      light = c.children_stand_behind.ensures.light c.args.tree.now c.children-light.ensures.tree;
      heavy = c.children_stand_behind.ensures.heavy c.args.tree.now c.children-light.ensures.tree;
      alone = c.children_stand_behind.ensures.alone c.args.tree.now c.children-light.ensures.tree;
    } in
    small c.args.tree.now laws c.children-light.ensures.few c.args.sizes.now c.requires.sizes c.args.node c.args.number c.requires.number

pub heavy_number-requires-clause-behind : goal.heavy_number-requires-clause-behind
heavy_number-requires-clause-behind c =
    let laws : OrderLaws c.args.tree.now = record {
      once = c.each_node_stands_once.ensures.once c.args.tree.now c.children-light.ensures.tree;
      size = c.each_node_stands_once.ensures.number c.args.tree.now c.children-light.ensures.tree;
      light = c.children_stand_behind.ensures.light c.args.tree.now c.children-light.ensures.tree;
      heavy = c.children_stand_behind.ensures.heavy c.args.tree.now c.children-light.ensures.tree;
      alone = c.children_stand_behind.ensures.alone c.args.tree.now c.children-light.ensures.tree;
    } in
    behind c.args.tree.now laws c.children-light.ensures.few c.args.sizes.now c.requires.sizes c.args.node c.args.number c.requires.number _ _ c.children-light.ensures.light c.children-light.ensures.heavy c.children-light.ensures.inside

pub returns : goal.returns
returns c =
    let laws : OrderLaws c.args.tree.now = record {
      once = c.each_node_stands_once.ensures.once c.args.tree.now c.children-light.ensures.tree;
      size = c.each_node_stands_once.ensures.number c.args.tree.now c.children-light.ensures.tree;
      light = c.children_stand_behind.ensures.light c.args.tree.now c.children-light.ensures.tree;
      heavy = c.children_stand_behind.ensures.heavy c.args.tree.now c.children-light.ensures.tree;
      alone = c.children_stand_behind.ensures.alone c.args.tree.now c.children-light.ensures.tree;
    } in
    whole_entry c.args.tree.now laws c.children-light.ensures.few c.args.sizes.now c.requires.sizes c.args.node c.args.number c.requires.number _ _
    (c.numbered.ensures ∙ light_entry c.args.tree.now laws c.children-light.ensures.few c.args.sizes.now c.requires.sizes c.args.node c.args.number c.requires.number _ c.children-light.ensures.light)
    (heavy_entry c.args.tree.now laws c.children-light.ensures.few c.args.sizes.now c.requires.sizes c.args.node c.args.number c.requires.number _ _ _ c.children-light.ensures.light c.children-light.ensures.heavy c.children-light.ensures.inside
    c.heavy_number.ensures.none c.heavy_number.ensures.alone c.heavy_number.ensures.both)
