use Rattle.star_normal.specs.Tables.{TreeTable, IsTree}
use Rattle.tree_chip.proofs.TreeEdges.{IsOrder}
use Rattle.tree_chip.proofs.Covered.{SheetLaws}
use Rattle.tree_chip.proofs.DrawnCells as drawn
use Rattle.tree_chip.proofs.laws.trees_draw_cells.Goals as goal

order : (c : goal.After-same_networks_agree) (tree : TreeTable) → IsTree tree → IsOrder tree
order c tree is_tree = record {
  once = c.each_node_stands_once.ensures.once tree is_tree;
  number = c.each_node_stands_once.ensures.number tree is_tree;
  inside = c.each_node_stands_once.ensures.inside tree is_tree;
}

laws : (c : goal.After-same_networks_agree) → SheetLaws
laws c = record {
  go_on = c.bundles_go_on.ensures.on;
  end = c.bundles_go_on.ensures.ports;
  ends = c.edges_lead.ensures.ends;
  lead = c.edges_lead.ensures.lead;
  found = c.nodes_are_found.ensures.stand;
  standing = c.nodes_are_found.ensures.found;
  inside = c.nodes_stand_apart.ensures.inside;
}

pub returns-clause-plan : goal.returns-clause-plan
returns-clause-plan c sheet tree tables is_tree known symbols of =
    drawn.is_plan sheet tree tables is_tree known symbols of (order c tree is_tree) (laws c) c.blocks_are_modules.ensures
    (c.cells_are_assembled.ensures.driven tree tables is_tree known symbols) (c.trees_have_parts.ensures tree tables is_tree known symbols)
    (λ a b. c.wires_meet.ensures tree tables a b is_tree known symbols) c.coverings_are_modules.ensures c.plans_stand_for_networks.ensures
    (c.cells_are_netlists.ensures tree tables is_tree known symbols).pads.distinct

pub returns-clause-network : goal.returns-clause-network
returns-clause-network c sheet tree tables is_tree known symbols of =
    drawn.trees_drawn sheet tree tables is_tree known symbols of (order c tree is_tree) (laws c) c.blocks_are_modules.ensures
    (c.cells_are_assembled.ensures.driven tree tables is_tree known symbols) (c.trees_have_parts.ensures tree tables is_tree known symbols)
    (λ a b. c.wires_meet.ensures tree tables a b is_tree known symbols) c.coverings_are_modules.ensures c.plans_stand_for_networks.ensures
    (c.cells_are_netlists.ensures tree tables is_tree known symbols).pads.distinct c.assemblies_are_the_same.ensures
    c.same_networks_agree.ensures.transitive (c.cells_are_assembled.ensures.assembled tree tables is_tree known symbols)
