use Rattle.rx_lang.specs.Tables.{specification}
use Rattle.nor_net.specs.SwitchForm.{switch_form}
use Rattle.stick_grid.specs.Plans.{Covers}
use Rattle.cell_network.specs.Whole.{cells_of}
use Rattle.tree_chip.specs.TreePlans.{tree_plan, tree_labels}
use Rattle.tree_chip.proofs.CellsNetwork.{cells_network}
use Rattle.tree_chip.proofs.Recognised.{draws}
use Rattle.tree_chip.proofs.laws.trees_recognise.Goals as goal

pub returns : goal.returns
returns c sheet tree tables is_tree known symbols of recogniser =
    draws (specification tables) (Covers (tree_plan sheet tree tables)) (tree_labels sheet tree tables) (switch_form (cells_of tree tables))
    c.same_networks_agree.ensures.symmetric c.same_networks_run_alike.ensures.show
    (c.trees_draw_cells.ensures.network sheet tree tables is_tree known symbols of)
    (cells_network tree tables (c.cells_are_assembled.ensures.driven tree tables is_tree known symbols)
    (c.trees_have_parts.ensures tree tables is_tree known symbols) (c.cells_are_netlists.ensures tree tables is_tree known symbols)
    (c.cells_are_assembled.ensures.devices tree tables is_tree known symbols)) recogniser
