-- The cells of a tree are a netlist.
use Rattle.rx_lang.specs.Tables.{Tables, IsSpecification}
use Rattle.star_normal.specs.Tables.{TreeTable, IsTree}
use Rattle.nor_net.specs.Netlist.{IsNetlist}
use Rattle.cell_network.specs.Whole.{cells_of}
use Rattle.cell_network.specs.Assembled.{HasSymbolsOf}

abbrev pub CellsAreNetlists : Type 0
CellsAreNetlists = (tree : TreeTable) (tables : Tables) → IsTree tree → IsSpecification tables → HasSymbolsOf tree tables → IsNetlist (cells_of tree tables)
