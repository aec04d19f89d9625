use Rattle.std.proofs.Common.{length}
use Rattle.cell_network.proofs.LeafSymbols.{names_symbols}
use Rattle.cell_network.proofs.Netlists.{is_netlist}
use Rattle.cell_network.proofs.meeting_laws.cells_are_netlists.Goals as goal

pub returns : goal.returns
returns c = λ tree tables t spec symbols. is_netlist tree tables t spec (names_symbols tree t (length tables.symbols) symbols)
