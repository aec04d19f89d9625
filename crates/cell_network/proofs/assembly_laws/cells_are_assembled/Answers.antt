use Rattle.std.proofs.Common.{length}
use Rattle.cell_network.proofs.LeafSymbols.{names_symbols}
use Rattle.cell_network.proofs.CellAssembly.{are_driven, is_assembly}
use Rattle.cell_network.proofs.CellDevices.{have_their_devices}
use Rattle.cell_network.proofs.assembly_laws.cells_are_assembled.Goals as goal

pub returns : goal.returns
returns c = record {
  driven = λ tree tables t spec symbols. are_driven tree tables t;
  devices = λ tree tables t spec symbols. have_their_devices tree tables spec (names_symbols tree t (length tables.symbols) symbols) t;
  assembled = λ tree tables t spec symbols.
      is_assembly tree tables t (have_their_devices tree tables spec (names_symbols tree t (length tables.symbols) symbols) t);
}
