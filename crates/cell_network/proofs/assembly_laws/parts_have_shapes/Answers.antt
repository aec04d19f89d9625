use Rattle.std.proofs.Common.{length}
use Rattle.cell_network.proofs.LeafSymbols.{names_symbols}
use Rattle.cell_network.proofs.TreeShapes.{have_shapes}
use Rattle.cell_network.proofs.assembly_laws.parts_have_shapes.Goals as goal

pub returns : goal.returns
returns c = λ tree tables t spec symbols. have_shapes tree tables spec (names_symbols tree t (length tables.symbols) symbols)
