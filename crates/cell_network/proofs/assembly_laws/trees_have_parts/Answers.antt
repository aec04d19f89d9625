use Rattle.std.proofs.Common.{length}
use Rattle.cell_network.proofs.LeafSymbols.{names_symbols}
use Rattle.cell_network.proofs.TreeShapes.{are_parts}
use Rattle.cell_network.proofs.assembly_laws.trees_have_parts.Goals as goal

pub returns : goal.returns
returns c = λ tree tables t spec symbols. are_parts tree tables spec (names_symbols tree t (length tables.symbols) symbols)
