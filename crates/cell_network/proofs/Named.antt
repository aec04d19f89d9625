-- The symbols that the nodes of a table name.
use Rattle.std.proofs.Common.{ℕ, List, All}
use Rattle.star_normal.specs.declared.node.Node.{Node}
use Rattle.cell_network.specs.Parts.{NamesSymbol}

-- every symbol that a node names has a number below this one
abbrev pub NamesSymbols : ℕ → List Node → Type 0
NamesSymbols symbols nodes = All (λ (node : Node). NamesSymbol symbols node.kind) nodes
