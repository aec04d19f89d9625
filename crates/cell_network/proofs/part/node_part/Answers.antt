use Rattle.std.proofs.Common.{length}
use Rattle.cell_network.proofs.LeafSymbols.{names_symbols}
use Rattle.cell_network.proofs.part.node_part.Goals as goal

pub part_of_node-requires-clause-symbol : goal.part_of_node-requires-clause-symbol
part_of_node-requires-clause-symbol c =
    rw (c.of-counts.ensures.counts, c.nodes-nodes.ensures.nodes)
    (names_symbols c.args.tree.now c.of-counts.ensures.tree (length c.args.spec.now.symbols) c.requires.symbols c.args.node _
    (rw c.of-counts.ensures.counts at c.if-node-counts.true))
