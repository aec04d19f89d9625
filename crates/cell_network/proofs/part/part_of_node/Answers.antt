use Rattle.cell_network.proofs.NodeParts.{made_part_fits}
use Rattle.cell_network.proofs.part.part_of_node.Goals as goal

pub new-requires : goal.new-requires
new-requires c =
    rw (
      c.bundle.ensures,
      c.supplies.ensures,
      c.in_ok-loads.ensures,
      c.deref.ensures.value,
      c.in_ok-add_mark_gates.ensures,
      c.in_ok-add_kind_gates.ensures,
      c.new-gates.ensures.items,
      c.in_ok-add_kind_transfers.ensures,
      c.new-transfers.ensures.items,
      c.in_ok-ports.ensures,
    )
    (made_part_fits c.args.counts c.requires.few c.args.nodes.now c.args.node c.requires.symbol c.kind_numbers-numbers.result c.kind_numbers-numbers.ensures.numbers)
