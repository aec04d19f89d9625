use Rattle.std.proofs.Common.{refl}
use Rattle.cell_network.specs.Shapes.{frame_gates}
use Rattle.cell_network.specs.Parts.{frame_numbers}
use Rattle.cell_network.proofs.NodeParts.{outs_numbered}
use Rattle.cell_network.proofs.FrameParts.{made_frame_fits}
use Rattle.cell_network.proofs.part.frame_part.Goals as goal

pub new-requires : goal.new-requires
new-requires c =
    rw (
      c.bundle.ensures,
      c.supplies.ensures,
      c.in_ok-add_shared_loads.ensures,
      c.in_ok-loads.ensures,
      c.deref.ensures.value,
      c.in_ok-add_frame_gates.ensures,
      c.new-gates.ensures.items,
      c.in_ok-add_register.ensures,
      c.new-transfers.ensures.items,
      c.in_ok-ports.ensures,
    )
    (made_frame_fits c.args.counts c.args.spec.now c.requires.lines c.requires.symbols c.requires.outputs c.requires.specification.place_per_line c.requires.few c.frame_numbers-numbers.result
    c.frame_numbers-numbers.ensures.numbers)

pub returns : goal.returns
returns c =
    rw (
      c.new.ensures,
      c.bundle.ensures,
      c.supplies.ensures,
      c.in_ok-add_shared_loads.ensures,
      c.in_ok-loads.ensures,
      c.deref.ensures.value,
      c.in_ok-add_frame_gates.ensures,
      c.new-gates.ensures.items,
      c.in_ok-add_register.ensures,
      c.new-transfers.ensures.items,
      c.in_ok-ports.ensures,
      c.frame_numbers-numbers.ensures.numbers,
      outs_numbered (frame_numbers c.args.counts) (frame_gates c.args.spec.now),
    )
    refl
