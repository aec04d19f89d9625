use Rattle.std.proofs.Common.{sym, subst}
use Rattle.layout_network.specs.Reading.{IsReadLayoutFault}
use Rattle.layout_network.proofs.Read.{draws_few, flat_fault, text_fault}
use Rattle.layout_network.proofs.reading.drawn_boxes.Goals as goal

-- src/reading.rt
pub returns-in-Ok-flatten-clause-drawn : goal.returns-in-Ok-flatten-clause-drawn
returns-in-Ok-flatten-clause-drawn c =
    let flat = c.in-Ok-flatten in
    draws_few c.args.text.now c.in-Ok.drawing flat.flat.boxes.items flat.flat.labels.items c.in-Ok.ensures.text flat.ensures.boxes flat.ensures.within
    flat.ensures.labels flat.ensures.clear

pub returns-in-Ok-clause-fault : goal.returns-in-Ok-clause-fault
returns-in-Ok-clause-fault c =
    subst (IsReadLayoutFault c.args.text.now) (sym c.drawing_fault.ensures)
    (flat_fault c.args.text.now c.in-Ok.drawing c.in-Err-flatten.fault c.in-Ok.ensures.text c.in-Err-flatten.ensures.fault)

pub returns-clause-fault : goal.returns-clause-fault
returns-clause-fault c =
    subst (IsReadLayoutFault c.args.text.now) (sym c.drawing_fault-in-Err.ensures) (text_fault c.args.text.now c.in-Err.fault c.in-Err.ensures.fault)
