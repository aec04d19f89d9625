use Rattle.std.proofs.Common.{◌≡◌, sym, subst}
use Rattle.geom.specs.Squares.{Covered}
use Rattle.nmos_model.specs.Networks.{StandsFor}
use Rattle.nmos_model.specs.Refusals.{IsRefusedBy}
use Rattle.layout_network.specs.Reading.{IsReadLayoutFault}
use Rattle.layout_network.proofs.Read.{drawn_fault, layout_of}
use Rattle.layout_network.proofs.reading.read_layout.Goals as goal

-- src/reading.rt
pub returns-in-Ok-clause-layout : goal.returns-in-Ok-clause-layout
returns-in-Ok-clause-layout c =
    let flat = c.in_ok-flat.flat in
    let boxes : c.deref.result.now ≡ flat.boxes.items = c.deref.ensures.value in
    let labels : c.deref-2.result.now ≡ flat.labels.items = c.deref-2.ensures.value in
    let stands : StandsFor (Covered flat.boxes.items) flat.labels.items c.in-Ok.network =
    subst (λ ls. StandsFor (Covered flat.boxes.items) ls c.in-Ok.network) labels
    (subst (λ bs. StandsFor (Covered bs) c.deref-2.result.now c.in-Ok.network) boxes c.in-Ok.ensures.network) in
    layout_of c.args.text.now flat.boxes.items flat.labels.items c.in-Ok.network c.in_ok-flat.ensures.drawn stands

pub returns-clause-fault : goal.returns-clause-fault
returns-clause-fault c =
    let flat = c.in_ok-flat.flat in
    let boxes : c.deref.result.now ≡ flat.boxes.items = c.deref.ensures.value in
    let labels : c.deref-2.result.now ≡ flat.labels.items = c.deref-2.ensures.value in
    let refused : IsRefusedBy (Covered flat.boxes.items) flat.labels.items c.in-Err.fault =
    subst (λ ls. IsRefusedBy (Covered flat.boxes.items) ls c.in-Err.fault) labels
    (subst (λ bs. IsRefusedBy (Covered bs) c.deref-2.result.now c.in-Err.fault) boxes c.in-Err.ensures.fault) in
    subst (IsReadLayoutFault c.args.text.now) (sym c.network_fault.ensures)
    (drawn_fault c.args.text.now flat.boxes.items flat.labels.items c.in-Err.fault c.in_ok-flat.ensures.drawn refused)
