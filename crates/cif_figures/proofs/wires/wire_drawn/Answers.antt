-- The boxes of the wire, or its code.
use Rattle.std.proofs.Common.{Some}
use Rattle.cif_figures.proofs.Wiring.{wire_at, wire_fault, wire_bare, wire_clear, wire_leads}
use Rattle.cif_figures.proofs.wires.wire_drawn.Goals as goal

pub returns-in-Some-clause-fault : goal.returns-in-Some-clause-fault
returns-in-Some-clause-fault c = λ s end k d.
    wire_fault s k.stands.here.command c.args.text.now c.args.first c.args.scale c.args.layer c.wire_checks-found.result c.wire_code.result
    (Some c.in-Some.code)
    (wire_at c.args.text.now c.args.first end k c.parts_stand.ensures) c.wire_checks-found.ensures c.wire_code.ensures c.in-Some.is d

pub returns-in-None-layer-clause-fault : goal.returns-in-None-layer-clause-fault
returns-in-None-layer-clause-fault c = λ s end k d.
    absurd
    (wire_bare k.stands.here.command c.args.text.now c.args.first c.args.scale c.args.layer c.wire_checks-found.result
    c.wire_code.result (wire_at c.args.text.now c.args.first end k c.parts_stand.ensures) c.wire_checks-found.ensures
    c.wire_code.ensures c.in-None.is c.in-None-layer.is)

pub boxes_of-requires-clause-clear : goal.boxes_of-requires-clause-clear
boxes_of-requires-clause-clear c =
    let k = c.requires.command.1 in
    let h = wire_at c.args.text.now c.args.first c.requires.command.0 k c.parts_stand.ensures in (
      h.w,
      h.points,
      wire_clear k.stands.here.command c.args.text.now c.args.first c.args.scale c.args.layer c.wire_checks-found.result c.wire_code.result h
          c.wire_checks-found.ensures c.wire_code.ensures c.in-None.is,
    )

pub returns-in_ok-boxes_of-in-Some-layer-clause-drawn : goal.returns-in_ok-boxes_of-in-Some-layer-clause-drawn
returns-in_ok-boxes_of-in-Some-layer-clause-drawn c = λ s end k d.
    wire_leads s k.stands.here.command c.args.text.now c.args.first c.args.scale c.args.layer c.in-Some-layer.layer c.wire_checks-found.result
    c.wire_code.result
    c.in_ok-boxes_of-in-Some-layer.field-0.items
    (wire_at c.args.text.now c.args.first end k c.parts_stand.ensures) c.wire_checks-found.ensures c.wire_code.ensures c.in-None.is
    c.in-Some-layer.is
    c.in_ok-boxes_of-in-Some-layer.ensures d
