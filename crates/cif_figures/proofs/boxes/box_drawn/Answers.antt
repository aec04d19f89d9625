-- The box, or its code.
use Rattle.std.proofs.Common.{Some}
use Rattle.cif_figures.proofs.Drawing.{box_at, box_fault, box_bare, box_clear, box_leads}
use Rattle.cif_figures.proofs.boxes.box_drawn.Goals as goal

pub box_of-requires-clause-clear : goal.box_of-requires-clause-clear
box_of-requires-clause-clear c =
    let k = c.requires.command in
    let sides = c.box_here-sides.result in
    let h = box_at c.args.text.now c.args.first k.0 k.1 c.args.scale c.grid.result sides c.parts_stand.ensures c.box_here-sides.ensures.parts
    c.grid.ensures in (
      h.parts.along,
      h.parts.across,
      h.parts.centre,
      h.parts.direction,
      box_clear k.1.stands.here.command c.args.scale c.args.layer c.in-Some-layer.layer sides c.box_code.result h c.box_code.ensures c.in-None.is
          c.in-Some-layer.is,
    )

pub returns-in-Some-clause-fault : goal.returns-in-Some-clause-fault
returns-in-Some-clause-fault c = λ s end k d.
    let sides = c.box_here-sides.result in
    let h = box_at c.args.text.now c.args.first end k c.args.scale c.grid.result sides c.parts_stand.ensures c.box_here-sides.ensures.parts
    c.grid.ensures in
    box_fault s k.stands.here.command c.args.scale c.args.layer sides c.box_code.result (Some c.in-Some.code) h c.box_code.ensures c.in-Some.is d

pub returns-in-None-layer-clause-fault : goal.returns-in-None-layer-clause-fault
returns-in-None-layer-clause-fault c = λ s end k d.
    let sides = c.box_here-sides.result in
    let h = box_at c.args.text.now c.args.first end k c.args.scale c.grid.result sides c.parts_stand.ensures c.box_here-sides.ensures.parts
    c.grid.ensures in
    absurd (box_bare k.stands.here.command c.args.scale c.args.layer sides c.box_code.result h c.box_code.ensures c.in-None.is c.in-None-layer.is)

pub returns-in-Some-layer-clause-drawn : goal.returns-in-Some-layer-clause-drawn
returns-in-Some-layer-clause-drawn c = λ s end k d.
    let sides = c.box_here-sides.result in
    let h = box_at c.args.text.now c.args.first end k c.args.scale c.grid.result sides c.parts_stand.ensures c.box_here-sides.ensures.parts
    c.grid.ensures in
    box_leads s k.stands.here.command c.args.scale c.args.layer c.in-Some-layer.layer sides c.box_code.result c.box_of.result h
    c.box_code.ensures c.in-None.is
    c.in-Some-layer.is
    (c.box_of.ensures h.parts.along h.parts.across h.parts.centre h.parts.direction
    (box_clear k.stands.here.command c.args.scale c.args.layer c.in-Some-layer.layer sides c.box_code.result h c.box_code.ensures c.in-None.is
    c.in-Some-layer.is)) d
