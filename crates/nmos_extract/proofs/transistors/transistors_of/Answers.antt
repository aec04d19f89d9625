-- Each box has its transistor, or none.
use Rattle.std.proofs.Common.{◌≡◌, ◌<◌, Bool, List, length, sym, ◌∙◌, ap, ap₂, subst, arith}
use Rattle.geom.specs.Squares.{BoxShape, Covered}
use Rattle.canonical_boxes.specs.Canonical.{IsAt}
use Rattle.nmos_extract.specs.Sides.{AreFreeBeside, AreHeldBeside, direction}
use Rattle.nmos_extract.proofs.Filled.{filled_more}
use Rattle.nmos_extract.proofs.BoxTransistors.{IsMade, are_transistors, made_by}
use Rattle.nmos_extract.proofs.transistors.transistors_of.Goals as goal

pub loop-at-preserved : goal.loop-at-preserved
loop-at-preserved c =
    let m : List BoxShape = c.args.squares.now in
    let n = c.loop-at.at in
    let b : BoxShape = c.index-boxes-at.result in
    let P : List BoxShape → Type 0 = λ bs. IsAt bs n b in
    let there : IsAt c.boxes-boxes.result.now n b = record { within = c.loop-at-test.true; is = sym c.index-boxes-at.is } in
    let at : IsAt m n b = subst P c.boxes-boxes.ensures.list there in
    filled_more (IsMade m c.in_ok-alone.alone c.in_ok-covers.covers c.in_ok-held.held c.in_ok-free.free) n c.transistor_of.result c.loop-at.found.items
    c.push.new.self.items c.in_ok-push.ensures.items
    (made_by m c.args.layers.now.implant c.in_ok-alone.alone c.in_ok-covers.covers c.in_ok-held.held c.in_ok-free.free n b c.transistor_of.result
    c.sides_at-lone.result c.index-under.result.now c.index-beside.result.now c.direction-upright.result at c.in_ok-covers.ensures c.transistor_of.ensures
    c.sides_at-lone.ensures c.index-under.ensures c.index-beside.ensures
    (c.direction-upright.ensures ∙ ap₂ direction c.sides_at.ensures c.sides_at-in-loop-at.ensures))
    c.loop-at.invariant

pub returns : goal.returns
returns c = λ boxes layers squares conduct.
    let m : List BoxShape = c.args.squares.now in
    let is = c.boxes-boxes.ensures.list in
    are_transistors c.boxes_are_numbered.ensures c.boxes_stand_for_squares.ensures.runs c.boxes_stand_for_squares.ensures.leads (Covered boxes) m
    c.boxes-boxes.ensures.canonical squares c.args.layers.now layers c.args.terminals.now conduct c.in_ok-alone.alone c.in_ok-covers.covers
    c.in_ok-held.held c.in_ok-free.free
    (subst (λ (bs : List BoxShape). AreFreeBeside m bs c.in_ok-alone.alone) is c.in_ok-alone.ensures)
    c.in_ok-covers.ensures
    (subst (λ (bs : List BoxShape). AreHeldBeside c.args.terminals.now bs c.in_ok-held.held) is c.in_ok-held.ensures)
    (subst (λ (bs : List BoxShape). AreFreeBeside c.args.layers.now.diffusion bs c.in_ok-free.free) is c.in_ok-free.ensures)
    c.loop-at.at c.loop-at.found.items (omega (arith, ap length is, c.loop-at-test.false)) (omega (arith, ap length is, c.loop-at.auto.at-end)) c.loop-at.invariant
