-- Slots that are empty are passed over, and the others counted.
use Rattle.std.proofs.Common.{◌≡◌, ◌∙◌, refl, sym, length, arith, rules}
use Rattle.std.proofs.lemmas.List.{drop_all}
use Rattle.micro_tiles.proofs.Present.{found, passed, skipped}
use Rattle.micro_tiles.proofs.boxes.box_of.Goals.{then-is_some+else-left-eq0, else-is_some}
use Rattle.micro_tiles.proofs.boxes.box_of.Goals as goal

pub loop-slot-init : goal.loop-slot-init
loop-slot-init c = refl

pub returns-then-left-eq0 : goal.returns-then-left-eq0
returns-then-left-eq0 c =
    let size : length c.slots-slot-items.result ≡ 6 = search rules in
    found c.slots-slot-items.result _ c.loop-slot.slot-index c.loop-slot.left c.args.index c.slot-item.result (omega arith)
    (sym c.is_some.ensures ∙ c.if-is_some.true) c.if-left-eq0.true c.slots-slot-items.ensures c.loop-slot.invariant

pub loop-slot-preserved : goal.loop-slot-preserved
loop-slot-preserved c =
    let size : length c.slots-slot-items.result ≡ 6 = search rules in
    elim c.if-is_some.branch [
      | then-is_some+else-left-eq0 w ↦ rw w.left-is (passed c.slots-slot-items.result c.loop-slot.slot-index c.loop-slot.left c.args.index c.slot-item.result (omega arith) (sym c.is_some.ensures ∙ w.if-is_some.true) (omega arith) c.loop-slot.invariant)
      | else-is_some w ↦ rw w.left-is (skipped c.slots-slot-items.result c.loop-slot.slot-index c.loop-slot.left c.args.index c.slot-item.result (omega arith) (sym c.is_some.ensures ∙ w.if-is_some.false) c.loop-slot.invariant)
    ]

pub returns : goal.returns
returns c =
    let size : length c.slots-slot-items.result ≡ 6 = search rules in
    let none = drop_all c.loop-slot.slot-index c.slots-slot-items.result (omega arith) in
    rw (← c.slots-slot-items.ensures, ← c.loop-slot.invariant, none) refl
