-- Each slot that is not empty counts for one box.
use Rattle.std.proofs.Common.{◌≡◌, ◌∙◌, refl, sym, length, drop, arith, rules}
use Rattle.std.proofs.lemmas.List.{at_drop_all}
use Rattle.micro_tiles.specs.Boxes.{boxes_of}
use Rattle.micro_tiles.specs.Slots.{present}
use Rattle.micro_tiles.specs.Table.{design_of}
use Rattle.micro_tiles.proofs.TableRows.{length_boxes}
use Rattle.micro_tiles.proofs.Present.{counted, uncounted}
use Rattle.micro_tiles.proofs.boxes.box_count.Goals.{then-is_some, else-is_some}
use Rattle.micro_tiles.proofs.boxes.box_count.Goals as goal

pub loop-slot-init : goal.loop-slot-init
loop-slot-init c = record { counted = omega arith; few = omega arith }

pub overflow_add-count : goal.overflow_add-count
overflow_add-count c = omega arith

pub loop-slot-preserved : goal.loop-slot-preserved
loop-slot-preserved c =
    let size : length c.slots-slot-items.result ≡ 6 = search rules in
    elim c.if-is_some.branch [
      | then-is_some w ↦ record {
        counted = rw w.count-is (counted c.slots-slot-items.result c.loop-slot.slot-index c.loop-slot.count c.slot-item.result (omega arith) (sym c.is_some.ensures ∙ w.if-is_some.true) c.loop-slot.invariant.counted);
        few = omega arith;
      }
      | else-is_some w ↦ record {
        counted = rw w.count-is (uncounted c.slots-slot-items.result c.loop-slot.slot-index c.loop-slot.count c.slot-item.result (omega arith) (sym c.is_some.ensures ∙ w.if-is_some.false) c.loop-slot.invariant.counted);
        few = omega arith;
      }
    ]

pub returns : goal.returns
returns c =
    let size : length c.slots-slot-items.result ≡ 6 = search rules in
    let none : length (present (drop c.loop-slot.slot-index c.slots-slot-items.result)) ≡ 0 = at_drop_all (λ slots. length (present slots)) c.slots-slot-items.result c.loop-slot.slot-index (omega arith) in
    let all : length (present c.slots-slot-items.result) ≡ length (boxes_of (design_of c.args.tile)) = rw (c.slots-slot-items.ensures, c.design.ensures) refl in
    let same = length_boxes c.args.tile in
    let counted = c.loop-slot.invariant.counted in
    omega arith
