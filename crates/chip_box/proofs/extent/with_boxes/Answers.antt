-- One box more.
use Rattle.std.proofs.Common.{◌<◌, ◌++◌, length, map, take, subst, arith}
use Rattle.cif_write.specs.WrittenChips.{shifted}
use Rattle.chip_box.specs.Extents.{IsExtent, Measures}
use Rattle.chip_box.proofs.Measuring.{measured_more, measured_all}
use Rattle.chip_box.proofs.extent.with_boxes.Goals as goal

pub loop-b-preserved : goal.loop-b-preserved
loop-b-preserved c measured h =
    let f = shifted c.args.call.x c.args.call.y in
    let i = c.loop-b.b-index in
    let boxes = c.args.boxes.now in
    let below : i < length boxes = omega arith in
    subst (λ l. Measures l c.with_box.result) (measured_more f measured boxes i c.b-item.result below c.b-item.is)
    (c.with_box.ensures (measured ++ map f (take i boxes)) (c.loop-b.invariant measured h))

pub returns : goal.returns
returns c measured h =
    let f = shifted c.args.call.x c.args.call.y in
    let boxes = c.args.boxes.now in
    subst (λ l. IsExtent l c.loop-b.extent) (measured_all f measured boxes c.loop-b.b-index (omega arith)) (c.loop-b.invariant measured h)
