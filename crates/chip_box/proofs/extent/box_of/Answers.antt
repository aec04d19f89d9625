-- What was measured is the boxes of all calls.
use Rattle.std.proofs.Common.{◌≡◌, ◌<◌, ◌≤◌, Some, pos, length, take, get_or, refl, sym, ap, subst, ◌∙◌, arith}
use Rattle.std.proofs.lemmas.Option.{slice_get_read}
use Rattle.std.specs.Prelude.{flat_map, slice_get}
use Rattle.geom.specs.declared.chip.Call.{Call}
use Rattle.cif_write.specs.WrittenChips.{chip_boxes, kind_at}
use Rattle.chip_box.specs.Extents.{IsExtent, IsMeasured, Measures}
use Rattle.chip_box.proofs.Measuring.{calls_more, calls_all, some_extent}
use Rattle.chip_box.proofs.Rectangles.{is_box}
use Rattle.chip_box.proofs.extent.box_of.Goals as goal

pub unwrap-requires : goal.unwrap-requires
unwrap-requires c =
    let chip = c.args.chip.now in
    let long = ap length c.calls-call-items.ensures in
    let low : length chip.calls ≤ c.loop-call.call-index = omega (arith, long) in
    some_extent (chip_boxes chip) c.loop-call.extent
    (subst (λ l. IsExtent l c.loop-call.extent) (calls_all chip.kinds chip.calls c.loop-call.call-index low) c.loop-call.invariant) c.requires.some

pub loop-call-preserved : goal.loop-call-preserved
loop-call-preserved c =
    let chip = c.args.chip.now in
    let i = c.loop-call.call-index in
    let items = c.calls-call-items.result.now in
    let same : items ≡ chip.calls = c.calls-call-items.ensures in
    let none : Call = record { kind = 0; x = pos 0; y = pos 0 } in
    let call = get_or items i none in
    let is : call ≡ get_or chip.calls i none = ap (λ l. get_or l i none) same in
    let below : i < length chip.calls = omega (arith, c.loop-call-test.true, ap length same) in
    let measured : IsMeasured (length chip.kinds) call = subst (IsMeasured (length chip.kinds)) (sym is) (c.requires.calls i none below) in
    let kind = c.index-kinds-call.result in
    let read : kind ≡ get_or chip.kinds call.kind kind = c.index-kinds-call.is ∙ ap (λ l. get_or l call.kind kind) c.kinds.ensures in
    let found : slice_get chip.kinds call.kind ≡ Some c.boxes.result.now =
    slice_get_read chip.kinds (length chip.kinds) call.kind kind refl measured.kind read ∙ ap Some (sym c.boxes.ensures) in
    subst (λ l. IsExtent l c.with_boxes-extent.result) (calls_more chip.kinds chip.calls i call none c.boxes.result.now below is found)
    (c.with_boxes-extent.ensures (flat_map (λ call. kind_at call (slice_get chip.kinds call.kind)) (take i chip.calls)) c.loop-call.invariant)

pub returns : goal.returns
returns c =
    let chip = c.args.chip.now in
    let long = ap length c.calls-call-items.ensures in
    let low : length chip.calls ≤ c.loop-call.call-index = omega (arith, long) in
    let measured : Measures (chip_boxes chip) c.unwrap.result =
    subst (IsExtent (chip_boxes chip)) c.unwrap.ensures
    (subst (λ l. IsExtent l c.loop-call.extent) (calls_all chip.kinds chip.calls c.loop-call.call-index low) c.loop-call.invariant) in
    let round = c.tiles_round.ensures in
    is_box (chip_boxes chip) c.unwrap.result c.tiles_round.result measured.surrounds round.west round.south round.east round.north
