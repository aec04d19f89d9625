-- The calls so far are measured.
use Rattle.std.proofs.Common.{take}
use Rattle.std.specs.Prelude.{flat_map, slice_get}
use Rattle.cif_write.specs.WrittenChips.{kind_at}
use Rattle.chip_box.specs.Extents.{IsExtent}
use Rattle.chip_box.proofs.extent.box_of.Given as goal

abbrev pub invariant-loop-call : goal.invariant-loop-call
invariant-loop-call l = IsExtent (flat_map (λ call. kind_at call (slice_get l.chip.kinds call.kind)) (take l.call-index l.chip.calls)) l.extent
