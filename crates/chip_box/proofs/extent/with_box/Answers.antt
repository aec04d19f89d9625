-- What was measured and the box.
use Rattle.std.proofs.Common.{◌∷◌, [], subst}
use Rattle.cif_write.specs.WrittenChips.{shifted}
use Rattle.chip_box.specs.Extents.{IsExtent}
use Rattle.chip_box.proofs.extent.with_box.Goals as goal

pub returns-in-Some : goal.returns-in-Some
returns-in-Some c measured h =
    c.joined.ensures measured (shifted c.args.call.x c.args.call.y c.args.b ∷ []) (subst (IsExtent measured) c.in-Some.is h) c.placed-own.ensures
