-- Lists with the same entries are the same.
use Rattle.std.proofs.Common.{pos, refl, arith}
use Rattle.std.proofs.lemmas.List.{ext_get_or}
use Rattle.geom.specs.declared.layer.Layer.TheVariants.{Metal}
use Rattle.geom.specs.Squares.{BoxShape}
use Rattle.tree_chip.proofs.kind_numbers.same_boxes.Goals as goal

no_box : BoxShape
no_box = record { layer = Metal; x1 = pos 0; y1 = pos 0; x2 = pos 0; y2 = pos 0 }

pub returns : goal.returns
returns c = (
  λ h. ext_get_or no_box c.args.one.now c.args.other.now (omega arith) (λ i below. c.loop-at.invariant i no_box (omega arith)),
  λ e. refl,
)
