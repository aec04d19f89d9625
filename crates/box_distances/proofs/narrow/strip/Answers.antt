-- The box has the squares of the plane from its corner on.
use Rattle.std.proofs.Common.{refl}
use Rattle.std.proofs.lemmas.Int.{to_z-of_z}
use mir.Val.{SFits}
use mir.Syntax.{w64}
use Rattle.box_distances.proofs.Blocks.{strip_is}
use Rattle.box_distances.proofs.narrow.strip.Goals as goal

pub returns : goal.returns
returns c =
    let f : SFits w64 c.args.x1 = c.ranges.x1 in
    let g : SFits w64 c.args.y1 = c.ranges.y1 in
    strip_is c.args.x1 c.args.y1 _ (to_z-of_z w64 c.args.x1 f) (to_z-of_z w64 c.args.y1 g) refl refl c.requires.left c.requires.bottom
