-- The difference of edges of the plane fits.
use Rattle.std.proofs.Common.{◌≡◌, pos, ◌-ℤ◌, refl, arith, rules}
use Rattle.std.proofs.lemmas.Int.{ints, to_z-of_z}
use mir.Val.{SFits}
use mir.Syntax.{w64}
use Rattle.box_distances.proofs.Reached.{fits_far}
use Rattle.box_distances.proofs.narrow.is_short.Goals as goal

pub returns : goal.returns
returns c =
    let ff : SFits w64 c.args.from = c.ranges.from in
    let ft : SFits w64 c.args.to = c.ranges.to in
    let low = c.requires.first in
    let order = c.requires.order in
    let high = c.requires.last in
    let fd : SFits w64 (c.args.to -ℤ c.args.from) = fits_far (c.args.to -ℤ c.args.from) (omega (arith, ints)) (omega (arith, ints)) in
    let fs : SFits w64 c.from.result = search rules in
    let e : c.from.result ≡ pos c.args.side = c.from.ensures in
    simp to_z-of_z (rw e refl)
