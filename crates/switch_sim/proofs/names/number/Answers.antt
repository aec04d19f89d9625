use Rattle.std.proofs.Common.{◌∙◌, sym, arith}
use Rattle.switch_sim.proofs.Naming.{place_at, rising_least}
use Rattle.switch_sim.proofs.names.number.Goals as goal

pub overflow_cast-result : goal.overflow_cast-result
overflow_cast-result c =
    let at = place_at c.args.names.now c.args.net c.in-Some.at (sym c.place.ensures ∙ c.in-Some.is) in
    let least = rising_least c.args.names.now c.requires c.in-Some.at at.0 in
    let is = at.1 in
    let fits = c.ranges.net.fits in
    omega (arith, least, is, fits)
