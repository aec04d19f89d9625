-- Near pairs of a set are ahead one way or the other.
use Rattle.std.proofs.Common.{pos, arith}
use Rattle.std.proofs.lemmas.Int.{ints}
use Rattle.box_distances.proofs.Nears.{near_pairs_in}
use Rattle.box_distances.proofs.pairs.near_in.Goals as goal

pub returns : goal.returns
returns c = near_pairs_in c.boxes_are_numbered.ensures (pos c.args.reach) (omega (arith, ints)) c.args.set.now c.in_ok-found.ensures.one c.in_ok-found.found.items
    c.in_ok-found.ensures.ahead
