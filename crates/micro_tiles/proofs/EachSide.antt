-- A test of all four sides.
use Rattle.std.proofs.Common.{◌≡◌, Bool, true, ◌&&◌}
use Rattle.std.proofs.lemmas.Bool.{and_parts}
use Rattle.micro_tiles.specs.declared.side.Side.{Side}
use Rattle.micro_tiles.specs.declared.side.Side.TheVariants.{North, East, South, West}

-- each side passes
abbrev pub each_side : (Side → Bool) → Bool
each_side p = p North && p East && p South && p West

pub at_side : (p : Side → Bool) (side : Side) → each_side p ≡ true → p side ≡ true
at_side p side h =
    let west = and_parts _ _ h in
    let south = and_parts _ _ west.0 in
    let east = and_parts _ _ south.0 in
    elim side as (λ s. p s ≡ true) [ North ↦ east.0 | East ↦ east.1 | South ↦ south.1 | West ↦ west.1 ]
