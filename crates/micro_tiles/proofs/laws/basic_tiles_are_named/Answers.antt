-- The names of the basic tiles, one by one.
use Rattle.std.proofs.Common.{refl, arith}
use Rattle.micro_tiles.specs.declared.basic.Basic.TheVariants as basics
use Rattle.micro_tiles.specs.Basics.{BasicTilesAreNamed}
use Rattle.micro_tiles.proofs.laws.basic_tiles_are_named.Goals as goal

are_named : BasicTilesAreNamed
are_named basics.Empty = (omega arith, refl)
are_named basics.MetalEastWest = (omega arith, refl)
are_named basics.MetalEast = (omega arith, refl)
are_named basics.MetalWest = (omega arith, refl)
are_named basics.PolyNorthSouth = (omega arith, refl)
are_named basics.PolyNorth = (omega arith, refl)
are_named basics.PolySouth = (omega arith, refl)
are_named basics.PolyNorthEastSouth = (omega arith, refl)
are_named basics.PolySouthWest = (omega arith, refl)
are_named basics.Crossing = (omega arith, refl)
are_named basics.EastWestToPolyNorthSouth = (omega arith, refl)
are_named basics.EastWestToPolyNorth = (omega arith, refl)
are_named basics.EastWestToPolySouth = (omega arith, refl)
are_named basics.EastToPolyNorthSouth = (omega arith, refl)
are_named basics.EastToPolyNorth = (omega arith, refl)
are_named basics.EastToPolySouth = (omega arith, refl)
are_named basics.WestToPolyNorthSouth = (omega arith, refl)
are_named basics.WestToPolyNorth = (omega arith, refl)
are_named basics.WestToPolySouth = (omega arith, refl)
are_named basics.WestToPolyEast = (omega arith, refl)
are_named basics.EastWestToDiffusionNorth = (omega arith, refl)
are_named basics.EastWestToDiffusionSouth = (omega arith, refl)
are_named basics.EastToDiffusionNorth = (omega arith, refl)
are_named basics.EastToDiffusionSouth = (omega arith, refl)
are_named basics.WestToDiffusionNorth = (omega arith, refl)
are_named basics.WestToDiffusionSouth = (omega arith, refl)
are_named basics.Pass = (omega arith, refl)
are_named basics.Load = (omega arith, refl)

pub returns : goal.returns
returns c = are_named
