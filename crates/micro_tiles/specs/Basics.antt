-- The basic tiles by name: wires by the sides to which they lead, metal first, then what it meets or crosses.
use Rattle.std.specs.Prelude.{◌≡◌, ℕ, ◌<◌, Bool, true, false, List, [], ◌∷◌, slice_index_or}
use Rattle.geom.specs.declared.layer.Layer.TheVariants as layers
use Rattle.micro_tiles.specs.declared.design.Arms.{Arms}
use Rattle.micro_tiles.specs.declared.design.Design.{Design}
use Rattle.micro_tiles.specs.declared.design.Design.TheVariants.{Empty, Metal, Poly, Crossing, Contact, Pass, Load}
use Rattle.micro_tiles.specs.declared.basic.Basic.{Basic}
use Rattle.micro_tiles.specs.declared.basic.Basic.TheVariants as basics

-- wires to these sides
abbrev pub arms : Bool → Bool → Bool → Bool → Arms
arms north east south west = record { north = north; east = east; south = south; west = west }

abbrev pub north : Arms
north = arms true false false false

abbrev pub east : Arms
east = arms false true false false

abbrev pub south : Arms
south = arms false false true false

abbrev pub west : Arms
west = arms false false false true

abbrev pub north_south : Arms
north_south = arms true false true false

abbrev pub east_west : Arms
east_west = arms false true false true

abbrev pub north_east_south : Arms
north_east_south = arms true true true false

abbrev pub south_west : Arms
south_west = arms false false true true

-- what each basic tile is made of
abbrev pub design_named : Basic → Design
design_named basics.Empty = Empty
design_named basics.MetalEastWest = Metal east_west
design_named basics.MetalEast = Metal east
design_named basics.MetalWest = Metal west
design_named basics.PolyNorthSouth = Poly north_south
design_named basics.PolyNorth = Poly north
design_named basics.PolySouth = Poly south
design_named basics.PolyNorthEastSouth = Poly north_east_south
design_named basics.PolySouthWest = Poly south_west
design_named basics.Crossing = Crossing east_west north_south
design_named basics.EastWestToPolyNorthSouth = Contact east_west layers.Poly north_south
design_named basics.EastWestToPolyNorth = Contact east_west layers.Poly north
design_named basics.EastWestToPolySouth = Contact east_west layers.Poly south
design_named basics.EastToPolyNorthSouth = Contact east layers.Poly north_south
design_named basics.EastToPolyNorth = Contact east layers.Poly north
design_named basics.EastToPolySouth = Contact east layers.Poly south
design_named basics.WestToPolyNorthSouth = Contact west layers.Poly north_south
design_named basics.WestToPolyNorth = Contact west layers.Poly north
design_named basics.WestToPolySouth = Contact west layers.Poly south
design_named basics.WestToPolyEast = Contact west layers.Poly east
design_named basics.EastWestToDiffusionNorth = Contact east_west layers.Diffusion north
design_named basics.EastWestToDiffusionSouth = Contact east_west layers.Diffusion south
design_named basics.EastToDiffusionNorth = Contact east layers.Diffusion north
design_named basics.EastToDiffusionSouth = Contact east layers.Diffusion south
design_named basics.WestToDiffusionNorth = Contact west layers.Diffusion north
design_named basics.WestToDiffusionSouth = Contact west layers.Diffusion south
design_named basics.Pass = Pass
design_named basics.Load = Load

-- its number in the table
abbrev pub number_named : Basic → ℕ
number_named basics.Empty = 0
number_named basics.MetalEastWest = 1
number_named basics.MetalEast = 2
number_named basics.MetalWest = 3
number_named basics.PolyNorthSouth = 4
number_named basics.PolyNorth = 5
number_named basics.PolySouth = 6
number_named basics.PolyNorthEastSouth = 7
number_named basics.PolySouthWest = 8
number_named basics.Crossing = 9
number_named basics.EastWestToPolyNorthSouth = 10
number_named basics.EastWestToPolyNorth = 11
number_named basics.EastWestToPolySouth = 12
number_named basics.EastToPolyNorthSouth = 13
number_named basics.EastToPolyNorth = 14
number_named basics.EastToPolySouth = 15
number_named basics.WestToPolyNorthSouth = 16
number_named basics.WestToPolyNorth = 17
number_named basics.WestToPolySouth = 18
number_named basics.WestToPolyEast = 19
number_named basics.EastWestToDiffusionNorth = 20
number_named basics.EastWestToDiffusionSouth = 21
number_named basics.EastToDiffusionNorth = 22
number_named basics.EastToDiffusionSouth = 23
number_named basics.WestToDiffusionNorth = 24
number_named basics.WestToDiffusionSouth = 25
number_named basics.Pass = 26
number_named basics.Load = 27

-- the designs of the basic tiles, in the order of their numbers
abbrev pub basic_designs : List Design
basic_designs =
    Empty
    ∷ Metal east_west
    ∷ Metal east
    ∷ Metal west
    ∷ Poly north_south
    ∷ Poly north
    ∷ Poly south
    ∷ Poly north_east_south
    ∷ Poly south_west
    ∷ Crossing east_west north_south
    ∷ Contact east_west layers.Poly north_south
    ∷ Contact east_west layers.Poly north
    ∷ Contact east_west layers.Poly south
    ∷ Contact east layers.Poly north_south
    ∷ Contact east layers.Poly north
    ∷ Contact east layers.Poly south
    ∷ Contact west layers.Poly north_south
    ∷ Contact west layers.Poly north
    ∷ Contact west layers.Poly south
    ∷ Contact west layers.Poly east
    ∷ Contact east_west layers.Diffusion north
    ∷ Contact east_west layers.Diffusion south
    ∷ Contact east layers.Diffusion north
    ∷ Contact east layers.Diffusion south
    ∷ Contact west layers.Diffusion north
    ∷ Contact west layers.Diffusion south
    ∷ Pass
    ∷ Load
    ∷ []

-- Each name is that of the tile with its design.
abbrev pub BasicTilesAreNamed : Type 0
BasicTilesAreNamed = (name : Basic) → (number_named name < 28) × (slice_index_or basic_designs (number_named name) Empty ≡ design_named name)
