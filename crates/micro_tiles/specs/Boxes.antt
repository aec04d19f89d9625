-- The boxes of designs, by one rule. Coordinates are in λ from the lower left corner of the tile.
use Rattle.std.specs.Prelude.{ℕ, ℤ, pos, ◌-ℤ◌, ◌≤ℤ◌, ◌<ℤ◌, Bool, true, false, ◌||◌, List, [], ◌∷◌, ◌++◌, if◌then◌else◌}
use Rattle.geom.specs.declared.layer.Layer.{Layer}
use Rattle.geom.specs.declared.layer.Layer.TheVariants as layers
use Rattle.geom.specs.Squares.{BoxShape}
use Rattle.micro_tiles.specs.declared.design.Arms.{Arms}
use Rattle.micro_tiles.specs.declared.design.Design.{Design}
use Rattle.micro_tiles.specs.declared.design.Design.TheVariants.{Empty, Metal, Poly, Crossing, Contact, Pass, Load}

-- a box by its edges
abbrev pub box : Layer → ℕ → ℕ → ℕ → ℕ → BoxShape
box layer x1 y1 x2 y2 = record { layer = layer; x1 = pos x1; y1 = pos y1; x2 = pos x2; y2 = pos y2 }

-- the south or west edge of a wire: the border where it leads out, else 6 of poly and 5 of the other layers
abbrev pub near_edge : Layer → Bool → ℤ
near_edge layer true = pos 0
near_edge layers.Poly false = pos 6
near_edge layer false = pos 5

-- the north or east edge of a wire
abbrev pub far_edge : Layer → Bool → ℤ
far_edge layer true = pos 14
far_edge layers.Poly false = pos 8
far_edge layer false = pos 9

-- the box of the wires that lead north and south
abbrev pub upright : Layer → Arms → List BoxShape
upright layer arms = if arms.north || arms.south then record {
  layer = layer;
  x1 = near_edge layer false;
  y1 = near_edge layer arms.south;
  x2 = far_edge layer false;
  y2 = far_edge layer arms.north;
} ∷ [] else []

-- the box of the wires that lead east and west
abbrev pub level : Layer → Arms → List BoxShape
level layer arms = if arms.east || arms.west then record {
  layer = layer;
  x1 = near_edge layer arms.west;
  y1 = near_edge layer false;
  x2 = far_edge layer arms.east;
  y2 = far_edge layer false;
} ∷ [] else []

abbrev pub run : Layer → Arms → List BoxShape
run layer arms = upright layer arms ++ level layer arms

-- what widens a wire under a cut: poly is narrower than a contact
abbrev pub pad : Layer → List BoxShape
pad layers.Poly = box layers.Poly 5 5 9 9 ∷ []
pad _ = []

abbrev pub cut : BoxShape
cut = box layers.Cut 6 6 8 8

-- the boxes of a design
abbrev pub boxes_of : Design → List BoxShape
boxes_of Empty = []
boxes_of (Metal arms) = run layers.Metal arms
boxes_of (Poly arms) = run layers.Poly arms
boxes_of (Crossing metal arms) = run layers.Metal metal ++ run layers.Poly arms
boxes_of (Contact metal layer arms) = run layers.Metal metal ++ run layer arms ++ pad layer ++ cut ∷ []
boxes_of Pass = box layers.Diffusion 5 0 9 14 ∷ box layers.Poly 0 6 11 8 ∷ []
boxes_of Load = box layers.Diffusion 6 0 8 14 ∷ box layers.Poly 4 3 10 11 ∷ box layers.Poly 10 6 14 8 ∷ box layers.Implant 4 1 10 13 ∷ []

-- The mirror image of a box: the square (x, y) goes to (13 - y, 13 - x).
abbrev pub mirrored_box : BoxShape → BoxShape
mirrored_box b = record { layer = b.layer; x1 = pos 14 -ℤ b.y2; y1 = pos 14 -ℤ b.x2; x2 = pos 14 -ℤ b.y1; y2 = pos 14 -ℤ b.x1 }

-- The box is one of a tile: its edges are in order and not beyond the tile's.
pub record IsInTile (b : BoxShape) : Type 0 where
  pub left : pos 0 ≤ℤ b.x1
  pub across : b.x1 <ℤ b.x2
  pub right : b.x2 ≤ℤ pos 14
  pub bottom : pos 0 ≤ℤ b.y1
  pub upward : b.y1 <ℤ b.y2
  pub top : b.y2 ≤ℤ pos 14
