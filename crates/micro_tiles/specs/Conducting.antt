-- Tests of what covers and what conducts at a square of a tile.
use Rattle.std.specs.Prelude.{ℕ, ℤ, int_le, int_lt, Bool, false, not, ◌&&◌}
use Rattle.std.specs.List.{list_any}
use Rattle.geom.specs.declared.layer.Layer.{Layer}
use Rattle.geom.specs.declared.layer.Layer.TheVariants.{Diffusion, Poly, Metal, Cut, Implant}
use Rattle.geom.specs.Squares.{BoxShape}
use Rattle.micro_tiles.specs.Sides.{same}
use Rattle.micro_tiles.specs.Table.{boxes}

-- whether a square lies between two edges
abbrev pub is_between : ℤ → ℤ → ℤ → Bool
is_between from to at = int_le from at && int_lt at to

-- whether the square lies in the box, whatever its layer
abbrev pub is_inside : BoxShape → ℤ → ℤ → Bool
is_inside b x y = is_between b.x1 b.x2 x && is_between b.y1 b.y2 y

-- whether the box covers the square in the layer
abbrev pub covers : Layer → ℤ → ℤ → BoxShape → Bool
covers layer x y b = same b.layer layer && is_inside b x y

-- whether some box of the tile does
abbrev pub is_covered : ℕ → Layer → ℤ → ℤ → Bool
is_covered tile layer x y = list_any (covers layer x y) (boxes tile)

-- whether the square of the tile conducts in the layer
abbrev pub conducts : ℕ → Layer → ℤ → ℤ → Bool
conducts tile Metal x y = is_covered tile Metal x y
conducts tile Poly x y = is_covered tile Poly x y
conducts tile Diffusion x y = is_covered tile Diffusion x y && not (is_covered tile Poly x y)
conducts tile Cut x y = false
conducts tile Implant x y = false
