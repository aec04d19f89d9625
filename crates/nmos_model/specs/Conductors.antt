-- The conducting squares of a raster as nodes: three numbers for each square of the frame, its metal, its poly and its diffusion.
use Rattle.std.specs.Prelude.{ℕ, zero, suc, ◌+◌, ◌-◌, ◌*◌, ◌/◌, ◌%◌, ◌&&◌, not, Bool, false, if◌then◌else◌, List, [], ◌∷◌, Option, Some, None}
use Rattle.geom.specs.declared.layer.Layer.{Layer}
use Rattle.geom.specs.declared.layer.Layer.TheVariants.{Diffusion, Poly, Metal, Cut, Implant}
use Rattle.nmos_model.specs.declared.raster.Cover.{Cover}
use Rattle.nmos_model.specs.Rasters.{cover_at}

-- squares in rows of this width
pub record Squares : Type 0 where
  pub width : ℕ
  pub covers : List Cover

-- the layer of a node
abbrev pub layer_of : ℕ → Layer
layer_of zero = Metal
layer_of (suc zero) = Poly
layer_of (suc (suc other)) = Diffusion

-- the square conducts in the layer
abbrev pub conducts : Layer → Cover → Bool
conducts Metal cover = cover.metal
conducts Poly cover = cover.poly
conducts Diffusion cover = cover.diffusion && not cover.poly
conducts Cut cover = false
conducts Implant cover = false

abbrev pub is_node : Squares → ℕ → Bool
is_node squares number = conducts (layer_of (number % 3)) (cover_at squares.covers (number / 3))

-- a link to a node, where this is one
abbrev pub link_to : Squares → ℕ → Option ℕ
link_to squares number = if is_node squares number then Some number else None

-- the node of another layer of the same square
abbrev pub other_layer : ℕ → ℕ → ℕ
other_layer number by = 3 * (number / 3) + (number % 3 + by) % 3

-- a link to another layer, under a cut
abbrev pub link_under : Squares → ℕ → ℕ → Option ℕ
link_under squares number by = if (cover_at squares.covers (number / 3)).cut then link_to squares (other_layer number by) else None

-- west, east, south, north, and to the two other layers
abbrev pub links : Squares → ℕ → List (Option ℕ)
links squares number =
    link_to squares (number - 3)
    ∷ link_to squares (number + 3)
    ∷ link_to squares (number - 3 * squares.width)
    ∷ link_to squares (number + 3 * squares.width)
    ∷ link_under squares number 1
    ∷ link_under squares number 2
    ∷ []
