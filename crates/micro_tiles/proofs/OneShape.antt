-- Every tile has one shape at most in each layer.
use Rattle.std.proofs.Common.{◌≡◌, ℕ, ◌<◌, Bool, true, refl}
use Rattle.micro_tiles.proofs.EachTile.{each_tile, at_tile}
use Rattle.geom.specs.declared.layer.Layer.{Layer}
use Rattle.geom.specs.declared.layer.Layer.TheVariants.{Diffusion, Poly, Metal, Cut, Implant}
use Rattle.geom.specs.Squares.{Covered}
use Rattle.geom.specs.Conduction.{IsOneClass, IsChannel}
use Rattle.micro_tiles.specs.Regions.{channel_box}
use Rattle.micro_tiles.specs.Shapes.{TilesHaveOneShape}
use Rattle.micro_tiles.specs.Table.{is_transpose, design_of, boxes}
use Rattle.micro_tiles.proofs.Paths.{shape_passes, one_class, through}
use Rattle.micro_tiles.proofs.RegionFacts.{transistors_are_whole, channels_are_transistors}

shape_of : Layer → ℕ → Bool
shape_of layer tile = shape_passes layer (boxes tile)

metal : each_tile (shape_of Metal) ≡ true
unfolding each_tile shape_of boxes design_of
metal = refl

poly : each_tile (shape_of Poly) ≡ true
unfolding each_tile shape_of boxes design_of
poly = refl

diffusion : each_tile (shape_of Diffusion) ≡ true
unfolding each_tile shape_of boxes design_of
diffusion = refl

cut : each_tile (shape_of Cut) ≡ true
unfolding each_tile shape_of boxes design_of
cut = refl

implant : each_tile (shape_of Implant) ≡ true
unfolding each_tile shape_of boxes design_of
implant = refl

all_pass : (layer : Layer) → each_tile (shape_of layer) ≡ true
all_pass Metal = metal
all_pass Poly = poly
all_pass Diffusion = diffusion
all_pass Cut = cut
all_pass Implant = implant

pub layer_shape : (tile : ℕ) (layer : Layer) → tile < 55 → IsOneClass (λ x y. Covered (boxes tile) layer x y)
unfolding shape_of
layer_shape tile layer below = one_class layer (boxes tile) (at_tile _ tile (all_pass layer) below)

channel_shape : (tile : ℕ) → tile < 55 → IsOneClass (λ x y. IsChannel (Covered (boxes tile)) x y)
channel_shape tile below = λ x y s t member other.
    let there = channels_are_transistors tile x y below member in
    let r = channel_box there.0.mode (is_transpose tile) in
    let w = transistors_are_whole tile there.0 below there.1 in
    through (IsChannel (Covered (boxes tile))) r (λ u v. (w.channel u v).1) x y s t ((w.channel x y).0 member) ((w.channel s t).0 other)

pub tiles_have_one_shape : TilesHaveOneShape
tiles_have_one_shape tile below = record { layer = λ layer. layer_shape tile layer below; channel = channel_shape tile below }
