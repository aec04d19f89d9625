-- Every net of every tile reaches a side.
use Rattle.std.proofs.Common.{◌≡◌, ℕ, ◌<◌, ℤ, Bool, true, false, ◌&&◌, ◌||◌, List, inl, inr, refl}
use Rattle.std.proofs.lemmas.Bool.{and_parts, or_cases}
use Rattle.micro_tiles.proofs.EachTile.{each_tile, at_tile}
use Rattle.geom.specs.declared.layer.Layer.{Layer}
use Rattle.geom.specs.declared.layer.Layer.TheVariants.{Diffusion, Poly, Metal, Cut, Implant}
use Rattle.geom.specs.Squares.{BoxShape, Covered}
use Rattle.micro_tiles.specs.declared.side.Side.{Side}
use Rattle.micro_tiles.specs.declared.side.Side.TheVariants.{North, East, South, West}
use Rattle.micro_tiles.specs.declared.side.Port.{Port}
use Rattle.micro_tiles.specs.Sides.{carries}
use Rattle.micro_tiles.specs.Designs.{has_cut}
use Rattle.micro_tiles.specs.Nets.{in_first_half, ReachesSide, NetsReachSides}
use Rattle.micro_tiles.specs.Table.{is_transpose, design_of, boxes, port_at}
use Rattle.micro_tiles.proofs.BoxTests.{each}
use Rattle.micro_tiles.proofs.ShapeFacts.{nothing}
use Rattle.micro_tiles.proofs.StripTests.{carries_is}

-- some side carries the layer
abbrev some_side : (Side → Port) → Layer → Bool
some_side ports layer = carries (ports North) layer || carries (ports East) layer || carries (ports South) layer || carries (ports West) layer

-- both ends of a transistor carry diffusion
abbrev both_ends : (Side → Port) → Bool → Bool
both_ends ports false = carries (ports North) Diffusion && carries (ports South) Diffusion
both_ends ports true = carries (ports West) Diffusion && carries (ports East) Diffusion

abbrev layer_passes : Layer → List BoxShape → (Side → Port) → Bool
layer_passes layer bs ports = each layer (λ b. false) bs || some_side ports layer

abbrev ends_pass : Bool → List BoxShape → (Side → Port) → Bool → Bool
ends_pass cuts bs ports transpose = cuts || each Diffusion (λ b. false) bs || both_ends ports transpose

all_metal_pass : each_tile (λ tile. layer_passes Metal (boxes tile) (port_at tile)) ≡ true
unfolding each_tile boxes design_of
all_metal_pass = refl

all_poly_pass : each_tile (λ tile. layer_passes Poly (boxes tile) (port_at tile)) ≡ true
unfolding each_tile boxes design_of
all_poly_pass = refl

all_diffusion_pass : each_tile (λ tile. layer_passes Diffusion (boxes tile) (port_at tile)) ≡ true
unfolding each_tile boxes design_of
all_diffusion_pass = refl

all_ends_pass : each_tile (λ tile. ends_pass (has_cut (design_of tile)) (boxes tile) (port_at tile) (is_transpose tile)) ≡ true
unfolding each_tile boxes design_of
all_ends_pass = refl

side_of : (ports : Side → Port) (layer : Layer) → some_side ports layer ≡ true → (side : Side) × (carries (ports side) layer ≡ true)
side_of ports layer h = elim (or_cases _ _ h) [
  | inr west ↦ (West, west)
  | inl three ↦ elim (or_cases _ _ three) [
    | inr south ↦ (South, south)
    | inl two ↦ elim (or_cases _ _ two) [ inl north ↦ (North, north) | inr east ↦ (East, east) ]
  ]
]

module _ (tile : ℕ) (below : tile < 55) where
  metal_passes : layer_passes Metal (boxes tile) (port_at tile) ≡ true
  metal_passes = at_tile (λ t. layer_passes Metal (boxes t) (port_at t)) tile all_metal_pass below

  poly_passes : layer_passes Poly (boxes tile) (port_at tile) ≡ true
  poly_passes = at_tile (λ t. layer_passes Poly (boxes t) (port_at t)) tile all_poly_pass below

  diffusion_passes : layer_passes Diffusion (boxes tile) (port_at tile) ≡ true
  diffusion_passes = at_tile (λ t. layer_passes Diffusion (boxes t) (port_at t)) tile all_diffusion_pass below

  -- a layer that the tile has is carried by a side
  carried : (layer : Layer) (x y : ℤ) → layer_passes layer (boxes tile) (port_at tile) ≡ true → Covered (boxes tile) layer x y
      → (side : Side) × (carries (port_at tile side) layer ≡ true)
  carried layer x y h c = elim (or_cases _ _ h) [
    | inl none ↦ absurd (nothing layer (boxes tile) x y none c)
    | inr side ↦ side_of (port_at tile) layer side
  ]

  metal : (x y : ℤ) → Covered (boxes tile) Metal x y → ReachesSide tile Metal x y
  metal x y c =
      let s = carried Metal x y metal_passes c in
      record { side = s.0; carried = carries_is (port_at tile s.0) Metal s.1; number = refl }

  poly : (x y : ℤ) → Covered (boxes tile) Poly x y → ReachesSide tile Poly x y
  poly x y c =
      let s = carried Poly x y poly_passes c in
      record { side = s.0; carried = carries_is (port_at tile s.0) Poly s.1; number = refl }

  under_cut : (x y : ℤ) → has_cut (design_of tile) ≡ true → Covered (boxes tile) Diffusion x y → ReachesSide tile Diffusion x y
  under_cut x y cuts c =
      let s = carried Diffusion x y diffusion_passes c in
      record { side = s.0; carried = carries_is (port_at tile s.0) Diffusion s.1; number = rw cuts refl }

  -- the end in the square's half
  at_end : (transpose half : Bool) (x y : ℤ) → is_transpose tile ≡ transpose → in_first_half (is_transpose tile) x y ≡ half → has_cut (design_of tile) ≡ false
      → both_ends (port_at tile) transpose ≡ true → ReachesSide tile Diffusion x y
  at_end false true x y t e uncut h = record { side = North; carried = carries_is (port_at tile North) Diffusion (and_parts _ _ h).0; number = rw (uncut, e) refl }
  at_end false false x y t e uncut h = record { side = South; carried = carries_is (port_at tile South) Diffusion (and_parts _ _ h).1; number = rw (uncut, e) refl }
  at_end true true x y t e uncut h = record { side = West; carried = carries_is (port_at tile West) Diffusion (and_parts _ _ h).0; number = rw (uncut, e) refl }
  at_end true false x y t e uncut h = record { side = East; carried = carries_is (port_at tile East) Diffusion (and_parts _ _ h).1; number = rw (uncut, e) refl }

  diffusion : (cuts : Bool) (x y : ℤ) → has_cut (design_of tile) ≡ cuts → ends_pass cuts (boxes tile) (port_at tile) (is_transpose tile) ≡ true
      → Covered (boxes tile) Diffusion x y → ReachesSide tile Diffusion x y
  diffusion true x y cuts h c = under_cut x y cuts c
  diffusion false x y uncut h c = elim (or_cases _ _ h) [
    | inl none ↦ absurd (nothing Diffusion (boxes tile) x y none c)
    | inr ends ↦ at_end (is_transpose tile) (in_first_half (is_transpose tile) x y) x y refl refl uncut ends
  ]

pub nets_reach_sides : NetsReachSides
nets_reach_sides tile Metal x y below c = metal tile below x y c
nets_reach_sides tile Poly x y below c = poly tile below x y c
nets_reach_sides tile Diffusion x y below c = diffusion tile below (has_cut (design_of tile)) x y refl
    (at_tile _ tile all_ends_pass below) c.0
nets_reach_sides tile Cut x y below c = absurd c
nets_reach_sides tile Implant x y below c = absurd c
