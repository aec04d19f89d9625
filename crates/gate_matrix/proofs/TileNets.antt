-- The nets of tiles at the sides where they lead out, by a test of all sides and layers.
use Rattle.std.proofs.Common.{◌≡◌, ℕ, Bool, true, false, not, ◌&&◌, ◌||◌, if◌then◌else◌, Some, Option, refl, sym, subst}
use Rattle.geom.specs.declared.layer.Layer.{Layer}
use Rattle.geom.specs.declared.layer.Layer.TheVariants.{Diffusion, Poly, Metal, Cut, Implant}
use Rattle.micro_tiles.specs.declared.side.Port.{Port}
use Rattle.micro_tiles.specs.declared.side.Side.{Side}
use Rattle.micro_tiles.specs.declared.side.Side.TheVariants.{North, East, South, West}
use Rattle.micro_tiles.specs.declared.basic.Basic.{Basic}
use Rattle.micro_tiles.specs.declared.design.Design.{Design}
use Rattle.micro_tiles.specs.Sides.{Carries, carries, is_some_layer}
use Rattle.micro_tiles.specs.Designs.{has_cut, side_net}
use Rattle.micro_tiles.specs.Basics.{number_named}
use Rattle.micro_tiles.specs.Table.{design_of}
use Rattle.gate_matrix.proofs.Ports.{port}

-- the net at a side
abbrev pub net : Basic → Side → Layer → ℕ
net tile side layer = side_net (design_of (number_named tile)) side layer

-- Metal is net 0 wherever it leads out.
pub metal_net : (design : Design) (side : Side) → 0 ≡ side_net design side Metal
metal_net design side = elim (has_cut design) as (λ t. ◌≡◌ {A = ℕ} 0 (if t then 0 else 0)) [ true ↦ refl | false ↦ refl ]

-- ---- carried, as a test

some_layer : (other : Option Layer) (layer : Layer) → is_some_layer (Some layer) layer ≡ true → other ≡ Some layer → is_some_layer other layer ≡ true
some_layer other layer same e = subst (λ o. is_some_layer o layer ≡ true) (sym e) same

pub carried_true : (p : Port) (layer : Layer) → Carries p layer → carries p layer ≡ true
carried_true p Metal h = h
carried_true p Diffusion h = some_layer p.other Diffusion refl h
carried_true p Poly h = some_layer p.other Poly refl h
carried_true p Cut h = some_layer p.other Cut refl h
carried_true p Implant h = some_layer p.other Implant refl h

-- ---- all sides and layers

abbrev all_layers : (Layer → Bool) → Bool
all_layers f = f Diffusion && (f Poly && (f Metal && (f Cut && f Implant)))

abbrev all_sides : (Side → Bool) → Bool
all_sides f = f North && (f East && (f South && f West))

first : (a b : Bool) → (a && b) ≡ true → a ≡ true
first true b h = refl
first false b h = h

second : (a b : Bool) → (a && b) ≡ true → b ≡ true
second true b h = h
second false b h = absurd (cc)

at_layer : (f : Layer → Bool) → all_layers f ≡ true → (layer : Layer) → f layer ≡ true
at_layer f h Diffusion = first (f Diffusion) _ h
at_layer f h Poly = first (f Poly) _ (second (f Diffusion) _ h)
at_layer f h Metal = first (f Metal) _ (second (f Poly) _ (second (f Diffusion) _ h))
at_layer f h Cut = first (f Cut) _ (second (f Metal) _ (second (f Poly) _ (second (f Diffusion) _ h)))
at_layer f h Implant = second (f Cut) _ (second (f Metal) _ (second (f Poly) _ (second (f Diffusion) _ h)))

at_side : (f : Side → Bool) → all_sides f ≡ true → (side : Side) → f side ≡ true
at_side f h North = first (f North) _ h
at_side f h East = first (f East) _ (second (f North) _ h)
at_side f h South = first (f South) _ (second (f East) _ (second (f North) _ h))
at_side f h West = second (f South) _ (second (f East) _ (second (f North) _ h))

follows : (a b : Bool) → (not a || b) ≡ true → a ≡ true → b ≡ true
follows true b h e = h
follows false b h e = absurd (cc)

-- the nets of the tile that lead out pass the test
abbrev pub all_nets : Basic → (ℕ → Bool) → Bool
all_nets tile test = all_sides (λ side. all_layers (λ layer. not (carries (port tile side) layer) || test (net tile side layer)))

pub passes : (tile : Basic) (test : ℕ → Bool) → all_nets tile test ≡ true → (side : Side) (layer : Layer) → Carries (port tile side) layer
    → test (net tile side layer) ≡ true
passes tile test all side layer h =
    follows (carries (port tile side) layer) (test (net tile side layer))
    (at_layer (λ l. not (carries (port tile side) l) || test (net tile side l))
    (at_side (λ s. all_layers (λ l. not (carries (port tile s) l) || test (net tile s l))) all side) layer)
    (carried_true (port tile side) layer h)
