-- Sides that carry the same layers have the same ports.
use Rattle.std.proofs.Common.{◌≡◌, ℕ, zero, suc, ◌&&◌, not, Bool, true, false, if◌then◌else◌, List, [], ◌∷◌, Option, Some, None, refl, sym, ap}
use Rattle.std.specs.Prelude.{slice_index_or}
use Rattle.std.specs.List.{list_all}
use Rattle.geom.specs.declared.layer.Layer.{Layer}
use Rattle.geom.specs.declared.layer.Layer.TheVariants.{Diffusion, Poly, Metal, Cut, Implant}
use Rattle.micro_tiles.specs.declared.design.Arms.{Arms}
use Rattle.micro_tiles.specs.declared.design.Design.{Design}
use Rattle.micro_tiles.specs.declared.design.Design.TheVariants as designs
use Rattle.micro_tiles.specs.declared.side.Side.{Side}
use Rattle.micro_tiles.specs.declared.side.Side.TheVariants.{North, East, South, West}
use Rattle.micro_tiles.specs.Sides.{carries, same, is_some_layer, mirrored_side}
use Rattle.micro_tiles.specs.Designs.{arm_at, led, port_of}
use Rattle.micro_tiles.specs.Basics.{basic_designs}
use Rattle.micro_tiles.specs.Table.{is_transpose, basic_of, design_of, port_at}
use Rattle.stick_grid.proofs.Carried.{other_is}

-- A layer beside metal is not metal.
abbrev metal_free : Design → Bool
metal_free (designs.Contact metal layer arms) = not (same layer Metal)
metal_free _ = true

abbrev NoMetal : Option Layer → Type 0
NoMetal other = other ≡ Some Metal → ⊥

led_layer : (layer : Layer) (arms : Arms) (side : Side) → same layer Metal ≡ false → NoMetal (led layer arms side)
led_layer layer arms side h = by_test (arm_at arms side)
  where
    by_test : (t : Bool) → NoMetal (if t then Some layer else None)
    by_test true e = let is : layer ≡ Metal = cc in let yes = ap (λ (l : Layer). same l Metal) is in cc
    by_test false e = cc

not_true : (t : Bool) → not t ≡ true → t ≡ false
not_true true h = cc
not_true false h = refl

design_port : (design : Design) → metal_free design ≡ true → (side : Side) → NoMetal (port_of design side).other
design_port designs.Empty h side e = cc
design_port (designs.Metal arms) h side e = cc
design_port (designs.Poly arms) h side e = led_layer Poly arms side refl e
design_port (designs.Crossing metal arms) h side e = led_layer Poly arms side refl e
design_port (designs.Contact metal layer arms) h side e = led_layer layer arms side (not_true (same layer Metal) h) e
design_port designs.Pass h North e = cc
design_port designs.Pass h East e = cc
design_port designs.Pass h South e = cc
design_port designs.Pass h West e = cc
design_port designs.Load h North e = cc
design_port designs.Load h East e = cc
design_port designs.Load h South e = cc
design_port designs.Load h West e = cc

both : (a b : Bool) → (a && b) ≡ true → (a ≡ true) × (b ≡ true)
both true b k = (refl, k)
both false b k = absurd (cc)

listed : (list : List Design) (i : ℕ) → list_all metal_free list ≡ true → metal_free (slice_index_or list i designs.Empty) ≡ true
listed [] i h = refl
listed (design ∷ list) zero h = (both (metal_free design) (list_all metal_free list) h).0
listed (design ∷ list) (suc i) h = listed list i (both (metal_free design) (list_all metal_free list) h).1

tile_free : (tile : ℕ) → metal_free (design_of tile) ≡ true
unfolding design_of
tile_free tile = listed basic_designs (basic_of tile) refl

tile_port : (tile : ℕ) (side : Side) → NoMetal (port_at tile side).other
tile_port tile side = by_test (is_transpose tile)
  where
    by_test : (t : Bool) → NoMetal (if t then port_of (design_of tile) (mirrored_side side) else port_of (design_of tile) side).other
    by_test true = design_port (design_of tile) (tile_free tile) (mirrored_side side)
    by_test false = design_port (design_of tile) (tile_free tile) side

same_other : (one other : Option Layer) → NoMetal one → NoMetal other → is_some_layer one Diffusion ≡ is_some_layer other Diffusion
    → is_some_layer one Poly ≡ is_some_layer other Poly → is_some_layer one Cut ≡ is_some_layer other Cut
    → is_some_layer one Implant ≡ is_some_layer other Implant → one ≡ other
same_other None None f g d p c i = refl
same_other None (Some Diffusion) f g d p c i = absurd (cc)
same_other None (Some Poly) f g d p c i = absurd (cc)
same_other None (Some Metal) f g d p c i = absurd (g refl)
same_other None (Some Cut) f g d p c i = absurd (cc)
same_other None (Some Implant) f g d p c i = absurd (cc)
same_other (Some Diffusion) other f g d p c i = sym (other_is other Diffusion (sym d))
same_other (Some Poly) other f g d p c i = sym (other_is other Poly (sym p))
same_other (Some Metal) other f g d p c i = absurd (f refl)
same_other (Some Cut) other f g d p c i = sym (other_is other Cut (sym c))
same_other (Some Implant) other f g d p c i = sym (other_is other Implant (sym i))

-- Two tiles carry the same at sides where they carry the same layers.
pub same_ports : (one other : ℕ) (side opposite : Side)
    → ((layer : Layer) → carries (port_at one side) layer ≡ carries (port_at other opposite) layer)
    → port_at one side ≡ port_at other opposite
same_ports one other side opposite each =
    let metal = each Metal in
    let rest = same_other (port_at one side).other (port_at other opposite).other (tile_port one side) (tile_port other opposite)
    (each Diffusion) (each Poly) (each Cut) (each Implant) in
    λ i. record { metal = metal i; other = rest i }
