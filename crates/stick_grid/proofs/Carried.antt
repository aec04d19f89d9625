-- Layers that ports carry, by tests, and the nets that lead out with them.
use Rattle.std.proofs.Common.{◌≡◌, ℕ, Bool, true, false, if◌then◌else◌, Option, Some, None, refl, sym, ap, subst}
use Rattle.std.specs.Prelude.{option_map, is_some}
use Rattle.geom.specs.declared.layer.Layer.{Layer}
use Rattle.geom.specs.declared.layer.Layer.TheVariants.{Diffusion, Poly, Metal, Cut, Implant}
use Rattle.micro_tiles.specs.declared.side.Port.{Port}
use Rattle.micro_tiles.specs.Sides.{Carries, carries, same, is_some_layer}

same_is : (a b : Layer) → same a b ≡ true → a ≡ b
same_is Diffusion Diffusion h = refl
same_is Poly Poly h = refl
same_is Metal Metal h = refl
same_is Cut Cut h = refl
same_is Implant Implant h = refl
same_is _ _ h = absurd (cc)

pub other_is : (other : Option Layer) (layer : Layer) → is_some_layer other layer ≡ true → other ≡ Some layer
other_is None layer h = absurd (cc)
other_is (Some l) layer h = ap (λ (x : Layer). Some x) (same_is l layer h)

pub carries_layer : (p : Port) (layer : Layer) → carries p layer ≡ true → Carries p layer
carries_layer p Metal h = h
carries_layer p Diffusion h = other_is p.other Diffusion h
carries_layer p Poly h = other_is p.other Poly h
carries_layer p Cut h = other_is p.other Cut h
carries_layer p Implant h = other_is p.other Implant h

is_layer : (other : Option Layer) (layer : Layer) → is_some_layer (Some layer) layer ≡ true → other ≡ Some layer → is_some_layer other layer ≡ true
is_layer other layer known e = subst (λ o. is_some_layer o layer ≡ true) (sym e) known

pub layer_carried : (p : Port) (layer : Layer) → Carries p layer → carries p layer ≡ true
layer_carried p Metal h = h
layer_carried p Diffusion h = is_layer p.other Diffusion refl h
layer_carried p Poly h = is_layer p.other Poly refl h
layer_carried p Cut h = is_layer p.other Cut refl h
layer_carried p Implant h = is_layer p.other Implant refl h

-- ---- what leads out, by name

module _ (name : ℕ → ℕ) (number : ℕ) where
  pub led_out : (t : Bool) → t ≡ true → option_map name (if t then Some number else None) ≡ Some (name number)
  led_out true e = refl
  led_out false e = absurd (cc)

  pub leads_out : (t : Bool) (net : ℕ) → option_map name (if t then Some number else None) ≡ Some net → (t ≡ true) × (name number ≡ net)
  leads_out true net h = (refl, cc)
  leads_out false net h = absurd (cc)

  pub led_test : (t : Bool) (rename : ℕ → ℕ) → is_some (option_map rename (option_map name (if t then Some number else None))) ≡ t
  led_test true rename = refl
  led_test false rename = refl
