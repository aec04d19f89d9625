-- The tiles of wires: what they carry at their sides, and on which nets.
use Rattle.std.proofs.Common.{◌≡◌, ℕ, ◌<◌, Bool, true, false, ◌||◌, if◌then◌else◌, Option, Some, None, refl, ap, ◌∙◌, subst, arith}
use Rattle.std.specs.Prelude.{option_map}
use Rattle.geom.specs.declared.layer.Layer.{Layer}
use Rattle.geom.specs.declared.layer.Layer.TheVariants.{Diffusion, Poly, Metal, Cut, Implant}
use Rattle.micro_tiles.specs.declared.side.Port.{Port}
use Rattle.micro_tiles.specs.declared.side.Side.{Side}
use Rattle.micro_tiles.specs.declared.side.Side.TheVariants.{North, East, South, West}
use Rattle.micro_tiles.specs.Sides.{Carries, carries}
use Rattle.micro_tiles.specs.Basics.{number_named}
use Rattle.micro_tiles.specs.Designs.{side_net}
use Rattle.micro_tiles.specs.Nets.{named_net}
use Rattle.micro_tiles.specs.Table.{tile_count, design_of, port_at, transistor_at}
use Rattle.wiring.specs.Wirings.{wire_tile}

-- poly alone, or metal alone, where it leads there
abbrev pub poly_port : Bool → Port
poly_port t = record { metal = false; other = if t then Some Poly else None }

abbrev pub metal_port : Bool → Port
metal_port t = record { metal = t; other = None }

-- How wires meet in a tile: poly alone, metal that crosses it or passes beside it, and metal that ends on it.
pub data Fits : Bool → Bool → Bool → Bool → Bool → Type 0 where
  alone : (n s : Bool) → Fits n s false false false
  crossing : (n : Bool) → Fits n n true true false
  to_east : (n s : Bool) → (n || s) ≡ true → Fits n s false true true
  to_west : (n s : Bool) → (n || s) ≡ true → Fits n s true false true

-- The tile carries the wires, and nothing else.
pub record Has (n s w e k : Bool) (tile : ℕ) : Type 0 where
  pub north : port_at tile North ≡ poly_port n
  pub south : port_at tile South ≡ poly_port s
  pub west : port_at tile West ≡ metal_port w
  pub east : port_at tile East ≡ metal_port e
  pub of_metal : (side : Side) → side_net (design_of tile) side Metal ≡ 0
  pub of_poly : (side : Side) → side_net (design_of tile) side Poly ≡ (if k then 0 else 1)
  pub known : tile < tile_count
  pub none : transistor_at tile ≡ None

abbrev tile : Bool → Bool → Bool → Bool → Bool → ℕ
tile n s w e k = number_named (wire_tile n s w e k)

poly_alone : (n s : Bool) → Has n s false false false (tile n s false false false)
unfolding design_of
poly_alone true true =
    record { north = refl; south = refl; west = refl; east = refl; of_metal = λ z. refl; of_poly = λ z. refl; known = omega arith; none = refl }
poly_alone true false =
    record { north = refl; south = refl; west = refl; east = refl; of_metal = λ z. refl; of_poly = λ z. refl; known = omega arith; none = refl }
poly_alone false true =
    record { north = refl; south = refl; west = refl; east = refl; of_metal = λ z. refl; of_poly = λ z. refl; known = omega arith; none = refl }
poly_alone false false =
    record { north = refl; south = refl; west = refl; east = refl; of_metal = λ z. refl; of_poly = λ z. refl; known = omega arith; none = refl }

metal_crosses : (n : Bool) → Has n n true true false (tile n n true true false)
unfolding design_of
metal_crosses true =
    record { north = refl; south = refl; west = refl; east = refl; of_metal = λ z. refl; of_poly = λ z. refl; known = omega arith; none = refl }
metal_crosses false =
    record { north = refl; south = refl; west = refl; east = refl; of_metal = λ z. refl; of_poly = λ z. refl; known = omega arith; none = refl }

metal_to_east : (n s : Bool) → (n || s) ≡ true → Has n s false true true (tile n s false true true)
unfolding design_of
metal_to_east true true h =
    record { north = refl; south = refl; west = refl; east = refl; of_metal = λ z. refl; of_poly = λ z. refl; known = omega arith; none = refl }
metal_to_east true false h =
    record { north = refl; south = refl; west = refl; east = refl; of_metal = λ z. refl; of_poly = λ z. refl; known = omega arith; none = refl }
metal_to_east false true h =
    record { north = refl; south = refl; west = refl; east = refl; of_metal = λ z. refl; of_poly = λ z. refl; known = omega arith; none = refl }
metal_to_east false false h = absurd (cc)

metal_to_west : (n s : Bool) → (n || s) ≡ true → Has n s true false true (tile n s true false true)
unfolding design_of
metal_to_west true true h =
    record { north = refl; south = refl; west = refl; east = refl; of_metal = λ z. refl; of_poly = λ z. refl; known = omega arith; none = refl }
metal_to_west true false h =
    record { north = refl; south = refl; west = refl; east = refl; of_metal = λ z. refl; of_poly = λ z. refl; known = omega arith; none = refl }
metal_to_west false true h =
    record { north = refl; south = refl; west = refl; east = refl; of_metal = λ z. refl; of_poly = λ z. refl; known = omega arith; none = refl }
metal_to_west false false h = absurd (cc)

pub has_wires : (n s w e k : Bool) → Fits n s w e k → Has n s w e k (tile n s w e k)
has_wires _ _ _ _ _ (alone n s) = poly_alone n s
has_wires _ _ _ _ _ (crossing n) = metal_crosses n
has_wires _ _ _ _ _ (to_east n s h) = metal_to_east n s h
has_wires _ _ _ _ _ (to_west n s h) = metal_to_west n s h

-- ---- what is carried

-- The side carries this layer.
pub record Only (t : Bool) (one layer : Layer) : Type 0 where
  pub leads : t ≡ true
  pub is : layer ≡ one

by_poly : (t : Bool) (layer : Layer) → Carries (poly_port t) layer → Only t Poly layer
by_poly true Metal h = absurd (cc)
by_poly true Diffusion h = absurd (cc)
by_poly true Poly h = record { leads = refl; is = refl }
by_poly true Cut h = absurd (cc)
by_poly true Implant h = absurd (cc)
by_poly false Metal h = absurd (cc)
by_poly false Diffusion h = absurd (cc)
by_poly false Poly h = absurd (cc)
by_poly false Cut h = absurd (cc)
by_poly false Implant h = absurd (cc)

by_metal : (t : Bool) (layer : Layer) → Carries (metal_port t) layer → Only t Metal layer
by_metal t Metal h = record { leads = h; is = refl }
by_metal t Diffusion h = absurd (cc)
by_metal t Poly h = absurd (cc)
by_metal t Cut h = absurd (cc)
by_metal t Implant h = absurd (cc)

pub only_poly : (t : Bool) (p : Port) (layer : Layer) → p ≡ poly_port t → Carries p layer → Only t Poly layer
only_poly t p layer e h = by_poly t layer (subst (λ (q : Port). Carries q layer) e h)

pub only_metal : (t : Bool) (p : Port) (layer : Layer) → p ≡ metal_port t → Carries p layer → Only t Metal layer
only_metal t p layer e h = by_metal t layer (subst (λ (q : Port). Carries q layer) e h)

-- ---- what leads out

-- the net in one layer alone
abbrev pub in_poly : Option ℕ → Layer → Option ℕ
in_poly net Poly = net
in_poly net _ = None

abbrev pub in_metal : Option ℕ → Layer → Option ℕ
in_metal net Metal = net
in_metal net _ = None

-- The net leads out there, or none does.
pub record LeadsOut (t : Bool) (net : Option ℕ) (named : ℕ) : Type 0 where
  pub some : t ≡ true → Some named ≡ net
  pub no_net : t ≡ false → None ≡ net

out_at : (tile : ℕ) (side : Side) (name : ℕ → ℕ) (p : Port) (layer : Layer) → port_at tile side ≡ p
    → option_map name (named_net tile side layer)
    ≡ option_map name (if carries p layer then Some (side_net (design_of tile) side layer) else None)
out_at tile side name p layer e =
    ap (λ (q : Port). option_map name (if carries q layer then Some (side_net (design_of tile) side layer) else None)) e

pub poly_out : (t : Bool) (net : Option ℕ) (tile : ℕ) (side : Side) (name : ℕ → ℕ) → port_at tile side ≡ poly_port t
    → LeadsOut t net (name (side_net (design_of tile) side Poly)) → (layer : Layer)
    → option_map name (named_net tile side layer) ≡ in_poly net layer
poly_out t net tile side name e h layer = out_at tile side name (poly_port t) layer e ∙ by_layer t h layer
  where
    by_layer : (u : Bool) → LeadsOut u net (name (side_net (design_of tile) side Poly)) → (l : Layer)
        → option_map name (if carries (poly_port u) l then Some (side_net (design_of tile) side l) else None) ≡ in_poly net l
    by_layer true g Metal = refl
    by_layer true g Diffusion = refl
    by_layer true g Poly = g.some refl
    by_layer true g Cut = refl
    by_layer true g Implant = refl
    by_layer false g Metal = refl
    by_layer false g Diffusion = refl
    by_layer false g Poly = g.no_net refl
    by_layer false g Cut = refl
    by_layer false g Implant = refl

pub metal_out : (t : Bool) (net : Option ℕ) (tile : ℕ) (side : Side) (name : ℕ → ℕ) → port_at tile side ≡ metal_port t
    → LeadsOut t net (name (side_net (design_of tile) side Metal)) → (layer : Layer)
    → option_map name (named_net tile side layer) ≡ in_metal net layer
metal_out t net tile side name e h layer = out_at tile side name (metal_port t) layer e ∙ by_layer t h layer
  where
    by_layer : (u : Bool) → LeadsOut u net (name (side_net (design_of tile) side Metal)) → (l : Layer)
        → option_map name (if carries (metal_port u) l then Some (side_net (design_of tile) side l) else None) ≡ in_metal net l
    by_layer true g Metal = g.some refl
    by_layer true g Diffusion = refl
    by_layer true g Poly = refl
    by_layer true g Cut = refl
    by_layer true g Implant = refl
    by_layer false g Metal = g.no_net refl
    by_layer false g Diffusion = refl
    by_layer false g Poly = refl
    by_layer false g Cut = refl
    by_layer false g Implant = refl
