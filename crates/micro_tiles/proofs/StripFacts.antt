-- The strips of every tile of the table.
use Rattle.std.proofs.Common.{◌≡◌, ℕ, ◌<◌, Bool, true, Option, Some, None, refl}
use Rattle.geom.specs.declared.layer.Layer.{Layer}
use Rattle.geom.specs.declared.layer.Layer.TheVariants.{Diffusion, Poly, Metal, Cut, Implant}
use Rattle.micro_tiles.specs.declared.side.Side.{Side}
use Rattle.micro_tiles.specs.declared.side.Port.{Port}
use Rattle.micro_tiles.specs.Sides.{Carries}
use Rattle.micro_tiles.specs.Strips.{IsStrip, leads_out, TilesHaveStrips, PortsLeadOut}
use Rattle.micro_tiles.specs.Table.{tile_count, design_of, boxes, port_at}
use Rattle.micro_tiles.proofs.EachSide.{each_side, at_side}
use Rattle.micro_tiles.proofs.EachTile.{each_tile, at_tile}
use Rattle.micro_tiles.proofs.StripTests.{strips, strip_is}

sides_pass : Layer → ℕ → Bool
sides_pass layer tile = each_side (λ side. strips (boxes tile) (port_at tile side) side layer)

metal : each_tile (sides_pass Metal) ≡ true
unfolding each_tile sides_pass boxes design_of
metal = refl

poly : each_tile (sides_pass Poly) ≡ true
unfolding each_tile sides_pass boxes design_of
poly = refl

diffusion : each_tile (sides_pass Diffusion) ≡ true
unfolding each_tile sides_pass boxes design_of
diffusion = refl

strip_of : (layer : Layer) (tile : ℕ) (side : Side) → each_tile (sides_pass layer) ≡ true → tile < tile_count
    → IsStrip (boxes tile) (port_at tile side) side layer
unfolding sides_pass
strip_of layer tile side all below = strip_is (boxes tile) (port_at tile side) side layer
    (at_side (λ s. strips (boxes tile) (port_at tile s) s layer) side (at_tile (sides_pass layer) tile all below))

pub tiles_have_strips : TilesHaveStrips
tiles_have_strips tile side Metal below out = strip_of Metal tile side metal below
tiles_have_strips tile side Poly below out = strip_of Poly tile side poly below
tiles_have_strips tile side Diffusion below out = strip_of Diffusion tile side diffusion below
tiles_have_strips tile side Cut below out = cc
tiles_have_strips tile side Implant below out = cc

-- ---- ports

abbrev other_leads_out : Option Layer → Bool
other_leads_out None = true
other_leads_out (Some layer) = leads_out layer

ports_lead_out : ℕ → Bool
ports_lead_out tile = each_side (λ side. other_leads_out (port_at tile side).other)

all_lead_out : each_tile ports_lead_out ≡ true
unfolding each_tile ports_lead_out design_of
all_lead_out = refl

layer_leads_out : (port : Port) (layer : Layer) → other_leads_out port.other ≡ true → Carries port layer → leads_out layer ≡ true
layer_leads_out port Metal h carried = refl
layer_leads_out port Diffusion h carried = refl
layer_leads_out port Poly h carried = refl
layer_leads_out port Cut h carried = rw carried at h
layer_leads_out port Implant h carried = rw carried at h

pub ports_lead_out_is : PortsLeadOut
unfolding ports_lead_out
ports_lead_out_is tile side layer below carried = layer_leads_out (port_at tile side) layer
    (at_side (λ s. other_leads_out (port_at tile s).other) side (at_tile ports_lead_out tile all_lead_out below)) carried
