-- The ports of every tile name the nets of the squares behind them.
use Rattle.std.proofs.Common.{◌≡◌, ℕ, ◌<◌, pos, Bool, true, not, ◌||◌, ◌==◌, inl, inr, refl, arith}
use Rattle.std.proofs.lemmas.Int.{ints}
use Rattle.std.proofs.lemmas.Bool.{or_cases, eqb-true}
use Rattle.micro_tiles.proofs.EachSide.{each_side, at_side}
use Rattle.micro_tiles.proofs.EachTile.{each_tile, at_tile}
use Rattle.geom.specs.declared.layer.Layer.{Layer}
use Rattle.geom.specs.declared.layer.Layer.TheVariants.{Diffusion, Poly, Metal, Cut, Implant}
use Rattle.micro_tiles.specs.declared.side.Side.{Side}
use Rattle.micro_tiles.specs.declared.side.Side.TheVariants.{North, East, South, West}
use Rattle.micro_tiles.specs.Sides.{Carries, carries}
use Rattle.micro_tiles.specs.Designs.{side_net}
use Rattle.micro_tiles.specs.Nets.{square_net, PortsNameNets}
use Rattle.micro_tiles.specs.Shapes.{IsInner}
use Rattle.micro_tiles.specs.Strips.{behind_x, behind_y, Behind}
use Rattle.micro_tiles.specs.Table.{design_of, boxes, port_at}
use Rattle.micro_tiles.proofs.ShapeFacts.{tiles_keep_inside}
use Rattle.micro_tiles.proofs.StripFacts.{tiles_have_strips, ports_lead_out_is}
use Rattle.micro_tiles.proofs.StripTests.{is_carried}

-- ---- numbers

-- the side does not carry the layer, or its number is that of the border's square 6
abbrev side_passes : Layer → ℕ → Side → Bool
side_passes layer tile side = not (carries (port_at tile side) layer)
    || (side_net (design_of tile) side layer == square_net tile layer (behind_x side (pos 0) (pos 6)) (behind_y side (pos 0) (pos 6)))

abbrev sides_pass : Layer → ℕ → Bool
sides_pass layer tile = each_side (side_passes layer tile)

metal : each_tile (sides_pass Metal) ≡ true
unfolding each_tile design_of
metal = refl

poly : each_tile (sides_pass Poly) ≡ true
unfolding each_tile design_of
poly = refl

diffusion : each_tile (sides_pass Diffusion) ≡ true
unfolding each_tile design_of
diffusion = refl

number : (layer : Layer) (tile : ℕ) (side : Side) → each_tile (sides_pass layer) ≡ true → tile < 55 → Carries (port_at tile side) layer
    → side_net (design_of tile) side layer ≡ square_net tile layer (behind_x side (pos 0) (pos 6)) (behind_y side (pos 0) (pos 6))
number layer tile side all below carried =
    let same = side_net (design_of tile) side layer == square_net tile layer (behind_x side (pos 0) (pos 6)) (behind_y side (pos 0) (pos 6)) in
    elim (or_cases (not (carries (port_at tile side) layer)) same (at_side (side_passes layer tile) side (at_tile (sides_pass layer) tile all below))) [
      | inl none ↦ let there = is_carried (port_at tile side) layer carried in let clash : not true ≡ true = rw there at none in cc
      | inr equal ↦ eqb-true (side_net (design_of tile) side layer) (square_net tile layer (behind_x side (pos 0) (pos 6)) (behind_y side (pos 0) (pos 6))) equal
    ]

-- ---- squares

-- a square at the border is not so far from it
outer : (side : Side) → IsInner (pos 3) (behind_x side (pos 0) (pos 6)) (behind_y side (pos 0) (pos 6)) → ⊥
outer North i = let top = i.top in omega (arith, ints)
outer East i = let right = i.right in omega (arith, ints)
outer South i = let bottom = i.bottom in omega (arith, ints)
outer West i = let left = i.left in omega (arith, ints)

pub ports_name_nets : PortsNameNets
ports_name_nets tile side Metal below carried = record {
  conducts = (tiles_have_strips tile side Metal below refl).sixth carried;
  number = number Metal tile side metal below carried;
}
ports_name_nets tile side Poly below carried = record {
  conducts = (tiles_have_strips tile side Poly below refl).sixth carried;
  number = number Poly tile side poly below carried;
}
ports_name_nets tile side Diffusion below carried =
    let d : Behind (boxes tile) Diffusion side (pos 0) (pos 6) = (tiles_have_strips tile side Diffusion below refl).sixth carried in
    record {
      conducts = (d, λ p. outer side ((tiles_keep_inside tile below).channel (behind_x side (pos 0) (pos 6)) (behind_y side (pos 0) (pos 6)) (record { diffusion = d; poly = p })));
      number = number Diffusion tile side diffusion below carried;
    }
ports_name_nets tile side Cut below carried = let out = ports_lead_out_is tile side Cut below carried in cc
ports_name_nets tile side Implant below carried = let out = ports_lead_out_is tile side Implant below carried in cc
