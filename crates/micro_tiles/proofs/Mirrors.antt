-- Each tile's transpose is its mirror image.
use Rattle.std.proofs.Common.{◌≡◌, ◌↔◌, ℕ, ◌<◌, ℤ, pos, ◌-ℤ◌, Bool, true, false, not, ◌||◌, ◌==◌, List, [], ◌∷◌, ◌⊎◌, inl, inr, map, refl, ap, arith, if◌then◌else◌, slice_index_or}
use Rattle.std.proofs.lemmas.Int.{ints}
use Rattle.std.proofs.lemmas.Bool.{or_cases, eqb-true}
use Rattle.micro_tiles.proofs.EachTile.{each_tile, at_tile}
use Rattle.geom.specs.declared.layer.Layer.{Layer}
use Rattle.geom.specs.declared.layer.Layer.TheVariants.{Poly, Metal}
use Rattle.geom.specs.Squares.{BoxShape, Inside, Covered}
use Rattle.micro_tiles.specs.declared.design.Design.{Design}
use Rattle.micro_tiles.specs.declared.design.Design.TheVariants.{Empty}
use Rattle.micro_tiles.specs.declared.side.Side.{Side}
use Rattle.micro_tiles.specs.declared.side.Side.TheVariants.{North, East, South, West}
use Rattle.micro_tiles.specs.Basics.{basic_designs}
use Rattle.micro_tiles.specs.Sides.{mirrored_side}
use Rattle.micro_tiles.specs.Designs.{port_of, has_cut, uncut_net, side_net, transistor_of}
use Rattle.micro_tiles.specs.Boxes.{boxes_of, mirrored_box}
use Rattle.micro_tiles.specs.Table.{is_transpose, transpose_of, basic_of, design_of, boxes, port_at}
use Rattle.micro_tiles.specs.Transposes.{TransposesAreMirrored}

-- ---- numbers

abbrev unlike : Bool → Bool → Bool
unlike true b = not b
unlike false b = b

all_back : each_tile (λ tile. transpose_of (transpose_of tile) == tile) ≡ true
unfolding each_tile
all_back = refl

all_basic : each_tile (λ tile. basic_of (transpose_of tile) == basic_of tile) ≡ true
unfolding each_tile
all_basic = refl

-- the empty tile, or one of the two is a transpose
all_turned : each_tile (λ tile. (tile == 0) || unlike (is_transpose (transpose_of tile)) (is_transpose tile)) ≡ true
unfolding each_tile
all_turned = refl

back : (tile : ℕ) → tile < 55 → transpose_of (transpose_of tile) ≡ tile
back tile below = eqb-true (transpose_of (transpose_of tile)) tile (at_tile _ tile all_back below)

design_kept : (tile : ℕ) → tile < 55 → design_of (transpose_of tile) ≡ design_of tile
unfolding design_of
design_kept tile below = ap (λ n. slice_index_or basic_designs n Empty) (eqb-true (basic_of (transpose_of tile)) (basic_of tile)
    (at_tile _ tile all_basic below))

unlike_is : (a b : Bool) → unlike a b ≡ true → a ≡ not b
unlike_is true true h = cc
unlike_is true false h = refl
unlike_is false true h = refl
unlike_is false false h = cc

turned : (tile : ℕ) → tile < 55 → (tile ≡ 0) ⊎ (is_transpose (transpose_of tile) ≡ not (is_transpose tile))
turned tile below = elim (or_cases _ _
    (at_tile _ tile all_turned below)) [
      | inl empty ↦ inl (eqb-true tile 0 empty)
      | inr other ↦ inr (unlike_is (is_transpose (transpose_of tile)) (is_transpose tile) other)
    ]

-- ---- boxes

mirrored_twice : (b : BoxShape) → mirrored_box (mirrored_box b) ≡ b
mirrored_twice b =
    let x1 : pos 14 -ℤ (pos 14 -ℤ b.x1) ≡ b.x1 = omega (arith, ints) in
    let y1 : pos 14 -ℤ (pos 14 -ℤ b.y1) ≡ b.y1 = omega (arith, ints) in
    let x2 : pos 14 -ℤ (pos 14 -ℤ b.x2) ≡ b.x2 = omega (arith, ints) in
    let y2 : pos 14 -ℤ (pos 14 -ℤ b.y2) ≡ b.y2 = omega (arith, ints) in
    rw (x1, y1, x2, y2) refl

all_twice : (bs : List BoxShape) → map mirrored_box (map mirrored_box bs) ≡ bs
all_twice [] = refl
all_twice (b ∷ bs) = rw (mirrored_twice b, all_twice bs) refl

placed : (one other : Bool) (bs : List BoxShape) → other ≡ not one
    → (if other then map mirrored_box bs else bs) ≡ map mirrored_box (if one then map mirrored_box bs else bs)
placed true other bs e = rw (e, all_twice bs) refl
placed false other bs e = rw e refl

none_drawn : boxes_of (design_of 0) ≡ map mirrored_box (boxes_of (design_of 0))
unfolding design_of
none_drawn = refl

drawn : (tile : ℕ) → tile < 55 → boxes (transpose_of tile) ≡ map mirrored_box (boxes tile)
unfolding boxes
drawn tile below = elim (turned tile below) [
  | inl empty ↦ rw empty none_drawn
  | inr other ↦ rw (design_kept tile below) (placed (is_transpose tile) (is_transpose (transpose_of tile)) (boxes_of (design_of tile)) other)
]

-- ---- squares

in_mirrored : (b : BoxShape) (x y : ℤ) → Inside b x y ↔ Inside (mirrored_box b) (pos 13 -ℤ y) (pos 13 -ℤ x)
in_mirrored b x y = (
  λ i. record { left = omega (arith, ints); right = omega (arith, ints); bottom = omega (arith, ints); top = omega (arith, ints) },
  λ i. record { left = omega (arith, ints); right = omega (arith, ints); bottom = omega (arith, ints); top = omega (arith, ints) },
)

covered_mirrored : (bs : List BoxShape) (layer : Layer) (x y : ℤ) → Covered bs layer x y ↔ Covered (map mirrored_box bs) layer (pos 13 -ℤ y) (pos 13 -ℤ x)
covered_mirrored [] layer x y = (λ h. h, λ h. h)
covered_mirrored (b ∷ bs) layer x y = (
  λ h. elim h [ inl first ↦ inl (first.0, (in_mirrored b x y).0 first.1) | inr rest ↦ inr ((covered_mirrored bs layer x y).0 rest) ],
  λ h. elim h [ inl first ↦ inl (first.0, (in_mirrored b x y).1 first.1) | inr rest ↦ inr ((covered_mirrored bs layer x y).1 rest) ],
)

-- ---- sides

side_twice : (side : Side) → mirrored_side (mirrored_side side) ≡ side
side_twice North = refl
side_twice East = refl
side_twice South = refl
side_twice West = refl

ported : (one other : Bool) (design : Design) (side : Side) → other ≡ not one
    → (if other then port_of design (mirrored_side (mirrored_side side)) else port_of design (mirrored_side side))
    ≡ (if one then port_of design (mirrored_side side) else port_of design side)
ported true other design side e = rw e refl
ported false other design side e = rw (e, side_twice side) refl

no_port : (side : Side) → port_of (design_of 0) (mirrored_side side) ≡ port_of (design_of 0) side
unfolding design_of
no_port side = refl

port_kept : (tile : ℕ) (side : Side) → tile < 55 → port_at (transpose_of tile) (mirrored_side side) ≡ port_at tile side
port_kept tile side below = elim (turned tile below) [
  | inl empty ↦ rw empty (no_port side)
  | inr other ↦ rw (design_kept tile below) (ported (is_transpose tile) (is_transpose (transpose_of tile)) (design_of tile) side other)
]

net_kept : (design : Design) (side : Side) (layer : Layer) → side_net design (mirrored_side side) layer ≡ side_net design side layer
net_kept design side layer = by_cut (has_cut design) side layer
  where
    by_layer : (side : Side) (layer : Layer) → uncut_net (mirrored_side side) layer ≡ uncut_net side layer
    by_layer side Metal = refl
    by_layer side Poly = refl
    by_layer North _ = refl
    by_layer East _ = refl
    by_layer South _ = refl
    by_layer West _ = refl

    by_cut : (cuts : Bool) (side : Side) (layer : Layer) → (if cuts then 0 else uncut_net (mirrored_side side) layer) ≡ (if cuts then 0 else uncut_net side layer)
    by_cut true side layer = refl
    by_cut false side layer = by_layer side layer

pub transposes_are_mirrored : TransposesAreMirrored
transposes_are_mirrored tile below = record {
  back = back tile below;
  drawn = drawn tile below;
  squares = λ layer x y. rw (drawn tile below) (covered_mirrored (boxes tile) layer x y);
  port = λ side. port_kept tile side below;
  net = λ side layer. rw (design_kept tile below) (net_kept (design_of tile) side layer);
  transistor = ap transistor_of (design_kept tile below);
}

-- the sides of what is known to be the transpose
pub port_led : (tile made : ℕ) (side : Side) → tile < 55 → made ≡ transpose_of tile → port_at made (mirrored_side side) ≡ port_at tile side
port_led tile made side below e = rw e (port_kept tile side below)
