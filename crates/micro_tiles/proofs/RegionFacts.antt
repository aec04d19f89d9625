-- The transistors of every tile.
use Rattle.std.proofs.Common.{◌≡◌, ◌↔◌, ℕ, ◌<◌, ℤ, pos, ◌≤ℤ◌, ◌<ℤ◌, int_le, int_lt, Bool, true, false, not, ◌&&◌, ◌==◌, List, Option, Some, None, refl, sym, subst, arith, if◌then◌else◌}
use Rattle.std.proofs.lemmas.Int.{ints}
use Rattle.std.proofs.lemmas.Bool.{and_parts, eqb-true, not-true}
use Rattle.micro_tiles.proofs.EachSide.{each_side, at_side}
use Rattle.micro_tiles.proofs.EachTile.{each_tile, at_tile}
use Rattle.geom.specs.declared.layer.Layer.TheVariants.{Diffusion, Poly, Implant}
use Rattle.geom.specs.Squares.{Covered, BoxShape, Inside}
use Rattle.micro_tiles.specs.declared.side.Side.{Side}
use Rattle.micro_tiles.specs.declared.side.Side.TheVariants.{North, East, South, West}
use Rattle.micro_tiles.specs.declared.device.Mode.{Mode}
use Rattle.micro_tiles.specs.declared.device.Mode.TheVariants.{Enhancement, Depletion}
use Rattle.micro_tiles.specs.declared.device.Transistor.{Transistor}
use Rattle.micro_tiles.specs.Designs.{has_cut}
use Rattle.geom.specs.Conduction.{IsChannel}
use Rattle.micro_tiles.specs.Nets.{in_first_half}
use Rattle.micro_tiles.specs.Regions.{channel_box, beside, grown, is_end, end_net, length_of, width_of, length_by, width_by, IsImplanted, IsTransistor, TransistorsAreWhole, ChannelsAreTransistors}
use Rattle.micro_tiles.specs.Table.{is_transpose, design_of, boxes, transistor_at}
use Rattle.micro_tiles.proofs.BoxTests.{each, some, holds, avoids, filled, clear, meets_in, each_two, meeting}
use Rattle.micro_tiles.proofs.ShapeFacts.{nothing, poly_avoids_diffusion}

-- ---- tests

abbrev end_passes : List BoxShape → BoxShape → Side → Bool
end_passes bs r side = some Diffusion (holds (beside r side (pos 1))) bs && each Poly (avoids (beside r side (pos 1))) bs

abbrev edge_passes : List BoxShape → BoxShape → Side → Bool
edge_passes bs r side = some Poly (holds (beside r side (pos 2))) bs && each Diffusion (avoids (beside r side (pos 2))) bs

abbrev side_passes : List BoxShape → Bool → BoxShape → Side → Bool
side_passes bs transpose r side = if is_end transpose side then end_passes bs r side else edge_passes bs r side

abbrev implant_passes : Mode → List BoxShape → BoxShape → Bool
implant_passes Enhancement bs r = each Implant (λ b. false) bs
implant_passes Depletion bs r = some Implant (holds (grown r (pos 2))) bs

abbrev channel_passes : List BoxShape → BoxShape → Bool
channel_passes bs r = each_two Diffusion Poly (meets_in r) bs bs && some Diffusion (holds r) bs && some Poly (holds r) bs

abbrev sides_pass : List BoxShape → Bool → BoxShape → Bool
sides_pass bs transpose r = each_side (side_passes bs transpose r)

abbrev nets_pass : Transistor → Bool
nets_pass t = (t.gate == 1) && (t.first == 2) && (t.second == 3)

abbrev transistor_passes : List BoxShape → Bool → Bool → Transistor → Bool
transistor_passes bs transpose cuts t = channel_passes bs (channel_box t.mode transpose) && sides_pass bs transpose (channel_box t.mode transpose)
    && implant_passes t.mode bs (channel_box t.mode transpose) && nets_pass t && not cuts

abbrev passes_if : List BoxShape → Bool → Bool → Option Transistor → Bool
passes_if bs transpose cuts None = true
passes_if bs transpose cuts (Some t) = transistor_passes bs transpose cuts t

all_pass : each_tile (λ tile. passes_if (boxes tile) (is_transpose tile) (has_cut (design_of tile)) (transistor_at tile)) ≡ true
unfolding each_tile boxes design_of
all_pass = refl

-- what the tests tell of a tile with this transistor
pub record Passed (tile : ℕ) (t : Transistor) : Type 0 where
  pub channel : channel_passes (boxes tile) (channel_box t.mode (is_transpose tile)) ≡ true
  pub sides : sides_pass (boxes tile) (is_transpose tile) (channel_box t.mode (is_transpose tile)) ≡ true
  pub implant : implant_passes t.mode (boxes tile) (channel_box t.mode (is_transpose tile)) ≡ true
  pub nets : nets_pass t ≡ true
  pub uncut : has_cut (design_of tile) ≡ false

pub passed : (tile : ℕ) (t : Transistor) → tile < 55 → transistor_at tile ≡ Some t → Passed tile t
passed tile t below is =
    let all : passes_if (boxes tile) (is_transpose tile) (has_cut (design_of tile)) (Some t) ≡ true =
    subst (λ (o : Option Transistor). passes_if (boxes tile) (is_transpose tile) (has_cut (design_of tile)) o ≡ true) is (at_tile _ tile all_pass below) in
    let r = channel_box t.mode (is_transpose tile) in
    let cuts = and_parts _ _ all in
    let nets = and_parts _ _ cuts.0 in
    let implant = and_parts _ _ nets.0 in
    let sides = and_parts _ _ implant.0 in
    record { channel = sides.0; sides = sides.1; implant = implant.1; nets = nets.1; uncut = not-true (has_cut (design_of tile)) cuts.1 }

-- ---- the rectangle

channel_is : (bs : List BoxShape) (r : BoxShape) → channel_passes bs r ≡ true → (x y : ℤ) → IsChannel (Covered bs) x y ↔ Inside r x y
channel_is bs r h x y =
    let poly = and_parts _ _ h in
    let diffusion = and_parts _ _ poly.0 in (
      λ c. meeting Diffusion Poly bs r diffusion.0 x y c.diffusion c.poly,
      λ i. record { diffusion = filled Diffusion bs r diffusion.1 x y i; poly = filled Poly bs r poly.1 x y i },
    )

end_of : (bs : List BoxShape) (r : BoxShape) (side : Side) (t : Bool) → t ≡ true
    → (if t then end_passes bs r side else edge_passes bs r side) ≡ true → end_passes bs r side ≡ true
end_of bs r side true e h = h
end_of bs r side false e h = cc

edge_of : (bs : List BoxShape) (r : BoxShape) (side : Side) (t : Bool) → t ≡ false
    → (if t then end_passes bs r side else edge_passes bs r side) ≡ true → edge_passes bs r side ≡ true
edge_of bs r side true e h = cc
edge_of bs r side false e h = h

implanted : (mode : Mode) (bs : List BoxShape) (r : BoxShape) → implant_passes mode bs r ≡ true → IsImplanted mode bs r
implanted Enhancement bs r h = λ x y c. nothing Implant bs x y h c
implanted Depletion bs r h = filled Implant bs (grown r (pos 2)) h

long : (mode : Mode) (transpose : Bool) → length_of transpose (channel_box mode transpose) ≡ length_by mode
long Enhancement true = refl
long Enhancement false = refl
long Depletion true = refl
long Depletion false = refl

broad : (mode : Mode) (transpose : Bool) → width_of transpose (channel_box mode transpose) ≡ width_by mode
broad Enhancement true = refl
broad Enhancement false = refl
broad Depletion true = refl
broad Depletion false = refl

-- ---- the halves of the tile

pub le_is : (a b : ℤ) → a ≤ℤ b → int_le a b ≡ true
le_is a b h = grind (arith, ints)

pub le_not : (a b : ℤ) → b <ℤ a → int_le a b ≡ false
le_not a b h = grind (arith, ints)

pub lt_is : (a b : ℤ) → a <ℤ b → int_lt a b ≡ true
lt_is a b h = grind (arith, ints)

pub lt_not : (a b : ℤ) → b ≤ℤ a → int_lt a b ≡ false
lt_not a b h = grind (arith, ints)

-- the first terminal is at the side
abbrev is_first : Side → Bool
is_first North = true
is_first West = true
is_first South = false
is_first East = false

-- the squares beside an end lie in its half
end_half : (mode : Mode) (transpose : Bool) (side : Side) (x y : ℤ) → is_end transpose side ≡ true
    → Inside (beside (channel_box mode transpose) side (pos 1)) x y → in_first_half transpose x y ≡ is_first side
end_half Enhancement false North x y e i = le_is (pos 7) y (omega (arith, ints))
end_half Enhancement false South x y e i = le_not (pos 7) y (omega (arith, ints))
end_half Enhancement true West x y e i = lt_is x (pos 7) (omega (arith, ints))
end_half Enhancement true East x y e i = lt_not x (pos 7) (omega (arith, ints))
end_half Depletion false North x y e i = le_is (pos 7) y (omega (arith, ints))
end_half Depletion false South x y e i = le_not (pos 7) y (omega (arith, ints))
end_half Depletion true West x y e i = lt_is x (pos 7) (omega (arith, ints))
end_half Depletion true East x y e i = lt_not x (pos 7) (omega (arith, ints))
end_half mode false East x y e i = cc
end_half mode false West x y e i = cc
end_half mode true North x y e i = cc
end_half mode true South x y e i = cc

-- the numbers of the nets of a transistor
pub record HasNumbers (t : Transistor) : Type 0 where
  pub gate : t.gate ≡ 1
  pub first : t.first ≡ 2
  pub second : t.second ≡ 3

pub numbers : (t : Transistor) → nets_pass t ≡ true → HasNumbers t
numbers t h =
    let second = and_parts _ _ h in
    let first = and_parts _ _ second.0 in
    record { gate = eqb-true t.gate 1 first.0; first = eqb-true t.first 2 first.1; second = eqb-true t.second 3 second.1 }

numbered_end : (t : Transistor) (side : Side) → HasNumbers t → (if is_first side then 2 else 3) ≡ end_net t side
numbered_end t North n = sym n.first
numbered_end t West n = sym n.first
numbered_end t South n = sym n.second
numbered_end t East n = sym n.second

-- ---- the whole

pub whole : (tile : ℕ) (t : Transistor) → Passed tile t → IsTransistor tile t (channel_box t.mode (is_transpose tile))
whole tile t p =
    let r = channel_box t.mode (is_transpose tile) in
    let n = numbers t p.nets in
    record {
      channel = channel_is (boxes tile) r p.channel;
      length = long t.mode (is_transpose tile);
      width = broad t.mode (is_transpose tile);
      implant = implanted t.mode (boxes tile) r p.implant;
      gate = λ x y i. rw p.uncut (sym n.gate);
      terminal = λ side x y e i.
          let two = and_parts _ _ (end_of (boxes tile) r side (is_end (is_transpose tile) side) e (at_side (side_passes (boxes tile) (is_transpose tile) r) side p.sides)) in
          (filled Diffusion (boxes tile) (beside r side (pos 1)) two.0 x y i, clear Poly (boxes tile) (beside r side (pos 1)) two.1 x y i);
      net = λ side x y e i. rw (p.uncut, end_half t.mode (is_transpose tile) side x y e i) (numbered_end t side n);
      overhang = λ side x y e i.
          let two = and_parts _ _ (edge_of (boxes tile) r side (is_end (is_transpose tile) side) e (at_side (side_passes (boxes tile) (is_transpose tile) r) side p.sides)) in
          filled Poly (boxes tile) (beside r side (pos 2)) two.0 x y i;
      bare = λ side x y e i c.
          let two = and_parts _ _ (edge_of (boxes tile) r side (is_end (is_transpose tile) side) e (at_side (side_passes (boxes tile) (is_transpose tile) r) side p.sides)) in
          clear Diffusion (boxes tile) (beside r side (pos 2)) two.1 x y i c;
    }

pub transistors_are_whole : TransistorsAreWhole
transistors_are_whole tile t below is = whole tile t (passed tile t below is)

pub channels_are_transistors : ChannelsAreTransistors
channels_are_transistors tile x y below c = poly_avoids_diffusion tile x y x y below c.poly c.diffusion
