-- The strips behind the sides of tiles, by a test of each box.
use Rattle.std.proofs.Common.{◌≡◌, ℤ, pos, ◌-ℤ◌, ◌≤ℤ◌, ◌<ℤ◌, int_le, Bool, true, false, ◌&&◌, ◌||◌, List, Option, Some, None, inl, inr, refl, arith}
use Rattle.std.proofs.lemmas.Int.{ints}
use Rattle.std.proofs.lemmas.Bool.{and_parts, or_cases}
use Rattle.geom.specs.declared.layer.Layer.{Layer}
use Rattle.geom.specs.declared.layer.Layer.TheVariants.{Diffusion, Poly, Metal, Cut, Implant}
use Rattle.geom.specs.Squares.{BoxShape, Inside}
use Rattle.geom.specs.Rows.{Among}
use Rattle.micro_tiles.specs.declared.side.Side.{Side}
use Rattle.micro_tiles.specs.declared.side.Side.TheVariants.{North, East, South, West}
use Rattle.micro_tiles.specs.declared.side.Port.{Port}
use Rattle.micro_tiles.specs.Sides.{Carries, carries, is_some_layer}
use Rattle.micro_tiles.specs.Strips.{behind_x, behind_y, Behind, IsStrip}
use Rattle.micro_tiles.proofs.BoxTests.{le_true, same_eq, each, some, each_at, some_at, over, covered}

-- a box as a side sees it: by depths and by places
pub record Seen : Type 0 where
  pub near : ℤ
  pub far : ℤ
  pub from : ℤ
  pub to : ℤ

abbrev pub seen : Side → BoxShape → Seen
seen North b = record { near = pos 14 -ℤ b.y2; far = pos 14 -ℤ b.y1; from = b.x1; to = b.x2 }
seen East b = record { near = pos 14 -ℤ b.x2; far = pos 14 -ℤ b.x1; from = b.y1; to = b.y2 }
seen South b = record { near = b.y1; far = b.y2; from = b.x1; to = b.x2 }
seen West b = record { near = b.x1; far = b.x2; from = b.y1; to = b.y2 }

pub record IsSeen (s : Seen) (depth place : ℤ) : Type 0 where
  pub near : s.near ≤ℤ depth
  pub far : depth <ℤ s.far
  pub from : s.from ≤ℤ place
  pub to : place <ℤ s.to

is_seen : (side : Side) (b : BoxShape) (depth place : ℤ) → Inside b (behind_x side depth place) (behind_y side depth place) → IsSeen (seen side b) depth place
is_seen North b depth place i = record { near = omega (arith, ints); far = omega (arith, ints); from = i.left; to = i.right }
is_seen East b depth place i = record { near = omega (arith, ints); far = omega (arith, ints); from = i.bottom; to = i.top }
is_seen South b depth place i = record { near = i.bottom; far = i.top; from = i.left; to = i.right }
is_seen West b depth place i = record { near = i.left; far = i.right; from = i.bottom; to = i.top }

from_seen : (side : Side) (b : BoxShape) (depth place : ℤ) → IsSeen (seen side b) depth place → Inside b (behind_x side depth place) (behind_y side depth place)
from_seen North b depth place s = record { left = s.from; right = s.to; bottom = omega (arith, ints); top = omega (arith, ints) }
from_seen East b depth place s = record { left = omega (arith, ints); right = omega (arith, ints); bottom = s.from; top = s.to }
from_seen South b depth place s = record { left = s.from; right = s.to; bottom = s.near; top = s.far }
from_seen West b depth place s = record { left = s.near; right = s.far; bottom = s.from; top = s.to }

-- the box begins at the border and is a strip there
abbrev pub begins : Seen → Bool
begins s = int_le s.near (pos 0) && int_le (pos 3) s.far && int_le (pos 5) s.from && int_le s.from (pos 6) && int_le (pos 8) s.to && int_le s.to (pos 9)

pub record Begins (s : Seen) : Type 0 where
  pub near : s.near ≤ℤ pos 0
  pub far : pos 3 ≤ℤ s.far
  pub from : pos 5 ≤ℤ s.from
  pub sixth : s.from ≤ℤ pos 6
  pub seventh : pos 8 ≤ℤ s.to
  pub to : s.to ≤ℤ pos 9

begins_is : (s : Seen) → begins s ≡ true → Begins s
begins_is s h =
    let to = and_parts _ _ h in
    let seventh = and_parts _ _ to.0 in
    let sixth = and_parts _ _ seventh.0 in
    let from = and_parts _ _ sixth.0 in
    let far = and_parts _ _ from.0 in
    record {
      near = le_true s.near (pos 0) far.0;
      far = le_true (pos 3) s.far far.1;
      from = le_true (pos 5) s.from from.1;
      sixth = le_true s.from (pos 6) sixth.1;
      seventh = le_true (pos 8) s.to seventh.1;
      to = le_true s.to (pos 9) to.1;
    }

-- ---- whether a port carries a layer

some_layer_is : (o : Option Layer) (layer : Layer) → is_some_layer o layer ≡ true → o ≡ Some layer
some_layer_is None layer h = cc
some_layer_is (Some other) layer h = let e = same_eq other layer h in rw e refl

pub carries_is : (port : Port) (layer : Layer) → carries port layer ≡ true → Carries port layer
carries_is port Metal h = h
carries_is port Diffusion h = some_layer_is port.other Diffusion h
carries_is port Poly h = some_layer_is port.other Poly h
carries_is port Cut h = some_layer_is port.other Cut h
carries_is port Implant h = some_layer_is port.other Implant h

pub is_carried : (port : Port) (layer : Layer) → Carries port layer → carries port layer ≡ true
is_carried port Metal h = h
is_carried port Diffusion h = rw h refl
is_carried port Poly h = rw h refl
is_carried port Cut h = rw h refl
is_carried port Implant h = rw h refl

-- the box is a strip at the border of a port with the layer, or stays away
abbrev pub strip_or_away : Port → Side → Layer → BoxShape → Bool
strip_or_away port side layer b = int_le (pos 3) (seen side b).near || (begins (seen side b) && carries port layer)

-- there is a strip where the port carries the layer
abbrev pub strip_if : Bool → List BoxShape → Side → Layer → Bool
strip_if true boxes side layer = some layer (λ b. begins (seen side b)) boxes
strip_if false boxes side layer = true

abbrev pub strips : List BoxShape → Port → Side → Layer → Bool
strips boxes port side layer = each layer (strip_or_away port side layer) boxes && strip_if (carries port layer) boxes side layer

-- a box over a square less than 3 behind the side is a strip at its border
record StripOver (boxes : List BoxShape) (port : Port) (side : Side) (layer : Layer) (depth place : ℤ) : Type 0 where
  box : BoxShape
  among : Among boxes box
  is : box.layer ≡ layer
  begins : Begins (seen side box)
  carried : Carries port layer
  seen : IsSeen (seen side box) depth place

strip_over : (boxes : List BoxShape) (port : Port) (side : Side) (layer : Layer) (depth place : ℤ)
    → each layer (strip_or_away port side layer) boxes ≡ true → depth <ℤ pos 3
    → Behind boxes layer side depth place → StripOver boxes port side layer depth place
strip_over boxes port side layer depth place tests low h =
    let o = over layer boxes (behind_x side depth place) (behind_y side depth place) h in
    let s = is_seen side o.box depth place o.inside in
    elim (or_cases _ _ (each_at layer (strip_or_away port side layer) boxes o.box tests o.among o.is)) [
      | inl away ↦ let far = le_true (pos 3) (seen side o.box).near away in absurd (omega (arith, ints))
      | inr strip ↦
          let parts = and_parts _ _ strip in
          record { box = o.box; among = o.among; is = o.is; begins = begins_is (seen side o.box) parts.0; carried = carries_is port layer parts.1; seen = s }
    ]

-- that box covers all squares as far along the side, less than 3 behind it
along_strip : (boxes : List BoxShape) (port : Port) (side : Side) (layer : Layer) (depth place at : ℤ)
    → StripOver boxes port side layer depth place → pos 0 ≤ℤ at → at <ℤ pos 3 → Behind boxes layer side at place
along_strip boxes port side layer depth place at s low high =
    let b : Begins (seen side s.box) = s.begins in
    let i : IsSeen (seen side s.box) depth place = s.seen in
    let there : IsSeen (seen side s.box) at place = record { near = omega (arith, ints); far = omega (arith, ints); from = i.from; to = i.to } in
    covered layer boxes s.box (behind_x side at place) (behind_y side at place) s.among s.is (from_seen side s.box at place there)

-- the squares 6 and 7 of a port that carries the layer
strip_at : (boxes : List BoxShape) (side : Side) (layer : Layer) (place : ℤ) (t : Bool) → t ≡ true → strip_if t boxes side layer ≡ true
    → pos 6 ≤ℤ place → place <ℤ pos 8 → Behind boxes layer side (pos 0) place
strip_at boxes side layer place true e h low high =
    let s = some_at layer (λ b. begins (seen side b)) boxes h in
    let b = begins_is (seen side s.box) s.passes in
    let there : IsSeen (seen side s.box) (pos 0) place = record { near = b.near; far = omega (arith, ints); from = omega (arith, ints); to = omega (arith, ints) } in
    covered layer boxes s.box (behind_x side (pos 0) place) (behind_y side (pos 0) place) s.among s.is (from_seen side s.box (pos 0) place there)
strip_at boxes side layer place false e h low high = cc

pub strip_is : (boxes : List BoxShape) (port : Port) (side : Side) (layer : Layer) → strips boxes port side layer ≡ true → IsStrip boxes port side layer
strip_is boxes port side layer h =
    let parts = and_parts _ _ h in
    record {
      straight = λ depth place low high. (
        λ at. along_strip boxes port side layer depth place (pos 0) (strip_over boxes port side layer depth place parts.0 high at) (omega (arith, ints)) (omega (arith, ints)),
        λ at. along_strip boxes port side layer (pos 0) place depth (strip_over boxes port side layer (pos 0) place parts.0 (omega (arith, ints)) at) low high,
      );
      carried = λ place at. (strip_over boxes port side layer (pos 0) place parts.0 (omega (arith, ints)) at).carried;
      from = λ place at. from_five boxes port side layer place (strip_over boxes port side layer (pos 0) place parts.0 (omega (arith, ints)) at);
      to = λ place at. to_nine boxes port side layer place (strip_over boxes port side layer (pos 0) place parts.0 (omega (arith, ints)) at);
      sixth = λ carried. strip_at boxes side layer (pos 6) (carries port layer) (is_carried port layer carried) parts.1 (omega (arith, ints)) (omega (arith, ints));
      seventh = λ carried. strip_at boxes side layer (pos 7) (carries port layer) (is_carried port layer carried) parts.1 (omega (arith, ints)) (omega (arith, ints));
    }
  where
    from_five : (boxes : List BoxShape) (port : Port) (side : Side) (layer : Layer) (place : ℤ) → StripOver boxes port side layer (pos 0) place → pos 5 ≤ℤ place
    from_five boxes port side layer place s =
        let b : Begins (seen side s.box) = s.begins in
        let i : IsSeen (seen side s.box) (pos 0) place = s.seen in
        omega (arith, ints)

    to_nine : (boxes : List BoxShape) (port : Port) (side : Side) (layer : Layer) (place : ℤ) → StripOver boxes port side layer (pos 0) place → place <ℤ pos 9
    to_nine boxes port side layer place s =
        let b : Begins (seen side s.box) = s.begins in
        let i : IsSeen (seen side s.box) (pos 0) place = s.seen in
        omega (arith, ints)
