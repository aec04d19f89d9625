-- Rows of the table.
use Rattle.std.proofs.Common.{◌≡◌, ℕ, zero, suc, ◌<◌, [], ◌∷◌, ap, arith, Bool, true, false, List, length, map, Some, slice_get, slice_index_or, refl, sym, ◌∙◌, if◌then◌else◌}
use Rattle.std.specs.Option.{is_some}
use Rattle.std.specs.List.{list_all}
use Rattle.std.proofs.lemmas.Bool.{and_parts}
use Rattle.std.proofs.lemmas.Int.{ints}
use Rattle.micro_tiles.proofs.EachTile.{each_tile, at_tile}
use Rattle.std.proofs.lemmas.List.{length-map}
use Rattle.std.proofs.lemmas.Option.{slice_get-map}
use Rattle.geom.specs.Squares.{BoxShape}
use Rattle.micro_tiles.specs.declared.design.Design.TheVariants.{Empty}
use Rattle.micro_tiles.specs.declared.table.TheConstants.{BASIC}
use Rattle.micro_tiles.specs.Boxes.{boxes_of, mirrored_box, IsInTile}
use Rattle.micro_tiles.specs.Table.{is_transpose, basic_of, design_of, boxes}
use Rattle.micro_tiles.proofs.BoxTests.{in_tile, in_tile_is}

pub row_of : (tile i : ℕ) → i ≡ basic_of tile → slice_index_or BASIC i Empty ≡ design_of tile
unfolding design_of
row_of tile i e = rw e refl

-- ---- boxes

sized : (t : Bool) (bs : List BoxShape) → length (if t then map mirrored_box bs else bs) ≡ length bs
sized true bs = length-map bs mirrored_box
sized false bs = refl

pub length_boxes : (tile : ℕ) → length (boxes tile) ≡ length (boxes_of (design_of tile))
unfolding boxes
length_boxes tile = sized (is_transpose tile) (boxes_of (design_of tile))

pub basic_box : (tile i : ℕ) (b : BoxShape) → is_transpose tile ≡ false → slice_get (boxes_of (design_of tile)) i ≡ Some b
    → slice_get (boxes tile) i ≡ Some b
unfolding boxes
basic_box tile i b basic h = rw basic h

pub transposed_box : (tile i : ℕ) (b : BoxShape) → is_transpose tile ≡ true → slice_get (boxes_of (design_of tile)) i ≡ Some b
    → slice_get (boxes tile) i ≡ Some (mirrored_box b)
unfolding boxes
transposed_box tile i b transpose h = rw (transpose, slice_get-map, h) refl

-- ---- within the tile

drawn_in_tile : each_tile (λ tile. list_all in_tile (boxes_of (design_of tile))) ≡ true
unfolding each_tile design_of
drawn_in_tile = refl

pub some_within : {X : Type 0} (xs : List X) (i : ℕ) → i < length xs → is_some (slice_get xs i) ≡ true
some_within [] i h = absurd (omega arith)
some_within (x ∷ xs) zero h = refl
some_within (x ∷ xs) (suc i) h = some_within xs i (omega arith)

all_at : {X : Type 0} (p : X → Bool) (xs : List X) (i : ℕ) (x : X) → list_all p xs ≡ true → slice_get xs i ≡ Some x → p x ≡ true
all_at p [] i x h at = cc
all_at p (y ∷ ys) zero x h at = let first = and_parts (p y) (list_all p ys) h in let e : y ≡ x = cc in ap p (sym e) ∙ first.0
all_at p (y ∷ ys) (suc i) x h at = all_at p ys i x (and_parts _ _ h).1 at

pub design_in_tile : (tile i : ℕ) (b : BoxShape) → tile < 55 → slice_get (boxes_of (design_of tile)) i ≡ Some b → IsInTile b
design_in_tile tile i b h at = in_tile_is b (all_at in_tile (boxes_of (design_of tile)) i b (at_tile _ tile drawn_in_tile h) at)

pub mirrored_in_tile : (b : BoxShape) → IsInTile b → IsInTile (mirrored_box b)
mirrored_in_tile b h = record {
  left = omega (arith, ints);
  across = omega (arith, ints);
  right = omega (arith, ints);
  bottom = omega (arith, ints);
  upward = omega (arith, ints);
  top = omega (arith, ints);
}
