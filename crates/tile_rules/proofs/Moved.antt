-- Rectangles of a tile, moved to its place.
use Rattle.std.proofs.Common.{◌↔◌, ℕ, ℤ, pos, ◌+ℤ◌, ◌-ℤ◌, ◌<ℤ◌, arith}
use Rattle.std.proofs.lemmas.Int.{ints}
use Rattle.geom.specs.declared.layer.Layer.TheVariants.{Diffusion, Poly}
use Rattle.geom.specs.Squares.{BoxShape, Inside}
use Rattle.micro_tiles.specs.declared.side.Side.{Side}
use Rattle.micro_tiles.specs.declared.side.Side.TheVariants.{North, East, South, West}
use Rattle.micro_tiles.specs.Regions.{beside}
use Rattle.lambda_rules.specs.Rules.{block_at, grown}

-- the rectangle, moved
abbrev pub moved_by : ℤ → ℤ → BoxShape → BoxShape
moved_by dx dy r = record { layer = Diffusion; x1 = dx +ℤ r.x1; y1 = dy +ℤ r.y1; x2 = dx +ℤ r.x2; y2 = dy +ℤ r.y2 }

-- two lines of poly along a side of it
abbrev pub strip : BoxShape → Side → BoxShape
strip r side = record (beside r side (pos 2)) { layer = Poly }

pub within_grown : (k : ℕ) (r : BoxShape) (x y : ℤ) → Inside r x y → Inside (grown k r) x y
within_grown k r x y i = grind (arith, ints)

-- A side of a rectangle is as long as the rectangle.
pub strip_grown : (r : BoxShape) (side : Side) (x y : ℤ) → r.x1 <ℤ r.x2 → r.y1 <ℤ r.y2 → Inside (beside r side (pos 2)) x y → Inside (grown 2 r) x y
strip_grown r North x y across upward i = grind (arith, ints)
strip_grown r East x y across upward i = grind (arith, ints)
strip_grown r South x y across upward i = grind (arith, ints)
strip_grown r West x y across upward i = grind (arith, ints)

module _ (dx dy : ℤ) where
  pub inside_moved : (r : BoxShape) (x y : ℤ) → Inside (moved_by dx dy r) x y ↔ Inside r (x -ℤ dx) (y -ℤ dy)
  inside_moved r x y = (λ i. grind (arith, ints), λ i. grind (arith, ints))

  pub grown_moved : (k : ℕ) (r : BoxShape) (x y : ℤ) → Inside (grown k (moved_by dx dy r)) x y → Inside (grown k r) (x -ℤ dx) (y -ℤ dy)
  grown_moved k r x y i = grind (arith, ints)

  pub strip_moved : (r : BoxShape) (side : Side) (x y : ℤ) → Inside (strip (moved_by dx dy r) side) x y
      → Inside (beside r side (pos 2)) (x -ℤ dx) (y -ℤ dy)
  strip_moved r North x y i = grind (arith, ints)
  strip_moved r East x y i = grind (arith, ints)
  strip_moved r South x y i = grind (arith, ints)
  strip_moved r West x y i = grind (arith, ints)

  pub block_moved : (k : ℕ) (a b x y : ℤ) → Inside (block_at k (a +ℤ dx) (b +ℤ dy)) x y ↔ Inside (block_at k a b) (x -ℤ dx) (y -ℤ dy)
  block_moved k a b x y = (λ i. grind (arith, ints), λ i. grind (arith, ints))
