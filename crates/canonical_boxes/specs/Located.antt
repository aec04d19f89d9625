-- The boxes of a set over squares.
use Rattle.std.specs.Prelude.{◌≡◌, ℕ, ℤ, List, length, Option, Some, None, slice_index_or}
use Rattle.geom.specs.declared.point.Point.{Point}
use Rattle.geom.specs.Squares.{BoxShape, Inside}
use Rattle.geom.specs.Rows.{Over}
use Rattle.canonical_boxes.specs.Canonical.{IsAt}

-- The box of this number is over the square.
pub record IsOver (m : List BoxShape) (x y : ℤ) (i : ℕ) : Type 0 where
  pub box : BoxShape
  pub at : IsAt m i box
  pub inside : Inside box x y

-- It is the number of the box over the square, or no box is.
abbrev pub IsLocated : List BoxShape → ℤ → ℤ → Option ℕ → Type 0
IsLocated m x y (Some i) = IsOver m x y i
IsLocated m x y None = Over m x y → ⊥

-- For each square there is what is over it.
pub record AreLocated (m : List BoxShape) (squares : List Point) (found : List (Option ℕ)) : Type 0 where
  pub size : length found ≡ length squares
  pub each : (k : ℕ) (square : Point) → IsAt squares k square → IsLocated m square.x square.y (slice_index_or found k None)
