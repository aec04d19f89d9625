-- The columns at which a row of squares enters and leaves a polygon.
use Rattle.std.specs.Prelude.{◌≡◌, ℕ, ◌≤◌, ◌%◌, Bool, ℤ, ◌-ℤ◌, ◌≤ℤ◌, ◌<ℤ◌, int_lt, List, [], ◌∷◌, ◌++◌, ◌⊎◌, length, take, drop, count_by, if◌then◌else◌}
use Rattle.std.specs.List.{flat_map}
use Rattle.std.specs.List.Sorted.{IsPermutation}
use Rattle.geom.specs.declared.layer.Layer.{Layer}
use Rattle.geom.specs.declared.point.Point.{Point}
use Rattle.geom.specs.Squares.{BoxShape}
use Rattle.geom.specs.Rows.{Among, Pairwise}
use Rattle.geom.specs.CifShapes.{Segment, is_zero, polygon_sides}

-- the ends of a side, where it is vertical
abbrev pub ends_of : Segment → List Point
ends_of s = if is_zero (s.stop.x -ℤ s.start.x) then s.start ∷ s.stop ∷ [] else []

-- the ends of the vertical sides of a polygon
abbrev pub side_ends : List Point → List Point
side_ends points = flat_map ends_of (polygon_sides points)

-- Each point is as high as those before it, or higher.
abbrev pub Rise : List Point → Type 0
Rise points = Pairwise (λ low high. low.y ≤ℤ high.y) points

-- The ends of the vertical sides of a polygon, from low to high.
pub record AreCorners (points corners : List Point) : Type 0 where
  pub same : IsPermutation (side_ends points) corners
  pub rise : Rise corners

-- the corner stands to the right of the column
abbrev pub is_right : ℤ → Point → Bool
is_right x p = int_lt x p.x

-- The columns are those that an odd number of corners has, told by how many stand to the right of each column.
pub record HaveChanges (corners : List Point) (columns : List ℤ) : Type 0 where
  pub odd : (x : ℤ) → count_by (int_lt x) columns % 2 ≡ count_by (is_right x) corners % 2
  pub own : (x : ℤ) → Among columns x → (p : Point) × Among corners p × (p.x ≡ x)

-- They are that, in order.
pub record AreChanges (corners : List Point) (columns : List ℤ) : Type 0 where
  pub have : HaveChanges corners columns
  pub rising : Pairwise (λ left right. left <ℤ right) columns

-- The first corners, so many of them, are those up to a row.
pub record ReachRow (corners : List Point) (count : ℕ) (row : ℤ) : Type 0 where
  pub within : count ≤ length corners
  pub below : (p : Point) → Among (take count corners) p → p.y ≤ℤ row
  pub above : (p : Point) → Among (drop count corners) p → row <ℤ p.y

-- The number was taken from the end of the others, or put there where it was not.
abbrev pub Toggles : List ℤ → ℤ → List ℤ → Type 0
Toggles old number new =
    (old ≡ new ++ number ∷ []) ⊎ (((front : List ℤ) → old ≡ front ++ number ∷ [] → ⊥) × (new ≡ old ++ number ∷ []))

-- The numbers that occur an odd number of times, in order, of others.
pub record AreOddOnes (numbers odd : List ℤ) : Type 0 where
  pub same : (x : ℤ) → count_by (int_lt x) odd % 2 ≡ count_by (int_lt x) numbers % 2
  pub own : (x : ℤ) → Among odd x → Among numbers x
  pub rising : Pairwise (λ left right. left <ℤ right) odd

-- the boxes between two heights, from each second column to the next
abbrev pub run_boxes : Layer → ℤ → ℤ → List ℤ → List BoxShape
run_boxes layer low high [] = []
run_boxes layer low high (left ∷ []) = []
run_boxes layer low high (left ∷ right ∷ columns) =
    record { layer = layer; x1 = left; y1 = low; x2 = right; y2 = high } ∷ run_boxes layer low high columns
