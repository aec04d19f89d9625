-- What a sweep over boxes from left to right knows of each row.
use Rattle.std.specs.Prelude.{◌≡◌, ◌^◌, ℤ, pos, neg_ℤ, ◌-ℤ◌, ◌≤ℤ◌, ◌<ℤ◌, List, [], ◌∷◌, ◌++◌, ◌⊎◌, ◌+◌}
use Rattle.geom.specs.declared.layer.Layer.{Layer}
use Rattle.geom.specs.declared.reach.Level.{Level}
use Rattle.geom.specs.declared.row_tree.RowTree.{RowTree}
use Rattle.geom.specs.declared.sweep.Strip.{Strip}
use Rattle.geom.specs.declared.sweep.Sweep.{Sweep}
use Rattle.geom.specs.Squares.{BoxShape, IsSide, IsBox}
use Rattle.geom.specs.Rows.{Squares, Among, Over, IsPart}
use Rattle.geom.specs.RowTrees.{column_at}

-- The square (x, y) lies in the strip.
pub record InStrip (strip : Strip) (x y : ℤ) : Type 0 where
  pub left : strip.left ≤ℤ x
  pub right : x <ℤ strip.right
  pub bottom : strip.bottom ≤ℤ y
  pub top : y <ℤ strip.top

-- The strip's rows are within reach of the origin, and its columns in order. It may begin one past the farthest edge.
pub record IsStrip (strip : Strip) : Type 0 where
  pub rows : IsSide strip.bottom strip.top
  pub order : strip.left ≤ℤ strip.right
  pub near : strip.left ≤ℤ pos (2 ^ 40 + 1)

-- The row's last run of the squares D that were passed; those before it are in the boxes m. Where nothing was passed,
-- the last run is empty.
pub record IsLast (S D : Squares) (column : ℤ) (begins ends : RowTree) (m : List BoxShape) (y : ℤ) : Type 0 where
  pub from : ℤ
  pub to : ℤ
  pub begins_is : column_at begins y ≡ from
  pub ends_is : column_at ends y ≡ to
  pub order : from ≤ℤ to
  pub near : from ≤ℤ column
  pub covered : (x : ℤ) → from ≤ℤ x → x <ℤ to → S x y
  pub left : S (from -ℤ pos 1) y → ⊥
  pub reach : (x : ℤ) → D x y → x <ℤ to
  pub before : (x : ℤ) → D x y → (from ≤ℤ x) ⊎ Over m x y

-- The squares D of S were passed, and no last run begins to the right of the column.
pub record IsSwept (S D : Squares) (column : ℤ) (s : Sweep) : Type 0 where
  pub rows : (y : ℤ) → IsLast S D column s.begins s.ends s.runs.items y
  pub parts : (b : BoxShape) → Among s.runs.items b → IsPart S s.layer b

-- the squares of the boxes, and those of the strip in the rows below this one
abbrev pub Passed : List BoxShape → Strip → ℤ → ℤ → ℤ → Type 0
Passed done strip row x y = Over done x y ⊎ (InStrip strip x y × (y <ℤ row))

-- The strip's squares are squares of the boxes, and all that are further left have been passed.
pub record IsNext (boxes done : List BoxShape) (strip : Strip) : Type 0 where
  pub low : (x y : ℤ) → Over boxes x y → neg_ℤ (pos (2 ^ 40)) ≤ℤ x
  pub inside : (x y : ℤ) → InStrip strip x y → Over boxes x y
  pub left : (x y : ℤ) → Over boxes x y → x <ℤ strip.left → Over done x y

-- Whatever the boxes, the sweep passed the strip in the rows from one up to another.
abbrev pub Passes : Sweep → Strip → ℤ → ℤ → Sweep → Type 0
Passes s strip from to n = (boxes done : List BoxShape) → IsNext boxes done strip
    → IsSwept (Over boxes) (Passed done strip from) strip.left s → IsSwept (Over boxes) (Passed done strip to) strip.left n

-- the run from a level's number up to a column, in the level's rows from this one on
abbrev pub run_box : Layer → ℤ → Level → ℤ → BoxShape
run_box layer row first to = record { layer = layer; x1 = first.value; y1 = row; x2 = to; y2 = first.end }

-- The run is behind the others now, if it is not empty.
abbrev pub PutsAside : Layer → ℤ → Level → ℤ → List BoxShape → List BoxShape → Type 0
PutsAside layer row first to m n = (IsBox (run_box layer row first to) × (n ≡ m ++ run_box layer row first to ∷ [])) ⊎ ((IsBox (run_box layer row first to) → ⊥) × (n ≡ m))
