-- What a sweep holds of the boxes of a set at a row.
use Rattle.std.specs.Prelude.{◌≡◌, ◌↔◌, ℕ, ◌<◌, ◌≤◌, ℤ, ◌≤ℤ◌, ◌<ℤ◌, List, length, Option, Some, None}
use Rattle.std.specs.Ordering.{int_cmp}
use Rattle.std.specs.BTreeMap.{BTreeMap, get}
use Rattle.geom.specs.Squares.{BoxShape}
use Rattle.canonical_boxes.specs.Canonical.{IsAt}

-- The first boxes begin at or below the row; the map has those that reach above it by their left edges, and no others but of these.
pub record IsHeld (m : List BoxShape) (begun : ℕ) (y : ℤ) (runs : BTreeMap ℤ ℕ) : Type 0 where
  pub few : begun ≤ length m
  pub below : (k : ℕ) (b : BoxShape) → IsAt m k b → k < begun → b.y1 ≤ℤ y
  pub held : (x : ℤ) (k : ℕ) → get int_cmp runs x ≡ Some k → (k < begun) × ((b : BoxShape) → IsAt m k b → b.x1 ≡ x)
  pub kept : (k : ℕ) (b : BoxShape) → IsAt m k b → k < begun → y <ℤ b.y2 → get int_cmp runs b.x1 ≡ Some k

-- the boxes that begin at or below the row are the first
abbrev pub HasBegun : List BoxShape → ℕ → ℤ → Type 0
HasBegun m begun y = (k : ℕ) (b : BoxShape) → IsAt m k b → (k < begun) ↔ (b.y1 ≤ℤ y)

-- It is the value at the greatest key up to x.
pub record IsGreatestAt (runs : BTreeMap ℤ ℕ) (x : ℤ) (number : ℕ) : Type 0 where
  pub key : ℤ
  pub up_to : key ≤ℤ x
  pub value : get int_cmp runs key ≡ Some number
  pub last : (q : ℤ) (k : ℕ) → q ≤ℤ x → get int_cmp runs q ≡ Some k → q ≤ℤ key

abbrev pub IsGreatest : BTreeMap ℤ ℕ → ℤ → Option ℕ → Type 0
IsGreatest runs x (Some number) = IsGreatestAt runs x number
IsGreatest runs x None = (q : ℤ) → q ≤ℤ x → get int_cmp runs q ≡ None

-- The box has begun, reaches above the row, and begins last at or before the column.
pub record IsLatestAt (m : List BoxShape) (begun : ℕ) (x y : ℤ) (i : ℕ) : Type 0 where
  pub box : BoxShape
  pub at : IsAt m i box
  pub before : i < begun
  pub left : box.x1 ≤ℤ x
  pub top : y <ℤ box.y2
  pub last : (k : ℕ) (b : BoxShape) → IsAt m k b → k < begun → y <ℤ b.y2 → b.x1 ≤ℤ x → b.x1 ≤ℤ box.x1

abbrev pub IsLatest : List BoxShape → ℕ → ℤ → ℤ → Option ℕ → Type 0
IsLatest m begun x y (Some i) = IsLatestAt m begun x y i
IsLatest m begun x y None = (k : ℕ) (b : BoxShape) → IsAt m k b → k < begun → y <ℤ b.y2 → b.x1 ≤ℤ x → ⊥
