-- Squares that lie in blocks of a set, and squares that others reach.
use Rattle.std.specs.Prelude.{◌≡◌, ◌↔◌, ℤ, pos, neg_ℤ, ◌^◌, ◌+ℤ◌, ◌-ℤ◌, ◌≤ℤ◌, ◌<ℤ◌, Bool, ◌||◌, int_lt, List, true}
use Rattle.geom.specs.Squares.{BoxShape, Inside}
use Rattle.geom.specs.Rows.{Among, Over, Squares}
use Rattle.canonical_boxes.specs.Plane.{InPlane}

-- A block of so many by so many squares of the set has the square.
pub record InBlock (side : ℤ) (S : Squares) (x y : ℤ) : Type 0 where
  pub u : ℤ
  pub v : ℤ
  pub left : u ≤ℤ x
  pub right : x <ℤ (u +ℤ side)
  pub bottom : v ≤ℤ y
  pub top : y <ℤ (v +ℤ side)
  pub all : (s t : ℤ) → u ≤ℤ s → s <ℤ (u +ℤ side) → v ≤ℤ t → t <ℤ (v +ℤ side) → S s t

-- the boxes cover the squares of the set that lie in none of its blocks
abbrev pub AreThin : ℤ → List BoxShape → List BoxShape → Type 0
AreThin side m thin = (x y : ℤ) → Over thin x y ↔ (Over m x y × (InBlock side (Over m) x y → ⊥))

-- ---- for private contracts

-- A square of the set reaches this one: it is at most so far to the right or above, and at most so far to the left or below.
pub record IsReached (back ahead : ℤ) (S : Squares) (x y : ℤ) : Type 0 where
  pub u : ℤ
  pub v : ℤ
  pub inside : S u v
  pub left : u ≤ℤ (x +ℤ back)
  pub right : x ≤ℤ (u +ℤ ahead)
  pub bottom : v ≤ℤ (y +ℤ back)
  pub top : y ≤ℤ (v +ℤ ahead)

-- the boxes cover the squares that those of the others reach, of all that boxes can cover
abbrev pub AreReached : ℤ → ℤ → List BoxShape → List BoxShape → Type 0
AreReached back ahead m grown = (x y : ℤ) → Over grown x y ↔ (InPlane x y × IsReached back ahead (Over m) x y)

pub record IsReachedBox (back ahead : ℤ) (b grown : BoxShape) : Type 0 where
  pub squares : (x y : ℤ) → Inside grown x y ↔ (InPlane x y × IsReached back ahead (Inside b) x y)

-- An edge that is kept within the plane.
pub record IsLow (edge kept : ℤ) : Type 0 where
  pub plane : neg_ℤ (pos (2 ^ 40)) ≤ℤ kept
  pub same : neg_ℤ (pos (2 ^ 40)) ≤ℤ edge → kept ≡ edge
  pub beyond : edge ≤ℤ neg_ℤ (pos (2 ^ 40)) → kept ≡ neg_ℤ (pos (2 ^ 40))

pub record IsHigh (edge kept : ℤ) : Type 0 where
  pub plane : kept ≤ℤ pos (2 ^ 40)
  pub same : edge ≤ℤ pos (2 ^ 40) → kept ≡ edge
  pub beyond : pos (2 ^ 40) ≤ℤ edge → kept ≡ pos (2 ^ 40)

-- the box is narrower or lower than a block
abbrev pub is_narrow : ℤ → BoxShape → Bool
is_narrow side b = int_lt (b.x2 -ℤ b.x1) side || int_lt (b.y2 -ℤ b.y1) side

-- the narrow ones of the boxes
abbrev pub AreNarrow : ℤ → List BoxShape → List BoxShape → Type 0
AreNarrow side m narrow = (b : BoxShape) → Among narrow b ↔ (Among m b × (is_narrow side b ≡ true))

-- all squares of the block with this lower left corner belong to the set
abbrev pub IsCorner : ℤ → Squares → ℤ → ℤ → Type 0
IsCorner last S u v = (s t : ℤ) → u ≤ℤ s → s ≤ℤ (u +ℤ last) → v ≤ℤ t → t ≤ℤ (v +ℤ last) → S s t

abbrev pub AreCorners : ℤ → List BoxShape → List BoxShape → Type 0
AreCorners last m corners = (u v : ℤ) → Over corners u v ↔ IsCorner last (Over m) u v

-- the boxes cover the squares of the blocks of the set
pub record InSomeBlock (last : ℤ) (S : Squares) (x y : ℤ) : Type 0 where
  pub u : ℤ
  pub v : ℤ
  pub left : u ≤ℤ x
  pub right : x ≤ℤ (u +ℤ last)
  pub bottom : v ≤ℤ y
  pub top : y ≤ℤ (v +ℤ last)
  pub all : IsCorner last S u v

abbrev pub AreBlocks : ℤ → List BoxShape → List BoxShape → Type 0
AreBlocks last m blocks = (x y : ℤ) → Over blocks x y ↔ InSomeBlock last (Over m) x y

-- the squares of the plane from this column and this row on
pub record IsStrip (x1 y1 : ℤ) (b : BoxShape) : Type 0 where
  pub squares : (x y : ℤ) → Inside b x y ↔ (InPlane x y × (x1 ≤ℤ x) × (y1 ≤ℤ y))
