-- Pairs of boxes that come near each other.
use Rattle.std.specs.Prelude.{◌≡◌, ◌↔◌, ℕ, ℤ, ◌+ℤ◌, ◌-ℤ◌, ◌≤ℤ◌, ◌<ℤ◌, List, [], ◌∷◌, ◌++◌, Option, Some, None, ◌⊎◌}
use Rattle.geom.specs.Squares.{BoxShape, Inside}
use Rattle.geom.specs.Rows.{Among}
use Rattle.canonical_boxes.specs.Canonical.{IsAt}
use Rattle.canonical_boxes.specs.Standing.{BeginsAmong}
use Rattle.box_distances.specs.declared.pairs.NearPair.{NearPair}
use Rattle.box_distances.specs.declared.pairs.BesideSquare.{BesideSquare}

-- Fewer columns and fewer rows than this lie between the boxes.
pub record AreNear (reach : ℤ) (a b : BoxShape) : Type 0 where
  pub right : b.x1 <ℤ (a.x2 +ℤ reach)
  pub left : a.x1 <ℤ (b.x2 +ℤ reach)
  pub above : b.y1 <ℤ (a.y2 +ℤ reach)
  pub below : a.y1 <ℤ (b.y2 +ℤ reach)

-- The pair names a box of each list, and they are near.
pub record IsNearPair (reach : ℤ) (m n : List BoxShape) (p : NearPair) : Type 0 where
  pub one : BoxShape
  pub other : BoxShape
  pub first : IsAt m p.one one
  pub second : IsAt n p.other other
  pub near : AreNear reach one other

-- The boxes have no square in common.
abbrev pub ShareNone : BoxShape → BoxShape → Type 0
ShareNone a b = (x y : ℤ) → Inside a x y → Inside b x y → ⊥

-- The pairs are near, and all near pairs of boxes without a common square are among them.
pub record AreNearPairs (reach : ℤ) (m n : List BoxShape) (found : List NearPair) : Type 0 where
  pub sound : (p : NearPair) → Among found p → IsNearPair reach m n p
  pub all : (p : NearPair) (near : IsNearPair reach m n p) → ShareNone near.one near.other → Among found p

-- the pair in the other order
abbrev pub swapped : NearPair → NearPair
swapped p = record { one = p.other; other = p.one }

-- The pairs are near, and each two near boxes without a common square are among them in one order or the other.
pub record AreNearPairsIn (reach : ℤ) (m : List BoxShape) (found : List NearPair) : Type 0 where
  pub sound : (p : NearPair) → Among found p → IsNearPair reach m m p
  pub all : (p : NearPair) (near : IsNearPair reach m m p) → ShareNone near.one near.other → Among found p ⊎ Among found (swapped p)

-- ---- for private contracts

-- The second box begins above the first, so near.
pub record IsAbove (reach : ℤ) (a b : BoxShape) : Type 0 where
  pub bottom : a.y2 ≤ℤ b.y1
  pub top : b.y1 <ℤ (a.y2 +ℤ reach)
  pub left : (a.x1 -ℤ reach) <ℤ b.x2
  pub right : b.x1 <ℤ (a.x2 +ℤ reach)

pub record IsAbovePair (reach : ℤ) (m n : List BoxShape) (p : NearPair) : Type 0 where
  pub one : BoxShape
  pub other : BoxShape
  pub first : IsAt m p.one one
  pub second : IsAt n p.other other
  pub above : IsAbove reach one other

-- The second list has the pairs of the first and those of this box with boxes that begin in the row, among these columns.
abbrev pub AddsRow : List BoxShape → ℕ → ℤ → ℤ → ℤ → List NearPair → List NearPair → Type 0
AddsRow n one y from to old new = (p : NearPair) → Among new p
    ↔ (Among old p ⊎ ((p.one ≡ one) × ((b : BoxShape) × IsAt n p.other b × BeginsAmong b y from to)))

-- The second list has the pairs of the first and those of this box with boxes that begin above it.
abbrev pub AddsAbove : ℤ → BoxShape → List BoxShape → ℕ → List NearPair → List NearPair → Type 0
AddsAbove reach a n one old new = (p : NearPair) → Among new p
    ↔ (Among old p ⊎ ((p.one ≡ one) × ((b : BoxShape) × IsAt n p.other b × IsAbove reach a b)))

-- The column is to the left or to the right of the box, so near.
abbrev pub IsBesideColumn : ℤ → BoxShape → ℤ → Type 0
IsBesideColumn reach b x = ((x <ℤ b.x1) × (b.x1 ≤ℤ (x +ℤ reach))) ⊎ ((b.x2 ≤ℤ x) × (x <ℤ (b.x2 +ℤ reach)))

-- The square is beside the box of this number, in the row in which the box begins.
pub record IsBeside (reach : ℤ) (m : List BoxShape) (s : BesideSquare) : Type 0 where
  pub box : BoxShape
  pub at : IsAt m s.number box
  pub row : s.square.y ≡ box.y1
  pub column : IsBesideColumn reach box s.square.x

-- The second list has the squares of the first and those beside this box.
abbrev pub AddsBeside : ℤ → BoxShape → ℕ → List BesideSquare → List BesideSquare → Type 0
AddsBeside reach b number old new = (s : BesideSquare) → Among new s
    ↔ (Among old s ⊎ ((s.number ≡ number) × (s.square.y ≡ b.y1) × IsBesideColumn reach b s.square.x))

abbrev pub AreBeside : ℤ → List BoxShape → List BesideSquare → Type 0
AreBeside reach m squares = (s : BesideSquare) → Among squares s ↔ IsBeside reach m s

-- A square beside the one box lies in the other.
pub record IsBesidePair (reach : ℤ) (m n : List BoxShape) (p : NearPair) : Type 0 where
  pub one : BoxShape
  pub other : BoxShape
  pub first : IsAt m p.one one
  pub second : IsAt n p.other other
  pub x : ℤ
  pub column : IsBesideColumn reach one x
  pub inside : Inside other x one.y1

abbrev pub AddsBesidePairs : ℤ → List BoxShape → List BoxShape → List NearPair → List NearPair → Type 0
AddsBesidePairs reach m n old new = (p : NearPair) → Among new p ↔ (Among old p ⊎ IsBesidePair reach m n p)

-- The second list has the pair behind the first, where there is another box.
abbrev pub AddsOver : ℕ → Option ℕ → List NearPair → List NearPair → Type 0
AddsOver one (Some other) old new = new ≡ old ++ record { one = one; other = other } ∷ []
AddsOver one None old new = new ≡ old

-- the pairs whose other box begins above the one, or has a square beside it in the row in which it begins
abbrev pub AreAhead : ℤ → List BoxShape → List BoxShape → List NearPair → Type 0
AreAhead reach m n found = (p : NearPair) → Among found p ↔ (IsAbovePair reach m n p ⊎ IsBesidePair reach m n p)
