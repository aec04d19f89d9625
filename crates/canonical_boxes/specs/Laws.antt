-- What canonical boxes say about the squares of their set.
use Rattle.std.specs.Prelude.{◌≡◌, ◌≢◌, ◌↔◌, ℕ, ◌<◌, ℤ, List, ◌⊎◌}
use Rattle.geom.specs.Squares.{BoxShape, IsBox, Inside}
use Rattle.geom.specs.Merged.{InRow}
use Rattle.geom.specs.Rows.{Among, Over, IsRun}
use Rattle.geom.specs.Conduction.{Leads}
use Rattle.canonical_boxes.specs.Canonical.{BeginsBefore, IsCanonical, IsAt}
use Rattle.canonical_boxes.specs.Located.{IsOver}
use Rattle.canonical_boxes.specs.Touches.{IsTouch}

-- Each box is a run of the squares of them all, in each of its rows.
abbrev pub BoxesAreRuns : Type 0
BoxesAreRuns = (m : List BoxShape) → IsCanonical m → (b : BoxShape) → Among m b → (y : ℤ) → InRow b y → IsRun (Over m) y b.x1 b.x2

-- One of the boxes of these two numbers stands on the other.
abbrev pub AreTouching : List BoxShape → ℕ → ℕ → Type 0
AreTouching m i j = IsTouch m (record { lower = i; upper = j }) ⊎ IsTouch m (record { lower = j; upper = i })

-- Boxes lead from one number to another, each touching the one before.
pub data BoxesLead (m : List BoxShape) : ℕ → ℕ → Type 0 where
  here : (i : ℕ) → BoxesLead m i i
  step : (i j k : ℕ) → AreTouching m i j → BoxesLead m j k → BoxesLead m i k

-- Two squares lead to each other within the set exactly where their boxes do.
abbrev pub SquaresLeadByTouches : Type 0
SquaresLeadByTouches = (m : List BoxShape) → IsCanonical m → (i j : ℕ) (a b : BoxShape) (x y u v : ℤ) → IsAt m i a → IsAt m j b
    → Inside a x y → Inside b u v → Leads (Over m) x y u v ↔ BoxesLead m i j

-- Boxes by their numbers: they cover their squares, each square that is covered has one box, and a box with a lower number begins before
-- one with a higher, and does not stand below another in the same columns.
pub record AreNumbered : Type 0 where
  pub covers : (m : List BoxShape) (i : ℕ) (x y : ℤ) → IsOver m x y i → Over m x y
  pub number : (m : List BoxShape) (x y : ℤ) → Over m x y → (i : ℕ) × IsOver m x y i
  pub one : (m : List BoxShape) → IsCanonical m → (i j : ℕ) (x y : ℤ) → IsOver m x y i → IsOver m x y j → i ≡ j
  pub box : (m : List BoxShape) → IsCanonical m → (i : ℕ) (b : BoxShape) → IsAt m i b → IsBox b
  pub order : (m : List BoxShape) → IsCanonical m → (i j : ℕ) (a b : BoxShape) → IsAt m i a → IsAt m j b → i < j → BeginsBefore a b
  pub merged : (m : List BoxShape) → IsCanonical m → (i j : ℕ) (a b : BoxShape) → IsAt m i a → IsAt m j b
      → a.x1 ≡ b.x1 → a.x2 ≡ b.x2 → a.y2 ≢ b.y1
