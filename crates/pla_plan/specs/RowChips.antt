-- Chips that draw a plan row by row, with one kind for all rows of the same squares.
use Rattle.std.specs.Prelude.{◌≡◌, ◌≢◌, ◌↔◌, ℕ, ◌+◌, ◌-◌, ◌*◌, ◌<◌, ℤ, pos, ◌≤ℤ◌, List, [], ◌∷◌, length, slice_get, Some, All, AllPairs}
use Rattle.geom.specs.declared.layer.Layer.{Layer}
use Rattle.geom.specs.declared.chip.Call.{Call}
use Rattle.geom.specs.Squares.{BoxShape, Covered}
use Rattle.geom.specs.Chips.{ChipShape, ChipCovers}
use Rattle.geom.specs.Merged.{InRuns}
use Rattle.stick_grid.specs.Plans.{Plan, IsPlan, Covers}

-- the row alone, as a plan
abbrev pub row_plan : Plan → ℕ → Plan
row_plan plan row = record { rows = 1; cols = plan.cols; tile = λ r col. plan.tile row col }

-- The boxes are in runs and cover the squares of the row, with its lower edge at y = 0.
pub record DrawsRow (plan : Plan) (row : ℕ) (boxes : List BoxShape) : Type 0 where
  pub runs : InRuns boxes
  pub squares : (layer : Layer) (x y : ℤ) → Covered boxes layer x y ↔ Covers (row_plan plan row) layer x y

-- The call puts a kind that draws the row into the row's place.
pub record CallsRow (plan : Plan) (kinds : List (List BoxShape)) (row : ℕ) (call : Call) : Type 0 where
  pub boxes : List BoxShape
  pub kind : slice_get kinds call.kind ≡ Some boxes
  pub draws : DrawsRow plan row boxes
  pub x : call.x ≡ pos 0
  pub y : call.y ≡ pos (14 * (plan.rows - 1 - row))

-- The calls put the rows from this one on into their places.
abbrev pub CallRows : Plan → List (List BoxShape) → ℕ → List Call → Type 0
CallRows plan kinds row [] = Unit {0}
CallRows plan kinds row (call ∷ calls) = CallsRow plan kinds row call × CallRows plan kinds (row + 1) calls

-- Each row is called, from the north to the south; no two kinds are equal, and each is called.
pub record IsRowChip (plan : Plan) (chip : ChipShape) : Type 0 where
  pub long : length chip.calls ≡ plan.rows
  pub rows : CallRows plan chip.kinds 0 chip.calls
  pub differ : AllPairs (λ a b. a ≢ b) chip.kinds
  pub called : (kind : ℕ) → kind < length chip.kinds → (k : ℕ) × (call : Call) × (slice_get chip.calls k ≡ Some call) × (call.kind ≡ kind)

-- Such a chip has the squares of the plan.
abbrev pub RowChipsCoverPlans : Type 0
RowChipsCoverPlans = (plan : Plan) (chip : ChipShape) → IsRowChip plan chip
    → (layer : Layer) (x y : ℤ) → ChipCovers chip layer x y ↔ Covers plan layer x y

-- Each box of each kind lies between y = 0 and y = 14, the height of a row.
abbrev pub KindsAreRows : ChipShape → Type 0
KindsAreRows chip = All (All (λ b. (pos 0 ≤ℤ b.y1) × (b.y2 ≤ℤ pos 14))) chip.kinds

abbrev pub RowChipsHaveRows : Type 0
RowChipsHaveRows = (plan : Plan) (chip : ChipShape) → IsPlan plan → IsRowChip plan chip → KindsAreRows chip
