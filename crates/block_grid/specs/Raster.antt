-- The kinds of all blocks of a sheet, row by row, and marks at the borders that edges cross.
use Rattle.std.specs.Prelude.{◌≡◌, ℕ, ◌+◌, ◌*◌, ◌<◌, ◌≤◌, ◌||◌, Bool, false, nat_lt, List, length, get_or, slice_get, Some, All}
use Rattle.block_grid.specs.declared.kind.BlockKind.{BlockKind}
use Rattle.block_grid.specs.Lines.{BlockPlace, row_of, col_of, stretch_crossings}
use Rattle.block_grid.specs.Sheets.{Sheet, DrawnEdge, block_at, wire_kind}

-- an entry for each place, which tells what the block there holds
pub record AreKinds (s : Sheet) (kinds : List BlockKind) : Type 0 where
  pub size : length kinds ≡ s.rows * s.cols
  pub each : (r c : ℕ) → r < s.rows → c < s.cols → slice_get kinds (r * s.cols + c) ≡ Some (block_at s r c)

-- Lines have so many entries each, and each entry says whether something is so at its number in its line.
abbrev pub Tells : ℕ → List Bool → ℕ → (ℕ → ℕ → Bool) → Type 0
Tells width marks lines is = (line at : ℕ) → line < lines → at < width → slice_get marks (line * width + at) ≡ Some (is line at)

-- the stretch crosses the border before the line at this number
abbrev pub is_met : BlockPlace → BlockPlace → ℕ → ℕ → Bool
is_met p q line at = nat_lt 0 (stretch_crossings row_of col_of p q line at)

-- What was marked before stays marked, and so is what is so.
abbrev pub AddsMarks : ℕ → List Bool → List Bool → (ℕ → ℕ → Bool) → Type 0
AddsMarks width old new is =
    (line at : ℕ) (b : Bool) → at < width → slice_get old (line * width + at) ≡ Some b → slice_get new (line * width + at) ≡ Some (b || is line at)

-- row and column exchanged
abbrev pub flipped : BlockPlace → BlockPlace
flipped p = (p.1, p.0)

-- A place is in its line, and there are as many entries as the lines up to it have.
abbrev pub IsMarkable : ℕ → ℕ → BlockPlace → Type 0
IsMarkable width long p = (col_of p < width) × ((row_of p + 1) * width ≤ long)

-- the edge keeps to so many rows and columns
pub record LiesIn (rows cols : ℕ) (e : DrawnEdge) : Type 0 where
  pub start : (row_of e.start < rows) × (col_of e.start < cols)
  pub turns : All (λ p. (row_of p < rows) × (col_of p < cols)) e.turns
  pub finish : (row_of e.finish < rows) × (col_of e.finish < cols)

-- the wire block of a place by the marks at its borders
abbrev pub wire_at : List Bool → List Bool → ℕ → ℕ → ℕ → ℕ → BlockKind
wire_at norths wests rows cols r c =
    wire_kind (get_or norths (r * cols + c) false) (get_or norths ((r + 1) * cols + c) false) (get_or wests (c * rows + r) false)
    (get_or wests ((c + 1) * rows + r) false)
