-- A column for each row, as a tree over the rows.
use Rattle.std.specs.Prelude.{◌≡◌, ℤ, ◌≤ℤ◌, ◌<ℤ◌, ◌⊎◌, if◌then◌else◌, int_lt}
use Rattle.std.specs.Int.{int_min, int_max}
use Rattle.geom.specs.declared.row_tree.Band.{Band}
use Rattle.geom.specs.declared.row_tree.Parts.{Parts}
use Rattle.geom.specs.declared.row_tree.RowTree.{RowTree}
use Rattle.geom.specs.declared.row_tree.RowTree.TheVariants.{Flat, Parted'}

-- the column of the row: the greatest of those on the way to it
abbrev pub column_at : RowTree → ℤ → ℤ
column_at (Flat column) y = column
column_at (Parted' p floor least greatest middle low high) y = int_max (if int_lt y middle then column_at low y else column_at high y) floor

-- the least column of the rows, as the tree has it
abbrev pub least_of : RowTree → ℤ
least_of (Flat column) = column
least_of (Parted' p floor least greatest middle low high) = least

-- the greatest column of the rows, as the tree has it
abbrev pub greatest_of : RowTree → ℤ
greatest_of (Flat column) = column
greatest_of (Parted' p floor least greatest middle low high) = greatest

-- Each tree in it has the least and the greatest column of its rows.
abbrev pub IsSound : RowTree → Type 0
IsSound (Flat column) = Unit {0}
IsSound (Parted' p floor least greatest middle low high) = (least ≡ int_max (int_min (least_of low) (least_of high)) floor)
    × (greatest ≡ int_max (int_max (greatest_of low) (greatest_of high)) floor)
    × IsSound low
    × IsSound high

-- the parts with the least and the greatest column of their rows
abbrev pub settled : Parts → Parts
settled parts = record parts {
  least = int_max (int_min (least_of parts.low) (least_of parts.high)) parts.floor;
  greatest = int_max (int_max (greatest_of parts.low) (greatest_of parts.high)) parts.floor;
}

-- the parts with all their rows raised to a column
abbrev pub lifted : Parts → ℤ → Parts
lifted parts column = settled (record parts { floor = int_max parts.floor column })

-- The column can change from the row before to this one: a tree is parted there.
abbrev pub IsCut : RowTree → ℤ → Type 0
IsCut (Flat column) y = ⊥
IsCut (Parted' p floor least greatest middle low high) y = (y ≡ middle) ⊎ (((y <ℤ middle) × IsCut low y) ⊎ ((middle <ℤ y) × IsCut high y))

-- All rows have this column.
pub record IsEven (t : RowTree) (column : ℤ) : Type 0 where
  pub sound : IsSound t
  pub least : least_of t ≡ column
  pub greatest : greatest_of t ≡ column

-- The column belongs to the band.
pub record InBand (band : Band) (column : ℤ) : Type 0 where
  pub least : band.least ≤ℤ column
  pub greatest : column ≤ℤ band.greatest

-- The columns from one row up to the end belong to the band; that of the end does not, unless the end is the limit.
pub record Leaves (column : ℤ → ℤ) (band : Band) (row limit end : ℤ) : Type 0 where
  pub from : row ≤ℤ end
  pub within : end ≤ℤ limit
  pub inside : (y : ℤ) → row ≤ℤ y → y <ℤ end → InBand band (column y)
  pub outside : end <ℤ limit → InBand band (column end) → ⊥
