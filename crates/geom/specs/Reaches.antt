-- A column for each row that only grows.
use Rattle.std.specs.Prelude.{◌≡◌, ℤ, ◌≤ℤ◌, ◌<ℤ◌, ◌⊎◌}
use Rattle.std.specs.Int.{int_max}
use Rattle.geom.specs.declared.reach.Level.{Level}
use Rattle.geom.specs.declared.row_tree.RowTree.{RowTree}
use Rattle.geom.specs.RowTrees.{column_at}

-- The rows from this one up to the end of the level have its column.
pub record IsLevel (reach : RowTree) (row : ℤ) (level : Level) : Type 0 where
  pub later : row <ℤ level.end
  pub alike : (y : ℤ) → row ≤ℤ y → y <ℤ level.end → column_at reach y ≡ level.value

-- The rows from one up to the end reach the column.
pub record IsReached (reach : RowTree) (column row limit end : ℤ) : Type 0 where
  pub later : row <ℤ end
  pub within : end ≤ℤ limit
  pub reached : (y : ℤ) → row ≤ℤ y → y <ℤ end → column ≤ℤ column_at reach y

-- The rows from one up to another reach the column now, and all others what they reached.
pub record Raises (reach : RowTree) (from to column : ℤ) (new : RowTree) : Type 0 where
  pub inside : (y : ℤ) → from ≤ℤ y → y <ℤ to → column_at new y ≡ int_max (column_at reach y) column
  pub outside : (y : ℤ) → (y <ℤ from) ⊎ (to ≤ℤ y) → column_at new y ≡ column_at reach y
