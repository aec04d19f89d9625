-- What the tiles of an array are made of.
use Rattle.std.specs.Prelude.{◌≡◌, List, map}
use Rattle.std.specs.List.{range_with_len}
use Rattle.micro_tiles.specs.declared.basic.Basic.{Basic}
use Rattle.gate_matrix.specs.Cells.{Matrix}
use Rattle.pla_plan.specs.Planes.{PlaneTables, left_plane, right_plane, lower_matrix, cap}

-- The matrices are those of the array, and so is the row between them.
pub record MakesTiles (planes : PlaneTables) (left right : Matrix) (caps : List Basic) (part : Matrix) : Type 0 where
  pub left_is : left ≡ left_plane planes
  pub right_is : right ≡ right_plane planes
  pub caps_are : caps ≡ map (cap planes) (range_with_len 0 planes.cols)
  pub part_is : part ≡ lower_matrix planes
