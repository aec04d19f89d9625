-- The tile of an array by the part of it in which its row and column lie.
use Rattle.std.proofs.Common.{◌≡◌, ℕ, ◌+◌, ◌-◌, ◌<◌, ◌≤◌, ◌==◌, Bool, true, false, nat_lt, if◌then◌else◌, refl, ◌∙◌, arith}
use Rattle.std.proofs.lemmas.Bool.{lt-ltb, le-ltb, eq-eqb, ne_eqb}
use Rattle.micro_tiles.specs.declared.basic.Basic.TheVariants as tiles
use Rattle.micro_tiles.specs.Basics.{number_named}
use Rattle.micro_tiles.specs.Table.{transpose_of}
use Rattle.gate_matrix.specs.Cells.{matrix_tile}
use Rattle.pla_plan.specs.Planes.{PlaneTables, plane_rows, right_from, right_end, left_plane, right_plane, lower_matrix, cap, plane_tile, planes_tile}

-- a choice whose test is known
pub first_of : {X : Type 0} (t : Bool) (a b : X) → t ≡ true → (if t then a else b) ≡ a
first_of true a b e = refl
first_of false a b e = absurd (cc)

pub second_of : {X : Type 0} (t : Bool) (a b : X) → t ≡ false → (if t then a else b) ≡ b
second_of false a b e = refl
second_of true a b e = absurd (cc)

module _ (planes : PlaneTables) (row col : ℕ) where
  pub in_planes : row < plane_rows planes → planes_tile planes row col ≡ plane_tile planes row col
  in_planes h = first_of (nat_lt row (plane_rows planes)) _ _ (lt-ltb row (plane_rows planes) h)

  pub between : row ≡ plane_rows planes → planes_tile planes row col ≡ number_named (cap planes col)
  between h =
      second_of (nat_lt row (plane_rows planes)) _ _ (le-ltb row (plane_rows planes) (omega arith))
      ∙ first_of (row == plane_rows planes) _ _ (eq-eqb row (plane_rows planes) h)

  pub in_part : plane_rows planes < row → planes_tile planes row col ≡ matrix_tile (lower_matrix planes) (row - (plane_rows planes + 1)) col
  in_part h =
      second_of (nat_lt row (plane_rows planes)) _ _ (le-ltb row (plane_rows planes) (omega arith))
      ∙ second_of (row == plane_rows planes) _ _ (ne_eqb row (plane_rows planes) (λ e. omega arith))

  pub in_left : col < right_from planes → plane_tile planes row col ≡ matrix_tile (left_plane planes) row col
  in_left h = first_of (nat_lt col (right_from planes)) _ _ (lt-ltb col (right_from planes) h)

  pub in_right : right_from planes ≤ col → col < right_end planes
      → plane_tile planes row col ≡ transpose_of (matrix_tile (right_plane planes) (col - right_from planes) row)
  in_right low high =
      second_of (nat_lt col (right_from planes)) _ _ (le-ltb col (right_from planes) low)
      ∙ first_of (nat_lt col (right_end planes)) _ _ (lt-ltb col (right_end planes) high)

  pub in_rest : right_end planes ≤ col → plane_tile planes row col ≡ number_named tiles.Empty
  in_rest h =
      second_of (nat_lt col (right_from planes)) _ _ (le-ltb col (right_from planes) (omega arith))
      ∙ second_of (nat_lt col (right_end planes)) _ _ (le-ltb col (right_end planes) h)
