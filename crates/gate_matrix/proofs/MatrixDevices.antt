-- The devices of a gate matrix, row by row.
use Rattle.std.proofs.Common.{◌≡◌, ℕ, zero, suc, ◌+◌, ◌-◌, ◌<◌, ◌==◌, List, length, IsPermutation, refl, ◌∙◌, ap, arith}
use Rattle.std.specs.Prelude.{flat_map}
use Rattle.std.specs.List.{range_with_len}
use Rattle.switch_net.specs.declared.network.Device.{Device}
use Rattle.nmos_model.specs.Lists.{Matched}
use Rattle.stick_grid.specs.Devices.{transistor_in, transistors_in_row, transistors_of, IsNamedDevice}
use Rattle.gate_matrix.specs.declared.row.RowKind.TheVariants.{Load}
use Rattle.gate_matrix.specs.Rows.{blank_row}
use Rattle.gate_matrix.specs.Columns.{column_of}
use Rattle.gate_matrix.specs.Cells.{Matrix, matrix_plan}
use Rattle.gate_matrix.specs.MatrixNets.{row_at, matrix_name, devices_at, matrix_devices, AreMatrixNets}
use Rattle.gate_matrix.proofs.Stacks.{over_load}
use Rattle.gate_matrix.proofs.CellDevices.{matched_flat, cell_device, cell_has}
use Rattle.gate_matrix.proofs.RowDevices.{flat_permuted, row_permuted}

module _ (matrix : Matrix) (nets : ℕ → ℕ) (count vdd : ℕ) (is : AreMatrixNets matrix nets count vdd) where
  abbrev cells_at : ℕ → ℕ → List Device
  cells_at r c = cell_device (row_at matrix r).kind (row_at matrix r).gated (nets (r - 1)) (nets (r + 1))
      (column_of matrix.at c)

  abbrev pub drawn : List Device
  drawn = flat_map (λ r. flat_map (cells_at r) (range_with_len 0 matrix.cols)) (range_with_len 0 (length matrix.rows))

  supply_above : (r : ℕ) → r < length matrix.rows → (row_at matrix r).kind ≡ Load → nets (r - 1) ≡ vdd
  supply_above zero below m = let e = over_load blank_row (row_at matrix 0) is.north m in absurd (cc)
  supply_above (suc r) below m =
      let n : r + 1 ≡ suc r = omega arith in
      let v = over_load (row_at matrix r) (row_at matrix (r + 1)) (is.south r (omega arith)) (ap (λ (s : ℕ). (row_at matrix s).kind) n ∙ m) in
      let e : suc r - 1 ≡ r = omega arith in
      ap nets e ∙ is.supply r (omega arith) v

  pub are_drawn : Matched (IsNamedDevice (matrix_name nets matrix.at) vdd) (transistors_of (matrix_plan matrix)) drawn
  are_drawn =
      matched_flat (IsNamedDevice (matrix_name nets matrix.at) vdd) (transistors_in_row (matrix_plan matrix))
      (λ r. flat_map (cells_at r) (range_with_len 0 matrix.cols)) 0 (length matrix.rows)
      (λ r is_row.
      matched_flat (IsNamedDevice (matrix_name nets matrix.at) vdd) (transistor_in (matrix_plan matrix) r) (cells_at r) 0 matrix.cols
      (λ c is_col.
      cell_has (matrix_name nets matrix.at) vdd r c (nets (r - 1)) (nets r) (nets (r + 1)) (row_at matrix r)
      (column_of matrix.at c) (c + 1 == matrix.cols)
      (supply_above r (omega arith)) (λ n. refl)))

  pub as_listed : IsPermutation drawn (matrix_devices matrix nets)
  as_listed =
      flat_permuted (λ r. flat_map (cells_at r) (range_with_len 0 matrix.cols)) (devices_at matrix nets) 0 (length matrix.rows)
      (λ r below. row_permuted matrix.at matrix.cols is.columns (nets (r - 1)) (nets (r + 1)) (row_at matrix r).kind (row_at matrix r).gated
      (is.gates r (omega arith)))
