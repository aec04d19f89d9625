-- A gate matrix is a plan.
use Rattle.std.proofs.Common.{◌≡◌, ℕ, ◌+◌, ◌==◌, Bool, true, false, not, ◌&&◌, List, get_or, refl, sym, ap, ◌∙◌, subst, arith}
use Rattle.std.proofs.lemmas.Bool.{ne_eqb}
use Rattle.geom.specs.declared.layer.Layer.TheVariants.{Diffusion, Poly}
use Rattle.micro_tiles.specs.declared.side.Side.TheVariants.{North, East, South, West}
use Rattle.micro_tiles.specs.Basics.{BasicTilesAreNamed}
use Rattle.gate_matrix.specs.declared.column.Column.{Column}
use Rattle.gate_matrix.specs.declared.column.Column.TheVariants as columns
use Rattle.gate_matrix.specs.declared.row.RowKind.{RowKind}
use Rattle.gate_matrix.specs.declared.row.RowKind.TheVariants.{Start, Through, Stop, Vdd, Load, Out, Top, Middle, Bottom}
use Rattle.gate_matrix.specs.Rows.{MatrixRow, blank_row}
use Rattle.gate_matrix.specs.Columns.{column_of}
use Rattle.gate_matrix.specs.Cells.{cell, is_gated}
use Rattle.gate_matrix.specs.Matrices.{gated_south, gated_north, LeadsOn, MatricesArePlans}
use Rattle.gate_matrix.proofs.Ports as ports
use Rattle.gate_matrix.proofs.Ports.{port, narrow, wide, goes_south, goes_north}
use Rattle.gate_matrix.proofs.ColumnFacts.{Beside, beside}
use Rattle.gate_matrix.proofs.ColumnFacts.Beside.{loads, gate_wire, gate_free, wire_device, device_wire, device_free, free_wire, free_free}

-- ---- side by side

module _ (row : MatrixRow) (last : Bool) where
  wire_west : (i : ℕ) → port (cell row (columns.Wire i) last) West ≡ wide row.kind
  wire_west i = ports.wire_west row.kind (row.metal == i) (is_gated row.gated i)

  free_west : port (cell row columns.Free last) West ≡ wide row.kind
  free_west = ports.device_west row.kind false last row.onward ∙ ports.free_west row.kind

  east_meets : (j k : Column) → Beside j k → port (cell row j false) East ≡ port (cell row k last) West
  east_meets _ _ loads = ports.gate_west row.kind
  east_meets _ _ (gate_wire i) = ports.gate_east row.kind ∙ sym (wire_west i)
  east_meets _ _ gate_free = ports.gate_east row.kind ∙ sym free_west
  east_meets _ _ (wire_device i) =
      ports.wire_east row.kind (row.metal == i) (is_gated row.gated i) ∙ sym (ports.device_west row.kind (is_gated row.gated i) last row.onward)
  east_meets _ _ (device_wire i j) = ports.device_east row.kind (is_gated row.gated i) row.onward ∙ sym (wire_west j)
  east_meets _ _ (device_free i) = ports.device_east row.kind (is_gated row.gated i) row.onward ∙ sym free_west
  east_meets _ _ (free_wire i) = ports.device_east row.kind false row.onward ∙ sym (wire_west i)
  east_meets _ _ free_free = ports.device_east row.kind false row.onward ∙ sym free_west

-- ---- one above another

pub south_gated : (kind : RowKind) (gated : List ℕ) (i : ℕ) → (goes_south kind && is_gated gated i) ≡ is_gated (gated_south kind gated) i
south_gated Start gated i = refl
south_gated Through gated i = refl
south_gated Stop gated i = refl
south_gated Vdd gated i = refl
south_gated Load gated i = refl
south_gated Out gated i = refl
south_gated Top gated i = refl
south_gated Middle gated i = refl
south_gated Bottom gated i = refl

pub north_gated : (kind : RowKind) (gated : List ℕ) (i : ℕ) → (goes_north kind && is_gated gated i) ≡ is_gated (gated_north kind gated) i
north_gated Start gated i = refl
north_gated Through gated i = refl
north_gated Stop gated i = refl
north_gated Vdd gated i = refl
north_gated Load gated i = refl
north_gated Out gated i = refl
north_gated Top gated i = refl
north_gated Middle gated i = refl
north_gated Bottom gated i = refl

and_none : (t : Bool) → (t && false) ≡ false
and_none true = refl
and_none false = refl

module _ (upper lower : MatrixRow) (leads : LeadsOn upper lower) (last : Bool) where
  south_meets : (k : Column) → port (cell upper k last) South ≡ port (cell lower k last) North
  south_meets columns.Load =
      ports.load_south upper.kind ∙ rw (leads.follows.load, leads.follows.out) refl ∙ sym (ports.load_north lower.kind)
  south_meets columns.Gate = ports.gate_south upper.kind ∙ ap (narrow Poly) leads.follows.out ∙ sym (ports.gate_north lower.kind)
  south_meets (columns.Wire i) =
      ports.wire_south upper.kind (upper.metal == i) (is_gated upper.gated i)
      ∙ ap (λ t. narrow Poly (not t)) (leads.ended ∙ sym leads.begun)
      ∙ sym (ports.wire_north lower.kind (lower.metal == i) (is_gated lower.gated i))
  south_meets (columns.Device i) =
      ports.device_south upper.kind (is_gated upper.gated i) last upper.onward
      ∙ ap (narrow Diffusion) (south_gated upper.kind upper.gated i ∙ ap (λ gated. is_gated gated i) leads.follows.devices
      ∙ sym (north_gated lower.kind lower.gated i))
      ∙ sym (ports.device_north lower.kind (is_gated lower.gated i) last lower.onward)
  south_meets columns.Free =
      ports.device_south upper.kind false last upper.onward
      ∙ ap (narrow Diffusion) (and_none (goes_south upper.kind) ∙ sym (and_none (goes_north lower.kind)))
      ∙ sym (ports.device_north lower.kind false last lower.onward)

-- ---- the whole

pub matrices_are_plans : BasicTilesAreNamed → MatricesArePlans
matrices_are_plans named matrix is = record {
  known = λ row col is_row is_col.
      let below = (named (cell (get_or matrix.rows row blank_row) (column_of matrix.at col) (col + 1 == matrix.cols))).0 in
      omega (arith, below);
  eastward = λ row col is_row is_col.
      let r = get_or matrix.rows row blank_row in
      let inner : (col + 1 == matrix.cols) ≡ false = ne_eqb (col + 1) matrix.cols (λ e. omega arith) in
      subst (λ t. port (cell r (column_of matrix.at col) t) East ≡ port (cell r (column_of matrix.at (col + 1)) (col + 1 + 1 == matrix.cols)) West)
      (sym inner)
      (east_meets r (col + 1 + 1 == matrix.cols) (column_of matrix.at col) (column_of matrix.at (col + 1))
      (beside matrix.at matrix.cols col is.columns));
  southward = λ row col is_row is_col.
      south_meets (get_or matrix.rows row blank_row) (get_or matrix.rows (row + 1) blank_row) (is.rows row is_row) (col + 1 == matrix.cols)
      (column_of matrix.at col);
}
