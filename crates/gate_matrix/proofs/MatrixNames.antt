-- The names of a gate matrix's nets.
use Rattle.std.proofs.Common.{◌≡◌, ℕ, zero, suc, ◌+◌, ◌-◌, ◌<◌, ◌==◌, inl, inr, Bool, true, false, length, refl, sym, ◌∙◌, ap, subst, arith}
use Rattle.std.proofs.lemmas.Bool.{ne_eqb}
use Rattle.micro_tiles.specs.declared.side.Side.TheVariants.{North, East, West}
use Rattle.micro_tiles.specs.Sides.{Carries}
use Rattle.stick_grid.specs.Pieces.{Piece, MeetsAtEast, MeetsAtSouth}
use Rattle.stick_grid.specs.Names.{IsPiece, AreNames, PathsJoin}
use Rattle.gate_matrix.specs.declared.column.Column.{Column}
use Rattle.gate_matrix.specs.declared.column.Column.TheVariants as columns
use Rattle.gate_matrix.specs.declared.row.RowKind.{RowKind}
use Rattle.gate_matrix.specs.declared.row.RowKind.TheVariants.{Through, Vdd, Load, Out, Top, Middle, Bottom}
use Rattle.gate_matrix.specs.Rows.{blank_row, has_metal}
use Rattle.gate_matrix.specs.Columns.{column_of}
use Rattle.gate_matrix.specs.Cells.{Matrix, matrix_plan, cell, is_gated}
use Rattle.gate_matrix.specs.MatrixNets.{row_at, matrix_name, net_among, AreMatrixNets}
use Rattle.gate_matrix.proofs.Ports.{port}
use Rattle.gate_matrix.proofs.ColumnFacts.{beside}
use Rattle.gate_matrix.proofs.ColumnsOfNets.{of_wire, of_device}
use Rattle.gate_matrix.proofs.TileNets.{net}
use Rattle.gate_matrix.proofs.CellNets.{CellNet, cell_net}
use Rattle.gate_matrix.proofs.CellNets.CellNet.{metal, wire, gate, top, bottom, load_gate, load_top, load_bottom, corner}
use Rattle.gate_matrix.proofs.Stacks.{over_load, under_load, under_middle, over_middle}
use Rattle.gate_matrix.proofs.Meetings as meetings
use Rattle.gate_matrix.proofs.Meetings.{wire_name}
use Rattle.gate_matrix.proofs.Homes.{home, is_there, home_exists, home_named, meets_named, leads_home}

module _ (matrix : Matrix) (nets : ℕ → ℕ) (count vdd : ℕ) (is : AreMatrixNets matrix nets count vdd) where
  abbrev kind_at : ℕ → RowKind
  kind_at r = (row_at matrix r).kind

  -- ---- names are nets of the matrix

  metal_below : (r : ℕ) → r < length matrix.rows → has_metal (kind_at r) ≡ true → nets r < count
  metal_below r below m =
      let fit = is.wires_fit in
      elim (is.metal r below m) [
        | inl w ↦ let e = w.is in let few = w.below in omega arith
        | inr o ↦ o.below
      ]

  below_metal : (r : ℕ) (kind : RowKind) → kind_at r ≡ kind → (kind ≡ Through → ⊥) → has_metal kind ≡ true → nets r < count
  below_metal r kind e some m = metal_below r (is_there matrix nets count vdd is r kind e some) (ap has_metal e ∙ m)

  above_load : (r : ℕ) → r < length matrix.rows → kind_at r ≡ Load → nets (r - 1) < count
  above_load zero below m = let e = over_load blank_row (row_at matrix 0) is.north m in absurd (cc)
  above_load (suc r) below m =
      let n : r + 1 ≡ suc r = omega arith in
      let v = over_load (row_at matrix r) (row_at matrix (r + 1)) (is.south r (omega arith)) (ap kind_at n ∙ m) in
      let e : r ≡ suc r - 1 = omega arith in
      subst (λ (s : ℕ). nets s < count) e (below_metal r Vdd v (λ f. cc) refl)

  above_middle : (r i : ℕ) → r < length matrix.rows → kind_at r ≡ Middle → is_gated (row_at matrix r).gated i ≡ true
      → nets (r - 1) < count
  above_middle zero i below m g =
      let over = over_middle blank_row (row_at matrix 0) is.north i m g in
      absurd (elim over.0 [ inl e ↦ cc | inr e ↦ cc ])
  above_middle (suc r) i below m g =
      let n : r + 1 ≡ suc r = omega arith in
      let over = over_middle (row_at matrix r) (row_at matrix (r + 1)) (is.south r (omega arith)) i (ap kind_at n
      ∙ m) (ap (λ (s : ℕ). is_gated (row_at matrix s).gated i) n ∙ g) in
      let e : r ≡ suc r - 1 = omega arith in
      subst (λ (s : ℕ). nets s < count) e
      (elim over.0 [ inl o ↦ below_metal r Out o (λ f. cc) refl | inr t ↦ below_metal r Top t (λ f. cc) refl ])

  under_middle_metal : (r : ℕ) → r < length matrix.rows → kind_at r ≡ Middle → nets (r + 1) < count
  under_middle_metal r below m = below_metal (r + 1) Bottom (under_middle (row_at matrix r) (row_at matrix (r + 1)) (is.south r below) m)
      (λ f. cc) refl

  under_load_metal : (r : ℕ) → r < length matrix.rows → kind_at r ≡ Load → nets (r + 1) < count
  under_load_metal r below m = below_metal (r + 1) Out (under_load (row_at matrix r) (row_at matrix (r + 1)) (is.south r below) m) (λ f. cc) refl

  abbrev named : ℕ → Column → ℕ → ℕ
  named r k n = net_among k (nets (r - 1)) (nets r) (nets (r + 1)) n

  is_below : (r c n m : ℕ) (k : Column) (name : ℕ) → n ≡ m → column_of matrix.at c ≡ k → named r k m ≡ name → name < count
      → named r (column_of matrix.at c) n < count
  is_below r c n m k name e f g h =
      let whole : named r (column_of matrix.at c) n ≡ name = ap (named r (column_of matrix.at c)) e ∙ ap (λ (j : Column). named r j m) f ∙ g in
      subst (λ (x : ℕ). x < count) (sym whole) h

  name_below : (r c n : ℕ) → r < length matrix.rows → CellNet (row_at matrix r) (column_of matrix.at c) n
      → named r (column_of matrix.at c) n < count
  name_below r c n is_row (metal m e) = is_below r c n 0 (column_of matrix.at c) (nets r) e refl refl (metal_below r is_row m)
  name_below r c n is_row (wire i k e) =
      let few = (of_wire matrix.at i c k).0 in
      let fit = is.wires_fit in
      is_below r c n _ (columns.Wire i) i e k
      (wire_name (kind_at r) i ((row_at matrix r).metal == i) (nets (r - 1)) (nets r) (nets (r + 1))
      (meets_named matrix nets count vdd is i few r is_row)) (omega arith)
  name_below r c n is_row (gate i k m g e) = let few = (of_device matrix.at i c k).0 in let fit = is.wires_fit in
      is_below r c n 1 (columns.Device i) i e k refl (omega arith)
  name_below r c n is_row (top i k m g e) = is_below r c n 2 (columns.Device i) (nets (r - 1)) e k refl (above_middle r i is_row m g)
  name_below r c n is_row (bottom i k m g e) = is_below r c n 3 (columns.Device i) (nets (r + 1)) e k refl (under_middle_metal r is_row m)
  name_below r c n is_row (load_gate k m e) = is_below r c n 1 columns.Load (nets (r + 1)) e k refl (under_load_metal r is_row m)
  name_below r c n is_row (load_top k m e) = is_below r c n 2 columns.Load (nets (r - 1)) e k refl (above_load r is_row m)
  name_below r c n is_row (load_bottom k m e) = is_below r c n 3 columns.Load (nets (r + 1)) e k refl (under_load_metal r is_row m)
  name_below r c n is_row (corner k m e) = is_below r c n 1 columns.Gate (nets (r + 1)) e k refl (under_load_metal r is_row m)

  -- ---- what a tile's net is

  of_cell : (p : Piece) → IsPiece (matrix_plan matrix) p → CellNet (row_at matrix p.row) (column_of matrix.at p.col) p.net
  of_cell p h =
      subst (CellNet (row_at matrix p.row) (column_of matrix.at p.col)) (sym h.number)
      (cell_net h.side h.layer (row_at matrix p.row) (column_of matrix.at p.col) (p.col + 1 == matrix.cols) h.carried)

  -- ---- nets that meet

  east_names : (a b : Piece) → MeetsAtEast (matrix_plan matrix) a b → matrix_name nets matrix.at a ≡ matrix_name nets matrix.at b
  east_names a b h =
      let r = a.row in
      let c = a.col in
      let inner : (c + 1 == matrix.cols) ≡ false = (let col = h.col in let below = h.is_col in ne_eqb (c + 1) matrix.cols (λ e. omega arith)) in
      let row = row_at matrix r in
      let carried : Carries (port (cell row (column_of matrix.at c) false) East) h.layer =
      subst (λ (t : Bool). Carries (port (cell row (column_of matrix.at c) t) East) h.layer) inner h.carried in
      let first : a.net ≡ net (cell row (column_of matrix.at c) false) East h.layer =
      h.first ∙ ap (λ (t : Bool). net (cell row (column_of matrix.at c) t) East h.layer) inner in
      let second : b.net ≡ net (cell row (column_of matrix.at (c + 1)) (c + 1 + 1 == matrix.cols)) West h.layer =
      h.second
      ∙ ap (λ (s : ℕ). net (cell (row_at matrix s) (column_of matrix.at b.col) (b.col + 1 == matrix.cols)) West h.layer) h.row
      ∙ ap (λ (s : ℕ). net (cell row (column_of matrix.at s) (s + 1 == matrix.cols)) West h.layer) h.col in
      let names = meetings.eastward row (c + 1 + 1 == matrix.cols) (nets (r - 1)) (nets r) (nets (r + 1))
      (column_of matrix.at c) (column_of matrix.at (c + 1)) (beside matrix.at matrix.cols c is.columns) h.layer carried in
      ap (named r (column_of matrix.at c)) first ∙ names
      ∙ ap (named r (column_of matrix.at (c + 1))) (sym second)
      ∙ ap (λ (s : ℕ). named r (column_of matrix.at s) b.net) (sym h.col)
      ∙ ap (λ (s : ℕ). named s (column_of matrix.at b.col) b.net) (sym h.row)

  south_names : (a b : Piece) → MeetsAtSouth (matrix_plan matrix) a b → matrix_name nets matrix.at a ≡ matrix_name nets matrix.at b
  south_names a b h =
      let r = a.row in
      let c = a.col in
      let upper = row_at matrix r in
      let lower = row_at matrix (r + 1) in
      let k = column_of matrix.at c in
      let last = c + 1 == matrix.cols in
      let second : b.net ≡ net (cell lower k last) North h.layer =
      h.second
      ∙ ap (λ (s : ℕ). net (cell (row_at matrix s) (column_of matrix.at b.col) (b.col + 1 == matrix.cols)) North h.layer) h.row
      ∙ ap (λ (s : ℕ). net (cell lower (column_of matrix.at s) (s + 1 == matrix.cols)) North h.layer) h.col in
      let lower_in : r + 1 < length matrix.rows = (let row = h.row in let b_row = h.is_row in omega arith) in
      let below : r < length matrix.rows = (let row = h.row in let b_row = h.is_row in omega arith) in
      let met : (i : ℕ) → k ≡ columns.Wire i → ((upper.metal == i) ≡ true → has_metal upper.kind ≡ true → nets r ≡ i)
      × ((lower.metal == i) ≡ true → has_metal lower.kind ≡ true → nets (r + 1) ≡ i) =
      λ i e.
      let few = (of_wire matrix.at i c e).0 in
      (meets_named matrix nets count vdd is i few r below, meets_named matrix nets count vdd is i few (r + 1) lower_in) in
      let names = meetings.southward upper lower (is.south r below) last (nets (r - 1)) (nets r) (nets (r + 1))
      (nets (r + 1 + 1)) k met h.layer h.carried in
      let e : r + 1 - 1 ≡ r = omega arith in
      ap (named r k) h.first ∙ names
      ∙ ap (λ (s : ℕ). net_among k (nets s) (nets (r + 1)) (nets (r + 1 + 1))
      (net (cell lower k last) North h.layer)) (sym e)
      ∙ ap (named (r + 1) k) (sym second)
      ∙ ap (λ (s : ℕ). named (r + 1) (column_of matrix.at s) b.net) (sym h.col)
      ∙ ap (λ (s : ℕ). named s (column_of matrix.at b.col) b.net) (sym h.row)

  -- ---- the whole

  pub are_names : PathsJoin (matrix_plan matrix) → AreNames (matrix_plan matrix) count (matrix_name nets matrix.at)
  are_names paths = record {
    below = λ p h. name_below p.row p.col p.net h.is_row (of_cell p h);
    eastward = east_names;
    southward = south_names;
    home = home matrix nets count vdd is;
    exists = home_exists matrix nets count vdd is;
    bears = home_named matrix nets count vdd is;
    leads = λ p h. leads_home matrix nets count vdd is paths p.row p.col p.net h.is_row h.is_col (of_cell p h);
  }
