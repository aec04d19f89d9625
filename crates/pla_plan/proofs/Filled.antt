-- An automaton's array has squares in each of its outermost rows and columns: its last row is the metal below its last transfer.
use Rattle.std.proofs.Common.{◌≡◌, ℕ, ◌+◌, ◌-◌, ◌*◌, ◌<◌, ◌≤◌, ◌==◌, ℤ, pos, Bool, true, false, inl, List, [], ◌∷◌, ◌++◌, replicate, flat_map, length, get_or, refl, sym, ap, subst, ◌∙◌, arith, append_assoc, length-append}
use Rattle.std.proofs.lemmas.Int.{ints}
use Rattle.std.proofs.lemmas.List.{get_or-append_right}
use Rattle.geom.specs.declared.layer.Layer.{Layer}
use Rattle.geom.specs.declared.layer.Layer.TheVariants.{Poly, Metal}
use Rattle.geom.specs.Squares.{Inside, Covered}
use Rattle.micro_tiles.specs.declared.basic.Basic.TheVariants as tiles
use Rattle.micro_tiles.specs.Basics.{number_named}
use Rattle.micro_tiles.specs.Boxes.{box}
use Rattle.micro_tiles.specs.Shapes.{IsInner, TilesKeepInside}
use Rattle.micro_tiles.specs.Table.{boxes, design_of}
use Rattle.stick_grid.specs.Plans.{Plan, IsPlan, Covers, local_x, local_y}
use Rattle.nor_net.specs.declared.gate.Transfer.{Transfer}
use Rattle.nor_net.specs.Part.{PartTables, clock_net}
use Rattle.gate_matrix.specs.declared.row.RowKind.TheVariants.{Start, Top, Middle, Bottom}
use Rattle.gate_matrix.specs.declared.column.Column.{Column}
use Rattle.gate_matrix.specs.declared.column.Column.TheVariants.{Load, Gate, Wire, Device, Free}
use Rattle.gate_matrix.specs.Columns.{column_of, ColumnsAreOfNets}
use Rattle.gate_matrix.specs.Rows.{MatrixRow, closed_row, blank_row}
use Rattle.gate_matrix.specs.Cells.{cell, metal_over, device_cell, is_gated}
use Rattle.gate_matrix.specs.PartRows.{rows_of_gates, rows_of_load, rows_of_transfer, rows_of_part, height_of_part}
use Rattle.gate_matrix.specs.Drawn.{PartsFillRows}
use Rattle.pla_plan.specs.Planes.{PlaneTables, plane_rows, right_from, lower_matrix, planes_tile, planes_plan}
use Rattle.pla_plan.specs.Fits.{IsArray}
use Rattle.pla_plan.specs.Filled.{CoveredSquare, FillsTiles}
use Rattle.pla_plan.proofs.PlaneTiles.{in_planes, in_part, in_left}
use Rattle.pla_plan.proofs.PlaneColumns.{left_wire}
use Rattle.pla_plan.proofs.PlaneParts.{low_height}

-- ---- tiles with a square in their middle

abbrev MidCovered : Layer → ℕ → Type 0
MidCovered layer tile = Covered (boxes tile) layer (pos 6) (pos 6)

middle : (layer : Layer) (x1 y1 x2 y2 : ℕ) → x1 ≤ 6 → y1 ≤ 6 → 6 < x2 → 6 < y2 → Inside (box layer x1 y1 x2 y2) (pos 6) (pos 6)
middle layer x1 y1 x2 y2 l b r t = record {
  left = omega (arith, ints, l);
  right = omega (arith, ints, r);
  bottom = omega (arith, ints, b);
  top = omega (arith, ints, t);
}

across : Inside (box Metal 0 5 14 9) (pos 6) (pos 6)
across = middle Metal 0 5 14 9 (omega arith) (omega arith) (omega arith) (omega arith)

eastern : Inside (box Metal 5 5 14 9) (pos 6) (pos 6)
eastern = middle Metal 5 5 14 9 (omega arith) (omega arith) (omega arith) (omega arith)

western : Inside (box Metal 0 5 9 9) (pos 6) (pos 6)
western = middle Metal 0 5 9 9 (omega arith) (omega arith) (omega arith) (omega arith)

crossed : (meets : Bool) → MidCovered Metal (number_named (metal_over meets))
unfolding boxes design_of
crossed true = inl (refl, across)
crossed false = inl (refl, across)

bounded : (gated last onward : Bool) → MidCovered Metal (number_named (device_cell Bottom gated last onward))
unfolding boxes design_of
bounded true true onward = inl (refl, western)
bounded true false onward = inl (refl, across)
bounded false true true = inl (refl, western)
bounded false true false = inl (refl, western)
bounded false false onward = inl (refl, across)

at_load : MidCovered Metal (number_named tiles.MetalEast)
unfolding boxes design_of
at_load = inl (refl, eastern)

at_gate : MidCovered Metal (number_named tiles.MetalEastWest)
unfolding boxes design_of
at_gate = inl (refl, across)

begun : MidCovered Poly (number_named tiles.PolySouth)
unfolding boxes design_of
begun = inl (refl, middle Poly 6 0 8 8 (omega arith) (omega arith) (omega arith) (omega arith))

-- metal below devices has all of its row's columns
bottom_covers : (metal : ℕ) (gated : List ℕ) (onward : Bool) (column : Column) (last : Bool)
    → MidCovered Metal (number_named (cell (record { kind = Bottom; metal = metal; gated = gated; onward = onward }) column last))
bottom_covers metal gated onward Load last = at_load
bottom_covers metal gated onward Gate last = at_gate
bottom_covers metal gated onward (Wire net) last = crossed (metal == net)
bottom_covers metal gated onward (Device net) last = bounded (is_gated gated net) last onward
bottom_covers metal gated onward Free last = bounded false last onward

-- ---- the last row of a part

-- The rows end with metal below devices.
record EndsBelow (rows : List MatrixRow) : Type 0 where
  before : List MatrixRow
  metal : ℕ
  gated : List ℕ
  are : rows ≡ before ++ closed_row Bottom metal gated ∷ []

ends_behind : (first rows : List MatrixRow) → EndsBelow rows → EndsBelow (first ++ rows)
ends_behind first rows ends = record {
  before = first ++ ends.before;
  metal = ends.metal;
  gated = ends.gated;
  are = ap (λ l. first ++ l) ends.are ∙ sym (append_assoc first ends.before (closed_row Bottom ends.metal ends.gated ∷ []));
}

transfers_end : (part : PartTables) (transfers : List Transfer) → 1 ≤ length transfers → EndsBelow (flat_map (rows_of_transfer part) transfers)
transfers_end part [] some = absurd (omega arith)
transfers_end part (t ∷ []) some = record {
  before = closed_row Top t.from (clock_net part t.clock ∷ []) ∷ closed_row Middle 0 (clock_net part t.clock ∷ []) ∷ [];
  metal = t.to;
  gated = clock_net part t.clock ∷ [];
  are = refl;
}
transfers_end part (t ∷ next ∷ more) some =
    ends_behind (rows_of_transfer part t) (flat_map (rows_of_transfer part) (next ∷ more)) (transfers_end part (next ∷ more) (omega arith))

last_of : (rows : List MatrixRow) (ends : EndsBelow rows) (i : ℕ) → i + 1 ≡ length rows
    → get_or rows i blank_row ≡ closed_row Bottom ends.metal ends.gated
last_of rows ends i e =
    let row = closed_row Bottom ends.metal ends.gated in
    let long : length rows ≡ length ends.before + 1 = ap length ends.are ∙ length-append ends.before (row ∷ []) in
    let here : i - length ends.before ≡ 0 = omega arith in
    ap (λ (l : List MatrixRow). get_or l i blank_row) ends.are
    ∙ get_or-append_right ends.before (row ∷ []) (length ends.before) i blank_row refl (omega arith)
    ∙ ap (λ k. get_or (row ∷ []) k blank_row) here

-- ---- squares of a plan

-- a plan covers the middle of a tile that is covered there
module _ (plan : Plan) (row col : ℕ) (is_row : row < plan.rows) (is_col : col < plan.cols) (layer : Layer)
    (mid : MidCovered layer (plan.tile row col)) where
  abbrev low : ℕ
  low = 14 * (plan.rows - 1 - row)

  there_x : local_x col (pos (14 * col + 6)) ≡ pos 6
  there_x = omega (arith, ints)

  there_y : local_y plan row (pos (low + 6)) ≡ pos 6
  there_y = omega (arith, ints)

  abbrev square : CoveredSquare (Covers plan)
  square = record {
    layer = layer;
    x = pos (14 * col + 6);
    y = pos (low + 6);
    covered = record {
      row = row;
      col = col;
      is_row = is_row;
      is_col = is_col;
      covered = subst (λ y. Covered (boxes (plan.tile row col)) layer (local_x col (pos (14 * col + 6))) y) (sym there_y)
          (subst (λ x. Covered (boxes (plan.tile row col)) layer x (pos 6)) (sym there_x) mid);
    };
  }

-- ---- those of an array whose part has a transfer

module _ (planes : PlaneTables) (array : IsArray planes) (some : 1 ≤ length planes.part.transfers) (is : IsPlan (planes_plan planes))
    (columns : ColumnsAreOfNets) (parts : PartsFillRows) (inside : TilesKeepInside) where
  abbrev plan : Plan
  plan = planes_plan planes

  abbrev last : ℕ
  last = planes.rows - 1

  ends : EndsBelow (lower_matrix planes).rows
  ends =
      let part = planes.part in
      let transfers = flat_map (rows_of_transfer part) part.transfers in
      let loads = flat_map (rows_of_load part) part.loads in
      let gates = rows_of_gates part [] part.gates in
      ends_behind (replicate ((planes.rows - (plane_rows planes + 1)) - height_of_part part) blank_row) (rows_of_part part)
      (ends_behind (gates ++ loads) transfers (transfers_end part part.transfers some))

  last_row : get_or (lower_matrix planes).rows (last - (plane_rows planes + 1)) blank_row ≡ closed_row Bottom ends.metal ends.gated
  last_row =
      let long = low_height planes array parts in
      let room = array.part_fits.some_row in
      last_of (lower_matrix planes).rows ends (last - (plane_rows planes + 1)) (omega arith)

  last_covers : (col : ℕ) → MidCovered Metal (planes_tile planes last col)
  last_covers col =
      let room = array.part_fits.some_row in
      let column = column_of planes.at col in
      let end = col + 1 == planes.cols in
      subst (MidCovered Metal) (sym (in_part planes last col (omega arith)))
      (subst (λ row. MidCovered Metal (number_named (cell row column end))) (sym last_row) (bottom_covers ends.metal ends.gated false column end))

  first_covers : MidCovered Poly (planes_tile planes 0 2)
  first_covers =
      let wire = left_wire planes array columns 0 (omega arith) in
      subst (MidCovered Poly) (sym (in_planes planes 0 2 (omega arith) ∙ in_left planes 0 2 (omega arith)))
      (subst (λ column. MidCovered Poly (number_named (cell (closed_row Start 0 []) column (2 + 1 == right_from planes)))) (sym wire) begun)

  some_row : 0 < planes.rows
  some_row = let room = array.rows_fit in omega arith

  some_cols : 3 ≤ planes.cols
  some_cols = let room = array.cols_fit in omega arith

  within : (layer : Layer) (x y : ℤ) (h : Covers plan layer x y) → IsInner (pos 0) (local_x h.col x) (local_y plan h.row y)
  within layer x y h = (inside (plan.tile h.row h.col) (is.known h.row h.col h.is_row h.is_col)).all layer _ _ h.covered

  pub fills : FillsTiles (Covers plan) planes.cols planes.rows
  fills =
      let rows = some_row in
      let cols = some_cols in
      record {
        left = λ layer x y h. let edge = (within layer x y h).left in omega (arith, ints, edge);
        right = λ layer x y h. let edge = (within layer x y h).right in
            let below = h.is_col in omega (arith, ints, edge, below);
        bottom = λ layer x y h. let edge = (within layer x y h).bottom in omega (arith, ints, edge);
        top = λ layer x y h. let edge = (within layer x y h).top in
            let below = h.is_row in omega (arith, ints, edge, below);
        west = square plan last 0 (omega arith) (omega arith) Metal (last_covers 0);
        westernmost = omega (arith, ints);
        east = square plan last (planes.cols - 1) (omega arith) (omega arith) Metal (last_covers (planes.cols - 1));
        easternmost = omega (arith, ints);
        south = square plan last 0 (omega arith) (omega arith) Metal (last_covers 0);
        southernmost = omega (arith, ints);
        north = square plan 0 2 (omega arith) (omega arith) Poly first_covers;
        northernmost = omega (arith, ints);
      }
