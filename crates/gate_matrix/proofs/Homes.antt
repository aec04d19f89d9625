-- Each net of a tile leads to the poly of its net at the north border.
use Rattle.std.proofs.Common.{◌≡◌, ℕ, zero, suc, ◌+◌, ◌-◌, ◌<◌, ◌≤◌, ◌==◌, ◌⊎◌, inl, inr, Bool, true, false, not, ◌&&◌, cond, length, Some, None, refl, sym, ◌∙◌, ap, subst, add-one, arith}
use Rattle.std.proofs.lemmas.Bool.{cases_lt, cases_Bool, eqb-true, eq-eqb, ne_eqb}
use Rattle.std.proofs.lemmas.List.{get_or_past}
use Rattle.geom.specs.declared.layer.Layer.{Layer}
use Rattle.geom.specs.declared.layer.Layer.TheVariants.{Diffusion, Poly, Metal}
use Rattle.micro_tiles.specs.declared.side.Port.{Port}
use Rattle.micro_tiles.specs.declared.side.Side.{Side}
use Rattle.micro_tiles.specs.declared.side.Side.TheVariants.{North, East, South, West}
use Rattle.micro_tiles.specs.Sides.{Carries}
use Rattle.micro_tiles.specs.Table.{design_of}
use Rattle.stick_grid.specs.Plans.{Plan}
use Rattle.stick_grid.specs.Pieces.{Piece, MeetsAtEast, MeetsAtSouth, Connected}
use Rattle.stick_grid.specs.Pieces.Connected.{same, east, west, south, north}
use Rattle.stick_grid.specs.Transistors.{piece}
use Rattle.stick_grid.specs.Names.{IsPiece, PathsJoin}
use Rattle.gate_matrix.specs.declared.column.Column.{Column}
use Rattle.gate_matrix.specs.declared.column.Column.TheVariants as columns
use Rattle.gate_matrix.specs.declared.row.RowKind.{RowKind}
use Rattle.gate_matrix.specs.declared.row.RowKind.TheVariants.{Start, Through, Stop, Vdd, Load, Out, Top, Middle, Bottom}
use Rattle.gate_matrix.specs.Rows.{MatrixRow, blank_row, has_metal}
use Rattle.gate_matrix.specs.Columns.{column_of}
use Rattle.gate_matrix.specs.Cells.{Matrix, matrix_plan, cell, is_gated, load_cell, gate_cell, device_cell}
use Rattle.gate_matrix.specs.Matrices.{is_start, is_stop}
use Rattle.gate_matrix.specs.MatrixNets.{row_at, matrix_name, net_among, IsWireMetal, IsOpenMetal, AreMatrixNets}
use Rattle.gate_matrix.proofs.Ports as ports
use Rattle.gate_matrix.proofs.Ports.{port}
use Rattle.gate_matrix.proofs.FilledColumns.{within, room, few_nets}
use Rattle.gate_matrix.proofs.ColumnsOfNets.{column_for, wire_of, of_wire, of_device, of_load, of_gate}
use Rattle.gate_matrix.proofs.TileNets.{net, metal_net}
use Rattle.gate_matrix.proofs.CellNets.{CellNet, wire_net}
use Rattle.gate_matrix.proofs.CellNets.CellNet.{metal, wire, gate, top, bottom, load_gate, load_top, load_bottom, corner}
use Rattle.gate_matrix.proofs.Stacks.{from_stop, over_load, under_load, under_middle, gated_below_middle, over_middle}
use Rattle.gate_matrix.proofs.Meetings.{wire_number, wire_name, load_east}
use Rattle.gate_matrix.proofs.Meetings as meetings

-- ---- what cells carry

load_metal_east : (kind : RowKind) → (port (load_cell kind) East).metal ≡ has_metal kind
unfolding design_of
load_metal_east Start = refl
load_metal_east Through = refl
load_metal_east Stop = refl
load_metal_east Vdd = refl
load_metal_east Load = refl
load_metal_east Out = refl
load_metal_east Top = refl
load_metal_east Middle = refl
load_metal_east Bottom = refl

metal_east : (row : MatrixRow) (k : Column) → (port (cell row k false) East).metal ≡ has_metal row.kind
metal_east row columns.Load = load_metal_east row.kind
metal_east row columns.Gate = ap (λ (q : Port). q.metal) (ports.gate_east row.kind)
metal_east row (columns.Wire i) = ap (λ (q : Port). q.metal) (ports.wire_east row.kind (row.metal == i) (is_gated row.gated i))
metal_east row (columns.Device i) = ap (λ (q : Port). q.metal) (ports.device_east row.kind (is_gated row.gated i) row.onward)
metal_east row columns.Free = ap (λ (q : Port). q.metal) (ports.device_east row.kind false row.onward)

-- The cell carries the layer at the side, on this net.
pub record Leads (row : MatrixRow) (k : Column) (last : Bool) (side : Side) (layer : Layer) (n : ℕ) : Type 0 where
  pub carried : Carries (port (cell row k last) side) layer
  pub number : n ≡ net (cell row k last) side layer

module _ (row : MatrixRow) (last : Bool) where
  wire_south : (k : Column) (i : ℕ) → k ≡ columns.Wire i → is_stop row.kind ≡ false → Leads row k last South Poly (wire_net row.kind (row.metal == i))
  wire_south k i e go =
      subst (λ (c : Column). Leads row c last South Poly (wire_net row.kind (row.metal == i))) (sym e) (record {
        carried =
            ap (λ (q : Port). q.other) (ports.wire_south row.kind (row.metal == i) (is_gated row.gated i))
            ∙ ap (λ t. cond (not t) (Some Poly) None) go;
        number = sym (wire_number row.kind (row.metal == i) (is_gated row.gated i) South);
      })

  wire_north : (k : Column) (i : ℕ) → k ≡ columns.Wire i → is_start row.kind ≡ false
      → Leads row k last North Poly (wire_net row.kind (row.metal == i))
  wire_north k i e begun =
      subst (λ (c : Column). Leads row c last North Poly (wire_net row.kind (row.metal == i))) (sym e) (record {
        carried =
            ap (λ (q : Port). q.other) (ports.wire_north row.kind (row.metal == i) (is_gated row.gated i))
            ∙ ap (λ t. cond (not t) (Some Poly) None) begun;
        number = sym (wire_number row.kind (row.metal == i) (is_gated row.gated i) North);
      })

  wire_north_number : (k : Column) (i : ℕ) → k ≡ columns.Wire i → wire_net row.kind (row.metal == i) ≡ net (cell row k last) North Poly
  wire_north_number k i e =
      subst (λ (c : Column). wire_net row.kind (row.metal == i) ≡ net (cell row c last) North Poly) (sym e)
      (sym (wire_number row.kind (row.metal == i) (is_gated row.gated i) North))

  branch_east : (k : Column) (i : ℕ) → k ≡ columns.Wire i → row.kind ≡ Middle → is_gated row.gated i ≡ true
      → Leads row k last East Poly (wire_net row.kind (row.metal == i))
  branch_east k i e m g =
      subst (λ (c : Column). Leads row c last East Poly (wire_net row.kind (row.metal == i))) (sym e) (record {
        carried = ap (λ (q : Port). q.other) (ports.wire_east row.kind (row.metal == i) (is_gated row.gated i))
            ∙ branched row.kind (is_gated row.gated i) m g;
        number = sym (wire_number row.kind (row.metal == i) (is_gated row.gated i) East);
      })
    where
      branched : (kind : RowKind) (gated : Bool) → kind ≡ Middle → gated ≡ true → cond (ports.branch kind gated) (Some Poly) None ≡ Some Poly
      branched kind gated f h = rw (f, h) refl

  -- a cell of devices, by its kind and whether it has one
  module _ (k : Column) (i : ℕ) (is : k ≡ columns.Device i) (gated : is_gated row.gated i ≡ true) where
    device_number : (kind : RowKind) → row.kind ≡ kind → (side : Side) (layer : Layer) (n : ℕ)
        → n ≡ net (device_cell kind true last row.onward) side layer
        → n ≡ net (cell row k last) side layer
    device_number kind e side layer n h =
        subst (λ (c : Column). n ≡ net (cell row c last) side layer) (sym is)
        (subst (λ (t : Bool). n ≡ net (device_cell row.kind t last row.onward) side layer) (sym gated)
        (subst (λ (v : RowKind). n ≡ net (device_cell v true last row.onward) side layer) (sym e) h))

    device_south : (kind : RowKind) → row.kind ≡ kind → ports.goes_south kind ≡ true → (n : ℕ)
        → n ≡ net (device_cell kind true last row.onward) South Diffusion
        → Leads row k last South Diffusion n
    device_south kind e goes n h = record {
      carried =
          subst (λ (c : Column). (port (cell row c last) South).other ≡ Some Diffusion) (sym is)
          (ap (λ (q : Port). q.other) (ports.device_south row.kind (is_gated row.gated i) last row.onward)
          ∙ narrowed row.kind (is_gated row.gated i) (ap ports.goes_south e ∙ goes) gated);
      number = device_number kind e South Diffusion n h;
    }
      where
        narrowed : (v : RowKind) (t : Bool) → ports.goes_south v ≡ true → t ≡ true
            → cond (ports.goes_south v && t) (Some Diffusion) None ≡ Some Diffusion
        narrowed v t f g = rw (f, g) refl

  load_number : (k : Column) → k ≡ columns.Load → (kind : RowKind) → row.kind ≡ kind → (side : Side) (layer : Layer) (n : ℕ)
      → n ≡ net (load_cell kind) side layer
      → n ≡ net (cell row k last) side layer
  load_number k is kind e side layer n h =
      subst (λ (c : Column). n ≡ net (cell row c last) side layer) (sym is) (subst (λ (v : RowKind). n ≡ net (load_cell v) side layer) (sym e) h)

  load_other : (k : Column) → k ≡ columns.Load → (kind : RowKind) → row.kind ≡ kind → (side : Side) (layer : Layer)
      → (port (load_cell kind) side).other ≡ Some layer
      → (port (cell row k last) side).other ≡ Some layer
  load_other k is kind e side layer h =
      subst (λ (c : Column). (port (cell row c last) side).other ≡ Some layer) (sym is)
      (subst (λ (v : RowKind). (port (load_cell v) side).other ≡ Some layer) (sym e) h)

  gate_number : (k : Column) → k ≡ columns.Gate → (kind : RowKind) → row.kind ≡ kind → (side : Side) (layer : Layer) (n : ℕ)
      → n ≡ net (gate_cell kind) side layer
      → n ≡ net (cell row k last) side layer
  gate_number k is kind e side layer n h =
      subst (λ (c : Column). n ≡ net (cell row c last) side layer) (sym is) (subst (λ (v : RowKind). n ≡ net (gate_cell v) side layer) (sym e) h)

  gate_other : (k : Column) → k ≡ columns.Gate → (kind : RowKind) → row.kind ≡ kind → (side : Side) (layer : Layer)
      → (port (gate_cell kind) side).other ≡ Some layer
      → (port (cell row k last) side).other ≡ Some layer
  gate_other k is kind e side layer h =
      subst (λ (c : Column). (port (cell row c last) side).other ≡ Some layer) (sym is)
      (subst (λ (v : RowKind). (port (gate_cell v) side).other ≡ Some layer) (sym e) h)

vdd_carries : (port (load_cell Vdd) South).other ≡ Some Diffusion
unfolding design_of
vdd_carries = refl

load_carries_south : (port (load_cell Load) South).other ≡ Some Diffusion
unfolding design_of
load_carries_south = refl

load_carries_east : (port (load_cell Load) East).other ≡ Some Poly
unfolding design_of
load_carries_east = refl

corner_carries : (port (gate_cell Load) South).other ≡ Some Poly
unfolding design_of
corner_carries = refl

-- ---- meetings

module _ (matrix : Matrix) (nets : ℕ → ℕ) (count vdd : ℕ) (is : AreMatrixNets matrix nets count vdd) where
  abbrev plan : Plan
  plan = matrix_plan matrix

  abbrev height : ℕ
  height = length matrix.rows

  abbrev kind_at : ℕ → RowKind
  kind_at r = (row_at matrix r).kind

  abbrev column_at : ℕ → Column
  column_at = column_of matrix.at

  abbrev is_last : ℕ → Bool
  is_last c = c + 1 == matrix.cols

  -- the poly of a net's column in a row
  abbrev pub wire_piece : ℕ → ℕ → Piece
  wire_piece r i = piece r (column_for matrix.at i) (wire_net (kind_at r) ((row_at matrix r).metal == i))

  -- the home of a net: the poly of its column in the first row, or else the metal of its row
  abbrev pub home_by : (n : ℕ) → (n < length matrix.at) ⊎ (length matrix.at ≤ n) → Piece
  home_by n (inl has_wire) = wire_piece 0 n
  home_by n (inr open_net) = piece (is.opener n) 0 0

  abbrev pub home : ℕ → Piece
  home n = home_by n (cases_lt n (length matrix.at))

  home_wire : (n : ℕ) → n < length matrix.at → home n ≡ wire_piece 0 n
  home_wire n few = by_cases (cases_lt n (length matrix.at))
    where
      by_cases : (s : (n < length matrix.at) ⊎ (length matrix.at ≤ n)) → home_by n s ≡ wire_piece 0 n
      by_cases (inl h) = refl
      by_cases (inr h) = absurd (omega arith)

  home_open : (n : ℕ) → length matrix.at ≤ n → home n ≡ piece (is.opener n) 0 0
  home_open n many = by_cases (cases_lt n (length matrix.at))
    where
      by_cases : (s : (n < length matrix.at) ⊎ (length matrix.at ≤ n)) → home_by n s ≡ piece (is.opener n) 0 0
      by_cases (inl h) = absurd (omega arith)
      by_cases (inr h) = refl

  pub is_there : (r : ℕ) (kind : RowKind) → kind_at r ≡ kind → (kind ≡ Through → ⊥) → r < height
  is_there r kind e some = elim (cases_lt r height) [
    | inl h ↦ h
    | inr h ↦ let past = get_or_past matrix.rows r blank_row h in absurd (some (sym e ∙ ap (λ (row : MatrixRow). row.kind) past))
  ]

  -- a net that leads out to the south, and the net below it
  meets_south : (r c m n : ℕ) (layer : Layer) → r + 1 < height → c < matrix.cols → Leads (row_at matrix r) (column_at c) (is_last c) South layer m
      → n ≡ net (cell (row_at matrix (r + 1)) (column_at c) (is_last c)) North layer → MeetsAtSouth plan (piece r c m) (piece (r + 1) c n)
  meets_south r c m n layer below within_cols leads number = record {
    layer = layer;
    row = refl;
    col = refl;
    is_row = below;
    is_col = within_cols;
    carried = leads.carried;
    first = leads.number;
    second = number;
  }

  meets_east : (r c m n : ℕ) (layer : Layer) → r < height → c + 1 < matrix.cols → Leads (row_at matrix r) (column_at c) (is_last c) East layer m
      → n ≡ net (cell (row_at matrix r) (column_at (c + 1)) (is_last (c + 1))) West layer → MeetsAtEast plan (piece r c m) (piece r (c + 1) n)
  meets_east r c m n layer is_row is_col leads number = record {
    layer = layer;
    row = refl;
    col = refl;
    is_row = is_row;
    is_col = is_col;
    carried = leads.carried;
    first = leads.number;
    second = number;
  }

  -- ---- along a row

  metal_step : (r c : ℕ) → r < height → c + 1 < matrix.cols → has_metal (kind_at r) ≡ true → MeetsAtEast plan (piece r c 0) (piece r (c + 1) 0)
  metal_step r c is_row is_col m =
      let inner : is_last c ≡ false = ne_eqb (c + 1) matrix.cols (λ e. omega arith) in
      let carried : (port (cell (row_at matrix r) (column_at c) (is_last c)) East).metal ≡ true =
      ap (λ t. (port (cell (row_at matrix r) (column_at c) t) East).metal) inner ∙ metal_east (row_at matrix r) (column_at c) ∙ m in
      meets_east r c 0 0 Metal is_row is_col (record { carried = carried; number = metal_net _ East }) (metal_net _ West)

  to_west : (r c : ℕ) → r < height → c < matrix.cols → has_metal (kind_at r) ≡ true → Connected plan (piece r c 0) (piece r 0 0)
  to_west r zero is_row is_col m = same (piece r 0 0)
  to_west r (suc c) is_row is_col m =
      subst (λ (n : ℕ). Connected plan (piece r n 0) (piece r 0 0)) (add-one c)
      (west (piece r (c + 1) 0) (piece r c 0) (piece r 0 0) (metal_step r c is_row (omega arith) m) (to_west r c is_row (omega arith) m))

  -- ---- along a column

  module _ (i : ℕ) (few : i < length matrix.at) where
    wire_col : ℕ
    wire_col = column_for matrix.at i

    pub inside : (2 ≤ column_for matrix.at i) × (column_for matrix.at i + 2 ≤ matrix.cols)
    inside = within matrix.at matrix.cols 2 i is.columns few

    pub in_col : column_for matrix.at i < matrix.cols
    in_col = let h = inside.1 in omega arith

    pub is_wire : column_at (column_for matrix.at i) ≡ columns.Wire i
    is_wire = wire_of matrix.at matrix.cols i is.columns few

    wire_leads : (r : ℕ) → is_stop (kind_at r) ≡ false
        → Leads (row_at matrix r) (column_at (column_for matrix.at i)) (is_last (column_for matrix.at i)) South Poly
        (wire_net (kind_at r) ((row_at matrix r).metal == i))
    wire_leads r goes = wire_south (row_at matrix r) (is_last (column_for matrix.at i)) (column_at (column_for matrix.at i)) i is_wire goes

    wire_step : (r : ℕ) → r + 1 < height → MeetsAtSouth plan (wire_piece r i) (wire_piece (r + 1) i)
    wire_step r below =
        meets_south r (column_for matrix.at i) _ _ Poly below in_col (wire_leads r (is.ended r below))
        (wire_north_number (row_at matrix (r + 1)) (is_last (column_for matrix.at i)) (column_at (column_for matrix.at i)) i is_wire)

    climb : (r : ℕ) → r < height → Connected plan (wire_piece r i) (wire_piece 0 i)
    climb zero below = same (wire_piece 0 i)
    climb (suc r) below =
        subst (λ (n : ℕ). Connected plan (wire_piece n i) (wire_piece 0 i)) (add-one r)
        (north (wire_piece (r + 1) i) (wire_piece r i) (wire_piece 0 i) (wire_step r (omega arith)) (climb r (omega arith)))

    pub climbs : (r : ℕ) → r < height → Connected plan (wire_piece r i) (home i)
    climbs r below = subst (Connected plan (wire_piece r i)) (sym (home_wire i few)) (climb r below)

    wire_exists : IsPiece plan (wire_piece 0 i)
    wire_exists = elim (cases_Bool (is_stop (kind_at 0))) [
      | inl ends ↦
          let some = is.some_row in
          let stop = from_stop (kind_at 0) ends in
          let leads = wire_north (row_at matrix 0) (is_last (column_for matrix.at i)) (column_at (column_for matrix.at i)) i is_wire
          (ap is_start stop) in
          record { is_row = omega arith; is_col = in_col; side = North; layer = Poly; carried = leads.carried; number = leads.number }
      | inr goes ↦
          let some = is.some_row in
          let leads = wire_leads 0 goes in
          record { is_row = omega arith; is_col = in_col; side = South; layer = Poly; carried = leads.carried; number = leads.number }
    ]

    -- metal that meets the poly of the column is the net's
    pub meets_named : (r : ℕ) → r < height → ((row_at matrix r).metal == i) ≡ true → has_metal (kind_at r) ≡ true → nets r ≡ i
    meets_named r below meets m =
        let same = eqb-true (row_at matrix r).metal i meets in
        elim (is.metal r below m) [
          | inl w ↦ w.is ∙ same
          | inr o ↦ let none = o.no_wire in absurd (omega arith)
        ]

    wire_named : (r : ℕ) → r < height → matrix_name nets matrix.at (wire_piece r i) ≡ i
    wire_named r below =
        ap (λ (k : Column). net_among k (nets (r - 1)) (nets r) (nets (r + 1)) (wire_net (kind_at r) ((row_at matrix r).metal == i))) is_wire
        ∙ wire_name (kind_at r) i ((row_at matrix r).metal == i) (nets (r - 1)) (nets r) (nets (r + 1)) (meets_named r below)

  -- the metal of a row in the first column
  metal_exists : (r : ℕ) → r < height → has_metal (kind_at r) ≡ true → IsPiece plan (piece r 0 0)
  metal_exists r below m =
      let wide = few_nets matrix.at matrix.cols 2 is.columns in
      let some = is.some_wire in
      let inner : is_last 0 ≡ false = ne_eqb (0 + 1) matrix.cols (λ e. omega arith) in
      let carried : (port (cell (row_at matrix r) (column_at 0) (is_last 0)) East).metal ≡ true =
      ap (λ t. (port (cell (row_at matrix r) (column_at 0) t) East).metal) inner ∙ metal_east (row_at matrix r) (column_at 0) ∙ m in
      record { is_row = below; is_col = omega arith; side = East; layer = Metal; carried = carried; number = metal_net _ East }

  pub home_exists : (n : ℕ) → n < count → IsPiece plan (home n)
  home_exists n few = elim (cases_lt n (length matrix.at)) [
    | inl has_wire ↦ subst (IsPiece plan) (sym (home_wire n has_wire)) (wire_exists n has_wire)
    | inr many ↦ let o = is.opened n many few in subst (IsPiece plan) (sym (home_open n many)) (metal_exists (is.opener n) o.0 o.1)
  ]

  pub home_named : (n : ℕ) → n < count → matrix_name nets matrix.at (home n) ≡ n
  home_named n few = elim (cases_lt n (length matrix.at)) [
    | inl has_wire ↦ ap (matrix_name nets matrix.at) (home_wire n has_wire) ∙ (let some = is.some_row in wire_named n has_wire 0 (omega arith))
    | inr many ↦ ap (matrix_name nets matrix.at) (home_open n many) ∙ (is.opened n many few).2
  ]

  -- ---- to the home

  module _ (paths : PathsJoin plan) where
    wire_metal : (r : ℕ) → r < height → has_metal (kind_at r) ≡ true → IsWireMetal (length matrix.at) (row_at matrix r) (nets r)
        → Connected plan (piece r 0 0) (home (nets r))
    wire_metal r is_row m w =
        let i = (row_at matrix r).metal in
        let few = w.below in
        let here = column_for matrix.at i in
        let meets : (i == i) ≡ true = eq-eqb i i refl in
        let zero_number : wire_net (kind_at r) (i == i) ≡ 0 = rw (m, meets) refl in
        let at_wire : Connected plan (piece r here 0) (home i) =
        subst (λ (n : ℕ). Connected plan (piece r here n) (home i)) zero_number (climbs i few r is_row) in
        let back = paths.back (piece r here 0) (piece r 0 0) (to_west r here is_row (in_col i few) m) in
        subst (λ (n : ℕ). Connected plan (piece r 0 0) (home n)) (sym w.is) (paths.on (piece r 0 0) (piece r here 0) (home i) back at_wire)

    open_metal : (r : ℕ) → r < height → has_metal (kind_at r) ≡ true → IsOpenMetal (length matrix.at) count (row_at matrix r) (nets r)
        → Connected plan (piece r 0 0) (home (nets r))
    open_metal r is_row m o =
        let there : piece (is.opener (nets r)) 0 0 ≡ piece r 0 0 = ap (λ (x : ℕ). piece x 0 0) (is.opens r is_row m o.from) in
        subst (Connected plan (piece r 0 0)) (sym (home_open (nets r) o.from ∙ there)) (same (piece r 0 0))

    metal_home : (r c : ℕ) → r < height → c < matrix.cols → has_metal (kind_at r) ≡ true → Connected plan (piece r c 0) (home (nets r))
    metal_home r c is_row is_col m =
        let far : Connected plan (piece r 0 0) (home (nets r)) =
        elim (is.metal r is_row m) [ inl w ↦ wire_metal r is_row m w | inr o ↦ open_metal r is_row m o ] in
        paths.on (piece r c 0) (piece r 0 0) (home (nets r)) (to_west r c is_row is_col m) far

    -- the metal of the row above, and of the row below
    from_above : (r c n : ℕ) (row_exists : r + 1 < height) → MeetsAtSouth plan (piece r c 0) (piece (r + 1) c n) → has_metal (kind_at r) ≡ true
        → c < matrix.cols
        → Connected plan (piece (r + 1) c n) (home (nets (r + 1 - 1)))
    from_above r c n row_exists meets m is_col =
        let e : r ≡ r + 1 - 1 = omega arith in
        subst (λ (s : ℕ). Connected plan (piece (r + 1) c n) (home (nets s))) e
        (north (piece (r + 1) c n) (piece r c 0) (home (nets r)) meets (metal_home r c (omega arith) is_col m))

    from_below : (r c n : ℕ) (row_exists : r + 1 < height) → MeetsAtSouth plan (piece r c n) (piece (r + 1) c 0)
        → has_metal (kind_at (r + 1)) ≡ true → c < matrix.cols
        → Connected plan (piece r c n) (home (nets (r + 1)))
    from_below r c n row_exists meets m is_col =
        south (piece r c n) (piece (r + 1) c 0) (home (nets (r + 1))) meets (metal_home (r + 1) c row_exists is_col m)

    -- ---- devices

    module _ (c i : ℕ) (in_c : c < matrix.cols) (k : column_at c ≡ columns.Device i) where
      top_meets : (r : ℕ) → r + 1 < height → kind_at (r + 1) ≡ Middle → is_gated (row_at matrix (r + 1)).gated i ≡ true
          → MeetsAtSouth plan (piece r c 0) (piece (r + 1) c 2) × (has_metal (kind_at r) ≡ true)
      top_meets r below m g =
          let upper = row_at matrix r in
          let over = over_middle upper (row_at matrix (r + 1)) (is.south r (omega arith)) i m g in
          let number = device_number (row_at matrix (r + 1)) (is_last c) (column_at c) i k g Middle m North Diffusion 2
          (sym (meetings.pass_top (is_last c) (row_at matrix (r + 1)).onward)) in
          elim over.0 [
            | inl e ↦ (
              meets_south r c 0 2 Diffusion below in_c
                  (device_south upper (is_last c) (column_at c) i k over.1 Out e refl 0 (sym (meetings.out_number (is_last c) upper.onward))) number,
              ap has_metal e,
            )
            | inr e ↦ (
              meets_south r c 0 2 Diffusion below in_c
                  (device_south upper (is_last c) (column_at c) i k over.1 Top e refl 0 (sym (meetings.top_number (is_last c) upper.onward))) number,
              ap has_metal e,
            )
          ]

      top_home : (r : ℕ) → r < height → kind_at r ≡ Middle → is_gated (row_at matrix r).gated i ≡ true
          → Connected plan (piece r c 2) (home (nets (r - 1)))
      top_home zero below m g =
          let over = over_middle blank_row (row_at matrix 0) is.north i m g in
          absurd (elim over.0 [ inl e ↦ cc | inr e ↦ cc ])
      top_home (suc r) below m g =
          let n : r + 1 ≡ suc r = omega arith in
          let m' : kind_at (r + 1) ≡ Middle = ap kind_at n ∙ m in
          let g' : is_gated (row_at matrix (r + 1)).gated i ≡ true = ap (λ (s : ℕ). is_gated (row_at matrix s).gated i) n ∙ g in
          let meets = top_meets r (omega arith) m' g' in
          subst (λ (s : ℕ). Connected plan (piece s c 2) (home (nets (s - 1)))) n (from_above r c 2 (omega arith) meets.0 meets.1 in_c)

      bottom_home : (r : ℕ) → r < height → kind_at r ≡ Middle → is_gated (row_at matrix r).gated i ≡ true
          → Connected plan (piece r c 3) (home (nets (r + 1)))
      bottom_home r below m g =
          let upper = row_at matrix r in
          let lower = row_at matrix (r + 1) in
          let stacked = is.south r below in
          let e = under_middle upper lower stacked m in
          let there = is_there (r + 1) Bottom e (λ f. cc) in
          from_below r c 3 there
          (meets_south r c 3 0 Diffusion there in_c
          (device_south upper (is_last c) (column_at c) i k g Middle m refl 3 (sym (meetings.pass_bottom (is_last c) upper.onward)))
          (device_number lower (is_last c) (column_at c) i k (gated_below_middle upper lower stacked i m g) Bottom e North Diffusion 0
          (sym (meetings.bottom_number (is_last c) lower.onward))))
          (ap has_metal e) in_c

      gate_home : (r : ℕ) → r < height → kind_at r ≡ Middle → is_gated (row_at matrix r).gated i ≡ true → Connected plan (piece r c 1) (home i)
      gate_home r below m g =
          let of = of_device matrix.at i c k in
          let few = of.0 in
          let row = row_at matrix r in
          let w = column_for matrix.at i in
          let next : w + 1 ≡ c = of.1 in
          let number : 1 ≡ net (cell row (column_at (w + 1)) (is_last (w + 1))) West Poly =
          device_number row (is_last (w + 1)) (column_at (w + 1)) i (ap column_at next
          ∙ k) g Middle m West Poly 1 (sym (meetings.pass_gate (is_last (w + 1)) row.onward)) in
          let meets = meets_east r w (wire_net row.kind (row.metal == i)) 1 Poly below (omega arith)
          (branch_east row (is_last w) (column_at w) i (is_wire i few) m g) number in
          subst (λ (n : ℕ). Connected plan (piece r n 1) (home i)) next
          (west (piece r (w + 1) 1) (wire_piece r i) (home i) meets (climbs i few r below))

    -- ---- loads

    module _ (r : ℕ) (below : r < height) (m : kind_at r ≡ Load) where
      wide : 2 ≤ matrix.cols
      wide = room matrix.at matrix.cols 2 is.columns

      out_below : kind_at (r + 1) ≡ Out
      out_below = under_load (row_at matrix r) (row_at matrix (r + 1)) (is.south r below) m

      has_row : r + 1 < height
      has_row = is_there (r + 1) Out out_below (λ f. cc)

      corner_home : Connected plan (piece r 1 1) (home (nets (r + 1)))
      corner_home =
          from_below r 1 1 has_row
          (meets_south r 1 1 0 Poly has_row (let h = wide in omega arith)
          (record {
            carried = gate_other (row_at matrix r) (is_last 1) columns.Gate refl Load m South Poly corner_carries;
            number = gate_number (row_at matrix r) (is_last 1) columns.Gate refl Load m South Poly 1 (sym meetings.corner_south_number);
          })
          (gate_number (row_at matrix (r + 1)) (is_last 1) columns.Gate refl Out out_below North Poly 0 (sym meetings.out_gate_number)))
          (ap has_metal out_below) (let h = wide in omega arith)

      load_gate_home : Connected plan (piece r 0 1) (home (nets (r + 1)))
      load_gate_home =
          east (piece r 0 1) (piece r 1 1) (home (nets (r + 1)))
          (meets_east r 0 1 1 Poly below (let h = wide in omega arith)
          (record {
            carried = load_other (row_at matrix r) (is_last 0) columns.Load refl Load m East Poly load_carries_east;
            number = load_number (row_at matrix r) (is_last 0) columns.Load refl Load m East Poly 1 (sym meetings.load_gate_number);
          })
          (gate_number (row_at matrix r) (is_last 1) columns.Gate refl Load m West Poly 1 (sym meetings.corner_west_number)))
          corner_home

      load_bottom_home : Connected plan (piece r 0 3) (home (nets (r + 1)))
      load_bottom_home =
          from_below r 0 3 has_row
          (meets_south r 0 3 0 Diffusion has_row (let h = wide in omega arith)
          (record {
            carried = load_other (row_at matrix r) (is_last 0) columns.Load refl Load m South Diffusion load_carries_south;
            number = load_number (row_at matrix r) (is_last 0) columns.Load refl Load m South Diffusion 3 (sym meetings.load_bottom_number);
          })
          (load_number (row_at matrix (r + 1)) (is_last 0) columns.Load refl Out out_below North Diffusion 0 (sym meetings.out_load_number)))
          (ap has_metal out_below) (let h = wide in omega arith)

    load_top_meets : (r : ℕ) → r + 1 < height → kind_at (r + 1) ≡ Load → MeetsAtSouth plan (piece r 0 0) (piece (r + 1) 0 2) × (kind_at r ≡ Vdd)
    load_top_meets r below m =
        let v = over_load (row_at matrix r) (row_at matrix (r + 1)) (is.south r (omega arith)) m in
        let h = room matrix.at matrix.cols 2 is.columns in (
          meets_south r 0 0 2 Diffusion below (omega arith)
              (record {
                carried = load_other (row_at matrix r) (is_last 0) columns.Load refl Vdd v South Diffusion vdd_carries;
                number = load_number (row_at matrix r) (is_last 0) columns.Load refl Vdd v South Diffusion 0 (sym meetings.vdd_number);
              })
              (load_number (row_at matrix (r + 1)) (is_last 0) columns.Load refl Load m North Diffusion 2 (sym meetings.load_top_number)),
          v,
        )

    load_top_home : (r : ℕ) → r < height → kind_at r ≡ Load → Connected plan (piece r 0 2) (home (nets (r - 1)))
    load_top_home zero below m = let e = over_load blank_row (row_at matrix 0) is.north m in absurd (cc)
    load_top_home (suc r) below m =
        let n : r + 1 ≡ suc r = omega arith in
        let m' : kind_at (r + 1) ≡ Load = ap kind_at n ∙ m in
        let meets = load_top_meets r (omega arith) m' in
        let h = room matrix.at matrix.cols 2 is.columns in
        subst (λ (s : ℕ). Connected plan (piece s 0 2) (home (nets (s - 1)))) n
        (from_above r 0 2 (omega arith) meets.0 (ap has_metal meets.1) (omega arith))

    -- ---- each net of a tile

    -- the number of the name, by the column and the net of the tile
    abbrev named : ℕ → Column → ℕ → ℕ
    named r k n = net_among k (nets (r - 1)) (nets r) (nets (r + 1)) n

    renamed : (r c n m : ℕ) (k : Column) (name : ℕ) → n ≡ m → column_at c ≡ k → named r k m ≡ name → Connected plan (piece r c m) (home name)
        → Connected plan (piece r c n) (home (named r (column_at c) n))
    renamed r c n m k name e f g path =
        let whole : named r (column_at c) n ≡ name = ap (named r (column_at c)) e ∙ ap (λ (j : Column). named r j m) f ∙ g in
        subst (λ (x : ℕ). Connected plan (piece r c n) (home x)) (sym whole)
        (subst (λ (x : ℕ). Connected plan (piece r c x) (home name)) (sym e) path)

    pub leads_home : (r c n : ℕ) → r < height → c < matrix.cols → CellNet (row_at matrix r) (column_at c) n
        → Connected plan (piece r c n) (home (named r (column_at c) n))
    leads_home r c n is_row is_col (metal m e) = renamed r c n 0 (column_at c) (nets r) e refl refl (metal_home r c is_row is_col m)
    leads_home r c n is_row is_col (wire i k e) =
        let of = of_wire matrix.at i c k in
        let number = wire_net (kind_at r) ((row_at matrix r).metal == i) in
        renamed r c n number (columns.Wire i) i e k
        (wire_name (kind_at r) i ((row_at matrix r).metal == i) (nets (r - 1)) (nets r) (nets (r + 1)) (meets_named i of.0 r is_row))
        (subst (λ (x : ℕ). Connected plan (piece r x number) (home i)) of.1 (climbs i of.0 r is_row))
    leads_home r c n is_row is_col (gate i k m g e) = renamed r c n 1 (columns.Device i) i e k refl (gate_home c i is_col k r is_row m g)
    leads_home r c n is_row is_col (top i k m g e) =
        renamed r c n 2 (columns.Device i) (nets (r - 1)) e k refl (top_home c i is_col k r is_row m g)
    leads_home r c n is_row is_col (bottom i k m g e) =
        renamed r c n 3 (columns.Device i) (nets (r + 1)) e k refl (bottom_home c i is_col k r is_row m g)
    leads_home r c n is_row is_col (load_gate k m e) =
        renamed r c n 1 columns.Load (nets (r + 1)) e k refl
        (subst (λ (x : ℕ). Connected plan (piece r x 1) (home (nets (r + 1)))) (sym (of_load matrix.at c k)) (load_gate_home r is_row m))
    leads_home r c n is_row is_col (load_top k m e) =
        renamed r c n 2 columns.Load (nets (r - 1)) e k refl
        (subst (λ (x : ℕ). Connected plan (piece r x 2) (home (nets (r - 1)))) (sym (of_load matrix.at c k)) (load_top_home r is_row m))
    leads_home r c n is_row is_col (load_bottom k m e) =
        renamed r c n 3 columns.Load (nets (r + 1)) e k refl
        (subst (λ (x : ℕ). Connected plan (piece r x 3) (home (nets (r + 1)))) (sym (of_load matrix.at c k)) (load_bottom_home r is_row m))
    leads_home r c n is_row is_col (corner k m e) =
        renamed r c n 1 columns.Gate (nets (r + 1)) e k refl
        (subst (λ (x : ℕ). Connected plan (piece r x 1) (home (nets (r + 1)))) (sym (of_gate matrix.at c k)) (corner_home r is_row m))
