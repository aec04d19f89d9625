-- The parts of an array as modules in their places.
use Rattle.std.proofs.Common.{◌≡◌, ℕ, zero, suc, ◌+◌, ◌-◌, ◌<◌, ◌≤◌, ◌==◌, ◌&&◌, ◌||◌, nat_lt, Bool, true, false, inl, inr, if◌then◌else◌, [], length, get_or, refl, sym, ap, subst, ◌∙◌, arith}
use Rattle.std.proofs.lemmas.Bool.{cases_lt, cases_eq, lt-ltb, le-ltb, eq-eqb, ne_eqb}
use Rattle.micro_tiles.specs.declared.basic.Basic.TheVariants as tiles
use Rattle.micro_tiles.specs.Basics.{number_named}
use Rattle.micro_tiles.specs.Table.{transpose_of}
use Rattle.stick_grid.specs.Plans.{Plan}
use Rattle.stick_grid.specs.Mirrors.{mirrored_plan, mirrored_piece, mirrored_border, MirrorsAreModules}
use Rattle.stick_grid.specs.PlacedModules.{PlacedModule, IsPlaced, Holds}
use Rattle.stick_grid.specs.PlainModules.{no_border, poly_tile, IsPolyRow, poly_border, EmptyPlansAreModules, PolyRowsAreModules}
use Rattle.nor_net.specs.Part.{part_devices}
use Rattle.gate_matrix.specs.declared.column.Column.{Column}
use Rattle.gate_matrix.specs.declared.column.Column.TheVariants.{Load, Gate, Wire, Device, Free}
use Rattle.gate_matrix.specs.Rows.{blank_row}
use Rattle.gate_matrix.specs.Columns.{column_of, ColumnsAreOfNets}
use Rattle.gate_matrix.specs.Cells.{matrix_plan, matrix_tile}
use Rattle.gate_matrix.specs.Drawn.{PartsFillRows}
use Rattle.gate_matrix.specs.MatrixNets.{matrix_name, matrix_devices, matrix_border, MatricesAreModules}
use Rattle.gate_matrix.specs.Modules.{part_name, part_border, PartsAreModules}
use Rattle.pla_plan.specs.Planes.{PlaneTables, right_from, right_end, plane_rows, left_plane, right_plane, lower_matrix, is_sum_column, cap_in, cap, planes_tile, planes_plan}
use Rattle.pla_plan.specs.Fits.{IsArray, no_gate}
use Rattle.pla_plan.proofs.Heights.{long_left}
use Rattle.pla_plan.proofs.PlaneTiles.{first_of, second_of, in_planes, between, in_part, in_left, in_right, in_rest}
use Rattle.pla_plan.proofs.PlaneColumns.{is_wire, wire_of, of_part, sum_below}
use Rattle.pla_plan.proofs.PlaneMatrices.{left_metal, left_count, left_are, right_metal, right_count, right_are, right_height}

-- the net of the poly in the column
abbrev pub net_in : Column → ℕ
net_in (Wire net) = net
net_in _ = 0

module _ (planes : PlaneTables) where
  -- ---- the nets of the array that those of the planes are

  abbrev pub left_net : ℕ → ℕ
  left_net n = if nat_lt n (planes.left + 2) then n else planes.part.nets + (n - (planes.left + 2))

  abbrev pub sum_net : ℕ → ℕ
  sum_net s = (get_or planes.sums s no_gate).out

  abbrev pub right_net : ℕ → ℕ
  right_net n =
      if n == 0 then 0
      else if nat_lt n (length planes.terms + 1) then planes.part.nets + (n - 1)
      else if n == length planes.terms + 1 then planes.left + 1
      else sum_net (n - (length planes.terms + 2))

  pub left_low : (n : ℕ) → n < planes.left + 2 → left_net n ≡ n
  left_low n h = first_of (nat_lt n (planes.left + 2)) _ _ (lt-ltb n (planes.left + 2) h)

  pub left_term : (n k : ℕ) → n ≡ planes.left + 2 + k → left_net n ≡ planes.part.nets + k
  left_term n k e =
      second_of (nat_lt n (planes.left + 2)) _ _ (le-ltb n (planes.left + 2) (omega arith))
      ∙ (let same : planes.part.nets + (n - (planes.left + 2)) ≡ planes.part.nets + k = omega arith in same)

  pub right_term : (n k : ℕ) → n ≡ k + 1 → k < length planes.terms → right_net n ≡ planes.part.nets + k
  right_term n k e h =
      second_of (n == 0) _ _ (ne_eqb n 0 (λ s. omega arith))
      ∙ first_of (nat_lt n (length planes.terms + 1)) _ _ (lt-ltb n (length planes.terms + 1) (omega arith))
      ∙ (let same : planes.part.nets + (n - 1) ≡ planes.part.nets + k = omega arith in same)

  pub right_ground : (n : ℕ) → n ≡ length planes.terms + 1 → right_net n ≡ planes.left + 1
  right_ground n e =
      second_of (n == 0) _ _ (ne_eqb n 0 (λ s. omega arith))
      ∙ second_of (nat_lt n (length planes.terms + 1)) _ _ (le-ltb n (length planes.terms + 1) (omega arith))
      ∙ first_of (n == length planes.terms + 1) _ _ (eq-eqb n (length planes.terms + 1) e)

  pub right_sum : (n s : ℕ) → n ≡ length planes.terms + 2 + s → right_net n ≡ sum_net s
  right_sum n s e =
      second_of (n == 0) _ _ (ne_eqb n 0 (λ h. omega arith))
      ∙ second_of (nat_lt n (length planes.terms + 1)) _ _ (le-ltb n (length planes.terms + 1) (omega arith))
      ∙ second_of (n == length planes.terms + 1) _ _ (ne_eqb n (length planes.terms + 1) (λ h. omega arith))
      ∙ ap sum_net (let same : n - (length planes.terms + 2) ≡ s = omega arith in same)

  -- ---- the parts

  abbrev pub fed : ℕ → Bool
  fed c = nat_lt c (right_from planes) || is_sum_column planes c

  abbrev pub cap_south : ℕ → Bool
  cap_south c = is_wire (column_of planes.at c)

  abbrev pub cap_north : ℕ → Bool
  cap_north c = is_wire (column_of planes.at c) && fed c

  abbrev pub cap_net : ℕ → ℕ
  cap_net c = net_in (column_of planes.at c)

  abbrev pub rest_plan : Plan
  rest_plan = record { rows = plane_rows planes; cols = planes.cols - right_end planes; tile = λ r c. number_named tiles.Empty }

  abbrev pub caps_plan : Plan
  caps_plan = record { rows = 1; cols = planes.cols; tile = λ r c. number_named (cap planes c) }

  abbrev pub low_rows : ℕ
  low_rows = planes.rows - (plane_rows planes + 1)

  abbrev pub modules : ℕ → PlacedModule
  modules zero = record {
    plan = matrix_plan (left_plane planes);
    row = 0;
    col = 0;
    count = planes.left + 2 + length planes.terms;
    name = matrix_name (λ r. (get_or (left_plane planes).rows r blank_row).metal) (left_plane planes).at;
    vdd = 0;
    devices = matrix_devices (left_plane planes) (λ r. (get_or (left_plane planes).rows r blank_row).metal);
    border = matrix_border (left_plane planes) (λ r. (get_or (left_plane planes).rows r blank_row).metal);
    rename = left_net;
  }
  modules (suc zero) = record {
    plan = mirrored_plan (matrix_plan (right_plane planes));
    row = 0;
    col = right_from planes;
    count = length planes.terms + 2 + length planes.sums;
    name = λ p. matrix_name (λ r. (get_or (right_plane planes).rows r blank_row).metal) (right_plane planes).at (mirrored_piece p);
    vdd = 0;
    devices = matrix_devices (right_plane planes) (λ r. (get_or (right_plane planes).rows r blank_row).metal);
    border = mirrored_border (matrix_border (right_plane planes) (λ r. (get_or (right_plane planes).rows r blank_row).metal));
    rename = right_net;
  }
  modules (suc (suc zero)) = record {
    plan = rest_plan;
    row = 0;
    col = right_end planes;
    count = 0;
    name = λ p. 0;
    vdd = planes.part.vdd;
    devices = [];
    border = no_border;
    rename = λ n. n;
  }
  modules (suc (suc (suc zero))) = record {
    plan = caps_plan;
    row = plane_rows planes;
    col = 0;
    count = planes.part.nets;
    name = λ p. cap_net p.col;
    vdd = planes.part.vdd;
    devices = [];
    border = poly_border cap_north cap_south cap_net;
    rename = λ n. n;
  }
  modules _ = record {
    plan = matrix_plan (lower_matrix planes);
    row = plane_rows planes + 1;
    col = 0;
    count = planes.part.nets;
    name = part_name planes.part planes.at low_rows planes.cols;
    vdd = planes.part.vdd;
    devices = part_devices planes.part;
    border = part_border planes.at;
    rename = λ n. n;
  }

  -- which of them holds a place
  abbrev pub which : ℕ → ℕ → ℕ
  which row col =
      if nat_lt row (plane_rows planes) then (if nat_lt col (right_from planes) then 0 else if nat_lt col (right_end planes) then 1 else 2)
      else if row == plane_rows planes then 3 else 4

module _ (planes : PlaneTables) (row col : ℕ) where
  pub which_left : row < plane_rows planes → col < right_from planes → which planes row col ≡ 0
  which_left h k =
      first_of (nat_lt row (plane_rows planes)) _ _ (lt-ltb row (plane_rows planes) h)
      ∙ first_of (nat_lt col (right_from planes)) _ _ (lt-ltb col (right_from planes) k)

  pub which_right : row < plane_rows planes → right_from planes ≤ col → col < right_end planes → which planes row col ≡ 1
  which_right h low high =
      first_of (nat_lt row (plane_rows planes)) _ _ (lt-ltb row (plane_rows planes) h)
      ∙ second_of (nat_lt col (right_from planes)) _ _ (le-ltb col (right_from planes) low)
      ∙ first_of (nat_lt col (right_end planes)) _ _ (lt-ltb col (right_end planes) high)

  pub which_rest : row < plane_rows planes → right_end planes ≤ col → which planes row col ≡ 2
  which_rest h low =
      first_of (nat_lt row (plane_rows planes)) _ _ (lt-ltb row (plane_rows planes) h)
      ∙ second_of (nat_lt col (right_from planes)) _ _ (le-ltb col (right_from planes) (omega arith))
      ∙ second_of (nat_lt col (right_end planes)) _ _ (le-ltb col (right_end planes) low)

  pub which_caps : row ≡ plane_rows planes → which planes row col ≡ 3
  which_caps e =
      second_of (nat_lt row (plane_rows planes)) _ _ (le-ltb row (plane_rows planes) (omega arith))
      ∙ first_of (row == plane_rows planes) _ _ (eq-eqb row (plane_rows planes) e)

  pub which_low : plane_rows planes < row → which planes row col ≡ 4
  which_low h =
      second_of (nat_lt row (plane_rows planes)) _ _ (le-ltb row (plane_rows planes) (omega arith))
      ∙ second_of (row == plane_rows planes) _ _ (ne_eqb row (plane_rows planes) (λ e. omega arith))

-- ---- each in its place

cap_tile : (k : Column) (t : Bool) → number_named (cap_in k t) ≡ number_named (poly_tile (is_wire k && t) (is_wire k))
cap_tile (Wire net) true = refl
cap_tile (Wire net) false = refl
cap_tile Load t = refl
cap_tile Gate t = refl
cap_tile (Device net) t = refl
cap_tile Free t = refl

poly_either : (a t : Bool) → ((a && t) || a) ≡ true → a ≡ true
poly_either true t e = refl
poly_either false t e = e

either_poly : (a t : Bool) → a ≡ true → ((a && t) || a) ≡ true
either_poly true true e = refl
either_poly true false e = refl
either_poly false t e = absurd (cc)

module _ (planes : PlaneTables) (array : IsArray planes) (parts : PartsFillRows) where
  pub low_height : length (lower_matrix planes).rows ≡ low_rows planes
  low_height = parts planes.part planes.at (low_rows planes) planes.cols array.part_fits

  -- ---- the places that they hold

  pub known : (row col : ℕ) → row < planes.rows → col < planes.cols → which planes row col < 5
  known row col is_row is_col = elim (cases_lt row (plane_rows planes)) [
    | inl h ↦ elim (cases_lt col (right_from planes)) [
      | inl k ↦ let e = which_left planes row col h k in omega arith
      | inr k ↦ elim (cases_lt col (right_end planes)) [
        | inl m ↦ let e = which_right planes row col h k m in omega arith
        | inr m ↦ let e = which_rest planes row col h m in omega arith
      ]
    ]
    | inr h ↦ elim (cases_eq row (plane_rows planes)) [
      | inl e ↦ let f = which_caps planes row col e in omega arith
      | inr e ↦ let f = which_low planes row col (omega (arith, e)) in omega arith
    ]
  ]

  pub holds : (row col : ℕ) → row < planes.rows → col < planes.cols → Holds (modules planes (which planes row col)) row col
  holds row col is_row is_col = elim (cases_lt row (plane_rows planes)) [
    | inl h ↦ elim (cases_lt col (right_from planes)) [
      | inl k ↦
          let long = long_left planes in
          let place : Holds (modules planes 0) row col =
          record { from_row = omega arith; to_row = omega arith; from_col = omega arith; to_col = omega arith } in
          subst (λ (n : ℕ). Holds (modules planes n) row col) (sym (which_left planes row col h k)) place
      | inr k ↦ elim (cases_lt col (right_end planes)) [
        | inl m ↦
            let long = right_height planes array in
            let place : Holds (modules planes 1) row col =
            record { from_row = omega arith; to_row = omega arith; from_col = k; to_col = omega arith } in
            subst (λ (n : ℕ). Holds (modules planes n) row col) (sym (which_right planes row col h k m)) place
        | inr m ↦
            let place : Holds (modules planes 2) row col =
            record { from_row = omega arith; to_row = omega arith; from_col = m; to_col = omega arith } in
            subst (λ (n : ℕ). Holds (modules planes n) row col) (sym (which_rest planes row col h m)) place
      ]
    ]
    | inr h ↦ elim (cases_eq row (plane_rows planes)) [
      | inl e ↦
          let place : Holds (modules planes 3) row col =
          record { from_row = omega arith; to_row = omega arith; from_col = omega arith; to_col = omega arith } in
          subst (λ (n : ℕ). Holds (modules planes n) row col) (sym (which_caps planes row col e)) place
      | inr e ↦
          let long = low_height in
          let place : Holds (modules planes 4) row col =
          record { from_row = omega (arith, e); to_row = omega (arith, e); from_col = omega arith; to_col = omega arith } in
          subst (λ (n : ℕ). Holds (modules planes n) row col) (sym (which_low planes row col (omega (arith, e)))) place
    ]
  ]

  pub once : (k row col : ℕ) → k < 5 → Holds (modules planes k) row col → which planes row col ≡ k
  once zero row col few h =
      let long = long_left planes in
      let to_row = h.to_row in
      let to_col = h.to_col in
      which_left planes row col (omega arith) (omega arith)
  once (suc zero) row col few h =
      let long = right_height planes array in
      let to_row = h.to_row in
      let from_col = h.from_col in
      let to_col = h.to_col in
      which_right planes row col (omega arith) (omega arith) (omega arith)
  once (suc (suc zero)) row col few h = let to_row = h.to_row in which_rest planes row col (omega arith) h.from_col
  once (suc (suc (suc zero))) row col few h =
      let from_row = h.from_row in
      let to_row = h.to_row in
      which_caps planes row col (omega arith)
  once (suc (suc (suc (suc zero)))) row col few h = let from_row = h.from_row in which_low planes row col (omega arith)
  once (suc (suc (suc (suc (suc k))))) row col few h = absurd (omega arith)

module _ (planes : PlaneTables) (array : IsArray planes) (columns : ColumnsAreOfNets) (parts : PartsFillRows) (matrix_modules : MatricesAreModules)
    (mirror : MirrorsAreModules) (empties : EmptyPlansAreModules) (polys : PolyRowsAreModules) (part_modules : PartsAreModules) where
  caps_are : IsPolyRow (caps_plan planes) planes.part.nets (cap_north planes) (cap_south planes) (cap_net planes)
  caps_are = record {
    one_row = refl;
    some_col = (let room = array.cols_fit in omega arith);
    tile = λ c below. cap_tile (column_of planes.at c) (fed planes c);
    below = λ c below e.
        let w = wire_of (column_of planes.at c) (poly_either (cap_south planes c) (fed planes c) e) in
        let of = (of_part planes array columns).net_of w.net c w.is in
        let is_net = of.0 in
        let long = array.part_fits.wires in
        subst (λ (n : ℕ). n < planes.part.nets) (sym (ap net_in w.is)) (omega arith);
    column = λ n. get_or planes.at n 0;
    inside = λ n few.
        let long = array.part_fits.wires in
        let room = ((of_part planes array columns).inside n (omega arith)).1 in
        omega arith;
    has_poly = λ n few.
        let long = array.part_fits.wires in
        either_poly (cap_south planes (get_or planes.at n 0)) (fed planes (get_or planes.at n 0)) (ap is_wire ((of_part planes array columns).wire n (omega arith)));
    bears = λ n few. let long = array.part_fits.wires in ap net_in ((of_part planes array columns).wire n (omega arith));
    alone = λ c below e.
        let w = wire_of (column_of planes.at c) (poly_either (cap_south planes c) (fed planes c) e) in
        ap (λ (n : ℕ). get_or planes.at n 0) (ap net_in w.is) ∙ ((of_part planes array columns).net_of w.net c w.is).1;
  }

  left_below : (n : ℕ) → n < left_count planes array → left_net planes n < planes.part.nets + length planes.terms
  left_below n h = elim (cases_lt n (planes.left + 2)) [
    | inl k ↦ let e = left_low planes n k in let few = array.left_nets in omega arith
    | inr k ↦ let e = left_term planes n (n - (planes.left + 2)) (omega arith) in omega arith
  ]

  right_below : (n : ℕ) → n < right_count planes array → right_net planes n < planes.part.nets + length planes.terms
  right_below n h = elim (cases_lt n 1) [
    | inl k ↦ let zero_is : n ≡ 0 = omega arith in let e = ap (right_net planes) zero_is in let few = array.left_nets in omega arith
    | inr k ↦ elim (cases_lt n (length planes.terms + 1)) [
      | inl m ↦ let e = right_term planes n (n - 1) (omega arith) (omega arith) in omega arith
      | inr m ↦ elim (cases_eq n (length planes.terms + 1)) [
        | inl s ↦ let e = right_ground planes n s in let few = array.left_nets in omega arith
        | inr s ↦
            let e = right_sum planes n (n - (length planes.terms + 2)) (omega (arith, s)) in
            let below = sum_below planes array columns (n - (length planes.terms + 2)) (omega (arith, s)) in
            omega arith
      ]
    ]
  ]

  pub placed : (k : ℕ) → k < 5 → IsPlaced (planes_plan planes) (planes.part.nets + length planes.terms) planes.part.vdd (modules planes k)
  placed zero h = record {
    is_module = matrix_modules (left_plane planes) (left_metal planes array) (left_count planes array) 0 (left_are planes array);
    window = record {
      rows = (let long = long_left planes in let room = array.rows_fit in omega arith);
      cols = (let room = array.cols_fit in omega arith);
      tiles = λ r c is_row is_col.
          let long = long_left planes in
          let r_is : r ≡ 0 + r = omega arith in
          let c_is : c ≡ 0 + c = omega arith in
          sym (in_planes planes r c (omega arith) ∙ in_left planes r c is_col) ∙ ap (λ (x : ℕ). planes_tile planes x c) r_is
          ∙ ap (λ (x : ℕ). planes_tile planes (0 + r) x) c_is;
    };
    below = left_below;
    supply = left_low planes 0 (omega arith) ∙ sym array.high_supply;
  }
  placed (suc zero) h = record {
    is_module = mirror (matrix_plan (right_plane planes)) (right_count planes array) (matrix_name (right_metal planes array) (right_plane planes).at) 0
        (matrix_devices (right_plane planes) (right_metal planes array)) (matrix_border (right_plane planes) (right_metal planes array))
        (right_are planes array).some_row (omega arith)
        (matrix_modules (right_plane planes) (right_metal planes array) (right_count planes array) 0 (right_are planes array));
    window = record {
      rows = (let room = array.rows_fit in omega arith);
      cols = (let long = right_height planes array in let room = array.cols_fit in omega arith);
      tiles = λ r c is_row is_col.
          let long = right_height planes array in
          let r_is : r ≡ 0 + r = omega arith in
          let c_is : right_from planes + c - right_from planes ≡ c = omega arith in
          sym (in_planes planes r (right_from planes + c) is_row ∙ in_right planes r (right_from planes + c) (omega arith) (omega arith)
          ∙ ap (λ (x : ℕ). transpose_of (matrix_tile (right_plane planes) x r)) c_is)
          ∙ ap (λ (x : ℕ). planes_tile planes x (right_from planes + c)) r_is;
    };
    below = right_below;
    supply = sym array.high_supply;
  }
  placed (suc (suc zero)) h = record {
    is_module = empties (rest_plan planes) (λ p. 0) planes.part.vdd (omega arith) (let room = array.cols_fit in omega arith) (λ r c is_row is_col. refl);
    window = record {
      rows = (let room = array.rows_fit in omega arith);
      cols = (let room = array.cols_fit in omega arith);
      tiles = λ r c is_row is_col.
          let r_is : r ≡ 0 + r = omega arith in
          sym (in_planes planes r (right_end planes + c) is_row ∙ in_rest planes r (right_end planes + c) (omega arith))
          ∙ ap (λ (x : ℕ). planes_tile planes x (right_end planes + c)) r_is;
    };
    below = λ n few. absurd (omega arith);
    supply = refl;
  }
  placed (suc (suc (suc zero))) h = record {
    is_module = polys (caps_plan planes) planes.part.nets planes.part.vdd (cap_north planes) (cap_south planes) (cap_net planes) caps_are;
    window = record {
      rows = (let room = array.rows_fit in omega arith);
      cols = (let room = array.cols_fit in omega arith);
      tiles = λ r c is_row is_col.
          let c_is : c ≡ 0 + c = omega arith in
          sym (between planes (plane_rows planes + r) c (omega arith)) ∙ ap (λ (x : ℕ). planes_tile planes (plane_rows planes + r) x) c_is;
    };
    below = λ n few. omega arith;
    supply = refl;
  }
  placed (suc (suc (suc (suc zero)))) h = record {
    is_module = part_modules planes.part planes.at (low_rows planes) planes.cols array.part array.part_fits;
    window = record {
      rows = (let long = low_height planes array parts in let room = array.rows_fit in let some = array.part_fits.some_row in omega arith);
      cols = (let room = array.cols_fit in omega arith);
      tiles = λ r c is_row is_col.
          let c_is : c ≡ 0 + c = omega arith in
          let r_is : plane_rows planes + 1 + r - (plane_rows planes + 1) ≡ r = omega arith in
          sym (in_part planes (plane_rows planes + 1 + r) c (omega arith) ∙ ap (λ (x : ℕ). matrix_tile (lower_matrix planes) x c) r_is)
          ∙ ap (λ (x : ℕ). planes_tile planes (plane_rows planes + 1 + r) x) c_is;
    };
    below = λ n few. omega arith;
    supply = refl;
  }
  placed (suc (suc (suc (suc (suc k))))) h = absurd (omega arith)
