-- The planes are matrices whose rows have their nets.
use Rattle.std.proofs.Common.{◌≡◌, ℕ, suc, ◌+◌, ◌-◌, ◌*◌, ◌<◌, ◌≤◌, ◌⊎◌, inl, inr, true, List, [], ◌∷◌, length, get_or, map, refl, sym, ap, subst, ◌∙◌, add-one, arith}
use Rattle.std.specs.List.{range_with_len}
use Rattle.std.proofs.lemmas.Bool.{cases_lt}
use Rattle.std.proofs.lemmas.List.{length-append, get_or_past}
use Rattle.std.proofs.lemmas.List.FromFn.{length-map-range_with_len}
use Rattle.gate_matrix.specs.declared.row.RowKind.TheVariants.{Start, Stop}
use Rattle.gate_matrix.specs.Rows.{MatrixRow, blank_row, closed_row, has_metal}
use Rattle.gate_matrix.specs.Columns.{column_of}
use Rattle.gate_matrix.specs.Cells.{Matrix}
use Rattle.gate_matrix.specs.MatrixNets.{row_at, IsAbove, IsWireMetal, IsOpenMetal, AreGates, AreMatrixNets}
use Rattle.pla_plan.specs.Planes.{PlaneTables, right_from, plane_rows, left_places, right_places, left_plane, right_plane}
use Rattle.pla_plan.specs.Fits.{IsArray}
use Rattle.pla_plan.proofs.Heights.{long_left, long_sums}
use Rattle.pla_plan.proofs.Wires.{left_wires, right_wires}
use Rattle.pla_plan.proofs.PlaneChains.{Chain, chained, Stacked, blank_ends, left_behind, begun_chain, sums_chain}
use Rattle.pla_plan.proofs.PlaneColumns.{column_behind}
use Rattle.pla_plan.proofs.OnwardRows.{last_stops, left_last}
use Rattle.pla_plan.proofs.RowNets.{IsRowNet, all_at, left_nets, left_open, sums_nets, right_open}

-- ---- rows of a chain

-- two rows of a chain, of which the first is in it or above it
chain_on : (row : MatrixRow) (rows : List MatrixRow) → Chain row rows → (r : ℕ) → r + 1 < length (row ∷ rows)
    → Stacked (get_or (row ∷ rows) r blank_row) (get_or (row ∷ rows) (r + 1) blank_row)
chain_on row rows h r below =
    subst (λ (k : ℕ). Stacked (get_or (row ∷ rows) r blank_row) (get_or (row ∷ rows) k blank_row)) (sym (add-one r)) (chained row rows h r (omega arith))

chain_in : (row : MatrixRow) (rows : List MatrixRow) → Chain row rows → (r : ℕ) → r + 1 < length rows
    → Stacked (get_or rows r blank_row) (get_or rows (r + 1) blank_row)
chain_in row rows h r below =
    subst (λ (k : ℕ). Stacked (get_or rows r blank_row) (get_or rows k blank_row)) (sym (add-one r)) (chained row rows h (suc r) (omega arith))

-- the last row, above rows that are blank
last_above : (rows : List MatrixRow) (r : ℕ) (row : MatrixRow) → r + 1 ≡ length rows → get_or rows r blank_row ≡ row → IsAbove row blank_row
    → IsAbove (get_or rows r blank_row) (get_or rows (r + 1) blank_row)
last_above rows r row last is above =
    subst (λ (x : MatrixRow). IsAbove x (get_or rows (r + 1) blank_row)) (sym is)
    (subst (λ (x : MatrixRow). IsAbove row x) (sym (get_or_past rows (r + 1) blank_row (omega arith))) above)

-- the facts of rows, where the nets with columns are as many as there are columns
module _ (matrix : Matrix) (wires count first width : ℕ) (long : length matrix.at ≡ wires)
    (each : (r : ℕ) → r < length matrix.rows → IsRowNet wires count first width r (row_at matrix r)) where
  metal : (r : ℕ) → r < length matrix.rows → has_metal (row_at matrix r).kind ≡ true
      → IsWireMetal (length matrix.at) (row_at matrix r) (row_at matrix r).metal ⊎ IsOpenMetal (length matrix.at) count (row_at matrix r) (row_at matrix r).metal
  metal r below m =
      let row = row_at matrix r in
      subst (λ (w : ℕ). IsWireMetal w row row.metal ⊎ IsOpenMetal w count row row.metal) (sym long) ((each r below).metal m)

  opens : (r : ℕ) → r < length matrix.rows → has_metal (row_at matrix r).kind ≡ true → length matrix.at ≤ (row_at matrix r).metal
      → first + width * ((row_at matrix r).metal - wires) ≡ r
  opens r below m low = (each r below).opens m (omega arith)

module _ (planes : PlaneTables) (array : IsArray planes) where
  -- ---- the left plane

  abbrev pub left_metal : ℕ → ℕ
  left_metal r = (row_at (left_plane planes) r).metal

  pub left_long : length (left_places (planes.left + 2)) ≡ planes.left + 2
  left_long = length-map-range_with_len (λ (net : ℕ). 2 + 2 * net) 0 (planes.left + 2)

  abbrev pub left_count : ℕ
  left_count = planes.left + 2 + length planes.terms

  left_row : (r : ℕ) → r < length (left_plane planes).rows → IsRowNet (planes.left + 2) left_count 6 5 r (row_at (left_plane planes) r)
  left_row r below = all_at (planes.left + 2) left_count 6 5 0 (left_plane planes).rows (left_nets planes array) r r (omega arith) below

  left_south : (r : ℕ) → r < length (left_plane planes).rows → IsAbove (row_at (left_plane planes) r) (row_at (left_plane planes) (r + 1))
  left_south r below = elim (cases_lt (r + 1) (length (left_plane planes).rows)) [
    | inl h ↦ (chain_on (closed_row Start 0 []) (left_behind planes) (begun_chain planes) r h).above
    | inr h ↦
        let long = long_left planes in
        last_above (left_plane planes).rows r blank_row (omega arith) (left_last planes r (omega arith))
        (record { follows = record { devices = refl; load = refl; out = refl }; bottom = refl })
  ]

  left_opened : (net : ℕ) → length (left_places (planes.left + 2)) ≤ net → net < left_count
      → (6 + 5 * (net - (planes.left + 2)) < length (left_plane planes).rows)
      × (has_metal (row_at (left_plane planes) (6 + 5 * (net - (planes.left + 2)))).kind ≡ true)
      × (left_metal (6 + 5 * (net - (planes.left + 2))) ≡ net)
  left_opened net low high =
      let wires = left_long in
      let long = long_left planes in
      let k = net - (planes.left + 2) in
      let few : k < length planes.terms = omega arith in
      let row = left_open planes k (6 + 5 * k) few refl in (
        omega arith,
        ap (λ (x : MatrixRow). has_metal x.kind) row,
        ap (λ (x : MatrixRow). x.metal) row ∙ (let e : planes.left + 2 + k ≡ net = omega arith in e),
      )

  pub left_are : AreMatrixNets (left_plane planes) left_metal left_count 0
  left_are = record {
    columns = left_wires (planes.left + 2) (right_from planes) (omega arith);
    some_row = (let long = long_left planes in omega arith);
    some_wire = (let wires = left_long in omega arith);
    wires_fit = (let wires = left_long in omega arith);
    north = record { follows = record { devices = refl; load = refl; out = refl }; bottom = refl };
    south = left_south;
    begun = λ r below. (chain_on (closed_row Start 0 []) (left_behind planes) (begun_chain planes) r below).begun;
    ended = λ r below. (chain_on (closed_row Start 0 []) (left_behind planes) (begun_chain planes) r below).ended;
    metal = metal (left_plane planes) (planes.left + 2) left_count 6 5 left_long left_row;
    opener = λ net. 6 + 5 * (net - (planes.left + 2));
    opened = left_opened;
    opens = opens (left_plane planes) (planes.left + 2) left_count 6 5 left_long left_row;
    supply = λ r below e. (left_row r below).supply e;
    gates = λ r below e. subst (λ (w : ℕ). AreGates w (row_at (left_plane planes) r).gated) (sym left_long) ((left_row r below).gates e);
    east = λ r below m e.
        let last : right_from planes - 1 ≡ 2 * planes.left + 6 = omega arith in
        ap (λ (c : ℕ). column_of (left_places (planes.left + 2)) c) last
        ∙ column_behind (left_places (planes.left + 2)) (2 * planes.left + 6) (left_wires (planes.left + 2) (2 * planes.left + 6) (omega arith));
  }

  -- ---- the right plane

  abbrev pub right_metal : ℕ → ℕ
  right_metal r = (row_at (right_plane planes) r).metal

  abbrev pub right_count : ℕ
  right_count = length planes.terms + 2 + length planes.sums

  pub right_long : length (right_places (length planes.terms)) ≡ length planes.terms + 2
  right_long =
      let whole = length-append (map (λ (term : ℕ). 6 + 5 * term) (range_with_len 0 (length planes.terms))) ((4 + 5 * length planes.terms) ∷ []) in
      let terms = length-map-range_with_len (λ (term : ℕ). 6 + 5 * term) 0 (length planes.terms) in
      omega arith

  pub right_height : length (right_plane planes).rows ≡ 8 * length planes.sums
  right_height = long_sums planes (length planes.terms + 2) planes.sums

  right_chain : Chain blank_row (right_plane planes).rows
  right_chain = sums_chain planes (length planes.terms + 2) planes.sums blank_row blank_ends

  right_row : (r : ℕ) → r < length (right_plane planes).rows → IsRowNet (length planes.terms + 2) right_count 2 8 r (row_at (right_plane planes) r)
  right_row r below =
      all_at (length planes.terms + 2) right_count 2 8 0 (right_plane planes).rows
      (sums_nets planes right_count (length planes.terms + 2) 0 planes.sums array.sums (omega arith) (omega arith) (omega arith)) r r (omega arith) below

  right_south : (r : ℕ) → r < length (right_plane planes).rows → IsAbove (row_at (right_plane planes) r) (row_at (right_plane planes) (r + 1))
  right_south r below = elim (cases_lt (r + 1) (length (right_plane planes).rows)) [
    | inl h ↦ (chain_in blank_row (right_plane planes).rows right_chain r h).above
    | inr h ↦
        let long = right_height in
        last_above (right_plane planes).rows r (closed_row Stop 0 []) (omega arith) (last_stops planes (length planes.terms + 2) planes.sums r (omega arith))
        (record { follows = record { devices = refl; load = refl; out = refl }; bottom = refl })
  ]

  right_opened : (net : ℕ) → length (right_places (length planes.terms)) ≤ net → net < right_count
      → (2 + 8 * (net - (length planes.terms + 2)) < length (right_plane planes).rows)
      × (has_metal (row_at (right_plane planes) (2 + 8 * (net - (length planes.terms + 2)))).kind ≡ true)
      × (right_metal (2 + 8 * (net - (length planes.terms + 2))) ≡ net)
  right_opened net low high =
      let wires = right_long in
      let long = right_height in
      let k = net - (length planes.terms + 2) in
      let few : k < length planes.sums = omega arith in
      let row = right_open planes (length planes.terms + 2) planes.sums k (2 + 8 * k) few (omega arith) in
      let metal = row.1 in
      (omega arith, ap has_metal row.0, metal ∙ (let e : length planes.terms + 2 + k ≡ net = omega arith in e))

  pub right_are : AreMatrixNets (right_plane planes) right_metal right_count 0
  right_are = record {
    columns = right_wires (length planes.terms) (plane_rows planes) (omega arith);
    some_row = (let long = right_height in let some = array.some_sum in omega arith);
    some_wire = (let wires = right_long in omega arith);
    wires_fit = (let wires = right_long in omega arith);
    north = (let long = right_height in let some = array.some_sum in (chained blank_row (right_plane planes).rows right_chain 0 (omega arith)).above);
    south = right_south;
    begun = λ r below. (chain_in blank_row (right_plane planes).rows right_chain r below).begun;
    ended = λ r below. (chain_in blank_row (right_plane planes).rows right_chain r below).ended;
    metal = metal (right_plane planes) (length planes.terms + 2) right_count 2 8 right_long right_row;
    opener = λ net. 2 + 8 * (net - (length planes.terms + 2));
    opened = right_opened;
    opens = opens (right_plane planes) (length planes.terms + 2) right_count 2 8 right_long right_row;
    supply = λ r below e. (right_row r below).supply e;
    gates = λ r below e. subst (λ (w : ℕ). AreGates w (row_at (right_plane planes) r).gated) (sym right_long) ((right_row r below).gates e);
    east = λ r below m e.
        let last : plane_rows planes - 1 ≡ 6 + 5 * length planes.terms = omega arith in
        ap (λ (c : ℕ). column_of (right_places (length planes.terms)) c) last
        ∙ column_behind (right_places (length planes.terms)) (6 + 5 * length planes.terms) (right_wires (length planes.terms) (6 + 5 * length planes.terms) (omega arith));
  }
