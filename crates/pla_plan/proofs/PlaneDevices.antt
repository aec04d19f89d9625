-- The devices of the planes are those of terms and sums with their loads.
use Rattle.std.proofs.Common.{◌≡◌, ℕ, suc, ◌+◌, ◌-◌, ◌<◌, ◌==◌, if◌then◌else◌, Bool, true, false, List, [], ◌∷◌, ◌++◌, length, get_or, map, All, refl, ap, ◌∙◌, arith}
use Rattle.std.specs.Prelude.{flat_map}
use Rattle.std.specs.List.{range_with_len}
use Rattle.std.proofs.lemmas.List.{map-append}
use Rattle.std.proofs.lemmas.List.Elements.{All-head, All-tail}
use Rattle.switch_net.specs.Circuit.{renamed_device}
use Rattle.switch_net.specs.declared.network.Device.{Device}
use Rattle.switch_net.specs.declared.network.Device.TheVariants as devices
use Rattle.nor_net.specs.Netlist.{NorGate}
use Rattle.nor_net.specs.SwitchForm.{at}
use Rattle.gate_matrix.specs.declared.row.RowKind.TheVariants.{Stop, Through}
use Rattle.gate_matrix.specs.Rows.{MatrixRow, blank_row, closed_row}
use Rattle.gate_matrix.specs.Cells.{Matrix}
use Rattle.gate_matrix.specs.MatrixNets.{row_at, passes_of, row_devices, devices_at, matrix_devices}
use Rattle.pla_plan.specs.Planes.{PlaneTables, rows_of_terms, left_plane, rows_of_sums, right_plane}
use Rattle.pla_plan.specs.Fits.{no_gate}
use Rattle.pla_plan.specs.PlaneModules.{loaded_gate}
use Rattle.pla_plan.proofs.OnwardRows.{ground_rows}

-- ---- the list by rows

-- the devices of rows below metal of this net
abbrev rows_devices : ℕ → List MatrixRow → List Device
rows_devices above [] = []
rows_devices above (row ∷ rows) = row_devices row.kind row.gated above (get_or rows 0 blank_row).metal ++ rows_devices row.metal rows

module _ (matrix : Matrix) where
  abbrev metal : ℕ → ℕ
  metal r = (row_at matrix r).metal

  as_rows : (a above : ℕ) (rows : List MatrixRow) → ((k : ℕ) → row_at matrix (a + k) ≡ get_or rows k blank_row) → metal (a - 1) ≡ above
      → flat_map (devices_at matrix metal) (range_with_len a (length rows)) ≡ rows_devices above rows
  as_rows a above [] each e = refl
  as_rows a above (row ∷ rows) each e =
      let zero_on : a ≡ a + 0 = omega arith in
      let here : row_at matrix a ≡ row = ap (row_at matrix) zero_on ∙ each 0 in
      let next : metal (a + 1) ≡ (get_or rows 0 blank_row).metal = ap (λ (x : MatrixRow). x.metal) (each 1) in
      let back : a + 1 - 1 ≡ a = omega arith in
      let more = flat_map (devices_at matrix metal) (range_with_len (a + 1) (length rows)) in
      let rest = as_rows (a + 1) row.metal rows (λ k. ap (row_at matrix) (let s : a + 1 + k ≡ a + suc k = omega arith in s) ∙ each (suc k))
      (ap metal back ∙ ap (λ (x : MatrixRow). x.metal) here) in
      ap (λ (x : MatrixRow). row_devices x.kind x.gated (metal (a - 1)) (metal (a + 1)) ++ more) here
      ∙ ap (λ (n : ℕ). row_devices row.kind row.gated n (metal (a + 1)) ++ more) e
      ∙ ap (λ (n : ℕ). row_devices row.kind row.gated above n ++ more) next
      ∙ ap (λ l. row_devices row.kind row.gated above (get_or rows 0 blank_row).metal ++ l) rest

  all_rows : matrix_devices matrix metal ≡ rows_devices (metal 0) matrix.rows
  all_rows = as_rows 0 (metal 0) matrix.rows (λ k. ap (row_at matrix) (let e : 0 + k ≡ k = omega arith in e)) refl

-- ---- gates, renamed

module _ (rename : ℕ → ℕ) where
  renamed_passes : (gated : List ℕ) (above below : ℕ) → map (renamed_device rename) (passes_of gated above below) ≡ passes_of (map rename gated) (rename above) (rename below)
  renamed_passes [] above below = refl
  renamed_passes (i ∷ gated) above below = ap (λ l. devices.Pass (at (rename i)) (at (rename above)) (at (rename below)) ∷ l) (renamed_passes gated above below)

  -- a gate of a matrix with its load
  abbrev open_devices : ℕ → ℕ → List ℕ → List Device
  open_devices gnd out gated = devices.Load (at out) ∷ passes_of gated out gnd

  renamed_gate : (gnd out low : ℕ) (gated : List ℕ) (gate : NorGate) → rename gnd ≡ low → rename out ≡ gate.out → map rename gated ≡ gate.inputs
      → map (renamed_device rename) (open_devices gnd out gated) ≡ loaded_gate low gate
  renamed_gate gnd out low gated gate g o e =
      ap (λ l. devices.Load (at (rename out)) ∷ l) (renamed_passes gated out gnd)
      ∙ ap (λ (n : ℕ). devices.Load (at n) ∷ passes_of (map rename gated) n (rename gnd)) o
      ∙ ap (λ (n : ℕ). devices.Load (at gate.out) ∷ passes_of (map rename gated) gate.out n) g
      ∙ ap (λ l. devices.Load (at gate.out) ∷ passes_of l gate.out low) e

  same_nets : (nets : List ℕ) → All (λ i. rename i ≡ i) nets → map rename nets ≡ nets
  same_nets [] all = refl
  same_nets (i ∷ nets) all =
      ap (λ (n : ℕ). n ∷ map rename nets) (All-head (λ j. rename j ≡ j) i nets all)
      ∙ ap (λ l. i ∷ l) (same_nets nets (All-tail (λ j. rename j ≡ j) i nets all))

  back_nets : (f : ℕ → ℕ) (nets : List ℕ) → All (λ i. rename (f i) ≡ i) nets → map rename (map f nets) ≡ nets
  back_nets f [] all = refl
  back_nets f (i ∷ nets) all =
      ap (λ (n : ℕ). n ∷ map rename (map f nets)) (All-head (λ j. rename (f j) ≡ j) i nets all)
      ∙ ap (λ l. i ∷ l) (back_nets f nets (All-tail (λ j. rename (f j) ≡ j) i nets all))

  -- ---- the terms

  terms_devices : (gnd out low above : ℕ) (terms : List NorGate) → rename gnd ≡ low
      → ((k : ℕ) → k < length terms → rename (out + k) ≡ (get_or terms k no_gate).out)
      → All (λ term. All (λ i. rename i ≡ i) term.inputs) terms
      → map (renamed_device rename) (rows_devices above (rows_of_terms gnd out terms ++ ground_rows gnd)) ≡ flat_map (loaded_gate low) terms
  terms_devices gnd out low above [] g outs all = refl
  terms_devices gnd out low above (term ∷ terms) g outs all =
      let rest = rows_devices gnd (rows_of_terms gnd (out + 1) terms ++ ground_rows gnd) in
      let same = same_nets term.inputs (All-head (λ t. All (λ i. rename i ≡ i) t.inputs) term terms all) in
      let first : out ≡ out + 0 = omega arith in
      map-append (renamed_device rename) (open_devices gnd out term.inputs) rest
      ∙ ap (λ l. l ++ map (renamed_device rename) rest) (renamed_gate gnd out low term.inputs term g (ap rename first ∙ outs 0 (omega arith)) same)
      ∙ ap (λ l. loaded_gate low term ++ l)
      (terms_devices gnd (out + 1) low gnd terms g
      (λ k below. ap rename (let e : out + 1 + k ≡ out + suc k = omega arith in e) ∙ outs (suc k) (omega arith))
      (All-tail (λ t. All (λ i. rename i ≡ i) t.inputs) term terms all))

  pub left_devices : (planes : PlaneTables) → rename (planes.left + 1) ≡ planes.part.gnd
      → ((k : ℕ) → k < length planes.terms → rename (planes.left + 2 + k) ≡ (get_or planes.terms k no_gate).out)
      → All (λ term. All (λ i. rename i ≡ i) term.inputs) planes.terms
      → map (renamed_device rename) (matrix_devices (left_plane planes) (λ r. (row_at (left_plane planes) r).metal))
      ≡ flat_map (loaded_gate planes.part.gnd) planes.terms
  left_devices planes g outs all =
      ap (map (renamed_device rename)) (all_rows (left_plane planes))
      ∙ terms_devices (planes.left + 1) (planes.left + 2) planes.part.gnd 0 planes.terms g outs all

  -- ---- the sums

  sums_devices : (planes : PlaneTables) (out above : ℕ) (sums : List NorGate) → rename (length planes.terms + 1) ≡ planes.part.gnd
      → ((k : ℕ) → k < length sums → rename (out + k) ≡ (get_or sums k no_gate).out)
      → All (λ sum. All (λ i. rename (i - planes.part.nets + 1) ≡ i) sum.inputs) sums
      → map (renamed_device rename) (rows_devices above (rows_of_sums planes out sums)) ≡ flat_map (loaded_gate planes.part.gnd) sums
  sums_devices planes out above [] g outs all = refl
  sums_devices planes out above (sum ∷ sums) g outs all =
      let gnd = length planes.terms + 1 in
      let moved = λ (net : ℕ). net - planes.part.nets + 1 in
      let gated = map moved sum.inputs in
      let last = closed_row (if length sums == 0 then Stop else Through) 0 [] in
      let rest = rows_devices gnd (blank_row ∷ blank_row ∷ last ∷ rows_of_sums planes (out + 1) sums) in
      let same = back_nets moved sum.inputs (All-head (λ t. All (λ i. rename (i - planes.part.nets + 1) ≡ i) t.inputs) sum sums all) in
      let first : out ≡ out + 0 = omega arith in
      let more = sums_devices planes (out + 1) 0 sums g
      (λ k below. ap rename (let e : out + 1 + k ≡ out + suc k = omega arith in e) ∙ outs (suc k) (omega arith))
      (All-tail (λ t. All (λ i. rename (i - planes.part.nets + 1) ≡ i) t.inputs) sum sums all) in
      map-append (renamed_device rename) (open_devices gnd out gated) rest
      ∙ ap (λ l. l ++ map (renamed_device rename) rest)
      (renamed_gate gnd out planes.part.gnd gated sum g (ap rename first ∙ outs 0 (omega arith)) same)
      ∙ ap (λ l. loaded_gate planes.part.gnd sum ++ l) (no_last (length sums == 0) sums ∙ more)
    where
      no_last : (t : Bool) (l : List NorGate)
          → map (renamed_device rename) (rows_devices (length planes.terms + 1) (blank_row ∷ blank_row ∷ closed_row (if t then Stop else Through) 0 [] ∷ rows_of_sums planes (out + 1) l))
          ≡ map (renamed_device rename) (rows_devices 0 (rows_of_sums planes (out + 1) l))
      no_last true l = refl
      no_last false l = refl

  pub right_devices : (planes : PlaneTables) → rename (length planes.terms + 1) ≡ planes.part.gnd
      → ((k : ℕ) → k < length planes.sums → rename (length planes.terms + 2 + k) ≡ (get_or planes.sums k no_gate).out)
      → All (λ sum. All (λ i. rename (i - planes.part.nets + 1) ≡ i) sum.inputs) planes.sums
      → map (renamed_device rename) (matrix_devices (right_plane planes) (λ r. (row_at (right_plane planes) r).metal))
      ≡ flat_map (loaded_gate planes.part.gnd) planes.sums
  right_devices planes g outs all =
      ap (map (renamed_device rename)) (all_rows (right_plane planes))
      ∙ sums_devices planes (length planes.terms + 2) (row_at (right_plane planes) 0).metal planes.sums g outs all
