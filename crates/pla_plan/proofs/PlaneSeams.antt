-- At the seams of an array the same nets lead out of both parts.
use Rattle.std.proofs.Common.{◌≡◌, ℕ, zero, suc, ◌+◌, ◌-◌, ◌*◌, ◌/◌, ◌%◌, ◌<◌, ◌≤◌, ◌==◌, ◌&&◌, Bool, true, false, inl, inr, if◌then◌else◌, List, [], ◌∷◌, ◌++◌, length, get_or, Option, Some, None, refl, sym, ap, subst, ◌∙◌, arith}
use Rattle.std.specs.Prelude.{option_map}
use Rattle.std.proofs.lemmas.Bool.{cases_lt, cases_eq, eqb-true}
use Rattle.geom.specs.declared.layer.Layer.{Layer}
use Rattle.geom.specs.declared.layer.Layer.TheVariants.{Diffusion, Poly, Metal, Cut, Implant}
use Rattle.micro_tiles.specs.declared.side.Side.TheVariants.{North, East, South, West}
use Rattle.stick_grid.specs.PlacedModules.{StandBeside, StandAbove, border_in}
use Rattle.nor_net.specs.Netlist.{NorGate}
use Rattle.gate_matrix.specs.declared.column.Column.{Column}
use Rattle.gate_matrix.specs.declared.column.Column.TheVariants.{Load, Gate, Wire, Device, Free}
use Rattle.gate_matrix.specs.Rows.{MatrixRow, blank_row, has_metal}
use Rattle.gate_matrix.specs.Columns.{wire_column, column_of, ColumnsAreOfNets}
use Rattle.gate_matrix.specs.Matrices.{is_start, is_stop}
use Rattle.gate_matrix.specs.MatrixNets.{row_at, wire_in}
use Rattle.gate_matrix.specs.Drawn.{PartsFillRows}
use Rattle.pla_plan.specs.Planes.{PlaneTables, right_from, right_end, plane_rows, left_plane, right_plane, left_rows, left_places, right_places, rows_of_terms}
use Rattle.pla_plan.specs.Fits.{IsArray}
use Rattle.pla_plan.proofs.Heights.{long_left}
use Rattle.pla_plan.proofs.PlaneChains.{chained, blank_ends, sums_chain}
use Rattle.pla_plan.proofs.PlaneColumns.{is_wire, beyond, wire_here, device_here, free_before, wire_of, of_left, left_long, left_place, left_wire_below, same_wires, sum_wire, fed_left, fed_right, fed_rest}
use Rattle.pla_plan.proofs.OnwardRows.{places_from, ground_rows, sums_go_on, last_stops, left_last}
use Rattle.pla_plan.proofs.Wires.{right_from_wires}
use Rattle.pla_plan.proofs.RowNets.{right_open}
use Rattle.pla_plan.proofs.PlaneMatrices.{right_height}
use Rattle.pla_plan.proofs.PlaneParts.{net_in, left_net, left_low, left_term, sum_net, right_net, right_term, right_ground, right_sum, fed, cap_north, cap_net, modules, which, which_left, which_right, which_rest, which_caps, which_low, once}

-- ---- the left plane and the right one

-- the net of the metal that goes on
abbrev pub east_net : MatrixRow → Option ℕ
east_net row = if has_metal row.kind && row.onward then Some row.metal else None

module _ (f g : ℕ → ℕ) where
  abbrev lead : Column → Option ℕ
  lead k = option_map g (wire_in k)

  abbrev goes : ℕ → ℕ → List NorGate → ℕ → Option ℕ
  goes gnd out terms i = option_map f (east_net (get_or (rows_of_terms gnd out terms ++ ground_rows gnd) i blank_row))

  terms_lead : (gnd out : ℕ) (terms : List NorGate) (k net last i r : ℕ) → k + length terms ≡ last → r ≡ 4 + 5 * k + i → i < 5 * length terms + 3
      → ((j : ℕ) → j < length terms → f (out + j) ≡ g (net + j)) → f gnd ≡ g (net + length terms)
      → goes gnd out terms i ≡ lead (wire_column (places_from k (length terms) last) net r)
  terms_lead gnd out [] k net last zero r whole e below each ground =
      let same : net + 0 ≡ net = omega arith in
      ap (λ (n : ℕ). Some n) (ground ∙ ap g same) ∙ ap lead (sym (wire_here (4 + 5 * last) [] net r (omega arith)))
  terms_lead gnd out [] k net last (suc zero) r whole e below each ground = ap lead (sym (device_here (4 + 5 * last) [] net r (omega arith)))
  terms_lead gnd out [] k net last (suc (suc zero)) r whole e below each ground =
      ap lead (sym (beyond (4 + 5 * last) [] net r (λ h. omega arith) (λ h. omega arith)))
  terms_lead gnd out [] k net last (suc (suc (suc i))) r whole e below each ground = absurd (omega arith)
  terms_lead gnd out (term ∷ terms) k net last zero r whole e below each ground =
      ap lead (sym (beyond (6 + 5 * k) (places_from (k + 1) (length terms) last) net r (λ h. omega arith) (λ h. omega arith)
      ∙ free_before (places_from (k + 1) (length terms) last) (4 + 5 * (k + 1)) (6 + 5 * last) (suc net) r
      (right_from_wires (k + 1) (length terms) last (4 + 5 * (k + 1)) (6 + 5 * last) (omega arith) (omega arith) (omega arith)) (omega arith)))
  terms_lead gnd out (term ∷ terms) k net last (suc zero) r whole e below each ground =
      ap lead (sym (beyond (6 + 5 * k) (places_from (k + 1) (length terms) last) net r (λ h. omega arith) (λ h. omega arith)
      ∙ free_before (places_from (k + 1) (length terms) last) (4 + 5 * (k + 1)) (6 + 5 * last) (suc net) r
      (right_from_wires (k + 1) (length terms) last (4 + 5 * (k + 1)) (6 + 5 * last) (omega arith) (omega arith) (omega arith)) (omega arith)))
  terms_lead gnd out (term ∷ terms) k net last (suc (suc zero)) r whole e below each ground =
      let one : out ≡ out + 0 = omega arith in
      let two : net + 0 ≡ net = omega arith in
      ap (λ (n : ℕ). Some n) (ap f one ∙ each 0 (omega arith) ∙ ap g two)
      ∙ ap lead (sym (wire_here (6 + 5 * k) (places_from (k + 1) (length terms) last) net r (omega arith)))
  terms_lead gnd out (term ∷ terms) k net last (suc (suc (suc zero))) r whole e below each ground =
      ap lead (sym (device_here (6 + 5 * k) (places_from (k + 1) (length terms) last) net r (omega arith)))
  terms_lead gnd out (term ∷ terms) k net last (suc (suc (suc (suc zero)))) r whole e below each ground =
      ap lead (sym (beyond (6 + 5 * k) (places_from (k + 1) (length terms) last) net r (λ h. omega arith) (λ h. omega arith)
      ∙ free_before (places_from (k + 1) (length terms) last) (4 + 5 * (k + 1)) (6 + 5 * last) (suc net) r
      (right_from_wires (k + 1) (length terms) last (4 + 5 * (k + 1)) (6 + 5 * last) (omega arith) (omega arith) (omega arith)) (omega arith)))
  terms_lead gnd out (term ∷ terms) k net last (suc (suc (suc (suc (suc i))))) r whole e below each ground =
      terms_lead gnd (out + 1) terms (k + 1) (suc net) last i r (omega arith) (omega arith) (omega arith)
      (λ j h. ap f (let s : out + 1 + j ≡ out + suc j = omega arith in s) ∙ each (suc j) (omega arith) ∙ ap g (let s : net + suc j ≡ suc net + j = omega arith in s))
      (ground ∙ ap g (let s : net + suc (length terms) ≡ suc net + length terms = omega arith in s))
      ∙ ap lead (sym (beyond (6 + 5 * k) (places_from (k + 1) (length terms) last) net r (λ h. omega arith) (λ h. omega arith)))

rows_lead : (planes : PlaneTables) (r : ℕ) → r < 5 * length planes.terms + 7
    → option_map (left_net planes) (east_net (get_or (left_rows planes) r blank_row))
    ≡ option_map (right_net planes) (wire_in (column_of (right_places (length planes.terms)) r))
rows_lead planes zero below = refl
rows_lead planes (suc zero) below = refl
rows_lead planes (suc (suc zero)) below = ap (λ (n : ℕ). Some n) (left_low planes 0 (omega arith))
rows_lead planes (suc (suc (suc zero))) below = refl
rows_lead planes (suc (suc (suc (suc i)))) below =
    let t = length planes.terms in
    terms_lead (left_net planes) (right_net planes) (planes.left + 1) (planes.left + 2) planes.terms 0 1 t i (suc (suc (suc (suc i))))
    (omega arith) (omega arith) (omega arith)
    (λ j h. left_term planes (planes.left + 2 + j) j refl ∙ sym (right_term planes (1 + j) j (omega arith) h))
    (left_low planes (planes.left + 1) (omega arith) ∙ sym (right_ground planes (1 + t) (omega arith)))
    ∙ ap (λ (k : Column). option_map (right_net planes) (wire_in k))
    (sym (beyond 2 (places_from 0 t t) 0 (suc (suc (suc (suc i)))) (λ h. omega arith) (λ h. omega arith)))

-- ---- the row between

cap_wire : (k : Column) (t : Bool) (net : ℕ) → k ≡ Wire net → t ≡ true → option_map (λ (n : ℕ). n) (if is_wire k && t then Some (net_in k) else None) ≡ Some net
cap_wire k t net e f =
    ap (λ (x : Column). option_map (λ (n : ℕ). n) (if is_wire x && t then Some (net_in x) else None)) e
    ∙ ap (λ (x : Bool). option_map (λ (n : ℕ). n) (if x then Some net else None)) f

cap_none : (k : Column) (t : Bool) → t ≡ false → option_map (λ (n : ℕ). n) (if is_wire k && t then Some (net_in k) else None) ≡ None
cap_none (Wire net) false e = refl
cap_none (Wire net) true e = absurd (cc)
cap_none Load t e = refl
cap_none Gate t e = refl
cap_none (Device net) t e = refl
cap_none Free t e = refl

cap_bare : (k : Column) (t : Bool) → is_wire k ≡ false → option_map (λ (n : ℕ). n) (if is_wire k && t then Some (net_in k) else None) ≡ None
cap_bare (Wire net) t e = absurd (cc)
cap_bare Load t e = refl
cap_bare Gate t e = refl
cap_bare (Device net) t e = refl
cap_bare Free t e = refl

no_wire_in : (f : ℕ → ℕ) (k : Column) → is_wire k ≡ false → option_map f (wire_in k) ≡ None
no_wire_in f (Wire net) e = absurd (cc)
no_wire_in f Load e = refl
no_wire_in f Gate e = refl
no_wire_in f (Device net) e = refl
no_wire_in f Free e = refl

cap_part : (k : Column) → option_map (λ (n : ℕ). n) (if is_wire k then Some (net_in k) else None) ≡ option_map (λ (n : ℕ). n) (wire_in k)
cap_part (Wire net) = refl
cap_part Load = refl
cap_part Gate = refl
cap_part (Device net) = refl
cap_part Free = refl

not_onward : (f : ℕ → ℕ) (m t : Bool) (net : ℕ) → t ≡ false → option_map f (if m && t then Some net else None) ≡ None
not_onward f true false net e = refl
not_onward f false false net e = refl
not_onward f m true net e = absurd (cc)

module _ (planes : PlaneTables) (array : IsArray planes) (columns : ColumnsAreOfNets) (parts : PartsFillRows) where
  abbrev height : ℕ
  height = plane_rows planes

  abbrev at_north : ℕ → Option ℕ
  at_north c = option_map (λ (n : ℕ). n) (if cap_north planes c then Some (cap_net planes c) else None)

  left_caps : (c : ℕ) → c < right_from planes → option_map (left_net planes) (wire_in (column_of (left_places (planes.left + 2)) c)) ≡ at_north c
  left_caps c below = by_test (is_wire (column_of (left_places (planes.left + 2)) c)) refl
    where
      by_test : (t : Bool) → is_wire (column_of (left_places (planes.left + 2)) c) ≡ t
          → option_map (left_net planes) (wire_in (column_of (left_places (planes.left + 2)) c)) ≡ at_north c
      by_test true h =
          let w = wire_of (column_of (left_places (planes.left + 2)) c) h in
          let of = (of_left planes array columns).net_of w.net c w.is in
          let is_net = of.0 in
          let long = left_long planes array columns in
          let few : w.net < planes.left + 2 = omega arith in
          let place : 2 + 2 * w.net ≡ c = sym (left_place planes array columns w.net few) ∙ of.1 in
          let here : column_of planes.at c ≡ Wire w.net = ap (column_of planes.at) (sym place) ∙ left_wire_below planes array columns w.net few in
          ap (λ (k : Column). option_map (left_net planes) (wire_in k)) w.is ∙ ap (λ (n : ℕ). Some n) (left_low planes w.net few)
          ∙ sym (cap_wire (column_of planes.at c) (fed planes c) w.net here (fed_left planes c below))
      by_test false h =
          no_wire_in (left_net planes) (column_of (left_places (planes.left + 2)) c) h
          ∙ sym (cap_bare (column_of planes.at c) (fed planes c) (sym (same_wires planes array columns c below) ∙ h))

  abbrev right_row : ℕ → MatrixRow
  right_row j = row_at (right_plane planes) j

  pub sum_row : (s j : ℕ) → s < length planes.sums → j ≡ 8 * s + 2 → east_net (right_row j) ≡ Some (length planes.terms + 2 + s)
  sum_row s j few e =
      let open_row = right_open planes (length planes.terms + 2) planes.sums s j few e in
      let on = sums_go_on planes (length planes.terms + 2) planes.sums j (omega arith) in
      let third : j % 8 ≡ 2 = omega arith in
      let onward : (right_row j).onward ≡ true = on ∙ ap (λ (n : ℕ). n == 2) third in
      ap (λ (t : Bool). if t && (right_row j).onward then Some (right_row j).metal else None) (ap has_metal open_row.0)
      ∙ ap (λ (t : Bool). if t then Some (right_row j).metal else None) onward ∙ ap (λ (n : ℕ). Some n) open_row.1

  right_caps : (c : ℕ) → right_from planes ≤ c → c < right_end planes
      → option_map (right_net planes) (east_net (right_row (c - right_from planes))) ≡ at_north c
  right_caps c low high = by_test ((c - right_from planes) % 8 == 2) refl
    where
      by_test : (t : Bool) → ((c - right_from planes) % 8 == 2) ≡ t → option_map (right_net planes) (east_net (right_row (c - right_from planes))) ≡ at_north c
      by_test true h =
          let s = (c - right_from planes) / 8 in
          let third = eqb-true ((c - right_from planes) % 8) 2 h in
          let few : s < length planes.sums = omega arith in
          let place : right_from planes + 8 * s + 2 ≡ c = omega arith in
          let here : column_of planes.at c ≡ Wire (sum_net planes s) = ap (column_of planes.at) (sym place) ∙ sum_wire planes array columns s few in
          ap (option_map (right_net planes)) (sum_row s (c - right_from planes) few (omega arith))
          ∙ ap (λ (n : ℕ). Some n) (right_sum planes (length planes.terms + 2 + s) s refl)
          ∙ sym (cap_wire (column_of planes.at c) (fed planes c) (sum_net planes s) here (fed_right planes c low high ∙ h))
      by_test false h =
          let j = c - right_from planes in
          let on = sums_go_on planes (length planes.terms + 2) planes.sums j (omega arith) in
          not_onward (right_net planes) (has_metal (right_row j).kind) (right_row j).onward (right_row j).metal (on ∙ h)
          ∙ sym (cap_none (column_of planes.at c) (fed planes c) (fed_right planes c low high ∙ h))

  -- ---- layer by layer

  pub first_begins : is_start (right_row 0).kind ≡ false
  first_begins =
      let long = right_height planes array in
      let some = array.some_sum in
      (chained blank_row (right_plane planes).rows (sums_chain planes (length planes.terms + 2) planes.sums blank_row blank_ends) 0 (omega arith)).begun

  pub left_goes_on : is_stop (row_at (left_plane planes) (length (left_plane planes).rows - 1)).kind ≡ false
  left_goes_on =
      let long = long_left planes in
      ap (λ (row : MatrixRow). is_stop row.kind) (left_last planes (length (left_plane planes).rows - 1) (omega arith))

  right_ends : is_stop (right_row (length (right_plane planes).rows - 1)).kind ≡ true
  right_ends =
      let long = right_height planes array in
      let some = array.some_sum in
      ap (λ (row : MatrixRow). is_stop row.kind) (last_stops planes (length planes.terms + 2) planes.sums (length (right_plane planes).rows - 1) (omega arith))

  left_right : (r : ℕ) (layer : Layer) → r < height → border_in (modules planes 0) East r layer ≡ border_in (modules planes 1) West r layer
  left_right r Poly below =
      let here : r - 0 ≡ r = omega arith in
      let east = λ (x : ℕ). option_map (left_net planes) (east_net (get_or (left_rows planes) x blank_row)) in
      let west = λ (x : ℕ). option_map (right_net planes) (wire_in (column_of (right_places (length planes.terms)) x)) in
      ap east here ∙ rows_lead planes r below ∙ sym (ap west here)
      ∙ sym (ap (λ (t : Bool). option_map (right_net planes) (if t then None else wire_in (column_of (right_places (length planes.terms)) (r - 0)))) first_begins)
  left_right r Metal below = refl
  left_right r Diffusion below = refl
  left_right r Cut below = refl
  left_right r Implant below = refl

  right_rest : (r : ℕ) (layer : Layer) → border_in (modules planes 1) East r layer ≡ border_in (modules planes 2) West r layer
  right_rest r Poly =
      ap (λ (t : Bool). option_map (right_net planes) (if t then None else wire_in (column_of (right_places (length planes.terms)) (r - 0)))) right_ends
  right_rest r Metal = refl
  right_rest r Diffusion = refl
  right_rest r Cut = refl
  right_rest r Implant = refl

  left_above : (c : ℕ) (layer : Layer) → c < right_from planes → border_in (modules planes 0) South c layer ≡ border_in (modules planes 3) North c layer
  left_above c Poly below =
      let here : c - 0 ≡ c = omega arith in
      ap (λ (t : Bool). option_map (left_net planes) (if t then None else wire_in (column_of (left_places (planes.left + 2)) (c - 0)))) left_goes_on
      ∙ ap (λ (x : ℕ). option_map (left_net planes) (wire_in (column_of (left_places (planes.left + 2)) x))) here ∙ left_caps c below
      ∙ sym (ap at_north here)
  left_above c Metal below = refl
  left_above c Diffusion below = refl
  left_above c Cut below = refl
  left_above c Implant below = refl

  right_above : (c : ℕ) (layer : Layer) → right_from planes ≤ c → c < right_end planes
      → border_in (modules planes 1) South c layer ≡ border_in (modules planes 3) North c layer
  right_above c Poly low high = let here : c - 0 ≡ c = omega arith in right_caps c low high ∙ sym (ap at_north here)
  right_above c Metal low high = refl
  right_above c Diffusion low high = refl
  right_above c Cut low high = refl
  right_above c Implant low high = refl

  rest_above : (c : ℕ) (layer : Layer) → right_end planes ≤ c → border_in (modules planes 2) South c layer ≡ border_in (modules planes 3) North c layer
  rest_above c Poly low =
      let here : c - 0 ≡ c = omega arith in
      sym (ap at_north here ∙ cap_none (column_of planes.at c) (fed planes c) (fed_rest planes c low))
  rest_above c Metal low = refl
  rest_above c Diffusion low = refl
  rest_above c Cut low = refl
  rest_above c Implant low = refl

  caps_above : (c : ℕ) (layer : Layer) → border_in (modules planes 3) South c layer ≡ border_in (modules planes 4) North c layer
  caps_above c Poly = cap_part (column_of planes.at (c - 0))
  caps_above c Metal = refl
  caps_above c Diffusion = refl
  caps_above c Cut = refl
  caps_above c Implant = refl

  -- ---- which parts meet

  pub eastward : (k l row col : ℕ) (layer : Layer) → StandBeside (modules planes) 5 k l row col
      → border_in (modules planes k) East row layer ≡ border_in (modules planes l) West row layer
  eastward k l row col layer h =
      let one = once planes array parts k row col h.first_known h.first_holds in
      let two = once planes array parts l row (col + 1) h.second_known h.second_holds in
      let begins = λ (n : ℕ) (e : which planes row (col + 1) ≡ n). subst (λ (x : ℕ). (modules planes x).col ≡ col + 1) (sym two ∙ e) h.second_begins in
      let both = λ (m n : ℕ) (e : which planes row col ≡ m) (f : which planes row (col + 1) ≡ n)
      (s : border_in (modules planes m) East row layer ≡ border_in (modules planes n) West row layer).
      ap (λ (x : ℕ). border_in (modules planes x) East row layer) (sym one ∙ e) ∙ s
      ∙ ap (λ (x : ℕ). border_in (modules planes x) West row layer) (sym f ∙ two) in
      let some = array.some_sum in
      elim (cases_lt row height) [
        | inl a ↦ elim (cases_lt (col + 1) (right_from planes)) [
          | inl b ↦ let e : 0 ≡ col + 1 = begins 0 (which_left planes row (col + 1) a b) in absurd (omega arith)
          | inr b ↦ elim (cases_lt (col + 1) (right_end planes)) [
            | inl d ↦
                let e : right_from planes ≡ col + 1 = begins 1 (which_right planes row (col + 1) a b d) in
                both 0 1 (which_left planes row col a (omega arith)) (which_right planes row (col + 1) a b d) (left_right row layer a)
            | inr d ↦
                let e : right_end planes ≡ col + 1 = begins 2 (which_rest planes row (col + 1) a d) in
                both 1 2 (which_right planes row col a (omega arith) (omega arith)) (which_rest planes row (col + 1) a d) (right_rest row layer)
          ]
        ]
        | inr a ↦ elim (cases_eq row height) [
          | inl b ↦ let e : 0 ≡ col + 1 = begins 3 (which_caps planes row (col + 1) b) in absurd (omega arith)
          | inr b ↦ let e : 0 ≡ col + 1 = begins 4 (which_low planes row (col + 1) (omega (arith, b))) in absurd (omega arith)
        ]
      ]

  pub southward : (k l row col : ℕ) (layer : Layer) → StandAbove (modules planes) 5 k l row col
      → border_in (modules planes k) South col layer ≡ border_in (modules planes l) North col layer
  southward k l row col layer h =
      let one = once planes array parts k row col h.first_known h.first_holds in
      let two = once planes array parts l (row + 1) col h.second_known h.second_holds in
      let begins = λ (n : ℕ) (e : which planes (row + 1) col ≡ n). subst (λ (x : ℕ). (modules planes x).row ≡ row + 1) (sym two ∙ e) h.second_begins in
      let both = λ (m n : ℕ) (e : which planes row col ≡ m) (f : which planes (row + 1) col ≡ n)
      (s : border_in (modules planes m) South col layer ≡ border_in (modules planes n) North col layer).
      ap (λ (x : ℕ). border_in (modules planes x) South col layer) (sym one ∙ e) ∙ s
      ∙ ap (λ (x : ℕ). border_in (modules planes x) North col layer) (sym f ∙ two) in
      elim (cases_lt (row + 1) height) [
        | inl a ↦ elim (cases_lt col (right_from planes)) [
          | inl b ↦ let e : 0 ≡ row + 1 = begins 0 (which_left planes (row + 1) col a b) in absurd (omega arith)
          | inr b ↦ elim (cases_lt col (right_end planes)) [
            | inl d ↦ let e : 0 ≡ row + 1 = begins 1 (which_right planes (row + 1) col a b d) in absurd (omega arith)
            | inr d ↦ let e : 0 ≡ row + 1 = begins 2 (which_rest planes (row + 1) col a d) in absurd (omega arith)
          ]
        ]
        | inr a ↦ elim (cases_eq (row + 1) height) [
          | inl b ↦
              let under = which_caps planes (row + 1) col b in
              elim (cases_lt col (right_from planes)) [
                | inl d ↦ both 0 3 (which_left planes row col (omega arith) d) under (left_above col layer d)
                | inr d ↦ elim (cases_lt col (right_end planes)) [
                  | inl m ↦ both 1 3 (which_right planes row col (omega arith) d m) under (right_above col layer d m)
                  | inr m ↦ both 2 3 (which_rest planes row col (omega arith) m) under (rest_above col layer m)
                ]
              ]
          | inr b ↦
              let under = which_low planes (row + 1) col (omega (arith, b)) in
              let e : height + 1 ≡ row + 1 = begins 4 under in
              both 3 4 (which_caps planes row col (omega arith)) under (caps_above col layer)
        ]
      ]
