-- The devices of a part's rows are those of the part.
use Rattle.std.proofs.Common.{◌≡◌, ℕ, zero, suc, not, Bool, true, false, if◌then◌else◌, List, [], ◌∷◌, ◌++◌, map, replicate, ◌+◌, ◌-◌, length, get_or, arith, refl, sym, ◌∙◌, ap, append_assoc}
use Rattle.std.specs.List.{range_with_len}
use Rattle.std.specs.Prelude.{flat_map}
use Rattle.std.proofs.lemmas.List.{append-nil}
use Rattle.switch_net.specs.declared.network.Device.{Device}
use Rattle.switch_net.specs.declared.network.Device.TheVariants as devices
use Rattle.nor_net.specs.SwitchForm.{at, pull_downs}
use Rattle.nor_net.specs.Netlist.{NorGate}
use Rattle.nor_net.specs.Evaluation.{is_output}
use Rattle.nor_net.specs.Part.{PartTables, clock_net, clocked_device}
use Rattle.gate_matrix.specs.Rows.{MatrixRow, blank_row, load_rows, device_rows, gate_rows}
use Rattle.gate_matrix.specs.Cells.{Matrix}
use Rattle.gate_matrix.specs.MatrixNets.{row_at, passes_of, row_devices, devices_at}
use Rattle.gate_matrix.specs.Modules.{metal_in}
use Rattle.gate_matrix.specs.PartRows.{has_load, rows_of_gate, rows_of_gates, rows_of_load, rows_of_transfer, rows_of_part}

-- ---- the devices of rows, one after another

-- the devices of rows below metal of this net
abbrev pub rows_devices : ℕ → List MatrixRow → List Device
rows_devices above [] = []
rows_devices above (row ∷ rows) = row_devices row.kind row.gated above (get_or rows 0 blank_row).metal ++ rows_devices row.metal rows

module _ (matrix : Matrix) where
  abbrev nets : ℕ → ℕ
  nets = metal_in matrix

  pub as_rows : (a above : ℕ) (rows : List MatrixRow) → ((k : ℕ) → row_at matrix (a + k) ≡ get_or rows k blank_row) → nets (a - 1) ≡ above
      → flat_map (devices_at matrix nets) (range_with_len a (length rows)) ≡ rows_devices above rows
  as_rows a above [] each e = refl
  as_rows a above (row ∷ rows) each e =
      let zero_on : a ≡ a + 0 = omega arith in
      let here : row_at matrix a ≡ row = ap (row_at matrix) zero_on ∙ each 0 in
      let next : nets (a + 1) ≡ (get_or rows 0 blank_row).metal = ap (λ (x : MatrixRow). x.metal) (each 1) in
      let back : a + 1 - 1 ≡ a = omega arith in
      let rest = as_rows (a + 1) row.metal rows (λ k. ap (row_at matrix) (let s : a + 1 + k ≡ a + suc k = omega arith in s) ∙ each (suc k))
      (ap nets back ∙ ap (λ (x : MatrixRow). x.metal) here) in
      ap (λ (x : MatrixRow). row_devices x.kind x.gated (nets (a - 1)) (nets (a + 1)) ++ flat_map (devices_at matrix nets)
      (range_with_len (a + 1) (length rows))) here
      ∙ ap (λ (n : ℕ). row_devices row.kind row.gated n (nets (a + 1)) ++ flat_map (devices_at matrix nets) (range_with_len (a + 1) (length rows))) e
      ∙ ap (λ (n : ℕ). row_devices row.kind row.gated above n ++ flat_map (devices_at matrix nets) (range_with_len (a + 1) (length rows))) next
      ∙ ap (λ l. row_devices row.kind row.gated above (get_or rows 0 blank_row).metal ++ l) rest

-- ---- rows that draw these devices, wherever they stand

-- Whatever stands above and below, the rows have these devices.
abbrev Draw : List MatrixRow → List Device → Type 0
Draw rows list = (above : ℕ) (rest : List MatrixRow) → (below : ℕ) × (rows_devices above (rows ++ rest) ≡ list ++ rows_devices below rest)

draw_none : Draw [] []
draw_none above rest = (above, refl)

draw_on : (xs ys : List MatrixRow) (ds es : List Device) → Draw xs ds → Draw ys es → Draw (xs ++ ys) (ds ++ es)
draw_on xs ys ds es h k above rest =
    let one = h above (ys ++ rest) in
    let two = k one.0 rest in (
      two.0,
      ap (rows_devices above) (append_assoc xs ys rest) ∙ one.1 ∙ ap (λ l. ds ++ l) two.1
          ∙ sym (append_assoc ds es (rows_devices two.0 rest)),
    )

draw_flat : {X : Type 0} (f : X → List MatrixRow) (g : X → List Device) (xs : List X) → ((x : X) → Draw (f x) (g x))
    → Draw (flat_map f xs) (flat_map g xs)
draw_flat f g [] each = draw_none
draw_flat f g (x ∷ xs) each = draw_on (f x) (flat_map f xs) (g x) (flat_map g xs) (each x) (draw_flat f g xs each)

draw_blank : (n : ℕ) → Draw (replicate n blank_row) []
draw_blank zero above rest = (above, refl)
draw_blank (suc n) above rest = draw_blank n 0 rest

draw_load : (vdd net : ℕ) → Draw (load_rows vdd net []) (devices.Load (at net) ∷ [])
draw_load vdd net above rest = (net, refl)

draw_gate : (vdd gnd out : ℕ) (inputs : List ℕ) → Draw (gate_rows vdd gnd out inputs) (devices.Load (at out) ∷ passes_of inputs out gnd)
draw_gate vdd gnd out inputs above rest = (gnd, refl)

draw_devices : (top : ℕ) (gated : List ℕ) (bottom : ℕ) → Draw (device_rows top gated bottom) (passes_of gated top bottom)
draw_devices top gated bottom above rest = (bottom, refl)

-- ---- the devices of the part's rows

module _ (part : PartTables) where
  abbrev pub load_if : Bool → ℕ → List ℕ
  load_if t net = if t then net ∷ [] else []

  abbrev pub loaded : ℕ → Device
  loaded net = devices.Load (at net)

  abbrev pub pulls : NorGate → List Device
  pulls gate = pull_downs part.gnd gate

  -- the loads that stand with gates
  abbrev pub gate_loads : List NorGate → List NorGate → List ℕ
  gate_loads earlier [] = []
  gate_loads earlier (gate ∷ gates) = load_if (has_load part earlier gate) gate.out ++ gate_loads (earlier ++ gate ∷ []) gates

  abbrev pub gates_drawn : List NorGate → List NorGate → List Device
  gates_drawn earlier [] = []
  gates_drawn earlier (gate ∷ gates) = (map loaded (load_if (has_load part earlier gate) gate.out) ++ pulls gate) ++ gates_drawn
      (earlier ++ gate ∷ []) gates

  draws_gate : (earlier : List NorGate) (gate : NorGate)
      → Draw (rows_of_gate part earlier gate) (map loaded (load_if (has_load part earlier gate) gate.out) ++ pulls gate)
  draws_gate earlier gate = by_test (has_load part earlier gate)
    where
      by_test : (t : Bool) → Draw (if t then gate_rows part.vdd part.gnd gate.out gate.inputs else device_rows gate.out gate.inputs part.gnd)
          (map loaded (load_if t gate.out) ++ pulls gate)
      by_test true = draw_gate part.vdd part.gnd gate.out gate.inputs
      by_test false = draw_devices gate.out gate.inputs part.gnd

  draws_gates : (earlier gates : List NorGate) → Draw (rows_of_gates part earlier gates) (gates_drawn earlier gates)
  draws_gates earlier [] = draw_none
  draws_gates earlier (gate ∷ gates) =
      draw_on (rows_of_gate part earlier gate) (rows_of_gates part (earlier ++ gate ∷ []) gates)
      (map loaded (load_if (has_load part earlier gate) gate.out) ++ pulls gate) (gates_drawn (earlier ++ gate ∷ []) gates)
      (draws_gate earlier gate) (draws_gates (earlier ++ gate ∷ []) gates)

  abbrev pub lone_load : ℕ → List Device
  lone_load net = map loaded (load_if (not (is_output part.gates net)) net)

  draws_load : (net : ℕ) → Draw (rows_of_load part net) (lone_load net)
  draws_load net = by_test (is_output part.gates net)
    where
      by_test : (t : Bool) → Draw (if t then [] else load_rows part.vdd net []) (map loaded (load_if (not t) net))
      by_test true = draw_none
      by_test false = draw_load part.vdd net

  abbrev pub all_drawn : List Device
  all_drawn = gates_drawn [] part.gates ++ flat_map lone_load part.loads ++ flat_map (λ transfer. clocked_device part transfer ∷ []) part.transfers

  draws_part : Draw (rows_of_part part) all_drawn
  draws_part =
      draw_on (rows_of_gates part [] part.gates ++ flat_map (rows_of_load part) part.loads) (flat_map (rows_of_transfer part) part.transfers)
      (gates_drawn [] part.gates ++ flat_map lone_load part.loads) (flat_map (λ transfer. clocked_device part transfer ∷ []) part.transfers)
      (draw_on (rows_of_gates part [] part.gates) (flat_map (rows_of_load part) part.loads) (gates_drawn [] part.gates)
      (flat_map lone_load part.loads)
      (draws_gates [] part.gates) (draw_flat (rows_of_load part) lone_load part.loads draws_load))
      (draw_flat (rows_of_transfer part) (λ transfer. clocked_device part transfer ∷ []) part.transfers
      (λ transfer. draw_devices transfer.from (clock_net part transfer.clock ∷ []) transfer.to))

  pub rows_draw : (n above : ℕ) → rows_devices above (replicate n blank_row ++ rows_of_part part) ≡ all_drawn
  rows_draw n above =
      let rows = replicate n blank_row ++ rows_of_part part in
      let drawn = draw_on (replicate n blank_row) (rows_of_part part) [] all_drawn (draw_blank n) draws_part above [] in
      ap (rows_devices above) (sym (append-nil rows)) ∙ drawn.1 ∙ append-nil all_drawn
