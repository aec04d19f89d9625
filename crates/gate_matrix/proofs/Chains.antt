-- The rows of a part lead on to one another.
use Rattle.std.proofs.Common.{◌≡◌, ℕ, zero, suc, ◌+◌, ◌-◌, ◌*◌, ◌<◌, ◌≤◌, Bool, true, false, if◌then◌else◌, List, [], ◌∷◌, ◌++◌, length, get_or, replicate, refl, sym, ◌∙◌, subst, arith}
use Rattle.std.specs.Prelude.{flat_map, sum_by}
use Rattle.std.proofs.lemmas.List.{length-append, length-replicate}
use Rattle.std.proofs.lemmas.List.Concat.{length-flat_map}
use Rattle.nor_net.specs.Netlist.{NorGate}
use Rattle.nor_net.specs.Evaluation.{is_output}
use Rattle.nor_net.specs.Part.{PartTables}
use Rattle.nor_net.specs.declared.gate.Transfer.{Transfer}
use Rattle.gate_matrix.specs.Rows.{MatrixRow, blank_row, load_rows, device_rows, gate_rows}
use Rattle.gate_matrix.specs.Matrices.{is_vdd, is_load, is_stop, is_middle, gated_south, LeadsOn}
use Rattle.gate_matrix.proofs.Stacks.{Stacked}
use Rattle.gate_matrix.specs.PartRows.{has_load, rows_of_gate, rows_of_gates, rows_of_load, rows_of_transfer, rows_of_part, height_of_gate, height_of_gates, height_of_load, height_of_part}

-- each row leads on to the next, behind the first
abbrev Chain : MatrixRow → List MatrixRow → Type 0
Chain row [] = Unit {0}
Chain row (next ∷ rows) = Stacked row next × Chain next rows

abbrev last_of : MatrixRow → List MatrixRow → MatrixRow
last_of row [] = row
last_of row (next ∷ rows) = last_of next rows

-- Nothing leads on from the row but the poly of the nets.
record Ends (row : MatrixRow) : Type 0 where
  devices : gated_south row.kind row.gated ≡ []
  no_vdd : is_vdd row.kind ≡ false
  no_load : is_load row.kind ≡ false
  no_stop : is_stop row.kind ≡ false
  no_middle : is_middle row.kind ≡ false

-- Behind a row from which nothing leads on, the rows are a chain, and nothing leads on from the last.
abbrev IsRun : List MatrixRow → Type 0
IsRun rows = (row : MatrixRow) → Ends row → Chain row rows × Ends (last_of row rows)

chain_on : (row : MatrixRow) (rows more : List MatrixRow) → Chain row rows → Chain (last_of row rows) more → Chain row (rows ++ more)
chain_on row [] more h k = k
chain_on row (next ∷ rows) more h k = (h.0, chain_on next rows more h.1 k)

last_on : (row : MatrixRow) (rows more : List MatrixRow) → last_of row (rows ++ more) ≡ last_of (last_of row rows) more
last_on row [] more = refl
last_on row (next ∷ rows) more = last_on next rows more

-- the last row, above rows that are blank
end_stacked : (row : MatrixRow) → Ends row → Stacked row blank_row
end_stacked row ends = record {
  leads = record { follows = record { devices = ends.devices; load = ends.no_vdd; out = ends.no_load }; begun = refl; ended = ends.no_stop };
  middle = ends.no_middle;
}

chained : (row : MatrixRow) (rows : List MatrixRow) → Chain row rows → Ends (last_of row rows) → (i j : ℕ) → j ≡ suc i → i < length rows
    → Stacked (get_or rows i blank_row) (get_or rows j blank_row)
chained row [] h ends i j e below = absurd (omega arith)
chained row (next ∷ []) h ends zero j e below = subst (λ (k : ℕ). Stacked next (get_or (next ∷ []) k blank_row)) (sym e) (end_stacked next ends)
chained row (next ∷ []) h ends (suc i) j e below = absurd (omega arith)
chained row (next ∷ after ∷ rows) h ends zero j e below =
    subst (λ (k : ℕ). Stacked next (get_or (next ∷ after ∷ rows) k blank_row)) (sym e) h.1.0
chained row (next ∷ after ∷ rows) h ends (suc i) j e below =
    subst (λ (k : ℕ). Stacked (get_or (after ∷ rows) i blank_row) (get_or (next ∷ after ∷ rows) k blank_row)) (sym e)
    (chained next (after ∷ rows) h.1 ends i (suc i) refl (omega arith))

chain_begins : (row : MatrixRow) (rows : List MatrixRow) → Chain row rows → Ends row → Stacked row (get_or rows 0 blank_row)
chain_begins row [] h ends = end_stacked row ends
chain_begins row (next ∷ rows) h ends = h.0

run_on : (rows more : List MatrixRow) → IsRun rows → IsRun more → IsRun (rows ++ more)
run_on rows more h k row ends =
    let first = h row ends in
    let second = k (last_of row rows) first.1 in
    (chain_on row rows more first.0 second.0, subst Ends (sym (last_on row rows more)) second.1)

run_none : IsRun []
run_none row ends = (tt, ends)

run_flat : {X : Type 0} (f : X → List MatrixRow) (xs : List X) → ((x : X) → IsRun (f x)) → IsRun (flat_map f xs)
run_flat f [] each = run_none
run_flat f (x ∷ xs) each = run_on (f x) (flat_map f xs) (each x) (run_flat f xs each)

run_blank : (n : ℕ) → IsRun (replicate n blank_row)
run_blank zero row ends = (tt, ends)
run_blank (suc n) row ends =
    let rest = run_blank n blank_row (record { devices = refl; no_vdd = refl; no_load = refl; no_stop = refl; no_middle = refl }) in (
      (
        record {
          leads = record { follows = record { devices = ends.devices; load = ends.no_vdd; out = ends.no_load }; begun = refl; ended = ends.no_stop };
          middle =
              ends.no_middle;
        },
        rest.0,
      ),
      rest.1,
    )

run_load : (vdd net : ℕ) → IsRun (load_rows vdd net [])
run_load vdd net row ends = (
  (
    record {
      leads = record { follows = record { devices = ends.devices; load = ends.no_vdd; out = ends.no_load }; begun = refl; ended = ends.no_stop };
      middle =
          ends.no_middle;
    },
    (
      record { leads = record { follows = record { devices = refl; load = refl; out = refl }; begun = refl; ended = refl }; middle = refl },
      (record { leads = record { follows = record { devices = refl; load = refl; out = refl }; begun = refl; ended = refl }; middle = refl }, tt),
    ),
  ),
  record { devices = refl; no_vdd = refl; no_load = refl; no_stop = refl; no_middle = refl },
)

run_gate : (vdd gnd out : ℕ) (inputs : List ℕ) → IsRun (gate_rows vdd gnd out inputs)
run_gate vdd gnd out inputs row ends = (
  (
    record {
      leads = record { follows = record { devices = ends.devices; load = ends.no_vdd; out = ends.no_load }; begun = refl; ended = ends.no_stop };
      middle =
          ends.no_middle;
    },
    (
      record { leads = record { follows = record { devices = refl; load = refl; out = refl }; begun = refl; ended = refl }; middle = refl },
      (
        record { leads = record { follows = record { devices = refl; load = refl; out = refl }; begun = refl; ended = refl }; middle = refl },
        (
          record { leads = record { follows = record { devices = refl; load = refl; out = refl }; begun = refl; ended = refl }; middle = refl },
          (record { leads = record { follows = record { devices = refl; load = refl; out = refl }; begun = refl; ended = refl }; middle = refl }, tt),
        ),
      ),
    ),
  ),
  record { devices = refl; no_vdd = refl; no_load = refl; no_stop = refl; no_middle = refl },
)

run_devices : (top bottom : ℕ) (gated : List ℕ) → IsRun (device_rows top gated bottom)
run_devices top bottom gated row ends = (
  (
    record {
      leads = record { follows = record { devices = ends.devices; load = ends.no_vdd; out = ends.no_load }; begun = refl; ended = ends.no_stop };
      middle =
          ends.no_middle;
    },
    (
      record { leads = record { follows = record { devices = refl; load = refl; out = refl }; begun = refl; ended = refl }; middle = refl },
      (record { leads = record { follows = record { devices = refl; load = refl; out = refl }; begun = refl; ended = refl }; middle = refl }, tt),
    ),
  ),
  record { devices = refl; no_vdd = refl; no_load = refl; no_stop = refl; no_middle = refl },
)

-- ---- the rows of a part

module _ (part : PartTables) where
  run_of_gate : (earlier : List NorGate) (gate : NorGate) (t : Bool) → has_load part earlier gate ≡ t → IsRun (rows_of_gate part earlier gate)
  run_of_gate earlier gate true e = subst (λ t. IsRun
      (if t then gate_rows part.vdd part.gnd gate.out gate.inputs else device_rows gate.out gate.inputs part.gnd)) (sym e)
      (run_gate part.vdd part.gnd gate.out gate.inputs)
  run_of_gate earlier gate false e = subst (λ t. IsRun
      (if t then gate_rows part.vdd part.gnd gate.out gate.inputs else device_rows gate.out gate.inputs part.gnd)) (sym e)
      (run_devices gate.out part.gnd gate.inputs)

  run_of_gates : (earlier gates : List NorGate) → IsRun (rows_of_gates part earlier gates)
  run_of_gates earlier [] = run_none
  run_of_gates earlier (gate ∷ gates) = run_on (rows_of_gate part earlier gate) (rows_of_gates part (earlier ++ gate ∷ []) gates)
      (run_of_gate earlier gate (has_load part earlier gate) refl) (run_of_gates (earlier ++ gate ∷ []) gates)

  run_of_load : (net : ℕ) (t : Bool) → is_output part.gates net ≡ t → IsRun (rows_of_load part net)
  run_of_load net true e = subst (λ t. IsRun (if t then [] else load_rows part.vdd net [])) (sym e) run_none
  run_of_load net false e = subst (λ t. IsRun (if t then [] else load_rows part.vdd net [])) (sym e) (run_load part.vdd net)

  run_of_part : IsRun (rows_of_part part)
  run_of_part = run_on (rows_of_gates part [] part.gates ++ flat_map (rows_of_load part) part.loads) (flat_map (rows_of_transfer part) part.transfers)
      (run_on (rows_of_gates part [] part.gates) (flat_map (rows_of_load part) part.loads) (run_of_gates [] part.gates)
      (run_flat (rows_of_load part) part.loads (λ net. run_of_load net (is_output part.gates net) refl)))
      (run_flat (rows_of_transfer part) part.transfers (λ transfer. run_devices transfer.from transfer.to _))

  -- ---- how many they are

  long_gate : (earlier : List NorGate) (gate : NorGate) (t : Bool) → has_load part earlier gate ≡ t
      → length (rows_of_gate part earlier gate) ≡ height_of_gate part earlier gate
  long_gate earlier gate true e = rw e refl
  long_gate earlier gate false e = rw e refl

  long_gates : (earlier gates : List NorGate) → length (rows_of_gates part earlier gates) ≡ height_of_gates part earlier gates
  long_gates earlier [] = refl
  long_gates earlier (gate ∷ gates) =
      let first = long_gate earlier gate (has_load part earlier gate) refl in
      let rest = long_gates (earlier ++ gate ∷ []) gates in
      length-append (rows_of_gate part earlier gate) (rows_of_gates part (earlier ++ gate ∷ []) gates) ∙ rw (first, rest) refl

  long_load : (net : ℕ) (t : Bool) → is_output part.gates net ≡ t → length (rows_of_load part net) ≡ height_of_load part net
  long_load net true e = rw e refl
  long_load net false e = rw e refl

  long_loads : (nets : List ℕ) → length (flat_map (rows_of_load part) nets) ≡ sum_by (height_of_load part) nets
  long_loads nets = length-flat_map (rows_of_load part) nets ∙ (λ i. sum_by (λ net. long_load net (is_output part.gates net) refl i) nets)

  long_transfers : (transfers : List Transfer) → length (flat_map (rows_of_transfer part) transfers) ≡ 3 * length transfers
  long_transfers [] = refl
  long_transfers (transfer ∷ transfers) =
      let rest = long_transfers transfers in
      length-append (rows_of_transfer part transfer) (flat_map (rows_of_transfer part) transfers) ∙ (omega arith)

  pub long_part : length (rows_of_part part) ≡ height_of_part part
  long_part =
      let gates = long_gates [] part.gates in
      let loads = long_loads part.loads in
      let transfers = long_transfers part.transfers in
      let whole = length-append (rows_of_gates part [] part.gates ++ flat_map (rows_of_load part) part.loads)
      (flat_map (rows_of_transfer part) part.transfers) in
      let front = length-append (rows_of_gates part [] part.gates) (flat_map (rows_of_load part) part.loads) in
      omega arith

  pub long_rows : (rows : ℕ) → height_of_part part ≤ rows → length (replicate (rows - height_of_part part) blank_row ++ rows_of_part part) ≡ rows
  long_rows rows fits =
      let whole = length-append (replicate (rows - height_of_part part) blank_row) (rows_of_part part) in
      let spare = length-replicate (rows - height_of_part part) blank_row in
      let drawn = long_part in
      omega arith

  module _ (n : ℕ) where
    abbrev drawn_rows : List MatrixRow
    drawn_rows = replicate n blank_row ++ rows_of_part part

    blank_ends : Ends blank_row
    blank_ends = record { devices = refl; no_vdd = refl; no_load = refl; no_stop = refl; no_middle = refl }

    whole_run : Chain blank_row drawn_rows × Ends (last_of blank_row drawn_rows)
    whole_run = run_on (replicate n blank_row) (rows_of_part part) (run_blank n) run_of_part blank_row blank_ends

    pub rows_stacked : (i : ℕ) → i < length drawn_rows → Stacked (get_or drawn_rows i blank_row) (get_or drawn_rows (i + 1) blank_row)
    rows_stacked i below = chained blank_row drawn_rows whole_run.0 whole_run.1 i (i + 1) (omega arith) below

    pub first_stacked : Stacked blank_row (get_or drawn_rows 0 blank_row)
    first_stacked = chain_begins blank_row drawn_rows whole_run.0 blank_ends

    pub rows_lead_on : (i : ℕ) → i + 1 < length drawn_rows → LeadsOn (get_or drawn_rows i blank_row) (get_or drawn_rows (i + 1) blank_row)
    rows_lead_on i below = (rows_stacked i (omega arith)).leads
