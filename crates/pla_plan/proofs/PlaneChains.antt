-- The rows of the planes lead on to one another.
use Rattle.std.proofs.Common.{◌≡◌, ℕ, zero, suc, ◌+◌, ◌-◌, ◌<◌, ◌==◌, Bool, true, false, if◌then◌else◌, List, [], ◌∷◌, ◌++◌, length, get_or, map, refl, arith}
use Rattle.std.proofs.lemmas.Bool.{ne_eqb}
use Rattle.nor_net.specs.Netlist.{NorGate}
use Rattle.gate_matrix.specs.declared.row.RowKind.TheVariants.{Start, Through, Stop, Top, Bottom}
use Rattle.gate_matrix.specs.Rows.{MatrixRow, blank_row, closed_row}
use Rattle.gate_matrix.specs.Matrices.{is_start, is_vdd, is_load, is_stop, is_middle, gated_south}
use Rattle.gate_matrix.specs.MatrixNets.{IsAbove}
use Rattle.pla_plan.specs.Planes.{PlaneTables, onward_row, open_gate_rows, rows_of_terms, rows_of_sums}

-- One row leads on to the other, also the poly of the nets.
pub record Stacked (upper lower : MatrixRow) : Type 0 where
  pub above : IsAbove upper lower
  pub begun : is_start lower.kind ≡ false
  pub ended : is_stop upper.kind ≡ false

-- each row leads on to the next, behind the first
abbrev pub Chain : MatrixRow → List MatrixRow → Type 0
Chain row [] = Unit {0}
Chain row (next ∷ rows) = Stacked row next × Chain next rows

pub chained : (row : MatrixRow) (rows : List MatrixRow) → Chain row rows → (i : ℕ) → i < length rows
    → Stacked (get_or (row ∷ rows) i blank_row) (get_or rows i blank_row)
chained row [] h i below = absurd (omega arith)
chained row (next ∷ rows) h zero below = h.0
chained row (next ∷ rows) h (suc i) below = chained next rows h.1 i (omega arith)

-- Nothing leads on from the row but the poly of the nets.
pub record Ends (row : MatrixRow) : Type 0 where
  pub devices : gated_south row.kind row.gated ≡ []
  pub no_vdd : is_vdd row.kind ≡ false
  pub no_load : is_load row.kind ≡ false
  pub no_stop : is_stop row.kind ≡ false
  pub no_middle : is_middle row.kind ≡ false

pub blank_ends : Ends blank_row
blank_ends = record { devices = refl; no_vdd = refl; no_load = refl; no_stop = refl; no_middle = refl }

-- below a row from which nothing leads on: a row that only carries poly on, one that ends it, metal without devices, or a load
blank_below : (row : MatrixRow) → Ends row → Stacked row blank_row
blank_below row e = record { above = record { follows = record { devices = e.devices; load = e.no_vdd; out = e.no_load }; bottom = e.no_middle }; begun = refl; ended = e.no_stop }

metal_below : (row : MatrixRow) (metal : ℕ) → Ends row → Stacked row (onward_row Top metal [])
metal_below row metal e = record { above = record { follows = record { devices = e.devices; load = e.no_vdd; out = e.no_load }; bottom = e.no_middle }; begun = refl; ended = e.no_stop }

end_below : (row : MatrixRow) (last : Bool) → Ends row → Stacked row (closed_row (if last then Stop else Through) 0 [])
end_below row true e = record { above = record { follows = record { devices = e.devices; load = e.no_vdd; out = e.no_load }; bottom = e.no_middle }; begun = refl; ended = e.no_stop }
end_below row false e = blank_below row e

module _ (gnd out : ℕ) (gated : List ℕ) where
  bottom_ends : Ends (closed_row Bottom gnd gated)
  bottom_ends = record { devices = refl; no_vdd = refl; no_load = refl; no_stop = refl; no_middle = refl }

  -- the rows of a gate, and those behind them
  gate_chain : (row : MatrixRow) (rows : List MatrixRow) → Ends row → Chain (closed_row Bottom gnd gated) rows → Chain row (open_gate_rows gnd out gated ++ rows)
  gate_chain row rows e rest = (
    record { above = record { follows = record { devices = e.devices; load = e.no_vdd; out = e.no_load }; bottom = e.no_middle }; begun = refl; ended = e.no_stop },
    (
      record { above = record { follows = record { devices = refl; load = refl; out = refl }; bottom = refl }; begun = refl; ended = refl },
      (
        record { above = record { follows = record { devices = refl; load = refl; out = refl }; bottom = refl }; begun = refl; ended = refl },
        (
          record { above = record { follows = record { devices = refl; load = refl; out = refl }; bottom = refl }; begun = refl; ended = refl },
          (record { above = record { follows = record { devices = refl; load = refl; out = refl }; bottom = refl }; begun = refl; ended = refl }, rest),
        ),
      ),
    ),
  )

terms_chain : (gnd out : ℕ) (terms : List NorGate) (row : MatrixRow) (rows : List MatrixRow) → Ends row → ((last : MatrixRow) → Ends last → Chain last rows)
    → Chain row (rows_of_terms gnd out terms ++ rows)
terms_chain gnd out [] row rows e rest = rest row e
terms_chain gnd out (term ∷ terms) row rows e rest =
    gate_chain gnd out term.inputs row (rows_of_terms gnd (out + 1) terms ++ rows) e
    (terms_chain gnd (out + 1) terms (closed_row Bottom gnd term.inputs) rows (bottom_ends gnd out term.inputs) rest)

module _ (planes : PlaneTables) where
  start_ends : Ends (closed_row Start 0 [])
  start_ends = record { devices = refl; no_vdd = refl; no_load = refl; no_stop = refl; no_middle = refl }

  -- the rows of the left plane behind the first
  abbrev pub left_behind : List MatrixRow
  left_behind =
      blank_row ∷ onward_row Top 0 [] ∷ blank_row
      ∷ (rows_of_terms (planes.left + 1) (planes.left + 2) planes.terms ++ onward_row Top (planes.left + 1) [] ∷ blank_row ∷ blank_row ∷ [])

  left_ends : (row : MatrixRow) → Ends row → Chain row (onward_row Top (planes.left + 1) [] ∷ blank_row ∷ blank_row ∷ [])
  left_ends row e = (
    metal_below row (planes.left + 1) e,
    (
      record { above = record { follows = record { devices = refl; load = refl; out = refl }; bottom = refl }; begun = refl; ended = refl },
      (blank_below blank_row blank_ends, tt),
    ),
  )

  pub left_chain : (row : MatrixRow) → Ends row → Chain row left_behind
  left_chain row e = (
    blank_below row e,
    (
      metal_below blank_row 0 blank_ends,
      (
        record { above = record { follows = record { devices = refl; load = refl; out = refl }; bottom = refl }; begun = refl; ended = refl },
        terms_chain (planes.left + 1) (planes.left + 2) planes.terms blank_row _ blank_ends left_ends,
      ),
    ),
  )

  pub begun_chain : Chain (closed_row Start 0 []) left_behind
  begun_chain = left_chain (closed_row Start 0 []) start_ends

  abbrev last_row : Bool → MatrixRow
  last_row last = closed_row (if last then Stop else Through) 0 []

  through_ends : (last : Bool) → last ≡ false → Ends (last_row last)
  through_ends false e = blank_ends
  through_ends true e = absurd (cc)

  pub sums_chain : (out : ℕ) (sums : List NorGate) (row : MatrixRow) → Ends row → Chain row (rows_of_sums planes out sums)
  sums_chain out [] row e = tt
  sums_chain out (sum ∷ []) row e =
      let gated = map (λ net. net - planes.part.nets + 1) sum.inputs in
      let gnd = length planes.terms + 1 in
      gate_chain gnd out gated row (blank_row ∷ blank_row ∷ last_row true ∷ []) e (
        blank_below (closed_row Bottom gnd gated) (bottom_ends gnd out gated),
        (blank_below blank_row blank_ends, (end_below blank_row true blank_ends, tt)),
      )
  sums_chain out (sum ∷ next ∷ sums) row e =
      let gated = map (λ net. net - planes.part.nets + 1) sum.inputs in
      let gnd = length planes.terms + 1 in
      let last = length (next ∷ sums) == 0 in
      let more : last ≡ false = ne_eqb (length (next ∷ sums)) 0 (λ h. absurd (omega arith)) in
      gate_chain gnd out gated row (blank_row ∷ blank_row ∷ last_row last ∷ rows_of_sums planes (out + 1) (next ∷ sums)) e (
        blank_below (closed_row Bottom gnd gated) (bottom_ends gnd out gated),
        (
          blank_below blank_row blank_ends,
          (end_below blank_row last blank_ends, sums_chain (out + 1) (next ∷ sums) (last_row last) (through_ends last more)),
        ),
      )
