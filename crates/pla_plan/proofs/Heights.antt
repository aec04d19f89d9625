-- How many rows the planes have.
use Rattle.std.proofs.Common.{◌≡◌, ℕ, ◌+◌, ◌*◌, ◌==◌, List, [], ◌∷◌, length, refl, arith}
use Rattle.std.proofs.lemmas.List.{length-append}
use Rattle.nor_net.specs.Netlist.{NorGate}
use Rattle.gate_matrix.specs.Rows.{MatrixRow}
use Rattle.pla_plan.specs.Planes.{PlaneTables, open_gate_rows, rows_of_terms, left_rows, rows_of_sum, rows_of_sums, plane_rows}

pub long_terms : (gnd out : ℕ) (terms : List NorGate) → length (rows_of_terms gnd out terms) ≡ 5 * length terms
long_terms gnd out [] = refl
long_terms gnd out (term ∷ terms) =
    let rest = long_terms gnd (out + 1) terms in
    let whole = length-append (open_gate_rows gnd out term.inputs) (rows_of_terms gnd (out + 1) terms) in
    omega arith

pub long_left : (planes : PlaneTables) → length (left_rows planes) ≡ plane_rows planes
long_left planes =
    let terms = long_terms (planes.left + 1) (planes.left + 2) planes.terms in
    let ends = λ (a b c : MatrixRow). length-append (rows_of_terms (planes.left + 1) (planes.left + 2) planes.terms) (a ∷ b ∷ c ∷ []) in
    rw (ends) (omega arith)

pub long_sums : (planes : PlaneTables) (out : ℕ) (sums : List NorGate) → length (rows_of_sums planes out sums) ≡ 8 * length sums
long_sums planes out [] = refl
long_sums planes out (sum ∷ sums) =
    let rest = long_sums planes (out + 1) sums in
    let whole = length-append (rows_of_sum planes out sum (length sums == 0)) (rows_of_sums planes (out + 1) sums) in
    omega arith
