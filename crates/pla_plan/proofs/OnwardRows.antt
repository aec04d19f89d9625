-- The rows of the planes whose metal goes on to the east, and the last ones.
use Rattle.std.proofs.Common.{◌≡◌, ℕ, zero, suc, ◌+◌, ◌*◌, ◌%◌, ◌<◌, ◌==◌, List, [], ◌∷◌, ◌++◌, length, get_or, map, refl, ap, ◌∙◌, arith}
use Rattle.std.specs.List.{range_with_len}
use Rattle.nor_net.specs.Netlist.{NorGate}
use Rattle.gate_matrix.specs.declared.row.RowKind.TheVariants.{Stop, Top}
use Rattle.gate_matrix.specs.Rows.{MatrixRow, blank_row, closed_row}
use Rattle.pla_plan.specs.Planes.{PlaneTables, onward_row, rows_of_terms, left_rows, rows_of_sums}

-- ---- where the rows of the left plane meet nets of the right one

abbrev pub places_from : ℕ → ℕ → ℕ → List ℕ
places_from k n last = map (λ term. 6 + 5 * term) (range_with_len k n) ++ (4 + 5 * last) ∷ []

abbrev pub ground_rows : ℕ → List MatrixRow
ground_rows gnd = onward_row Top gnd [] ∷ blank_row ∷ blank_row ∷ []

-- ---- which rows of the right plane go on

pub sums_go_on : (planes : PlaneTables) (out : ℕ) (sums : List NorGate) (j : ℕ) → j < 8 * length sums
    → (get_or (rows_of_sums planes out sums) j blank_row).onward ≡ (j % 8 == 2)
sums_go_on planes out [] j below = absurd (omega arith)
sums_go_on planes out (sum ∷ sums) zero below = refl
sums_go_on planes out (sum ∷ sums) (suc zero) below = refl
sums_go_on planes out (sum ∷ sums) (suc (suc zero)) below = refl
sums_go_on planes out (sum ∷ sums) (suc (suc (suc zero))) below = refl
sums_go_on planes out (sum ∷ sums) (suc (suc (suc (suc zero)))) below = refl
sums_go_on planes out (sum ∷ sums) (suc (suc (suc (suc (suc zero))))) below = refl
sums_go_on planes out (sum ∷ sums) (suc (suc (suc (suc (suc (suc zero)))))) below = refl
sums_go_on planes out (sum ∷ sums) (suc (suc (suc (suc (suc (suc (suc zero))))))) below = refl
sums_go_on planes out (sum ∷ sums) (suc (suc (suc (suc (suc (suc (suc (suc j)))))))) below =
    let same : j % 8 ≡ suc (suc (suc (suc (suc (suc (suc (suc j))))))) % 8 = omega arith in
    sums_go_on planes (out + 1) sums j (omega arith) ∙ ap (λ (n : ℕ). n == 2) same

-- the very last row ends the nets
pub last_stops : (planes : PlaneTables) (out : ℕ) (sums : List NorGate) (j : ℕ) → j + 1 ≡ 8 * length sums
    → get_or (rows_of_sums planes out sums) j blank_row ≡ closed_row Stop 0 []
last_stops planes out [] j e = absurd (omega arith)
last_stops planes out (sum ∷ []) (suc (suc (suc (suc (suc (suc (suc zero))))))) e = refl
last_stops planes out (sum ∷ next ∷ sums) (suc (suc (suc (suc (suc (suc (suc (suc j)))))))) e = last_stops planes (out + 1) (next ∷ sums) j (omega arith)
last_stops planes out (sum ∷ sums) j e = absurd (omega arith)

-- ---- the last row of the left plane

terms_last : (gnd out : ℕ) (terms : List NorGate) (i : ℕ) → i ≡ 5 * length terms + 2
    → get_or (rows_of_terms gnd out terms ++ ground_rows gnd) i blank_row ≡ blank_row
terms_last gnd out [] (suc (suc zero)) e = refl
terms_last gnd out (term ∷ terms) (suc (suc (suc (suc (suc i))))) e = terms_last gnd (out + 1) terms i (omega arith)
terms_last gnd out terms i e = absurd (omega arith)

pub left_last : (planes : PlaneTables) (i : ℕ) → i ≡ 5 * length planes.terms + 6 → get_or (left_rows planes) i blank_row ≡ blank_row
left_last planes (suc (suc (suc (suc i)))) e = terms_last (planes.left + 1) (planes.left + 2) planes.terms i (omega arith)
left_last planes i e = absurd (omega arith)
