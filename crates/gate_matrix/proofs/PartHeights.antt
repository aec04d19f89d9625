-- Rows of gates, counted and listed one by one.
use Rattle.std.proofs.Common.{◌≡◌, ℕ, ◌+◌, List, [], ◌∷◌, ◌++◌, take, drop, append_assoc, sym, ap, ◌∙◌, arith}
use Rattle.nor_net.specs.Netlist.{NorGate}
use Rattle.nor_net.specs.Part.{PartTables}
use Rattle.gate_matrix.specs.Rows.{MatrixRow}
use Rattle.gate_matrix.specs.PartRows.{height_of_gate, height_of_gates, rows_of_gate, rows_of_gates}

-- one gate more
pub heights_more : (part : PartTables) (gates : List NorGate) (i h : ℕ) (gate : NorGate) → take (i + 1) gates ≡ take i gates ++ gate ∷ [] → drop i gates ≡ gate ∷ drop (i + 1) gates
    → (whole : ℕ) → h + height_of_gates part (take i gates) (drop i gates) ≡ whole
    → (h + height_of_gate part (take i gates) gate) + height_of_gates part (take (i + 1) gates) (drop (i + 1) gates) ≡ whole
heights_more part gates i h gate taken left whole e =
    let next = height_of_gates part (take (i + 1) gates) (drop (i + 1) gates) in
    let now : height_of_gates part (take i gates) (drop i gates) ≡ height_of_gate part (take i gates) gate + next =
    ap (height_of_gates part (take i gates)) left ∙ ap (λ earlier. height_of_gate part (take i gates) gate + height_of_gates part earlier (drop (i + 1) gates)) (sym taken) in
    omega arith

pub rows_more : (part : PartTables) (gates : List NorGate) (i : ℕ) (list : List MatrixRow) (gate : NorGate) → take (i + 1) gates ≡ take i gates ++ gate ∷ [] → drop i gates ≡ gate ∷ drop (i + 1) gates
    → (whole : List MatrixRow) → list ++ rows_of_gates part (take i gates) (drop i gates) ≡ whole
    → (list ++ rows_of_gate part (take i gates) gate) ++ rows_of_gates part (take (i + 1) gates) (drop (i + 1) gates) ≡ whole
rows_more part gates i list gate taken left whole e =
    let now : rows_of_gates part (take i gates) (drop i gates) ≡ rows_of_gate part (take i gates) gate ++ rows_of_gates part (take (i + 1) gates) (drop (i + 1) gates) =
    ap (rows_of_gates part (take i gates)) left
    ∙ ap (λ earlier. rows_of_gate part (take i gates) gate ++ rows_of_gates part earlier (drop (i + 1) gates)) (sym taken) in
    append_assoc list (rows_of_gate part (take i gates) gate) (rows_of_gates part (take (i + 1) gates) (drop (i + 1) gates)) ∙ ap (λ rest. list ++ rest) (sym now) ∙ e
