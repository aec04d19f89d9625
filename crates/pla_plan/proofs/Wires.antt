-- The nets of the planes have their columns.
use Rattle.std.proofs.Common.{◌≡◌, ℕ, zero, suc, ◌+◌, ◌*◌, ◌≤◌, [], ◌∷◌, ◌++◌, map, arith}
use Rattle.std.specs.List.{range_with_len}
use Rattle.gate_matrix.specs.Columns.{AreWiresFrom, AreWires}
use Rattle.pla_plan.specs.Planes.{left_places, right_places}

left_from : (k n first cols : ℕ) → first ≤ 2 + 2 * k → 2 + 2 * k + 2 * n ≤ cols → AreWiresFrom first (map (λ net. 2 + 2 * net) (range_with_len k n)) cols
left_from k zero first cols low high = omega arith
left_from k (suc n) first cols low high = (low, left_from (k + 1) n (2 + 2 * k + 2) cols (omega arith) (omega arith))

pub left_wires : (nets cols : ℕ) → 2 + 2 * nets ≤ cols → AreWires (left_places nets) cols
left_wires nets cols room = left_from 0 nets 2 cols (omega arith) (omega arith)

pub right_from_wires : (k n last first cols : ℕ) → k + n ≡ last → first ≤ 4 + 5 * k → 6 + 5 * last ≤ cols
    → AreWiresFrom first (map (λ term. 6 + 5 * term) (range_with_len k n) ++ (4 + 5 * last) ∷ []) cols
right_from_wires k zero last first cols e low high = (omega arith, omega arith)
right_from_wires k (suc n) last first cols e low high = (omega arith, right_from_wires (k + 1) n last (6 + 5 * k + 2) cols (omega arith) (omega arith) high)

pub right_wires : (terms cols : ℕ) → 6 + 5 * terms ≤ cols → AreWires (right_places terms) cols
right_wires terms cols room = (omega arith, right_from_wires 0 terms terms 4 cols (omega arith) (omega arith) room)
