-- The rows of a gate whose output goes on to the east have their nets.
use Rattle.std.proofs.Common.{◌≡◌, ℕ, zero, suc, ◌+◌, ◌<◌, ◌≤◌, ◌⊎◌, inl, inr, true, false, [], ◌∷◌, refl, arith}
use Rattle.std.proofs.lemmas.List.Elements.{All-nil, All-cons}
use Rattle.gate_matrix.specs.declared.row.RowKind.TheVariants.{Vdd, Middle}
use Rattle.gate_matrix.specs.Rows.{has_metal}
use Rattle.gate_matrix.specs.Matrices.{is_start, is_stop}
use Rattle.gate_matrix.specs.MatrixNets.{row_at, IsAbove, IsWireMetal, IsOpenMetal, AreGates, AreMatrixNets}
use Rattle.gate_matrix.specs.Modules.{metal_in}
use Rattle.gate_matrix.specs.Examples.{open_gate}

south : (r : ℕ) → r < 6 → IsAbove (row_at open_gate r) (row_at open_gate (r + 1))
south zero below = record { follows = record { devices = refl; load = refl; out = refl }; bottom = refl }
south (suc zero) below = record { follows = record { devices = refl; load = refl; out = refl }; bottom = refl }
south (suc (suc zero)) below = record { follows = record { devices = refl; load = refl; out = refl }; bottom = refl }
south (suc (suc (suc zero))) below = record { follows = record { devices = refl; load = refl; out = refl }; bottom = refl }
south (suc (suc (suc (suc zero)))) below = record { follows = record { devices = refl; load = refl; out = refl }; bottom = refl }
south (suc (suc (suc (suc (suc zero))))) below = record { follows = record { devices = refl; load = refl; out = refl }; bottom = refl }
south (suc (suc (suc (suc (suc (suc r)))))) below = absurd (omega arith)

begun : (r : ℕ) → r + 1 < 6 → is_start (row_at open_gate (r + 1)).kind ≡ false
begun zero below = refl
begun (suc zero) below = refl
begun (suc (suc zero)) below = refl
begun (suc (suc (suc zero))) below = refl
begun (suc (suc (suc (suc zero)))) below = refl
begun (suc (suc (suc (suc (suc r))))) below = absurd (omega arith)

ended : (r : ℕ) → r + 1 < 6 → is_stop (row_at open_gate r).kind ≡ false
ended zero below = refl
ended (suc zero) below = refl
ended (suc (suc zero)) below = refl
ended (suc (suc (suc zero))) below = refl
ended (suc (suc (suc (suc zero)))) below = refl
ended (suc (suc (suc (suc (suc r))))) below = absurd (omega arith)

metal : (r : ℕ) → r < 6 → has_metal (row_at open_gate r).kind ≡ true
    → IsWireMetal 3 (row_at open_gate r) (metal_in open_gate r) ⊎ IsOpenMetal 3 4 (row_at open_gate r) (metal_in open_gate r)
metal zero below m = absurd (cc)
metal (suc zero) below m = inl (record { is = refl; below = omega arith })
metal (suc (suc zero)) below m = absurd (cc)
metal (suc (suc (suc zero))) below m = inr (record { onward = refl; no_wire = omega arith; from = omega arith; below = omega arith })
metal (suc (suc (suc (suc zero)))) below m = absurd (cc)
metal (suc (suc (suc (suc (suc zero))))) below m = inl (record { is = refl; below = omega arith })
metal (suc (suc (suc (suc (suc (suc r)))))) below m = absurd (omega arith)

opens : (r : ℕ) → r < 6 → has_metal (row_at open_gate r).kind ≡ true → 3 ≤ metal_in open_gate r → 3 ≡ r
opens zero below m from = absurd (cc)
opens (suc zero) below m from = absurd (omega arith)
opens (suc (suc zero)) below m from = absurd (cc)
opens (suc (suc (suc zero))) below m from = refl
opens (suc (suc (suc (suc zero)))) below m from = absurd (cc)
opens (suc (suc (suc (suc (suc zero))))) below m from = absurd (omega arith)
opens (suc (suc (suc (suc (suc (suc r)))))) below m from = absurd (omega arith)

supply : (r : ℕ) → r < 6 → (row_at open_gate r).kind ≡ Vdd → metal_in open_gate r ≡ 0
supply zero below v = refl
supply (suc zero) below v = refl
supply (suc (suc zero)) below v = refl
supply (suc (suc (suc zero))) below v = absurd (cc)
supply (suc (suc (suc (suc zero)))) below v = absurd (cc)
supply (suc (suc (suc (suc (suc zero))))) below v = absurd (cc)
supply (suc (suc (suc (suc (suc (suc r)))))) below v = absurd (omega arith)

input : AreGates 3 (1 ∷ [])
input = record {
  below = All-cons (λ i. i < 3) 1 [] (omega arith) (All-nil (λ i. i < 3));
  distinct = λ i j d less below. absurd (omega arith);
}

gates : (r : ℕ) → r < 6 → (row_at open_gate r).kind ≡ Middle → AreGates 3 (row_at open_gate r).gated
gates zero below v = absurd (cc)
gates (suc zero) below v = absurd (cc)
gates (suc (suc zero)) below v = absurd (cc)
gates (suc (suc (suc zero))) below v = absurd (cc)
gates (suc (suc (suc (suc zero)))) below v = input
gates (suc (suc (suc (suc (suc zero))))) below v = absurd (cc)
gates (suc (suc (suc (suc (suc (suc r)))))) below v = absurd (omega arith)

pub open_nets : AreMatrixNets open_gate (metal_in open_gate) 4 0
open_nets = record {
  columns = (omega arith, (omega arith, (omega arith, omega arith)));
  some_row = omega arith;
  some_wire = omega arith;
  wires_fit = omega arith;
  north = record { follows = record { devices = refl; load = refl; out = refl }; bottom = refl };
  south = south;
  begun = begun;
  ended = ended;
  metal = metal;
  opener = λ net. 3;
  opened = λ net from below. (let is : 3 ≡ net = omega arith in (omega arith, refl, is));
  opens = opens;
  supply = supply;
  gates = gates;
  east = λ r below m onward. refl;
}
