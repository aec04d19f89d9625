-- How many rows a part needs, by how many gates, loads and transfers it has.
use Rattle.std.proofs.Common.{◌≡◌, ℕ, ◌+◌, ◌*◌, ◌≤◌, ◌&&◌, ◌==◌, not, Bool, true, false, if◌then◌else◌, List, [], ◌∷◌, ◌++◌, length, sum_by, subst, ap, sym, arith, refl, ◌∙◌}
use Rattle.std.specs.List.{list_any, AllByRecursion}
use Rattle.std.proofs.lemmas.List.Elements.{recursion_from_All}
use Rattle.std.proofs.lemmas.List.Sums.{sum_by-cons, sum_by-append}
use Rattle.nor_net.specs.Netlist.{NorGate}
use Rattle.nor_net.specs.Evaluation.{is_output}
use Rattle.nor_net.specs.Part.{PartTables}
use Rattle.nor_net.specs.PartShapes.{HasShape}
use Rattle.gate_matrix.specs.PartRows.{has_load, height_of_gate, height_of_gates, height_of_load, height_of_part}

module _ (part : PartTables) where
  most : (t : Bool) → (if t then 5 else 3) ≤ 5
  most true = omega arith
  most false = omega arith

  -- without a load in the part
  abbrev IsBare : NorGate → Type 0
  IsBare gate = list_any (λ (net : ℕ). net == gate.out) part.loads ≡ false

  bare_height : (earlier : List NorGate) (gate : NorGate) → IsBare gate → height_of_gate part earlier gate ≡ 3
  bare_height earlier gate h = ap (λ (t : Bool). if t && not (is_output earlier gate.out) then 5 else 3) h

  bare_gates : (earlier gates : List NorGate) → AllByRecursion IsBare gates → height_of_gates part earlier gates ≤ 3 * length gates
  bare_gates earlier [] h = omega arith
  bare_gates earlier (gate ∷ gates) h =
      let one = bare_height earlier gate h.0 in
      let rest = bare_gates (earlier ++ gate ∷ []) gates h.1 in
      omega arith

  all_gates : (earlier loaded others : List NorGate) → AllByRecursion IsBare others
      → height_of_gates part earlier (loaded ++ others) ≤ 5 * length loaded + 3 * length others
  all_gates earlier [] others h = let rest = bare_gates earlier others h in omega arith
  all_gates earlier (gate ∷ loaded) others h =
      let one = most (has_load part earlier gate) in
      let rest = all_gates (earlier ++ gate ∷ []) loaded others h in
      omega arith

  abbrev IsDriven : ℕ → Type 0
  IsDriven net = is_output part.gates net ≡ true

  driven_loads : (loads : List ℕ) → AllByRecursion IsDriven loads → sum_by (height_of_load part) loads ≡ 0
  driven_loads [] h = refl
  driven_loads (net ∷ loads) h =
      let one : height_of_load part net ≡ 0 = ap (λ (t : Bool). if t then 0 else 3) h.0 in
      let rest = driven_loads loads h.1 in
      omega (arith, sum_by-cons (height_of_load part) net loads)

  three : (t : Bool) → (if t then 0 else 3) ≤ 3
  three true = omega arith
  three false = omega arith

  bare_loads : (loads : List ℕ) → sum_by (height_of_load part) loads ≤ 3 * length loads
  bare_loads [] = omega arith
  bare_loads (net ∷ loads) =
      let one = three (is_output part.gates net) in
      let rest = bare_loads loads in
      omega (arith, sum_by-cons (height_of_load part) net loads)

  pub shape_height : (loaded unloaded bare transfers : ℕ) → HasShape part loaded unloaded bare transfers
      → height_of_part part ≤ 5 * loaded + 3 * unloaded + 3 * bare + 3 * transfers
  shape_height loaded unloaded bare transfers h =
      let others = recursion_from_All IsBare h.other_gates h.others_unloaded in
      let driven = recursion_from_All IsDriven h.driven_loads h.driven in
      let gates = subst (λ (l : List NorGate). height_of_gates part [] l ≤ 5 * length h.loaded_gates + 3 * length h.other_gates) (sym h.gates)
      (all_gates [] h.loaded_gates h.other_gates others) in
      let none = driven_loads h.driven_loads driven in
      let some = bare_loads h.bare_loads in
      let loads = ap (sum_by (height_of_load part)) h.loads ∙ sum_by-append (height_of_load part) h.driven_loads h.bare_loads in
      let few_loaded = h.few_loaded in
      let few_others = h.few_others in
      let few_bare = h.few_bare in
      let few_transfers = h.few_transfers in
      omega arith
