-- The registers of a position automaton, with their columns, are an array.
use Rattle.std.proofs.Common.{◌≡◌, ℕ, ◌+◌, ◌-◌, ◌*◌, ◌<◌, ◌≤◌, inl, inr, ◌⊎◌, List, ◌++◌, map, length, get_or, refl, ap, ◌∙◌, arith, length-append}
use Rattle.std.specs.List.{range_with_len}
use Rattle.std.proofs.lemmas.Bool.{cases_lt}
use Rattle.std.proofs.lemmas.List.{get_or_append_left, get_or-append_right}
use Rattle.std.proofs.lemmas.List.FromFn.{length-map-range_with_len, get_or-map-range_with_len}
use Rattle.rx_lang.specs.Tables.{Tables, IsSpecification}
use Rattle.rx_lang.specs.Positions.{State, Step}
use Rattle.nor_net.specs.Netlist.{NorGate}
use Rattle.position_nfa.specs.declared.array_nets.ArrayCounts.{ArrayCounts}
use Rattle.position_nfa.specs.Automaton.{Automaton, IsAutomaton}
use Rattle.position_nfa.specs.Registers.{array_counts, reset_net, part_nets, steps, marked_states, step_gate, mark_gate, sum_gate, shared_gate}
use Rattle.gate_matrix.specs.Drawn.{FitsPart}
use Rattle.pla_plan.specs.Planes.{PlaneTables, plane_rows, right_from}
use Rattle.pla_plan.specs.Fits.{IsArray, no_gate}
use Rattle.pla_plan.specs.ArrayOf.{array_of, sums_from}
use Rattle.pla_plan.proofs.ArrayPlaces.{places_long, places_are_wires, places_behind, left_place, position_place, output_place}
use Rattle.pla_plan.proofs.ArrayHeights.{part_height}
use Rattle.pla_plan.proofs.ArrayPart.{is_part}
use Rattle.pla_plan.proofs.ArrayTerms.{steps_below, marked_below, few_steps, few_marked, patterns_fit, terms_fine}
use Rattle.pla_plan.proofs.ArraySums.{sums_fine, sums_below}

-- what is read of two runs, one behind the other
module _ (f g : ℕ → NorGate) (a b : ℕ) where
  abbrev both : List NorGate
  both = map f (range_with_len 0 a) ++ map g (range_with_len 0 b)

  pub both_long : length both ≡ a + b
  both_long =
      length-append (map f (range_with_len 0 a)) (map g (range_with_len 0 b))
      ∙ (let l = length-map-range_with_len f 0 a in let m = length-map-range_with_len g 0 b in omega arith)

  pub in_first : (k : ℕ) → k < a → get_or both k no_gate ≡ f k
  in_first k lt =
      let l = length-map-range_with_len f 0 a in
      let here : 0 + k ≡ k = omega arith in
      get_or_append_left (map f (range_with_len 0 a)) (map g (range_with_len 0 b)) no_gate k (omega arith)
      ∙ get_or-map-range_with_len f 0 a k k no_gate lt here

  pub in_second : (k : ℕ) → a ≤ k → k < a + b → get_or both k no_gate ≡ g (k - a)
  in_second k low lt =
      let here : 0 + (k - a) ≡ k - a = omega arith in
      get_or-append_right (map f (range_with_len 0 a)) (map g (range_with_len 0 b)) a k no_gate (length-map-range_with_len f 0 a) low
      ∙ get_or-map-range_with_len g 0 b (k - a) (k - a) no_gate (omega arith) here

module _ (nfa : Automaton) (tables : Tables) (automaton : IsAutomaton nfa) (specification : IsSpecification tables) (few : length nfa.symbols ≤ 256) where
  abbrev c : ArrayCounts
  c = array_counts nfa tables

  abbrev going : List Step
  going = steps (length tables.symbols) nfa

  abbrev marked : List State
  marked = marked_states nfa

  abbrev planes : PlaneTables
  planes = array_of nfa tables

  terms_long : length planes.terms ≡ length going + length marked
  terms_long = both_long (step_gate c tables.symbols going) (mark_gate c (length going) marked) (length going) (length marked)

  sums_long : length planes.sums ≡ c.positions + c.outputs
  sums_long = both_long (sum_gate c nfa going) (shared_gate c nfa (length going) marked) c.positions c.outputs

  few_terms : length planes.terms ≤ 33 * (2 + 256)
  few_terms =
      let s = few_steps (length tables.symbols) nfa specification.few_symbols in
      let m = few_marked nfa in
      let t = terms_long in
      omega (arith, few)

  abbrev wide : ℕ
  wide = planes.cols

  room : sums_from c + 8 * (c.positions + c.outputs) + 8 ≤ wide
  room = omega arith

  fits : FitsPart planes.part planes.at (planes.rows - (plane_rows planes + 1)) planes.cols
  fits =
      let high = part_height c in
      record {
        some_row = omega arith;
        rows_fit = omega arith;
        wires = places_long c;
        columns = places_are_wires c wide room;
      }

  term_out : (k : ℕ) → k < length planes.terms → (get_or planes.terms k no_gate).out ≡ planes.part.nets + k
  term_out k lt = by (cases_lt k (length going))
    where
      by : (k < length going) ⊎ (length going ≤ k) → (get_or planes.terms k no_gate).out ≡ planes.part.nets + k
      by (inl l) =
          ap (λ (gate : NorGate). gate.out)
          (in_first (step_gate c tables.symbols going) (mark_gate c (length going) marked) (length going) (length marked) k l)
      by (inr l) =
          let long = terms_long in
          let e : part_nets c + (length going + (k - length going)) ≡ part_nets c + k = omega arith in
          ap (λ (gate : NorGate). gate.out)
          (in_second (step_gate c tables.symbols going) (mark_gate c (length going) marked) (length going) (length marked) k l (omega arith))
          ∙ e

  sum_place : (s : ℕ) → s < length planes.sums → get_or planes.at (get_or planes.sums s no_gate).out 0 ≡ right_from planes + 8 * s + 2
  sum_place s lt = by (cases_lt s c.positions)
    where
      by : (s < c.positions) ⊎ (c.positions ≤ s) → get_or planes.at (get_or planes.sums s no_gate).out 0 ≡ right_from planes + 8 * s + 2
      by (inl l) =
          let e : (sum_gate c nfa going s).out ≡ reset_net c + 2 + (4 * s + 1) = omega arith in
          let there : sums_from c + 2 * (4 * s + 1) ≡ right_from planes + 8 * s + 2 = omega arith in
          ap (λ (gate : NorGate). get_or planes.at gate.out 0)
          (in_first (sum_gate c nfa going) (shared_gate c nfa (length going) marked) c.positions c.outputs s l)
          ∙ ap (λ net. get_or planes.at net 0) e
          ∙ position_place c (4 * s + 1) (omega arith)
          ∙ there
      by (inr l) =
          let y = s - c.positions in
          let long = sums_long in
          let e : (shared_gate c nfa (length going) marked y).out ≡ reset_net c + 2 + (4 * c.positions + 2 * y) = omega arith in
          let there : sums_from c + 8 * (c.positions + y) + 2 ≡ right_from planes + 8 * s + 2 = omega arith in
          ap (λ (gate : NorGate). get_or planes.at gate.out 0)
          (in_second (sum_gate c nfa going) (shared_gate c nfa (length going) marked) c.positions c.outputs s l (omega arith))
          ∙ ap (λ net. get_or planes.at net 0) e
          ∙ output_place c y (omega arith)
          ∙ there

  pub is_array : IsArray planes
  is_array =
      let long = terms_long in
      let more = sums_long in
      let few_t = few_terms in
      let lines = specification.few_lines in
      let outputs = specification.few_outputs in
      let some = automaton.some in
      record {
        few_rows = omega (arith, few);
        few_cols = omega (arith, few);
        rows_fit = omega arith;
        cols_fit = omega arith;
        part = is_part c (record { lines = lines; positions = omega (arith, few); outputs = outputs });
        part_fits = fits;
        high_supply = refl;
        ground = omega arith;
        left_nets = omega arith;
        left_columns = left_place c;
        other_columns = places_behind c wide room;
        some_sum = omega arith;
        terms = terms_fine c nfa tables.symbols refl (patterns_fit c.lines tables.symbols specification.place_per_line) going
            (steps_below (length tables.symbols) nfa) marked (marked_below nfa);
        term_nets = term_out;
        sums = sums_fine c nfa going marked (planes.part.nets + length planes.terms) (omega arith);
        sum_nets = sums_below c nfa going marked (planes.part.nets + length planes.terms) (omega arith);
        sum_columns = sum_place;
      }
