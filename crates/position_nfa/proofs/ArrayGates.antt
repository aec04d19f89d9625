-- The gates of the registers: each has a slot of its own, and its inputs stand before it in both orders.
use Rattle.std.specs.Prelude.{flat_map}
use Rattle.std.proofs.Common.{◌≡◌, ◌≢◌, ◌⊎◌, inl, inr, ℕ, zero, suc, ◌+◌, ◌*◌, ◌<◌, ◌≤◌, ◌==◌, Bool, true, false, List, [], ◌∷◌, ◌++◌, map, length, slice_index_or, if◌then◌else◌, All, refl, ap, sym, subst, ◌∙◌, arith, length-append}
use Rattle.std.specs.List.{AllByRecursion, range_with_len}
use Rattle.std.proofs.lemmas.List.FromFn.{length-map-range_with_len}
use Rattle.std.proofs.lemmas.Bool.{cases_lt}
use Rattle.std.proofs.lemmas.List.Elements.{All-from_recursion}
use Rattle.rx_lang.specs.declared.pattern.PatternBit.{PatternBit}
use Rattle.rx_lang.specs.declared.pattern.PatternBit.TheVariants.{Zero, One, Any}
use Rattle.rx_lang.specs.Specification.{NamedPattern}
use Rattle.rx_lang.specs.Tables.{Tables, IsSpecification}
use Rattle.rx_lang.specs.Positions.{State, start, scan_start, after, Step}
use Rattle.nor_net.specs.Netlist.{NorGate}
use Rattle.position_nfa.specs.declared.array_nets.ArrayCounts.{ArrayCounts}
use Rattle.position_nfa.specs.Automaton.{Automaton, mask_of, has_output}
use Rattle.position_nfa.proofs.States.{IsState}
use Rattle.position_nfa.specs.Registers.{array_counts, line_net, complement_net, state_net, start_net, reset_net, term_net, state_inputs, literal, literals, pattern_at, step_inputs, step_of, marked_of, step_gate, mark_gate, term_gates, leads_to, feeding_term, sum_gate, marking_term, shared_gate, sum_gates, inverter, part_gates, registers_of, steps, marked_states}
use Rattle.position_nfa.proofs.Ranges.{Pairs, each_append, each_range, each_piece, each_across, pairs_append, pairs_pieces}
use Rattle.position_nfa.proofs.StateSteps.{steps_name, marked_name}
use Rattle.position_nfa.proofs.Banks.{Bank, Slot, is_slot, IsOf, precedes, slots_differ}
use Rattle.position_nfa.proofs.ArraySlots as slots
use Rattle.position_nfa.proofs.ArraySlots.{banks, slots1, slots2, fixed_slots, line, complement, state, begin, reset, master, sum, inverse, stored, shared, output, begin_master, begin_inverse, term}
use Rattle.position_nfa.proofs.Slots.{is_off}

-- the input stands before the nets of this slot
pub record Feeds (ks : List Bank) (out : Slot) (input : ℕ) : Type 0 where
  pub from : Slot
  pub is : IsOf ks from input
  pub first : precedes slots1 from out ≡ true
  pub second : precedes slots2 from out ≡ true

-- what is stored
abbrev pub kept_slots : List Slot
kept_slots = master ∷ stored ∷ begin_master ∷ begin ∷ []

-- a gate in its place
pub record Stands (ks : List Bank) (g : NorGate) : Type 0 where
  pub out : Slot
  pub is : IsOf ks out g.out
  pub free : is_off out fixed_slots ≡ true
  pub logic : is_off out kept_slots ≡ true
  pub inputs : AllByRecursion (Feeds ks out) g.inputs
  pub distinct : Pairs (λ (a b : ℕ). a ≢ b) g.inputs

abbrev Apart : ℕ → ℕ → Type 0
Apart a b = a ≢ b

module _ (nfa : Automaton) (tables : Tables) (spec : IsSpecification tables) where
  abbrev pub c : ArrayCounts
  c = array_counts nfa tables

  abbrev pub going : List Step
  going = steps (length tables.symbols) nfa

  abbrev pub marked : List State
  marked = marked_states nfa

  abbrev pub t : ℕ
  t = length going + length marked

  abbrev pub ks : List Bank
  ks = banks c t

  -- ---- inputs of terms

  state_feeds : (s : State) → IsState nfa s → AllByRecursion (Feeds ks term) (state_inputs c s)
  state_feeds start h = (record { from = begin; is = slots.of_begin c t; first = refl; second = refl }, tt)
  state_feeds scan_start h = tt
  state_feeds (after p) h = (record { from = state; is = slots.of_state c t p h; first = refl; second = refl }, tt)

  state_alone : (s : State) → Pairs Apart (state_inputs c s)
  state_alone start = (tt, tt)
  state_alone scan_start = tt
  state_alone (after p) = (tt, tt)

  -- a line or its complement, of this number
  abbrev OfLine : ℕ → ℕ → Type 0
  OfLine i net = (net ≡ line_net c i) ⊎ (net ≡ complement_net c i)

  literal_each : (P : ℕ → Type 0) (i : ℕ) (place : PatternBit) → P (line_net c i) → P (complement_net c i) → AllByRecursion P (literal c i place)
  literal_each P i Zero h k = (h, tt)
  literal_each P i One h k = (k, tt)
  literal_each P i Any h k = tt

  literal_alone : (i : ℕ) (place : PatternBit) → Pairs Apart (literal c i place)
  literal_alone i Zero = (tt, tt)
  literal_alone i One = (tt, tt)
  literal_alone i Any = tt

  literals_each : (P : ℕ → Type 0) (pattern : List PatternBit) → length pattern ≤ c.lines
      → ((i : ℕ) → i < c.lines → P (line_net c i) × P (complement_net c i)) → AllByRecursion P (literals c pattern)
  literals_each P pattern few h =
      each_piece P (λ i. literal c i (slice_index_or pattern i Any)) 0 (length pattern)
      (λ i l lt. let k = h i (omega (arith, lt, few)) in literal_each P i (slice_index_or pattern i Any) k.0 k.1)

  lines_apart : (i j : ℕ) → i < j → j < c.lines → (a b : ℕ) → OfLine i a → OfLine j b → a ≢ b
  lines_apart i j lt jl a b (inl e) (inl f) same = omega (arith, e, f, same, lt)
  lines_apart i j lt jl a b (inl e) (inr f) same = omega (arith, e, f, same, lt, jl)
  lines_apart i j lt jl a b (inr e) (inl f) same = omega (arith, e, f, same, lt, jl)
  lines_apart i j lt jl a b (inr e) (inr f) same = omega (arith, e, f, same, lt)

  literals_alone : (pattern : List PatternBit) → length pattern ≤ c.lines → Pairs Apart (literals c pattern)
  literals_alone pattern few =
      pairs_pieces Apart (λ i. literal c i (slice_index_or pattern i Any)) 0 (length pattern)
      (λ i l lt. literal_alone i (slice_index_or pattern i Any))
      (λ i j l lt jl.
      each_across (OfLine i) (OfLine j) Apart (lines_apart i j lt (omega (arith, jl, few))) (literal c i (slice_index_or pattern i Any)) (literal c j (slice_index_or pattern j Any))
      (literal_each (OfLine i) i (slice_index_or pattern i Any) (inl refl) (inr refl))
      (literal_each (OfLine j) j (slice_index_or pattern j Any) (inl refl) (inr refl)))

  feeds_line : (i : ℕ) → i < c.lines → Feeds ks term (line_net c i) × Feeds ks term (complement_net c i)
  feeds_line i lt = (
    record { from = line; is = slots.of_line c t i lt; first = refl; second = refl },
    record { from = complement; is = slots.of_complement c t i lt; first = refl; second = refl },
  )

  -- a state's complement is no line, and not the reset
  state_off : (s : State) → IsState nfa s → (pattern : List PatternBit) → length pattern ≤ c.lines
      → AllByRecursion (λ a. AllByRecursion (Apart a) (reset_net c ∷ literals c pattern)) (state_inputs c s)
  state_off start h pattern few =
      ((λ e. omega (arith, e), literals_each (Apart (start_net c)) pattern few (λ i lt. (λ e. omega (arith, e, lt), λ e. omega (arith, e, lt)))), tt)
  state_off scan_start h pattern few = tt
  state_off (after p) h pattern few =
      ((λ e. omega (arith, e, h), literals_each (Apart (state_net c p)) pattern few (λ i lt. (λ e. omega (arith, e, lt), λ e. omega (arith, e, lt)))), tt)

  narrow : (s : ℕ) → length (pattern_at tables.symbols s) ≤ c.lines
  narrow s =
      elim (cases_lt s (length tables.symbols)) [
        | inl lt ↦ let e = spec.place_per_line s (record { name = []; pattern = [] }) lt in omega (arith, e)
        | inr ge ↦ rw (past tables.symbols s ge) (omega arith)
      ]
    where
      past : (symbols : List NamedPattern) (s : ℕ) → length symbols ≤ s → pattern_at symbols s ≡ []
      past [] s le = refl
      past (x ∷ symbols) zero le = absurd (omega (arith, le))
      past (x ∷ symbols) (suc s) le = past symbols s (omega (arith, le))

  step_stands : (k : ℕ) → k < length going → Stands ks (step_gate c tables.symbols going k)
  step_stands k lt =
      let s = step_of going k in
      let known : IsState nfa s.state = All-from_recursion (λ (step : Step). IsState nfa step.state) going (steps_name (length tables.symbols) nfa) k _ lt in
      let pattern = pattern_at tables.symbols s.symbol in
      record {
        out = term;
        is = slots.of_term c t k (omega (arith, lt));
        free = refl;
        logic = refl;
        inputs =
            each_append (Feeds ks term) (state_inputs c s.state) (reset_net c ∷ literals c pattern) (state_feeds s.state known)
            (record { from = reset; is = slots.of_reset c t; first = refl; second = refl }, literals_each (Feeds ks term) pattern (narrow s.symbol) feeds_line);
        distinct =
            pairs_append Apart (state_inputs c s.state) (reset_net c ∷ literals c pattern) (state_alone s.state)
            (literals_each (Apart (reset_net c)) pattern (narrow s.symbol) (λ i l. (λ e. omega (arith, e, l), λ e. omega (arith, e, l))), literals_alone pattern (narrow s.symbol))
            (state_off s.state known pattern (narrow s.symbol));
      }

  mark_stands : (k : ℕ) → k < length marked → Stands ks (mark_gate c (length going) marked k)
  mark_stands k lt =
      let s = marked_of marked k in
      let known : IsState nfa s = All-from_recursion (IsState nfa) marked (marked_name nfa) k _ lt in
      record {
        out = term;
        is = slots.of_term c t (length going + k) (omega (arith, lt));
        free = refl;
        logic = refl;
        inputs = state_feeds s known;
        distinct = state_alone s;
      }

  -- ---- sums

  -- a term at one place, or none
  if_each : (P : ℕ → Type 0) (b : Bool) (net : ℕ) → P net → AllByRecursion P (if b then net ∷ [] else [])
  if_each P true net h = (h, tt)
  if_each P false net h = tt

  if_alone : (b : Bool) (net : ℕ) → Pairs Apart (if b then net ∷ [] else [])
  if_alone true net = (tt, tt)
  if_alone false net = tt

  chosen_alone : (test : ℕ → Bool) (first n : ℕ) → Pairs Apart (flat_map (λ k. if test k then term_net c (first + k) ∷ [] else []) (range_with_len 0 n))
  chosen_alone test first n =
      pairs_pieces Apart (λ k. if test k then term_net c (first + k) ∷ [] else []) 0 n (λ k l lt. if_alone (test k) (term_net c (first + k)))
      (λ i j l lt jl.
      if_each (λ a. AllByRecursion (Apart a) (if test j then term_net c (first + j) ∷ [] else [])) (test i) (term_net c (first + i))
      (if_each (Apart (term_net c (first + i))) (test j) (term_net c (first + j)) (λ e. omega (arith, e, lt))))

  feeding_alone : (p : ℕ) → Pairs Apart (flat_map (feeding_term c nfa going p) (range_with_len 0 (length going)))
  feeding_alone p =
      pairs_pieces Apart (feeding_term c nfa going p) 0 (length going) (λ k l lt. if_alone (leads_to nfa p (step_of going k)) (term_net c k))
      (λ i j l lt jl.
      if_each (λ a. AllByRecursion (Apart a) (feeding_term c nfa going p j)) (leads_to nfa p (step_of going i)) (term_net c i)
      (if_each (Apart (term_net c i)) (leads_to nfa p (step_of going j)) (term_net c j) (λ e. omega (arith, e, lt))))

  sum_stands : (p : ℕ) → p < c.positions → Stands ks (sum_gate c nfa going p)
  sum_stands p lt = record {
    out = sum;
    is = slots.of_sum c t p lt;
    free = refl;
    logic = refl;
    inputs =
        each_piece (Feeds ks sum) (feeding_term c nfa going p) 0 (length going)
        (λ k l kl.
        if_each (Feeds ks sum) (leads_to nfa p (step_of going k)) (term_net c k)
        (record { from = term; is = slots.of_term c t k (omega (arith, kl)); first = refl; second = refl }));
    distinct = feeding_alone p;
  }

  shared_stands : (y : ℕ) → y < c.outputs → Stands ks (shared_gate c nfa (length going) marked y)
  shared_stands y lt = record {
    out = shared;
    is = slots.of_shared c t y lt;
    free = refl;
    logic = refl;
    inputs =
        each_piece (Feeds ks shared) (marking_term c nfa (length going) marked y) 0 (length marked)
        (λ k l kl.
        if_each (Feeds ks shared) (has_output (mask_of nfa (marked_of marked k)) y) (term_net c (length going + k))
        (record { from = term; is = slots.of_term c t (length going + k) (omega (arith, kl)); first = refl; second = refl }));
    distinct = chosen_alone (λ k. has_output (mask_of nfa (marked_of marked k)) y) (length going) (length marked);
  }

  -- ---- below the planes

  inverter_stands : (out from : Slot) (a b : ℕ) → IsOf ks out a → is_off out fixed_slots ≡ true → is_off out kept_slots ≡ true → IsOf ks from b → precedes slots1 from out ≡ true
      → precedes slots2 from out ≡ true → Stands ks (inverter a b)
  inverter_stands out from a b h free logic k first second = record {
    out = out;
    is = h;
    free = free;
    logic = logic;
    inputs = (record { from = from; is = k; first = first; second = second }, tt);
    distinct = (tt, tt);
  }

  pub part_stands : AllByRecursion (Stands ks) (part_gates c)
  part_stands =
      each_append (Stands ks) _ _
      (each_append (Stands ks) _ _
      (each_append (Stands ks) _ _
      (each_append (Stands ks) _ _
      (each_range (Stands ks) (λ i. inverter (complement_net c i) (line_net c i)) 0 c.lines
      (λ i l lt. inverter_stands complement line _ _ (slots.of_complement c t i (omega (arith, lt))) refl refl (slots.of_line c t i (omega (arith, lt))) refl refl))
      (each_range (Stands ks) _ 0 c.positions
      (λ p l lt. inverter_stands inverse master _ _ (slots.of_inverse c t p (omega (arith, lt))) refl refl (slots.of_master c t p (omega (arith, lt))) refl refl)))
      (each_range (Stands ks) _ 0 c.positions
      (λ p l lt. inverter_stands state stored _ _ (slots.of_state c t p (omega (arith, lt))) refl refl (slots.of_stored c t p (omega (arith, lt))) refl refl)))
      (each_range (Stands ks) _ 0 c.outputs
      (λ y l lt. inverter_stands output shared _ _ (slots.of_output c t y (omega (arith, lt))) refl refl (slots.of_shared c t y (omega (arith, lt))) refl refl)))
      (inverter_stands begin_inverse begin_master _ _ (slots.of_begin_inverse c t) refl refl (slots.of_begin_master c t) refl refl, tt)

  pub all_stand : AllByRecursion (Stands ks) ((registers_of nfa tables).terms ++ (registers_of nfa tables).sums ++ part_gates c)
  all_stand =
      each_append (Stands ks) _ (part_gates c)
      (each_append (Stands ks) (registers_of nfa tables).terms (registers_of nfa tables).sums
      (each_append (Stands ks) _ _
      (each_range (Stands ks) (step_gate c tables.symbols going) 0 (length going) (λ k l lt. step_stands k (omega (arith, lt))))
      (each_range (Stands ks) (mark_gate c (length going) marked) 0 (length marked) (λ k l lt. mark_stands k (omega (arith, lt)))))
      (each_append (Stands ks) _ _
      (each_range (Stands ks) (sum_gate c nfa going) 0 c.positions (λ p l lt. sum_stands p (omega (arith, lt))))
      (each_range (Stands ks) (shared_gate c nfa (length going) marked) 0 c.outputs (λ y l lt. shared_stands y (omega (arith, lt))))))
      part_stands

  pub terms_counted : length (registers_of nfa tables).terms ≡ t
  terms_counted =
      length-append (map (step_gate c tables.symbols going) (range_with_len 0 (length going))) (map (mark_gate c (length going) marked) (range_with_len 0 (length marked)))
      ∙ rw (length-map-range_with_len (step_gate c tables.symbols going) 0 (length going), length-map-range_with_len (mark_gate c (length going) marked) 0 (length marked)) refl
