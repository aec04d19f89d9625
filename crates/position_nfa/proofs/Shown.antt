-- The clocks of the registers are those of the automaton, so its outputs show what it marks.
use Rattle.std.specs.Prelude.{flat_map}
use Rattle.std.proofs.Common.{◌≡◌, ◌↔◌, ℕ, zero, suc, ◌+◌, ◌<◌, ◌==◌, ◌&&◌, ◌||◌, not, Bool, true, false, List, [], ◌∷◌, ◌++◌, map, length, take, slice_get, slice_index_or, Some, None, Option, Contains, All, refl, ap, sym, subst, ◌∙◌, arith, eq-eqb, eqb-true}
use Rattle.std.specs.List.{AllByRecursion, range_with_len, list_any}
use Rattle.std.proofs.lemmas.Bool.{and_parts, and_from}
use Rattle.std.proofs.lemmas.List.Folds.{list_any-append}
use Rattle.std.proofs.lemmas.List.Elements.{All-from_recursion, recursion_from_All}
use Rattle.std.proofs.lemmas.Option.{slice_get_within, slice_get-get_or, get_or_from_slice_get}
use Rattle.rx_lang.specs.Vector.{Bits, Matches}
use Rattle.rx_lang.specs.Specification.{NamedPattern, MatchesSymbol, Language}
use Rattle.rx_lang.specs.Tables.{Tables, IsSpecification, specification}
use Rattle.rx_lang.specs.Positions.{State, start, scan_start, after, Step}
use Rattle.switch_net.specs.Clock.{Drive}
use Rattle.switch_net.specs.Recognition.{output_nets}
use Rattle.switch_net.specs.declared.network.Pad.{Pad}
use Rattle.nor_net.specs.Netlist.{NorGate, Netlist}
use Rattle.nor_net.specs.Evaluation.{value_at, clocked, phase}
use Rattle.nor_net.specs.Equations.{Solves, ClockSolves, ClocksSolve}
use Rattle.nor_net.specs.Recognised.{clocked_along, clocked_run, ShowsByClocks}
use Rattle.position_nfa.specs.declared.array_nets.ArrayCounts.{ArrayCounts}
use Rattle.position_nfa.specs.Automaton.{Automaton, IsAutomaton, next_of, mask_of, has_output}
use Rattle.position_nfa.proofs.States.{IsState}
use Rattle.position_nfa.specs.Registers.{line_net, state_net, start_net, reset_net, sum_net, shared_net, output_net, term_net, part_nets, state_inputs, literals, pattern_at, step_of, marked_of, leads_to, feeding_term, marking_term, line_pad, output_pad, array_pads, register_netlist}
use Rattle.position_nfa.specs.Runs.{Begun, Next, Along, ShowsByStates}
use Rattle.position_nfa.proofs.StateSteps.{steps_name, marked_name}
use Rattle.position_nfa.proofs.StateLists.{leads_state, marked_state, contains_from, contains_any, step_found, mark_found, steps_within, SomeHigh, any_chosen}
use Rattle.position_nfa.proofs.ArrayGates as array
use Rattle.position_nfa.proofs.ArrayOuts as outs
use Rattle.position_nfa.proofs.Literals.{matches, matches_tells, literals_tell}
use Rattle.position_nfa.proofs.ArrayValues as values
use Rattle.position_nfa.proofs.RegisterNetlist.{is_netlist}

high_not_low : (b : Bool) → not b ≡ false → b ≡ true
high_not_low true e = refl
high_not_low false e = absurd (cc)

none_low : (a b c : Bool) → not (a || (b || c)) ≡ true → (a ≡ false) × (b ≡ false) × (c ≡ false)
none_low true b c e = absurd (cc)
none_low false true c e = absurd (cc)
none_low false false true e = absurd (cc)
none_low false false false e = (refl, refl, refl)

or_low : (b : Bool) → (b || false) ≡ b
or_low true = refl
or_low false = refl

module _ (nfa : Automaton) (tables : Tables) (automaton : IsAutomaton nfa) (spec : IsSpecification tables) where
  abbrev c : ArrayCounts
  c = values.c nfa tables automaton spec

  abbrev net : Netlist
  net = register_netlist nfa tables

  abbrev going : List Step
  going = array.going nfa tables spec

  abbrev marked : List State
  marked = array.marked nfa tables spec

  abbrev gates : List NorGate
  gates = outs.gates nfa tables spec

  -- the complements of states tell in which states the automaton is
  record Tells (P : State → Type 0) (v : List Bool) : Type 0 where
    begin : (value_at v (start_net c) ≡ false) ↔ P start
    position : (p : ℕ) → p < c.positions → (value_at v (state_net c p) ≡ false) ↔ P (after p)
    scan : P scan_start

  inputs_tell : (P : State → Type 0) (v : List Bool) → Tells P v → (s : State) → IsState nfa s → (list_any (value_at v) (state_inputs c s) ≡ false) ↔ P s
  inputs_tell P v h start known = rw (or_low (value_at v (start_net c))) h.begin
  inputs_tell P v h scan_start known = (λ e. h.scan, λ k. refl)
  inputs_tell P v h (after p) known = rw (or_low (value_at v (state_net c p))) (h.position p known)

  -- ---- while PHI1 is high

  module _ (drive : Drive) (old new : List Bool) (h : Solves net drive old new) where
    -- a step's term
    step_value : (k : ℕ) → k < length going
        → value_at new (term_net c k)
        ≡ not (list_any (value_at new) (state_inputs c (step_of going k).state)
        || (drive.reset || list_any (value_at new) (literals c (pattern_at tables.symbols (step_of going k).symbol))))
    step_value k lt =
        values.nor_value nfa tables automaton spec drive old new h (term_net c k) _ (omega (arith, lt)) (outs.step_nor nfa tables spec k lt)
        ∙ ap not (list_any-append (value_at new) (state_inputs c (step_of going k).state) (reset_net c ∷ literals c (pattern_at tables.symbols (step_of going k).symbol))
        ∙ ap
        (λ (b : Bool).
        list_any (value_at new) (state_inputs c (step_of going k).state) || (b || list_any (value_at new) (literals c (pattern_at tables.symbols (step_of going k).symbol))))
        (values.reset_value nfa tables automaton spec drive old new h))

    -- a mark's term
    mark_value : (k : ℕ) → k < length marked → value_at new (term_net c (length going + k)) ≡ not (list_any (value_at new) (state_inputs c (marked_of marked k)))
    mark_value k lt =
        values.nor_value nfa tables automaton spec drive old new h (term_net c (length going + k)) _ (omega (arith, lt)) (outs.mark_nor nfa tables spec k lt)

    abbrev Fed : ℕ → Type 0
    Fed p = SomeHigh (value_at new) (λ k. leads_to nfa p (step_of going k)) (term_net c) 0 (length going)

    -- a sum is low where a term is high that leads to its position
    sum_tells : (p : ℕ) → p < c.positions → (value_at new (sum_net c p) ≡ false) ↔ Fed p
    sum_tells p lt =
        let is = values.nor_value nfa tables automaton spec drive old new h (sum_net c p) _ (omega (arith, lt)) (outs.sum_nor nfa tables spec p lt) in
        let any = any_chosen (value_at new) (λ k. leads_to nfa p (step_of going k)) (term_net c) 0 (length going) in (
          λ e. any.0 (high_not_low _ (sym is ∙ e)),
          λ k. is ∙ ap not (any.1 k),
        )

    -- an output is high where a term is high that marks it
    output_tells : (y : ℕ) → y < c.outputs
        → (value_at new (output_net c y) ≡ true)
        ↔ SomeHigh (value_at new) (λ k. has_output (mask_of nfa (marked_of marked k)) y) (λ k. term_net c (length going + k)) 0 (length marked)
    output_tells y lt =
        let is =
        values.inverted nfa tables automaton spec drive old new h (output_net c y) (shared_net c y) (omega (arith, lt)) (outs.output_nor nfa tables spec y lt)
        ∙ ap not (values.nor_value nfa tables automaton spec drive old new h (shared_net c y) _ (omega (arith, lt)) (outs.shared_nor nfa tables spec y lt))
        ∙ values.not_not _ in
        let any = any_chosen (value_at new) (λ k. has_output (mask_of nfa (marked_of marked k)) y) (λ k. term_net c (length going + k)) 0 (length marked) in (
          λ e. any.0 (sym is ∙ e),
          λ k. is ∙ any.1 k,
        )

    -- so the outputs show in which states the automaton is
    shows_states : (P : State → Type 0) → Tells P new → (y : ℕ) → y < c.outputs
        → (value_at new (output_net c y) ≡ true) ↔ ((s : State) × P s × (has_output (mask_of nfa s) y ≡ true))
    shows_states P tells y lt = (
      λ e.
          let some = (output_tells y lt).0 e in
          let kl : some.at < length marked = (let w = some.within in omega (arith, w)) in
          let s = marked_of marked some.at in
          let known : IsState nfa s = All-from_recursion (IsState nfa) marked (marked_name nfa) some.at _ kl in
          (s, (inputs_tell P new tells s known).0 (low (sym (mark_value some.at kl) ∙ some.is)), some.chosen),
      λ h.
          let known = marked_state nfa automaton h.0 y h.2 in
          let found = mark_found nfa h.0 y known h.2 in
          let w = found.within in
          (output_tells y lt).1 (record {
            at = found.at;
            from = omega arith;
            within = omega (arith, w);
            chosen = ap (λ (s : State). has_output (mask_of nfa s) y) found.here ∙ h.2;
            is = mark_value found.at w ∙ ap not (ap (λ (s : State). list_any (value_at new) (state_inputs c s)) found.here ∙ (inputs_tell P new tells h.0 known).1 h.1);
          }),
    )
      where
        low : {b : Bool} → not b ≡ true → b ≡ false
        low {b = true} e = absurd (cc)
        low {b = false} e = refl

  -- ---- one clock

  module _ (lines old new : List Bool) (wide : length lines ≡ length tables.lines) where
    -- after the reset clock the automaton has begun
    begins : ClockSolves net true lines old new → Tells Begun new
    begins clock = record {
      begin = (λ e. tt, λ k. values.start_gives nfa tables automaton spec true lines old new clock);
      position = λ p lt. (
        λ e.
            let fed = (sum_tells (phase true lines true false) clock.changed clock.first clock.phi1_high p lt).0
            (sym (values.state_gives nfa tables automaton spec true lines old new clock p lt) ∙ e) in
            let kl : fed.at < length going = (let w = fed.within in omega (arith, w)) in
            let parts = none_low (list_any (value_at clock.first) (state_inputs c (step_of going fed.at).state)) true
            (list_any (value_at clock.first) (literals c (pattern_at tables.symbols (step_of going fed.at).symbol))) (sym (step_value (phase true lines true false) clock.changed clock.first clock.phi1_high fed.at kl) ∙ fed.is) in
            let clash : true ≡ false = parts.1 in
            cc,
        λ k. absurd k,
      );
      scan = tt;
    }

    module _ (clock : ClockSolves net false lines old new) (before : Drive) (older : List Bool) (h : Solves net before older old) (P : State → Type 0) (tells : Tells P old) where
      abbrev first : Solves net (phase false lines true false) clock.changed clock.first
      first = clock.phi1_high

      tells_first : Tells P clock.first
      tells_first = record {
        begin = rw (values.start_kept nfa tables automaton spec false lines old new clock) tells.begin;
        position = λ p lt. rw (values.state_kept nfa tables automaton spec false lines old new clock before older h p lt) (tells.position p lt);
        scan = tells.scan;
      }

      -- the literals of a declared symbol are low where the lines match it
      literals_low : (s : ℕ) → s < length tables.symbols → not (list_any (value_at clock.first) (literals c (pattern_at tables.symbols s))) ≡ matches (pattern_at tables.symbols s) lines
      literals_low s lt =
          literals_tell c lines clock.first wide (values.line_value nfa tables automaton spec (phase false lines true false) clock.changed clock.first first)
          (values.complement_value nfa tables automaton spec (phase false lines true false) clock.changed clock.first first) (pattern_at tables.symbols s)
          (spec.place_per_line s (record { name = []; pattern = [] }) lt)

      -- the lines match the symbol where its literals are low
      matched : (s : ℕ) → s < length tables.symbols → matches (pattern_at tables.symbols s) lines ≡ true → MatchesSymbol tables.symbols s lines
      matched s lt e = (
        slice_index_or tables.symbols s (record { name = []; pattern = [] }),
        slice_get-get_or tables.symbols s (record { name = []; pattern = [] }) lt,
        (matches_tells (pattern_at tables.symbols s) lines).0 e,
      )

      steps_to : (p : ℕ) → p < c.positions → Fed (phase false lines true false) clock.changed clock.first first p → Next nfa tables.symbols P lines (after p)
      steps_to p lt fed =
          let kl : fed.at < length going = (let w = fed.within in omega (arith, w)) in
          let step = step_of going fed.at in
          let parts = none_low _ false _ (sym (step_value (phase false lines true false) clock.changed clock.first first fed.at kl) ∙ fed.is) in
          let both = and_parts (step.symbol == slice_index_or nfa.symbols p 0) (list_any (λ q. q == p) (next_of nfa step.state)) fed.chosen in
          let known : IsState nfa step.state = All-from_recursion (λ (x : Step). IsState nfa x.state) going (steps_name (length tables.symbols) nfa) fed.at _ kl in
          let within : step.symbol < length tables.symbols = All-from_recursion (λ (x : Step). x.symbol < length tables.symbols) going (steps_within (length tables.symbols) nfa) fed.at _ kl in
          let same : step.symbol ≡ slice_index_or nfa.symbols p 0 = eqb-true step.symbol (slice_index_or nfa.symbols p 0) both.0 in (
            step.state,
            (inputs_tell P clock.first tells_first step.state known).0 parts.0,
            contains_from (next_of nfa step.state) p both.1,
            subst (λ (s : ℕ). MatchesSymbol tables.symbols s lines) same
                (matched step.symbol within (sym (literals_low step.symbol within) ∙ ap not parts.2)),
          )

      steps_from : (p : ℕ) → p < c.positions → Next nfa tables.symbols P lines (after p) → Fed (phase false lines true false) clock.changed clock.first first p
      steps_from p lt (s, ps, has, (declared, at, fits)) =
          let symbol : ℕ = slice_index_or nfa.symbols p 0 in
          let known = leads_state nfa automaton s p has in
          let within : symbol < length tables.symbols = slice_get_within tables.symbols symbol declared at in
          let found = step_found (length tables.symbols) nfa s p symbol known has refl within in
          let w = found.within in
          let pattern : pattern_at tables.symbols symbol ≡ declared.pattern =
          ap (λ (x : NamedPattern). x.pattern) (get_or_from_slice_get tables.symbols symbol declared (record { name = []; pattern = [] }) at) in
          let high : matches (pattern_at tables.symbols symbol) lines ≡ true = rw pattern ((matches_tells declared.pattern lines).1 fits) in
          record {
            at = found.at;
            from = omega arith;
            within = omega (arith, w);
            chosen =
                ap (leads_to nfa p) found.here
                ∙ and_from (symbol == slice_index_or nfa.symbols p 0) (list_any (λ q. q == p) (next_of nfa s)) (eq-eqb symbol symbol refl) (contains_any (next_of nfa s) p has);
            is =
                step_value (phase false lines true false) clock.changed clock.first first found.at w
                ∙ ap
                (λ (x : Step).
                not (list_any (value_at clock.first) (state_inputs c x.state) || (false || list_any (value_at clock.first) (literals c (pattern_at tables.symbols x.symbol)))))
                found.here
                ∙ rw ((inputs_tell P clock.first tells_first s known).1 ps) (literals_low symbol within ∙ high);
          }

      goes_on : Tells (Next nfa tables.symbols P lines) new
      goes_on = record {
        begin = (
          λ e. (let clash : true ≡ false = sym (values.start_gives nfa tables automaton spec false lines old new clock) ∙ e in cc),
          λ k. absurd k,
        );
        position = λ p lt.
            let sum = sum_tells (phase false lines true false) clock.changed clock.first first p lt in
            let is = values.state_gives nfa tables automaton spec false lines old new clock p lt in (
              λ e. steps_to p lt (sum.0 (sym is ∙ e)),
              λ k. is ∙ sum.1 (steps_from p lt k),
            );
        scan = tt;
      }

  -- ---- runs

  module _ (solves : ClocksSolve) where
    clock_of : (reset : Bool) (lines state : List Bool) → length state ≡ net.nets → ClockSolves net reset lines state (clocked net reset lines state)
    clock_of reset lines state size = solves net (is_netlist nfa tables automaton spec) reset lines state size

    -- the values are those that some clock left, and tell in which states the automaton is
    record Left (P : State → Type 0) (v : List Bool) : Type 0 where
      before : Drive
      older : List Bool
      solved : Solves net before older v
      tells : Tells P v

    reset_left : (lines state : List Bool) → length state ≡ net.nets → length lines ≡ length tables.lines → Left Begun (clocked net true lines state)
    reset_left lines state size wide =
        let clock = clock_of true lines state size in
        record { before = phase true lines false false; older = clock.second; solved = clock.phi2_low; tells = begins lines state (clocked net true lines state) wide clock }

    next_left : (P : State → Type 0) (x v : List Bool) → length x ≡ length tables.lines → Left P v → Left (Next nfa tables.symbols P x) (clocked net false x v)
    next_left P x v wide h =
        let clock = clock_of false x v h.solved.size in
        record {
          before = phase false x false false;
          older = clock.second;
          solved = clock.phi2_low;
          tells = goes_on x v (clocked net false x v) wide clock h.before h.older h.solved P h.tells;
        }

    along_left : (u : List Bits) (P : State → Type 0) (v : List Bool) → AllByRecursion (λ x. length x ≡ length tables.lines) u → Left P v → (k : ℕ) (later : List Bool)
        → slice_get (v ∷ clocked_along net u v) k ≡ Some later → Left (Along nfa tables.symbols P (take k u)) later
    along_left u P v wide h zero later e =
        let same : v ≡ later = cc in
        subst (Left P) same h
    along_left [] P v wide h (suc k) later e = absurd (cc)
    along_left (x ∷ u) P v wide h (suc k) later e =
        along_left u (Next nfa tables.symbols P x) (clocked net false x v) wide.1 (next_left P x v wide.0 h) k later e

    -- ---- outputs

    outputs_behind : (a n : ℕ) (rest : List Pad) → output_nets (map (line_pad c tables.lines) (range_with_len a n) ++ rest) ≡ output_nets rest
    outputs_behind a zero rest = refl
    outputs_behind a (suc n) rest = outputs_behind (a + 1) n rest

    outputs_from : (a n y at : ℕ) → slice_get (output_nets (map (output_pad c tables.outputs) (range_with_len a n))) y ≡ Some at
        → (y < n) × (at ≡ output_net c (a + y))
    outputs_from a zero y at e = absurd (cc)
    outputs_from a (suc n) zero at e = let same : output_net c a ≡ at = cc in (omega arith, omega (arith, same))
    outputs_from a (suc n) (suc y) at e = let h = outputs_from (a + 1) n y at e in let l = h.0 in let m = h.1 in (omega (arith, l), omega (arith, m))

    output_at : (y at : ℕ) → slice_get (output_nets (array_pads c tables)) y ≡ Some at → (y < c.outputs) × (at ≡ output_net c y)
    output_at y at e =
        let h = outputs_from 0 c.outputs y at (ap (λ (xs : List ℕ). slice_get xs y) (sym (outputs_behind 0 c.lines (map (output_pad c tables.outputs) (range_with_len 0 c.outputs)))) ∙ e) in
        let l = h.0 in
        let m = h.1 in
        (omega (arith, l), omega (arith, m))

    -- the outputs show what the automaton marks
    pub shows : ShowsByClocks net (length tables.lines) (ShowsByStates nfa tables.symbols)
    shows state lines u size wide words time output at v later named =
        let place = output_at output at named in
        let h =
        along_left u Begun (clocked net true lines state) (recursion_from_All (λ x. length x ≡ length tables.lines) u words) (reset_left lines state size wide) time v later in
        let told = shows_states h.before h.older v h.solved (Along nfa tables.symbols Begun (take time u)) h.tells output place.0 in
        rw place.1 told

    -- and so a language that is the same
    pub shows_language : ((y : ℕ) (u : List Bits) → ShowsByStates nfa tables.symbols y u ↔ Language (specification tables) y u)
        → ShowsByClocks net (length tables.lines) (Language (specification tables))
    shows_language same state lines u size wide words time output at v later named =
        let told = shows state lines u size wide words time output at v later named in
        let is = same output (take time u) in
        (λ e. is.0 (told.0 e), λ m. told.1 (is.1 m))
