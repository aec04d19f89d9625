-- The terms of an automaton's array are NORs of left nets, none of them twice.
use Rattle.std.specs.Prelude.{flat_map, ⊤}
use Rattle.std.proofs.Common.{◌≡◌, ℕ, ◌+◌, ◌*◌, ◌<◌, ◌≤◌, ◌==◌, Bool, true, false, if◌then◌else◌, List, [], ◌∷◌, ◌++◌, map, length, get_or, All, refl, ap, subst, arith, length-append}
use Rattle.std.specs.List.{AllByRecursion, range_with_len}
use Rattle.std.proofs.lemmas.List.Elements.{All-from_recursion, recursion_from_All}
use Rattle.std.proofs.lemmas.List.Folds.{flat_map-map}
use Rattle.rx_lang.specs.declared.pattern.PatternBit.{PatternBit}
use Rattle.rx_lang.specs.declared.pattern.PatternBit.TheVariants.{Zero, One, Any}
use Rattle.rx_lang.specs.Specification.{NamedPattern}
use Rattle.rx_lang.specs.Positions.{State, start, scan_start, after, Step}
use Rattle.position_nfa.specs.declared.array_nets.ArrayCounts.{ArrayCounts}
use Rattle.position_nfa.specs.Automaton.{Automaton, next_of, mask_of}
use Rattle.position_nfa.specs.Terms.{states, occurs}
use Rattle.position_nfa.specs.Registers.{steps, steps_from, step_at, marked_at, marked_states, state_inputs, reset_net, literal, literals, pattern_at, term_net, step_gate, mark_gate, term_gates}
use Rattle.pla_plan.specs.Fits.{IsPlaneGate}
use Rattle.pla_plan.proofs.Pieces.{each_append, each_range, each_piece, each_weaker, each_read, each_across, Pairs, all_pairs, pairs_append, pairs_pieces, few_pieces}

-- ---- states

-- A position that the state names is below the number.
abbrev pub IsBelow : ℕ → State → Type 0
IsBelow n start = ⊤
IsBelow n scan_start = ⊤
IsBelow n (after p) = p < n

-- what is made of all states, is made of the two starts and of the positions
by_state : {X : Type 0} (f : State → List X) (nfa : Automaton)
    → flat_map f (states nfa) ≡ f start ++ (f scan_start ++ flat_map (λ p. f (after p)) (range_with_len 0 (length nfa.symbols)))
by_state f nfa = ap (λ xs. f start ++ (f scan_start ++ xs)) (flat_map-map f (λ (p : ℕ). after p) (range_with_len 0 (length nfa.symbols)))

each_state : {X : Type 0} (P : X → Type 0) (f : State → List X) (nfa : Automaton)
    → ((state : State) → IsBelow (length nfa.symbols) state → AllByRecursion P (f state)) → AllByRecursion P (flat_map f (states nfa))
each_state P f nfa h =
    rw (by_state f nfa)
    (each_append P (f start) _ (h start tt)
    (each_append P (f scan_start) _ (h scan_start tt) (each_piece P (λ p. f (after p)) 0 (length nfa.symbols) (λ p l lt. h (after p) (omega (arith, lt))))))

few_states : {X : Type 0} (f : State → List X) (most : ℕ) (nfa : Automaton) → ((state : State) → length (f state) ≤ most)
    → length (flat_map f (states nfa)) ≤ most * (2 + length nfa.symbols)
few_states f most nfa h =
    rw (by_state f nfa)
    (let rest = flat_map (λ p. f (after p)) (range_with_len 0 (length nfa.symbols)) in
    let a = h start in
    let b = h scan_start in
    let m = few_pieces (λ p. f (after p)) most 0 (length nfa.symbols) (λ p. h (after p)) in
    omega (arith, a, b, m, length-append (f start) (f scan_start ++ rest), length-append (f scan_start) rest))

pub steps_below : (symbols : ℕ) (nfa : Automaton) → AllByRecursion (λ (step : Step). IsBelow (length nfa.symbols) step.state) (steps symbols nfa)
steps_below symbols nfa =
    each_state (λ (step : Step). IsBelow (length nfa.symbols) step.state) (steps_from symbols nfa) nfa
    (λ state known. each_piece (λ (step : Step). IsBelow (length nfa.symbols) step.state) (step_at nfa state) 0 symbols
    (λ s l lt. one state s known (occurs nfa.symbols (next_of nfa state) s)))
  where
    one : (state : State) (s : ℕ) → IsBelow (length nfa.symbols) state → (b : Bool)
        → AllByRecursion (λ (step : Step). IsBelow (length nfa.symbols) step.state) (if b then record { state = state; symbol = s } ∷ [] else [])
    one state s known true = (known, tt)
    one state s known false = tt

pub marked_below : (nfa : Automaton) → AllByRecursion (IsBelow (length nfa.symbols)) (marked_states nfa)
marked_below nfa = each_state (IsBelow (length nfa.symbols)) (marked_at nfa) nfa (λ state known. one state known (mask_of nfa state == 0))
  where
    one : (state : State) → IsBelow (length nfa.symbols) state → (b : Bool) → AllByRecursion (IsBelow (length nfa.symbols)) (if b then [] else state ∷ [])
    one state known true = tt
    one state known false = (known, tt)

one_or_none : {X : Type 0} (b : Bool) (x : X) → length (if b then x ∷ [] else []) ≤ 1
one_or_none true x = omega arith
one_or_none false x = omega arith

none_or_one : {X : Type 0} (b : Bool) (x : X) → length (if b then [] else x ∷ []) ≤ 1
none_or_one true x = omega arith
none_or_one false x = omega arith

pub few_steps : (symbols : ℕ) (nfa : Automaton) → symbols ≤ 32 → length (steps symbols nfa) ≤ 32 * (2 + length nfa.symbols)
few_steps symbols nfa few =
    few_states (steps_from symbols nfa) 32 nfa
    (λ state.
    let l = few_pieces (step_at nfa state) 1 0 symbols (λ s. one_or_none (occurs nfa.symbols (next_of nfa state) s) (record { state = state; symbol = s })) in
    omega (arith, l, few))

pub few_marked : (nfa : Automaton) → length (marked_states nfa) ≤ 2 + length nfa.symbols
few_marked nfa =
    let h = few_states (marked_at nfa) 1 nfa (λ state. none_or_one (mask_of nfa state == 0) state) in
    omega (arith, h)

-- ---- patterns

pub patterns_fit : (lines : ℕ) (symbols : List NamedPattern) → All (λ (s : NamedPattern). length s.pattern ≡ lines) symbols → (s : ℕ)
    → length (pattern_at symbols s) ≤ lines
patterns_fit lines symbols h s =
    each_read (λ (declared : NamedPattern). length declared.pattern ≤ lines) symbols s (record { name = []; pattern = [] })
    (each_weaker (λ (declared : NamedPattern). length declared.pattern ≡ lines) (λ declared. length declared.pattern ≤ lines)
    (λ declared e. omega arith) symbols (recursion_from_All (λ (declared : NamedPattern). length declared.pattern ≡ lines) symbols h))
    (omega arith)

-- ---- inputs

module _ (c : ArrayCounts) where
  -- a line or its complement
  abbrev IsLiteral : ℕ → Type 0
  IsLiteral net = (1 ≤ net) × (net < 1 + 2 * c.lines)

  -- what stands behind the lines, up to the reset
  abbrev IsControl : ℕ → Type 0
  IsControl net = (1 + 2 * c.lines ≤ net) × (net < reset_net c)

  abbrev IsLeft : ℕ → Type 0
  IsLeft net = (1 ≤ net) × (net < reset_net c + 1)

  abbrev Differ : ℕ → ℕ → Type 0
  Differ a b = a ≡ b → ⊥

  literal_is : (line : ℕ) (bit : PatternBit) → line < c.lines → AllByRecursion IsLiteral (literal c line bit)
  literal_is line Zero lt = ((omega arith, omega arith), tt)
  literal_is line One lt = ((omega arith, omega arith), tt)
  literal_is line Any lt = tt

  literal_once : (line : ℕ) (bit : PatternBit) → Pairs Differ (literal c line bit)
  literal_once line Zero = (tt, tt)
  literal_once line One = (tt, tt)
  literal_once line Any = tt

  -- the line or its complement
  abbrev IsOf : ℕ → ℕ → Type 0
  IsOf line net = (b : Bool) × (net ≡ (if b then 1 + line else 1 + c.lines + line))

  literal_of : (line : ℕ) (bit : PatternBit) → AllByRecursion (IsOf line) (literal c line bit)
  literal_of line Zero = ((true, refl), tt)
  literal_of line One = ((false, refl), tt)
  literal_of line Any = tt

  apart : (i j : ℕ) → i < j → j < c.lines → (x y : ℕ) → IsOf i x → IsOf j y → Differ x y
  apart i j l lt x y p q e = by p.0 q.0 p.1 q.1
    where
      by : (b d : Bool) → x ≡ (if b then 1 + i else 1 + c.lines + i) → y ≡ (if d then 1 + j else 1 + c.lines + j) → ⊥
      by true true f g = omega arith
      by true false f g = omega arith
      by false true f g = omega arith
      by false false f g = omega arith

  module _ (pattern : List PatternBit) (fit : length pattern ≤ c.lines) where
    abbrev bit : ℕ → PatternBit
    bit line = get_or pattern line Any

    pub literals_are : AllByRecursion IsLiteral (literals c pattern)
    literals_are = each_piece IsLiteral (λ line. literal c line (bit line)) 0 (length pattern) (λ line l lt. literal_is line (bit line) (omega arith))

    pub literals_once : Pairs Differ (literals c pattern)
    literals_once =
        pairs_pieces Differ (λ line. literal c line (bit line)) 0 (length pattern) (λ line l lt. literal_once line (bit line))
        (λ i j l m lt. each_across (IsOf i) (IsOf j) Differ (apart i j m (omega arith)) (literal c i (bit i)) (literal c j (bit j)) (literal_of i (bit i))
        (literal_of j (bit j)))

  control_is : (state : State) → IsBelow c.positions state → AllByRecursion IsControl (state_inputs c state)
  control_is start h = ((omega arith, omega arith), tt)
  control_is scan_start h = tt
  control_is (after p) h = ((omega arith, omega arith), tt)

  control_once : (state : State) → Pairs Differ (state_inputs c state)
  control_once start = (tt, tt)
  control_once scan_start = tt
  control_once (after p) = (tt, tt)

  -- the reset or a literal
  abbrev IsOther : ℕ → Type 0
  IsOther net = IsLeft net × (IsControl net → ⊥)

  pub mark_fine : (out : ℕ) (state : State) → IsBelow c.positions state
      → IsPlaneGate 1 (reset_net c + 1) (record { out = out; inputs = state_inputs c state })
  mark_fine out state h = record {
    inputs = All-from_recursion IsLeft (state_inputs c state)
        (each_weaker IsControl IsLeft (λ net k. let low = k.0 in let high = k.1 in (omega arith, omega arith)) (state_inputs c state) (control_is state h));
    distinct = all_pairs Differ (state_inputs c state) (control_once state);
  }

  module _ (state : State) (h : IsBelow c.positions state) (pattern : List PatternBit) (fit : length pattern ≤ c.lines) where
    abbrev others : List ℕ
    others = reset_net c ∷ literals c pattern

    others_are : AllByRecursion IsOther others
    others_are = (
      ((omega arith, omega arith), λ k. let high = k.1 in omega arith),
      each_weaker IsLiteral IsOther
          (λ net k. let low = k.0 in let high = k.1 in ((omega arith, omega arith), λ d. let behind = d.0 in omega arith))
          (literals c pattern) (literals_are pattern fit),
    )

    others_once : Pairs Differ others
    others_once = (
      each_weaker IsLiteral (Differ (reset_net c)) (λ net k e. let high = k.1 in omega arith) (literals c pattern) (literals_are pattern fit),
      literals_once pattern fit,
    )

    pub step_fine : (out : ℕ) → IsPlaneGate 1 (reset_net c + 1) (record { out = out; inputs = state_inputs c state ++ others })
    step_fine out = record {
      inputs = All-from_recursion IsLeft (state_inputs c state ++ others)
          (each_append IsLeft (state_inputs c state) others
          (each_weaker IsControl IsLeft (λ net k. let low = k.0 in let high = k.1 in (omega arith, omega arith)) (state_inputs c state) (control_is state h))
          (each_weaker IsOther IsLeft (λ net k. k.0) others others_are));
      distinct = all_pairs Differ (state_inputs c state ++ others)
          (pairs_append Differ (state_inputs c state) others (control_once state) others_once
          (each_across IsControl IsOther Differ (λ a b k d e. d.1 (subst IsControl e k)) (state_inputs c state) others (control_is state h) others_are));
    }

  -- ---- all terms

  module _ (nfa : Automaton) (symbols : List NamedPattern) (positions : c.positions ≡ length nfa.symbols)
      (fit : (s : ℕ) → length (pattern_at symbols s) ≤ c.lines) (going : List Step)
      (going_below : AllByRecursion (λ (step : Step). IsBelow c.positions step.state) going) (marked : List State)
      (marked_known : AllByRecursion (IsBelow c.positions) marked) where
    step_at_fine : (k : ℕ) → IsPlaneGate 1 (reset_net c + 1) (step_gate c symbols going k)
    step_at_fine k =
        let step = get_or going k (record { state = start; symbol = 0 }) in
        step_fine step.state (each_read (λ (one : Step). IsBelow c.positions one.state) going k (record { state = start; symbol = 0 }) going_below tt)
        (pattern_at symbols step.symbol) (fit step.symbol) (term_net c k)

    mark_at_fine : (first k : ℕ) → IsPlaneGate 1 (reset_net c + 1) (mark_gate c first marked k)
    mark_at_fine first k = mark_fine (term_net c (first + k)) (get_or marked k start) (each_read (IsBelow c.positions) marked k start marked_known tt)

    pub terms_fine : All (IsPlaneGate 1 (reset_net c + 1)) (term_gates c symbols going marked)
    terms_fine =
        All-from_recursion (IsPlaneGate 1 (reset_net c + 1)) (term_gates c symbols going marked)
        (each_append (IsPlaneGate 1 (reset_net c + 1)) (map (step_gate c symbols going) (range_with_len 0 (length going)))
        (map (mark_gate c (length going) marked) (range_with_len 0 (length marked)))
        (each_range (IsPlaneGate 1 (reset_net c + 1)) (step_gate c symbols going) 0 (length going) (λ k l lt. step_at_fine k))
        (each_range (IsPlaneGate 1 (reset_net c + 1)) (mark_gate c (length going) marked) 0 (length marked) (λ k l lt. mark_at_fine (length going) k)))
