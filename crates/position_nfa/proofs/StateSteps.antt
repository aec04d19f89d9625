-- The states of an automaton, its steps and its marked states: how many there are, and which positions they name.
use Rattle.std.specs.Prelude.{flat_map, ⊤}
use Rattle.std.proofs.Common.{◌≡◌, ℕ, zero, suc, ◌+◌, ◌*◌, ◌<◌, ◌≤◌, ◌^◌, ◌==◌, Bool, true, false, List, [], ◌∷◌, ◌++◌, append_assoc, map, length, All, if◌then◌else◌, refl, ap, sym, ◌∙◌, arith, length-append}
use Rattle.std.specs.List.{AllByRecursion, range_with_len}
use Rattle.std.proofs.lemmas.List.Elements.{All-from_recursion}
use Rattle.std.proofs.lemmas.List.Folds.{flat_map-map}
use Rattle.rx_lang.specs.Positions.{State, start, scan_start, after, Step}
use Rattle.position_nfa.specs.declared.steps.State.{State as StateName}
use Rattle.position_nfa.specs.declared.steps.State.TheVariants.{Start, ScanStart, After}
use Rattle.position_nfa.specs.declared.steps.Step.{Step as StepName}
use Rattle.position_nfa.specs.Automaton.{Automaton, next_of, mask_of}
use Rattle.position_nfa.proofs.States.{IsState}
use Rattle.position_nfa.specs.Terms.{states, occurs}
use Rattle.position_nfa.specs.Registers.{NamesPosition, state_named, step_named, step_at, steps_from, steps, marked_at, marked_states}
use Rattle.position_nfa.proofs.Adding.{extends, pieces_more}
use Rattle.position_nfa.proofs.Ranges.{each_append, each_piece}

-- what is made of all states, is made of the two starts and of the positions
pub by_state : {X : Type 0} (f : State → List X) (nfa : Automaton)
    → flat_map f (states nfa) ≡ f start ++ f scan_start ++ flat_map (λ p. f (after p)) (range_with_len 0 (length nfa.symbols))
by_state f nfa =
    ap (λ xs. f start ++ (f scan_start ++ xs)) (flat_map-map f (λ (p : ℕ). after p) (range_with_len 0 (length nfa.symbols)))
    ∙ sym (append_assoc (f start) (f scan_start) (flat_map (λ p. f (after p)) (range_with_len 0 (length nfa.symbols))))

-- one position more
pub position_more : {X : Type 0} (starts : List X) (f : ℕ → List X) (i : ℕ) (now later : List X)
    → now ≡ starts ++ flat_map f (range_with_len 0 i) → later ≡ now ++ f i → later ≡ starts ++ flat_map f (range_with_len 0 (i + 1))
position_more starts f i now later before step = extends starts now later _ (f i) _ before step (pieces_more f i)

module _ {X : Type 0} (P : X → Type 0) (f : State → List X) (nfa : Automaton) where
  pub each_state : ((state : State) → IsState nfa state → AllByRecursion P (f state)) → AllByRecursion P (flat_map f (states nfa))
  each_state h =
      rw (by_state f nfa)
      (each_append P (f start ++ f scan_start) _ (each_append P (f start) (f scan_start) (h start tt) (h scan_start tt))
      (each_piece P (λ p. f (after p)) 0 (length nfa.symbols) (λ p l lt. h (after p) (omega (arith, lt)))))

-- ---- how many

few_pieces : {X : Type 0} (f : ℕ → List X) (most a n : ℕ) → ((k : ℕ) → length (f k) ≤ most) → length (flat_map f (range_with_len a n)) ≤ most * n
few_pieces f most a zero h = omega arith
few_pieces f most a (suc n) h =
    let l = h a in
    let m = few_pieces f most (a + 1) n h in
    omega (arith, l, m, length-append (f a) (flat_map f (range_with_len (a + 1) n)))

few_states : {X : Type 0} (f : State → List X) (most : ℕ) (nfa : Automaton) → ((state : State) → length (f state) ≤ most)
    → length (flat_map f (states nfa)) ≤ most * (2 + length nfa.symbols)
few_states f most nfa h =
    rw (by_state f nfa)
    (let a = h start in
    let b = h scan_start in
    let m = few_pieces (λ p. f (after p)) most 0 (length nfa.symbols) (λ p. h (after p)) in
    omega (
      arith,
      a,
      b,
      m,
      length-append (f start ++ f scan_start) (flat_map (λ p. f (after p)) (range_with_len 0 (length nfa.symbols))),
      length-append (f start) (f scan_start),
    ))

one_or_none : {X : Type 0} (b : Bool) (x : X) → length (if b then x ∷ [] else []) ≤ 1
one_or_none true x = omega arith
one_or_none false x = omega arith

none_or_one : {X : Type 0} (b : Bool) (x : X) → length (if b then [] else x ∷ []) ≤ 1
none_or_one true x = omega arith
none_or_one false x = omega arith

pub few_steps : (symbols : ℕ) (nfa : Automaton) → symbols ≤ 32 → length nfa.symbols ≤ 4096 → length (steps symbols nfa) ≤ 2 ^ 21
few_steps symbols nfa few size =
    let h = few_states (steps_from symbols nfa) 32 nfa
    (λ state.
    let l = few_pieces (step_at nfa state) 1 0 symbols (λ s. one_or_none (occurs nfa.symbols (next_of nfa state) s) (record { state = state; symbol = s })) in
    omega (arith, l, few)) in
    omega (arith, h, size)

pub few_marked : (nfa : Automaton) → length nfa.symbols ≤ 4096 → length (marked_states nfa) ≤ 2 ^ 21
few_marked nfa size =
    let h = few_states (marked_at nfa) 1 nfa (λ state. none_or_one (mask_of nfa state == 0) state) in
    omega (arith, h, size)

-- ---- which positions

pub steps_name : (symbols : ℕ) (nfa : Automaton) → AllByRecursion (λ (step : Step). IsState nfa step.state) (steps symbols nfa)
steps_name symbols nfa =
    each_state (λ (step : Step). IsState nfa step.state) (steps_from symbols nfa) nfa
    (λ state known. each_piece (λ (step : Step). IsState nfa step.state) (step_at nfa state) 0 symbols (λ s l lt. one state s known (occurs nfa.symbols (next_of nfa state) s)))
  where
    one : (state : State) (s : ℕ) → IsState nfa state → (b : Bool)
        → AllByRecursion (λ (step : Step). IsState nfa step.state) (if b then record { state = state; symbol = s } ∷ [] else [])
    one state s known true = (known, tt)
    one state s known false = tt

pub marked_name : (nfa : Automaton) → AllByRecursion (IsState nfa) (marked_states nfa)
marked_name nfa = each_state (IsState nfa) (marked_at nfa) nfa (λ state known. one state known (mask_of nfa state == 0))
  where
    one : (state : State) → IsState nfa state → (b : Bool) → AllByRecursion (IsState nfa) (if b then [] else state ∷ [])
    one state known true = tt
    one state known false = (known, tt)

named : (nfa : Automaton) (state : StateName) → IsState nfa (state_named state) → NamesPosition (length nfa.symbols) state
named nfa Start h = tt
named nfa ScanStart h = tt
named nfa (After p) h = h

pub steps_named : (nfa : Automaton) (made : List StepName) → AllByRecursion (λ (step : Step). IsState nfa step.state) (map step_named made)
    → All (λ step. NamesPosition (length nfa.symbols) step.state) made
steps_named nfa made h = All-from_recursion (λ (step : StepName). NamesPosition (length nfa.symbols) step.state) made (by made h)
  where
    by : (xs : List StepName) → AllByRecursion (λ (step : Step). IsState nfa step.state) (map step_named xs)
        → AllByRecursion (λ (step : StepName). NamesPosition (length nfa.symbols) step.state) xs
    by [] h = tt
    by (x ∷ xs) h = (named nfa x.state h.0, by xs h.1)

pub states_named : (nfa : Automaton) (made : List StateName) → AllByRecursion (IsState nfa) (map state_named made)
    → All (NamesPosition (length nfa.symbols)) made
states_named nfa made h = All-from_recursion (NamesPosition (length nfa.symbols)) made (by made h)
  where
    by : (xs : List StateName) → AllByRecursion (IsState nfa) (map state_named xs) → AllByRecursion (NamesPosition (length nfa.symbols)) xs
    by [] h = tt
    by (x ∷ xs) h = (named nfa x h.0, by xs h.1)
