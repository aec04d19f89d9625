-- Which steps and marked states an automaton has, and what is high among chosen nets.
use Rattle.std.specs.Prelude.{flat_map}
use Rattle.std.proofs.Common.{◌≡◌, ◌≢◌, ◌↔◌, ◌⊎◌, inl, inr, ℕ, zero, suc, ◌+◌, ◌<◌, ◌≤◌, ◌==◌, ◌||◌, not, Bool, true, false, if◌then◌else◌, List, [], ◌∷◌, ◌++◌, map, length, slice_index_or, Contains, refl, ap, sym, subst, ◌∙◌, arith, eq-eqb, eqb-true}
use Rattle.std.specs.List.{AllByRecursion, range_with_len, list_any}
use Rattle.std.proofs.lemmas.Bool.{ne_eqb, cases_eq, cases_lt, cases_Bool, or_left, or_right}
use Rattle.std.proofs.lemmas.List.{get_or_default}
use Rattle.std.proofs.lemmas.List.Elements.{Contains-append_left, Contains-append_right}
use Rattle.std.proofs.lemmas.List.Folds.{list_any-append}
use Rattle.rx_lang.specs.Positions.{State, start, scan_start, after, Step}
use Rattle.position_nfa.specs.Automaton.{Automaton, IsAutomaton, next_of, mask_of, has_output}
use Rattle.position_nfa.proofs.States.{IsState}
use Rattle.position_nfa.specs.Terms.{states, occurs}
use Rattle.position_nfa.specs.Registers.{step_at, steps_from, steps, marked_at, marked_states, step_of, marked_of}
use Rattle.position_nfa.proofs.Masks.{none_has}
use Rattle.position_nfa.proofs.Ranges.{each_piece}
use Rattle.position_nfa.proofs.StateSteps.{by_state, each_state}

pub past : {X : Type 0} (xs : List X) (k : ℕ) (d : X) → length xs ≤ k → slice_index_or xs k d ≡ d
past [] k d le = refl
past (x ∷ xs) zero d le = absurd (omega (arith, le))
past (x ∷ xs) (suc k) d le = past xs k d (omega (arith, le))

-- ---- pieces

piece_has : {X : Type 0} (f : ℕ → List X) (a n v : ℕ) (x : X) → a ≤ v → v < a + n → Contains (f v) x → Contains (flat_map f (range_with_len a n)) x
piece_has f a zero v x l lt h = absurd (omega arith)
piece_has {X = X} f a (suc n) v x l lt h =
    elim (cases_eq a v) [
      | inl e ↦ Contains-append_left (f a) (flat_map f (range_with_len (a + 1) n)) x (subst (λ (i : ℕ). Contains (f i) x) (sym e) h)
      | inr ne ↦ Contains-append_right (f a) (flat_map f (range_with_len (a + 1) n)) x (piece_has f (a + 1) n v x (omega (arith, ne)) (omega arith) h)
    ]

state_has : {X : Type 0} (f : State → List X) (nfa : Automaton) (s : State) (x : X) → IsState nfa s → Contains (f s) x → Contains (flat_map f (states nfa)) x
state_has f nfa start x known h =
    rw (by_state f nfa)
    (Contains-append_left (f start ++ f scan_start) (flat_map (λ p. f (after p)) (range_with_len 0 (length nfa.symbols))) x (Contains-append_left (f start) (f scan_start) x h))
state_has f nfa scan_start x known h =
    rw (by_state f nfa)
    (Contains-append_left (f start ++ f scan_start) (flat_map (λ p. f (after p)) (range_with_len 0 (length nfa.symbols))) x (Contains-append_right (f start) (f scan_start) x h))
state_has f nfa (after p) x known h =
    rw (by_state f nfa)
    (Contains-append_right (f start ++ f scan_start) (flat_map (λ p. f (after p)) (range_with_len 0 (length nfa.symbols))) x
    (piece_has (λ p. f (after p)) 0 (length nfa.symbols) p x (omega arith) (omega (arith, known)) h))

-- ---- steps

any_from : (f : ℕ → Bool) (xs : List ℕ) (q : ℕ) → Contains xs q → f q ≡ true → list_any f xs ≡ true
any_from f [] q (i, lt, e) h = absurd (omega (arith, lt))
any_from f (x ∷ xs) q (zero, lt, e) h = or_left (f x) (list_any f xs) (ap f e ∙ h)
any_from f (x ∷ xs) q (suc i, lt, e) h = or_right (f x) (list_any f xs) (any_from f xs q (i, omega (arith, lt), e) h)

pub contains_from : (xs : List ℕ) (q : ℕ) → list_any (λ x. x == q) xs ≡ true → Contains xs q
contains_from [] q h = absurd (cc)
contains_from (x ∷ xs) q h =
    elim (cases_eq x q) [
      | inl e ↦ (0, omega arith, e)
      | inr ne ↦
          elim (cases_Bool (x == q)) [
            | inl here ↦ absurd (ne (eqb-true x q here))
            | inr other ↦
                let later : list_any (λ x. x == q) xs ≡ true = (let f : (false || list_any (λ x. x == q) xs) ≡ true = rw other at h in f) in
                Contains-append_right (x ∷ []) xs q (contains_from xs q later)
          ]
    ]

pub contains_any : (xs : List ℕ) (q : ℕ) → Contains xs q → list_any (λ x. x == q) xs ≡ true
contains_any xs q h = any_from (λ x. x == q) xs q h (eq-eqb q q refl)

-- a state that leads somewhere is one of the automaton's
pub leads_state : (nfa : Automaton) → IsAutomaton nfa → (s : State) (q : ℕ) → Contains (next_of nfa s) q → IsState nfa s
leads_state nfa automaton start q h = tt
leads_state nfa automaton scan_start q h = tt
leads_state nfa automaton (after p) q h =
    elim (cases_lt p (length nfa.symbols)) [
      | inl lt ↦ lt
      | inr ge ↦
          let size = automaton.follow_sized in
          let none : next_of nfa (after p) ≡ [] = past nfa.follow p [] (omega (arith, ge, size)) in
          let k : Contains [] q = subst (λ (xs : List ℕ). Contains xs q) none h in
          absurd (let lt = k.1 in omega (arith, lt))
    ]

-- and so is one in which an output is marked
pub marked_state : (nfa : Automaton) → IsAutomaton nfa → (s : State) (y : ℕ) → has_output (mask_of nfa s) y ≡ true → IsState nfa s
marked_state nfa automaton start y h = tt
marked_state nfa automaton scan_start y h = tt
marked_state nfa automaton (after p) y h =
    elim (cases_lt p (length nfa.symbols)) [
      | inl lt ↦ lt
      | inr ge ↦
          let size = automaton.marked_sized in
          let none : mask_of nfa (after p) ≡ 0 = past nfa.marked (p + 1) 0 (omega (arith, ge, size)) in
          let clash : false ≡ true = sym (none_has y) ∙ ap (λ (m : ℕ). has_output m y) (sym none) ∙ h in
          absurd (cc)
    ]

one_here : {X : Type 0} (b : Bool) (x : X) → b ≡ true → Contains (if b then x ∷ [] else []) x
one_here true x e = (0, omega arith, refl)
one_here false x e = absurd (cc)

-- the number of an element
pub record Found {X : Type 0} (xs : List X) (d x : X) : Type 0 where
  pub at : ℕ
  pub within : at < length xs
  pub here : slice_index_or xs at d ≡ x

found : {X : Type 0} (xs : List X) (d x : X) → Contains xs x → Found xs d x
found xs d x h = record { at = h.0; within = h.1; here = get_or_default xs h.0 d x h.1 ∙ h.2 }

pub step_found : (symbols : ℕ) (nfa : Automaton) (s : State) (q sym : ℕ) → IsState nfa s → Contains (next_of nfa s) q → slice_index_or nfa.symbols q 0 ≡ sym → sym < symbols
    → Found (steps symbols nfa) (record { state = start; symbol = 0 }) (record { state = s; symbol = sym })
step_found symbols nfa s q symbol known h is lt =
    found (steps symbols nfa) _ _
    (state_has (steps_from symbols nfa) nfa s (record { state = s; symbol = symbol }) known
    (piece_has (step_at nfa s) 0 symbols symbol (record { state = s; symbol = symbol }) (omega arith) (omega (arith, lt))
    (one_here (occurs nfa.symbols (next_of nfa s) symbol) (record { state = s; symbol = symbol })
    (any_from (λ q. slice_index_or nfa.symbols q 0 == symbol) (next_of nfa s) q h (eq-eqb (slice_index_or nfa.symbols q 0) symbol is)))))

not_zero : {X : Type 0} (n : ℕ) (x : X) → n ≢ 0 → Contains (if n == 0 then [] else x ∷ []) x
not_zero n x ne = rw (ne_eqb n 0 ne) (0, omega arith, refl)

pub mark_found : (nfa : Automaton) (s : State) (y : ℕ) → IsState nfa s → has_output (mask_of nfa s) y ≡ true → Found (marked_states nfa) start s
mark_found nfa s y known h =
    found (marked_states nfa) start s
    (state_has (marked_at nfa) nfa s s known
    (not_zero (mask_of nfa s) s
    (λ e.
    let clash : false ≡ true = sym (none_has y) ∙ ap (λ (m : ℕ). has_output m y) (sym e) ∙ h in
    cc)))

-- the symbols of steps are among so many
pub steps_within : (symbols : ℕ) (nfa : Automaton) → AllByRecursion (λ (step : Step). step.symbol < symbols) (steps symbols nfa)
steps_within symbols nfa =
    each_state (λ (step : Step). step.symbol < symbols) (steps_from symbols nfa) nfa
    (λ s known. each_piece (λ (step : Step). step.symbol < symbols) (step_at nfa s) 0 symbols (λ sym l lt. one s sym (omega (arith, lt)) (occurs nfa.symbols (next_of nfa s) sym)))
  where
    one : (s : State) (sym : ℕ) → sym < symbols → (b : Bool) → AllByRecursion (λ (step : Step). step.symbol < symbols) (if b then record { state = s; symbol = sym } ∷ [] else [])
    one s sym lt true = (lt, tt)
    one s sym lt false = tt

-- ---- chosen nets

-- one of the chosen nets is high
pub record SomeHigh (high : ℕ → Bool) (test : ℕ → Bool) (net : ℕ → ℕ) (a n : ℕ) : Type 0 where
  pub at : ℕ
  pub from : a ≤ at
  pub within : at < a + n
  pub chosen : test at ≡ true
  pub is : high (net at) ≡ true

pub any_chosen : (high test : ℕ → Bool) (net : ℕ → ℕ) (a n : ℕ)
    → (list_any high (flat_map (λ k. if test k then net k ∷ [] else []) (range_with_len a n)) ≡ true) ↔ SomeHigh high test net a n
any_chosen high test net a zero = (λ e. absurd (cc), λ h. absurd (let l = h.from in let m = h.within in omega (arith, l, m)))
any_chosen high test net a (suc n) = (
  λ e.
      elim (first (test a) refl (sym (list_any-append high (if test a then net a ∷ [] else []) rest) ∙ e)) [
        | inl h ↦ h
        | inr later ↦
            let h = (any_chosen high test net (a + 1) n).0 later in
            let l = h.from in
            let m = h.within in
            record { at = h.at; from = omega (arith, l); within = omega (arith, m); chosen = h.chosen; is = h.is }
      ],
  λ h.
      list_any-append high (if test a then net a ∷ [] else []) rest
      ∙ elim (cases_eq a h.at) [
        | inl same ↦ or_left (list_any high (if test a then net a ∷ [] else [])) (list_any high rest) (here (test a) (ap test same ∙ h.chosen) (ap (λ (i : ℕ). high (net i)) same ∙ h.is))
        | inr ne ↦
            let l = h.from in
            let m = h.within in
            or_right (list_any high (if test a then net a ∷ [] else [])) (list_any high rest)
            ((any_chosen high test net (a + 1) n).1 (record { at = h.at; from = omega (arith, l, ne); within = omega (arith, m); chosen = h.chosen; is = h.is }))
      ],
)
  where
    rest : List ℕ
    rest = flat_map (λ k. if test k then net k ∷ [] else []) (range_with_len (a + 1) n)

    low_or : (b : Bool) → (b || false) ≡ b
    low_or true = refl
    low_or false = refl

    first : (b : Bool) → test a ≡ b → (list_any high (if b then net a ∷ [] else []) || list_any high rest) ≡ true
        → SomeHigh high test net a (suc n) ⊎ (list_any high rest ≡ true)
    first true e h =
        elim (cases_Bool (high (net a))) [
          | inl up ↦ inl (record { at = a; from = omega arith; within = omega arith; chosen = e; is = up })
          | inr down ↦ inr (let f : ((false || false) || list_any high rest) ≡ true = rw down at h in f)
        ]
    first false e h = inr h

    here : (b : Bool) → b ≡ true → high (net a) ≡ true → list_any high (if b then net a ∷ [] else []) ≡ true
    here true e up = or_left (high (net a)) false up
    here false e up = absurd (cc)
