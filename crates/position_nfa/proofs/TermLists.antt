-- The terms of an automaton of a specification, listed.
use Rattle.std.proofs.Common.{◌≡◌, ◌≢◌, ◌∙◌, ◌⊎◌, ◌↔◌, ℕ, zero, suc, ◌+◌, ◌-◌, ◌/◌, ◌%◌, ◌<◌, ◌≤◌, Bool, true, false, not, ◌||◌, ◌==◌, cond, List, [], ◌∷◌, ◌++◌, length, map, flat_map, get_or, Some, slice_get, count_by, sum_by, refl, sym, ap, subst, inl, inr, arith, length-append}
use Rattle.std.specs.List.{range_with_len, list_any, filter}
use Rattle.std.specs.Int.{bit_at}
use Rattle.std.specs.Prelude.{All, Contains}
use Rattle.std.proofs.lemmas.List.{length-map}
use Rattle.std.proofs.lemmas.List.Concat.{length-flat_map}
use Rattle.std.proofs.lemmas.List.Sums.{sum_by-cons, length-filter}
use Rattle.std.proofs.lemmas.Nat.Bits.{bit_at_lowest, bit_at-suc}
use Rattle.std.proofs.lemmas.Bool.{or_cases, or_left, or_right, cases_eq}
use Rattle.std.proofs.lemmas.Option.{slice_get-get_or, get_or_from_slice_get, slice_get_within}
use Rattle.rx_lang.specs.Specification.{Specification}
use Rattle.rx_lang.specs.Positions.{State, start, scan_start, after, Step, IsStateOf, GoesOn, IsMarkedState, Enumerates, HasTerms, LeadsTo, ShowsMark, occurrence_symbols}
use Rattle.position_nfa.specs.Automaton.{Automaton, IsAutomaton, next_of, mask_of, has_output}
use Rattle.position_nfa.specs.Agreement.{IsAutomatonOf}
use Rattle.position_nfa.specs.Terms.{states, occurs, symbol_numbers, symbol_count, is_marked, term_count}
use Rattle.position_nfa.proofs.Lists.{In, in_left, in_right, in_cases, in_at, in_of, of_in, Distinct, Apart, distinct_append, pairs_differ}
use Rattle.position_nfa.proofs.Masks.{none_has}

-- ---- lists

module _ {X : Type 0} (p : X → Bool) where
  kept_by : (b : Bool) (x z : X) (xs : List X) → p x ≡ b → In (cond b (x ∷ filter p xs) (filter p xs)) z → ((x ≡ z) × (p z ≡ true)) ⊎ In (filter p xs) z
  kept_by true x z xs e (inl h) = inl (h, ap p (sym h) ∙ e)
  kept_by true x z xs e (inr h) = inr h
  kept_by false x z xs e h = inr h

  filter_in : (xs : List X) (z : X) → In (filter p xs) z → In xs z × (p z ≡ true)
  filter_in [] z h = absurd h
  filter_in (x ∷ xs) z h = elim (kept_by (p x) x z xs refl h) [
    | inl k ↦ (inl k.0, k.1)
    | inr k ↦ let r = filter_in xs z k in (inr r.0, r.1)
  ]

  keep_by : (b : Bool) (x z : X) (xs : List X) → p x ≡ b → (x ≡ z) ⊎ In xs z → p z ≡ true → (In xs z → In (filter p xs) z) → In (cond b (x ∷ filter p xs) (filter p xs)) z
  keep_by true x z xs e (inl h) t rec = inl h
  keep_by true x z xs e (inr h) t rec = inr (rec h)
  keep_by false x z xs e (inl h) t rec = let k : p z ≡ false = ap p (sym h) ∙ e in cc
  keep_by false x z xs e (inr h) t rec = rec h

  in_filter : (xs : List X) (z : X) → In xs z → p z ≡ true → In (filter p xs) z
  in_filter [] z h t = absurd h
  in_filter (x ∷ xs) z h t = keep_by (p x) x z xs refl h t (λ k. in_filter xs z k t)

  distinct_by : (b : Bool) (x : X) (xs : List X) → (In xs x → ⊥) → Distinct (filter p xs) → Distinct (cond b (x ∷ filter p xs) (filter p xs))
  distinct_by true x xs absent d = ((λ h. absent (filter_in xs x h).0), d)
  distinct_by false x xs absent d = d

  filter_distinct : (xs : List X) → Distinct xs → Distinct (filter p xs)
  filter_distinct [] h = tt
  filter_distinct (x ∷ xs) h = distinct_by (p x) x xs h.0 (filter_distinct xs h.1)

module _ {X Y : Type 0} (f : X → Y) where
  in_map : (xs : List X) (x : X) → In xs x → In (map f xs) (f x)
  in_map [] x h = absurd h
  in_map (z ∷ xs) x (inl e) = inl (ap f e)
  in_map (z ∷ xs) x (inr h) = inr (in_map xs x h)

  map_in : (xs : List X) (y : Y) → In (map f xs) y → (x : X) × In xs x × (f x ≡ y)
  map_in [] y h = absurd h
  map_in (z ∷ xs) y (inl e) = (z, inl refl, e)
  map_in (z ∷ xs) y (inr h) = let r = map_in xs y h in (r.0, inr r.1, r.2)

  module _ (one : (a b : X) → f a ≡ f b → a ≡ b) where
    map_absent : (x : X) (xs : List X) → (In xs x → ⊥) → In (map f xs) (f x) → ⊥
    map_absent x xs absent h = let r = map_in xs (f x) h in absent (subst (In xs) (one r.0 x r.2) r.1)

    map_distinct : (xs : List X) → Distinct xs → Distinct (map f xs)
    map_distinct [] h = tt
    map_distinct (x ∷ xs) h = (map_absent x xs h.0, map_distinct xs h.1)

module _ {X Y : Type 0} (g : X → List Y) where
  in_flat : (xs : List X) (x : X) (y : Y) → In xs x → In (g x) y → In (flat_map g xs) y
  in_flat [] x y h i = absurd h
  in_flat (z ∷ xs) x y (inl e) i = in_left (g z) (flat_map g xs) y (subst (λ w. In (g w) y) (sym e) i)
  in_flat (z ∷ xs) x y (inr h) i = in_right (g z) (flat_map g xs) y (in_flat xs x y h i)

  flat_in : (xs : List X) (y : Y) → In (flat_map g xs) y → (x : X) × In xs x × In (g x) y
  flat_in [] y h = absurd h
  flat_in (z ∷ xs) y h = elim (in_cases (g z) (flat_map g xs) y h) [
    | inl k ↦ (z, inl refl, k)
    | inr k ↦ let r = flat_in xs y k in (r.0, inr r.1, r.2)
  ]

  module _ (each : (x : X) → Distinct (g x)) (owner : (a b : X) (y : Y) → In (g a) y → In (g b) y → a ≡ b) where
    flat_distinct : (xs : List X) → Distinct xs → Distinct (flat_map g xs)
    flat_distinct [] h = tt
    flat_distinct (z ∷ xs) h = distinct_append (g z) (flat_map g xs) (each z) (flat_distinct xs h.1)
        (λ y i j. let r = flat_in xs y j in h.0 (subst (In xs) (owner r.0 z y r.2 i) r.1))

range_in : (a n x : ℕ) → In (range_with_len a n) x → (a ≤ x) × (x < a + n)
range_in a zero x h = absurd h
range_in a (suc n) x (inl e) = (omega arith, omega arith)
range_in a (suc n) x (inr h) = let r = range_in (a + 1) n x h in (omega (arith, r.0), omega (arith, r.1))

in_range : (a n x : ℕ) → a ≤ x → x < a + n → In (range_with_len a n) x
in_range a zero x h k = absurd (omega arith)
in_range a (suc n) x h k = elim (cases_eq a x) [ inl e ↦ inl e | inr ne ↦ inr (in_range (a + 1) n x (omega (arith, ne)) (omega arith)) ]

range_distinct : (a n : ℕ) → Distinct (range_with_len a n)
range_distinct a zero = tt
range_distinct a (suc n) = ((λ h. let r = range_in (a + 1) n a h in absurd (omega (arith, r.0))), range_distinct (a + 1) n)

numbers_in : (s : ℕ) → s < 256 → In symbol_numbers s
unfolding symbol_numbers
numbers_in s h = in_range 0 256 s (omega arith) (omega arith)

numbers_distinct : Distinct symbol_numbers
unfolding symbol_numbers
numbers_distinct = range_distinct 0 256

-- ---- a mask that is not empty has a bit

half_bit : (n : ℕ) → (n % 2 ≡ 1) ⊎ (n % 2 ≢ 1) → (fuel : ℕ) → n ≤ suc fuel → n ≢ 0 → ((m : ℕ) → m ≤ fuel → m ≢ 0 → (y : ℕ) × (bit_at m y ≡ 1)) → (y : ℕ) × (bit_at n y ≡ 1)
half_bit n (inl e) fuel h ne rec = (0, bit_at_lowest n ∙ e)
half_bit n (inr o) fuel h ne rec =
    let r = rec (n / 2) (omega arith) (λ z. ne (omega (arith, z, o))) in
    (suc r.0, bit_at-suc n r.0 ∙ r.1)

some_bit : (fuel n : ℕ) → n ≤ fuel → n ≢ 0 → (y : ℕ) × (bit_at n y ≡ 1)
some_bit zero n h ne = absurd (ne (omega arith))
some_bit (suc fuel) n h ne = half_bit n (cases_eq (n % 2) 1) fuel h ne (λ m k o. some_bit fuel m k o)

not_zero : (n : ℕ) → not (n == 0) ≡ true → n ≢ 0
not_zero n h e = let t : not (0 == 0) ≡ true = ap (λ k. not (k == 0)) (sym e) ∙ h in cc

zero_or : (n : ℕ) → (n ≡ 0) ⊎ (n ≢ 0) → n ≢ 0 → not (n == 0) ≡ true
zero_or n (inl e) ne = absurd (ne e)
zero_or n (inr o) ne = let t : (n == 0) ≡ false = grind (arith, o) in ap not t

marked_bit : (mask : ℕ) → is_marked mask ≡ true → (y : ℕ) × (has_output mask y ≡ true)
marked_bit mask h = let r = some_bit mask mask (omega arith) (not_zero mask h) in (r.0, let e = r.1 in (rw e refl))

bit_marked : (mask y : ℕ) → has_output mask y ≡ true → is_marked mask ≡ true
bit_marked mask y h = zero_or mask (cases_eq mask 0) (λ e. let z = none_has y in let k : has_output 0 y ≡ true = ap (λ m. has_output m y) (sym e) ∙ h in cc)

in_all : (xs : List ℕ) {n : ℕ} → All (λ q. q < n) xs → (q : ℕ) → In xs q → q < n
in_all xs {n = n} h q i = let c = of_in xs q i in subst (λ x. x < n) c.2 (h c.0 q c.1)

-- ---- a symbol of a list of positions

occurs_from : (symbols positions : List ℕ) (s q : ℕ) → In positions q → get_or symbols q 0 ≡ s → occurs symbols positions s ≡ true
occurs_from symbols [] s q h e = absurd h
occurs_from symbols (x ∷ positions) s q (inl g) e =
    or_left (get_or symbols x 0 == s) (occurs symbols positions s) (let k : get_or symbols x 0 ≡ s = ap (λ j. get_or symbols j 0) g ∙ e in grind (arith, k))
occurs_from symbols (x ∷ positions) s q (inr h) e = or_right (get_or symbols x 0 == s) (occurs symbols positions s) (occurs_from symbols positions s q h e)

occurs_at : (symbols positions : List ℕ) (s : ℕ) → occurs symbols positions s ≡ true → (q : ℕ) × In positions q × (get_or symbols q 0 ≡ s)
occurs_at symbols [] s h = cc
occurs_at symbols (x ∷ positions) s h = elim (or_cases (get_or symbols x 0 == s) (occurs symbols positions s) h) [
  | inl e ↦ (x, inl refl, grind (arith, e))
  | inr k ↦ let r = occurs_at symbols positions s k in (r.0, inr r.1, r.2)
]

-- ---- the terms

module _ (nfa : Automaton) where
  abbrev steps_at : State → List Step
  steps_at state = map (λ s. record { state = state; symbol = s }) (filter (occurs nfa.symbols (next_of nfa state)) symbol_numbers)

  abbrev all_steps : List Step
  all_steps = flat_map steps_at (states nfa)

  abbrev all_marked : List State
  all_marked = filter (λ state. is_marked (mask_of nfa state)) (states nfa)

  steps_length : (state : State) → length (steps_at state) ≡ symbol_count nfa.symbols (next_of nfa state)
  steps_length state =
      length-map (filter (occurs nfa.symbols (next_of nfa state)) symbol_numbers) (λ s. record { state = state; symbol = s })
      ∙ length-filter (occurs nfa.symbols (next_of nfa state)) symbol_numbers

  sum_same : (f g : State → ℕ) → ((x : State) → f x ≡ g x) → (xs : List State) → sum_by f xs ≡ sum_by g xs
  sum_same f g e [] = refl
  sum_same f g e (x ∷ xs) = omega (arith, sum_by-cons f x xs, sum_by-cons g x xs, e x, sum_same f g e xs)

  term_length : term_count nfa ≡ length all_steps + length all_marked
  term_length = sym (
      ap (λ k. k + length all_marked) (length-flat_map steps_at (states nfa) ∙ sum_same (λ x. length (steps_at x)) (λ x. symbol_count nfa.symbols (next_of nfa x)) steps_length (states nfa))
      ∙ ap (λ k. sum_by (λ x. symbol_count nfa.symbols (next_of nfa x)) (states nfa) + k) (length-filter (λ state. is_marked (mask_of nfa state)) (states nfa))
      )

  -- each once

  same_after : (a b : ℕ) → after a ≡ after b → a ≡ b
  same_after a b e = cc

  no_after : (state : State) (ns : List ℕ) → ((p : ℕ) → after p ≢ state) → In (map (λ p. after p) ns) state → ⊥
  no_after state ns ne h = let r = map_in (λ p. after p) ns state h in ne r.0 r.2

  states_distinct : Distinct (states nfa)
  states_distinct = (
    λ h. first_absent h,
    (
      λ h. no_after scan_start (range_with_len 0 (length nfa.symbols)) (λ p e. cc) h,
      map_distinct (λ p. after p) same_after (range_with_len 0 (length nfa.symbols)) (range_distinct 0 (length nfa.symbols)),
    ),
  )
    where
      first_absent : In (scan_start ∷ map (λ p. after p) (range_with_len 0 (length nfa.symbols))) start → ⊥
      first_absent (inl e) = cc
      first_absent (inr h) = no_after start (range_with_len 0 (length nfa.symbols)) (λ p e. cc) h

  step_state : (state : State) (step : Step) → In (steps_at state) step → step.state ≡ state
  step_state state step h =
      let r = map_in (λ s. record { state = state; symbol = s }) (filter (occurs nfa.symbols (next_of nfa state)) symbol_numbers) step h in
      ap (λ (x : Step). x.state) (sym r.2)

  steps_distinct : Distinct all_steps
  steps_distinct = flat_distinct steps_at
      (λ state. map_distinct (λ s. record { state = state; symbol = s }) (λ a b e. ap (λ (x : Step). x.symbol) e)
      (filter (occurs nfa.symbols (next_of nfa state)) symbol_numbers) (filter_distinct (occurs nfa.symbols (next_of nfa state)) symbol_numbers numbers_distinct))
      (λ a b step i j. sym (step_state a step i) ∙ step_state b step j) (states nfa) states_distinct

  -- exactly those of the specification

  module _ (spec : Specification) (is : IsAutomaton nfa) (small : All (λ s. s < 256) nfa.symbols) (of : IsAutomatonOf spec nfa) where
    in_states : (state : State) → IsStateOf spec state → In (states nfa) state
    in_states start h = inl refl
    in_states scan_start h = inr (inl refl)
    in_states (after p) h = inr (inr (in_map (λ q. after q) (range_with_len 0 (length nfa.symbols)) p
        (in_range 0 (length nfa.symbols) p (omega arith) (let e = ap length of.symbols in omega arith))))

    after_state : (state : State) (p : ℕ) → p < length (occurrence_symbols spec) → after p ≡ state → IsStateOf spec state
    after_state state p h e = subst (IsStateOf spec) e h

    states_in : (state : State) → In (states nfa) state → IsStateOf spec state
    states_in state (inl e) = subst (IsStateOf spec) e tt
    states_in state (inr (inl e)) = subst (IsStateOf spec) e tt
    states_in state (inr (inr h)) =
        let r = map_in (λ q. after q) (range_with_len 0 (length nfa.symbols)) state h in
        let b = range_in 0 (length nfa.symbols) r.0 r.1 in
        after_state state r.0 (let e = ap length of.symbols in omega (arith, b.1)) r.2

    symbol_to : (q s : ℕ) → slice_get (occurrence_symbols spec) q ≡ Some s → slice_get nfa.symbols q ≡ Some s
    symbol_to q s e = subst (λ xs. slice_get xs q ≡ Some s) (sym of.symbols) e

    step_to : (step : Step) → GoesOn spec step → In all_steps step
    step_to step h =
        let read : slice_get nfa.symbols h.1 ≡ Some step.symbol = symbol_to h.1 step.symbol h.3 in
        let symbol : get_or nfa.symbols h.1 0 ≡ step.symbol = get_or_from_slice_get nfa.symbols h.1 step.symbol 0 read in
        let below : step.symbol < 256 = subst (λ s. s < 256) symbol (small h.1 0 (slice_get_within nfa.symbols h.1 step.symbol read)) in
        let next : In (next_of nfa step.state) h.1 = in_of (next_of nfa step.state) h.1 ((of.leads step.state h.1 h.0).1 h.2) in
        in_flat steps_at (states nfa) step.state step (in_states step.state h.0)
        (in_map (λ s. record { state = step.state; symbol = s }) (filter (occurs nfa.symbols (next_of nfa step.state)) symbol_numbers) step.symbol
        (in_filter (occurs nfa.symbols (next_of nfa step.state)) symbol_numbers step.symbol (numbers_in step.symbol below)
        (occurs_from nfa.symbols (next_of nfa step.state) step.symbol h.1 next symbol)))

    below_next : (state : State) (q : ℕ) → In (states nfa) state → In (next_of nfa state) q → q < length nfa.symbols
    below_next state q (inl e) i = in_all nfa.first is.first q (subst (λ st. In (next_of nfa st) q) (sym e) i)
    below_next state q (inr (inl e)) i = in_all nfa.scan_first is.scan_first q (subst (λ st. In (next_of nfa st) q) (sym e) i)
    below_next state q (inr (inr h)) i =
        let r = map_in (λ p. after p) (range_with_len 0 (length nfa.symbols)) state h in
        let b = range_in 0 (length nfa.symbols) r.0 r.1 in
        in_all (get_or nfa.follow r.0 []) (is.follow r.0 [] (let e = is.follow_sized in omega (arith, b.1))) q (subst (λ st. In (next_of nfa st) q) (sym r.2) i)

    step_of : (state : State) (s q : ℕ) → In (states nfa) state → In (next_of nfa state) q → get_or nfa.symbols q 0 ≡ s → GoesOn spec (record { state = state; symbol = s })
    step_of state s q h i e =
        let st : IsStateOf spec state = states_in state h in
        let lt : q < length nfa.symbols = below_next state q h i in (
          st,
          q,
          (of.leads state q st).0 (of_in (next_of nfa state) q i),
          subst (λ xs. slice_get xs q ≡ Some s) of.symbols (slice_get-get_or nfa.symbols q 0 lt ∙ ap (λ x. Some x) e),
        )

    step_from : (step : Step) → In all_steps step → GoesOn spec step
    step_from step h =
        let r = flat_in steps_at (states nfa) step h in
        let m = map_in (λ s. record { state = r.0; symbol = s }) (filter (occurs nfa.symbols (next_of nfa r.0)) symbol_numbers) step r.2 in
        let k = filter_in (occurs nfa.symbols (next_of nfa r.0)) symbol_numbers m.0 m.1 in
        let o = occurs_at nfa.symbols (next_of nfa r.0) m.0 k.1 in
        subst (GoesOn spec) m.2 (step_of r.0 m.0 o.0 r.1 o.1 o.2)

    marked_to : (state : State) → IsMarkedState spec state → In all_marked state
    marked_to state h = in_filter (λ st. is_marked (mask_of nfa st)) (states nfa) state (in_states state h.0)
        (bit_marked (mask_of nfa state) h.1 ((of.shows state h.1 h.0).1 h.2))

    marked_from : (state : State) → In all_marked state → IsMarkedState spec state
    marked_from state h =
        let r = filter_in (λ st. is_marked (mask_of nfa st)) (states nfa) state h in
        let st : IsStateOf spec state = states_in state r.0 in
        let b = marked_bit (mask_of nfa state) r.1 in
        (st, b.0, (of.shows state b.0 st).0 b.1)

    pub has_terms : HasTerms spec (term_count nfa)
    has_terms = record {
      steps = all_steps;
      marked = all_marked;
      all_steps = record {
        once = pairs_differ all_steps steps_distinct;
        all = λ step. (λ h. of_in all_steps step (step_to step h), λ c. step_from step (in_of all_steps step c));
      };
      all_marked = record {
        once = pairs_differ all_marked (filter_distinct (λ state. is_marked (mask_of nfa state)) (states nfa) states_distinct);
        all = λ state. (λ h. of_in all_marked state (marked_to state h), λ c. marked_from state (in_of all_marked state c));
      };
      count = term_length;
    }
