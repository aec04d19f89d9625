-- The registers of an automaton have one gate for each of its terms.
use Rattle.std.specs.Prelude.{flat_map}
use Rattle.std.proofs.Common.{◌≡◌, ◌≢◌, ◌∙◌, ℕ, zero, suc, ◌+◌, ◌<◌, ◌≤◌, Bool, true, false, ◌||◌, ◌==◌, not, List, [], ◌∷◌, length, map, get_or, All, count_by, sum_by, if◌then◌else◌, refl, sym, ap, subst, arith, length-append}
use Rattle.std.specs.List.{AllByRecursion, range_with_len}
use Rattle.std.proofs.lemmas.List.Elements.{recursion_from_All}
use Rattle.std.proofs.lemmas.List.FromFn.{length-map-range_with_len}
use Rattle.std.proofs.lemmas.List.Sums.{sum_by-cons}
use Rattle.rx_lang.specs.Positions.{State, Step, HasTerms}
use Rattle.rx_lang.specs.Specification.{NamedPattern}
use Rattle.rx_lang.specs.Tables.{Tables, IsSpecification, specification}
use Rattle.position_nfa.specs.declared.array_nets.ArrayCounts.{ArrayCounts}
use Rattle.position_nfa.specs.Agreement.{IsAutomatonOf}
use Rattle.position_nfa.specs.Automaton.{Automaton, IsAutomaton, next_of, mask_of}
use Rattle.position_nfa.specs.Terms.{states, occurs, symbol_numbers, symbol_count, is_marked, term_count}
use Rattle.position_nfa.specs.Registers.{step_at, steps_from, steps, marked_at, marked_states, step_gate, mark_gate, term_gates, registers_of}
use Rattle.position_nfa.proofs.Counted.{one_if}
use Rattle.position_nfa.proofs.TermLists.{has_terms}

-- ---- lists

sum_pieces : {A B : Type 0} (f : A → List B) (g : A → ℕ) → ((x : A) → length (f x) ≡ g x) → (xs : List A) → length (flat_map f xs) ≡ sum_by g xs
sum_pieces f g e [] = refl
sum_pieces f g e (x ∷ xs) = omega (arith, length-append (f x) (flat_map f xs), sum_by-cons g x xs, e x, sum_pieces f g e xs)

-- pieces of at most one element
count_pieces : {A B : Type 0} (f : A → List B) (p : A → Bool) → ((x : A) → length (f x) ≡ one_if (p x)) → (xs : List A)
    → length (flat_map f xs) ≡ count_by p xs
count_pieces f p e xs = sum_pieces f (λ x. one_if (p x)) e xs

-- numbers from m on count nothing
count_none : (p : ℕ → Bool) (a n : ℕ) → ((s : ℕ) → a ≤ s → p s ≡ false) → count_by p (range_with_len a n) ≡ 0
count_none p a zero h = refl
count_none p a (suc n) h =
    let rest = count_none p (a + 1) n (λ s l. h s (omega arith)) in
    omega (arith, sum_by-cons (λ s. one_if (p s)) a (range_with_len (a + 1) n), ap one_if (h a (omega arith)), rest)

count_below : (p : ℕ → Bool) (a m n : ℕ) → m ≤ n → ((s : ℕ) → a + m ≤ s → p s ≡ false)
    → count_by p (range_with_len a m) ≡ count_by p (range_with_len a n)
count_below p a zero n l h = sym (count_none p a n (λ s k. h s (omega arith)))
count_below p a (suc m) zero l h = absurd (omega arith)
count_below p a (suc m) (suc n) l h =
    omega (
      arith,
      sum_by-cons (λ s. one_if (p s)) a (range_with_len (a + 1) m),
      sum_by-cons (λ s. one_if (p s)) a (range_with_len (a + 1) n),
      count_below p (a + 1) m n (omega arith) (λ s k. h s (omega arith)),
    )

-- ---- symbols below m

-- also where there is no such position
reads_below : (m q : ℕ) (symbols : List ℕ) → 1 ≤ m → AllByRecursion (λ s. s < m) symbols → get_or symbols q 0 < m
reads_below m q [] some h = omega arith
reads_below m zero (s ∷ symbols) some h = h.0
reads_below m (suc q) (s ∷ symbols) some h = reads_below m q symbols some h.1

none_beyond : (m : ℕ) (symbols positions : List ℕ) → 1 ≤ m → AllByRecursion (λ s. s < m) symbols → (s : ℕ) → m ≤ s
    → occurs symbols positions s ≡ false
none_beyond m symbols [] some h s l = refl
none_beyond m symbols (q ∷ positions) some h s l =
    let below = reads_below m q symbols some h in
    let ne : get_or symbols q 0 ≢ s = omega (arith, below, l) in
    let test : (get_or symbols q 0 == s) ≡ false = grind (arith, ne) in
    ap (λ b. b || occurs symbols positions s) test ∙ none_beyond m symbols positions some h s l

count_numbers : (m : ℕ) (p : ℕ → Bool) → m ≤ 256 → ((s : ℕ) → m ≤ s → p s ≡ false) → count_by p (range_with_len 0 m) ≡ count_by p symbol_numbers
unfolding symbol_numbers
count_numbers m p l h = count_below p 0 m 256 l (λ s k. h s (omega arith))

-- ---- steps and marked states

one_or_none : {X : Type 0} (b : Bool) (x : X) → length (if b then x ∷ [] else []) ≡ one_if b
one_or_none true x = refl
one_or_none false x = refl

none_or_one : {X : Type 0} (b : Bool) (x : X) → length (if b then [] else x ∷ []) ≡ one_if (not b)
none_or_one true x = refl
none_or_one false x = refl

module _ (nfa : Automaton) where
  steps_counted : (m : ℕ) → 1 ≤ m → m ≤ 256 → All (λ s. s < m) nfa.symbols → (state : State)
      → length (steps_from m nfa state) ≡ symbol_count nfa.symbols (next_of nfa state)
  steps_counted m some few below state =
      count_pieces (step_at nfa state) (occurs nfa.symbols (next_of nfa state))
      (λ s. one_or_none (occurs nfa.symbols (next_of nfa state) s) (record { state = state; symbol = s })) (range_with_len 0 m)
      ∙ count_numbers m (occurs nfa.symbols (next_of nfa state)) few
      (none_beyond m nfa.symbols (next_of nfa state) some (recursion_from_All (λ s. s < m) nfa.symbols below))

  terms_counted : (m : ℕ) → 1 ≤ m → m ≤ 256 → All (λ s. s < m) nfa.symbols → length (steps m nfa) + length (marked_states nfa) ≡ term_count nfa
  terms_counted m some few below =
      omega (
        arith,
        sum_pieces (steps_from m nfa) (λ state. symbol_count nfa.symbols (next_of nfa state)) (steps_counted m some few below) (states nfa),
        count_pieces (marked_at nfa) (λ state. is_marked (mask_of nfa state)) (λ state. none_or_one (mask_of nfa state == 0) state) (states nfa),
      )

gates_counted : (c : ArrayCounts) (symbols : List NamedPattern) (going : List Step) (marked : List State)
    → length (term_gates c symbols going marked) ≡ length going + length marked
gates_counted c symbols going marked =
    let marks = mark_gate c (length going) marked in
    omega (
      arith,
      length-append (map (step_gate c symbols going) (range_with_len 0 (length going))) (map marks (range_with_len 0 (length marked))),
      length-map-range_with_len (step_gate c symbols going) 0 (length going),
      length-map-range_with_len marks 0 (length marked),
    )

pub registers_have_terms : (nfa : Automaton) (tables : Tables) → IsAutomaton nfa → IsSpecification tables → IsAutomatonOf (specification tables) nfa
    → All (λ s. s < length tables.symbols) nfa.symbols → HasTerms (specification tables) (length (registers_of nfa tables).terms)
registers_have_terms nfa tables is spec agrees below =
    let few = spec.few_symbols in
    let m = length tables.symbols in
    let count : term_count nfa ≡ length (registers_of nfa tables).terms =
    sym (gates_counted _ tables.symbols (steps m nfa) (marked_states nfa) ∙ terms_counted nfa m spec.some_symbols (omega (arith, few)) below) in
    subst (HasTerms (specification tables)) count
    (has_terms nfa (specification tables) is (λ k d lt. let l = below k d lt in omega (arith, l, few)) agrees)
