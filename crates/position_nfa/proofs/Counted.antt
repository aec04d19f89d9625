-- Counts of symbols and marks.
use Rattle.std.proofs.Common.{◌≡◌, ◌≢◌, ◌∙◌, ◌⊎◌, ℕ, zero, suc, ◌+◌, ◌<◌, Bool, true, false, ◌||◌, ◌==◌, cond, List, [], ◌∷◌, ◌++◌, length, map, take, get_or, set, count_by, sum_by, refl, sym, ap, subst, inl, inr, arith, get_or-set_other, get_or-set_same}
use Rattle.std.specs.List.{range_with_len, list_any}
use Rattle.std.proofs.lemmas.List.{take_more, take_all}
use Rattle.std.proofs.lemmas.List.Folds.{list_any-append}
use Rattle.std.proofs.lemmas.List.Sums.{sum_by-cons}
use Rattle.std.proofs.lemmas.Bool.{cases_eq}
use Rattle.rx_lang.specs.Positions.{State, start, scan_start, after}
use Rattle.position_nfa.specs.Automaton.{Automaton, IsAutomaton, next_of, mask_of}
use Rattle.position_nfa.specs.Terms.{states, occurs, symbol_numbers, symbol_count, is_marked, term_count}

or_true : (a : Bool) → (a || true) ≡ true
or_true true = refl
or_true false = refl

or_none : (a : Bool) → (a || false) ≡ a
or_none true = refl
or_none false = refl

set_flag : (flags : List Bool) (b s : ℕ) (a : Bool) → b < length flags → get_or flags s false ≡ a → (s ≡ b) ⊎ (s ≢ b) → get_or (set flags b true) s false ≡ (a || ((b == s) || false))
set_flag flags b s a h e (inl q) =
    let test : (b == s) ≡ true = grind (arith, q) in
    rw q (get_or-set_same flags b true false h) ∙ sym (ap (λ t. a || (t || false)) test ∙ or_true a)
set_flag flags b s a h e (inr ne) =
    let test : (b == s) ≡ false = grind (arith, ne) in
    get_or-set_other flags b s true false ne ∙ e ∙ sym (ap (λ t. a || (t || false)) test ∙ or_none a)

-- one more position
pub flag_next : (symbols positions : List ℕ) (i : ℕ) (flags : List Bool) (s : ℕ) → i < length positions → get_or symbols (get_or positions i 0) 0 < length flags
    → get_or flags s false ≡ occurs symbols (take i positions) s
    → get_or (set flags (get_or symbols (get_or positions i 0) 0) true) s false ≡ occurs symbols (take (i + 1) positions) s
flag_next symbols positions i flags s lt within e =
    set_flag flags (get_or symbols (get_or positions i 0) 0) s (occurs symbols (take i positions) s) within e (cases_eq s (get_or symbols (get_or positions i 0) 0))
    ∙ sym (ap (λ xs. occurs symbols xs s) (take_more positions i 0 lt) ∙ list_any-append (λ q. get_or symbols q 0 == s) (take i positions) (get_or positions i 0 ∷ []))

-- sums over numbers that read a list
pub sum_reads : {A : Type 0} (g : A → ℕ) (xs : List A) (d : A) (k : ℕ → ℕ) (a : ℕ) → ((i : ℕ) → i < length xs → k (a + i) ≡ g (get_or xs i d))
    → sum_by k (range_with_len a (length xs)) ≡ sum_by g xs
sum_reads g [] d k a h = refl
sum_reads g (x ∷ xs) d k a h =
    let rest = sum_reads g xs d k (a + 1) (λ i lt. ap k (let e : (a + 1) + i ≡ a + suc i = omega arith in e) ∙ h (suc i) (omega arith)) in
    let first : k a ≡ g x = ap k (let e : a ≡ a + 0 = omega arith in e) ∙ h 0 (omega arith) in
    omega (arith, sum_by-cons k a (range_with_len (a + 1) (length xs)), sum_by-cons g x xs, rest, first)

pub sum_mapped : {A B : Type 0} (g : B → ℕ) (f : A → B) (xs : List A) → sum_by g (map f xs) ≡ sum_by (λ x. g (f x)) xs
sum_mapped g f [] = refl
sum_mapped g f (x ∷ xs) = omega (arith, sum_by-cons g (f x) (map f xs), sum_by-cons (λ y. g (f y)) x xs, sum_mapped g f xs)

abbrev pub one_if : Bool → ℕ
one_if b = cond b 1 0

marks_sum : (ms : List ℕ) (n : ℕ) → length ms ≡ n + 1
    → one_if (is_marked (get_or ms 0 0)) + sum_by (λ p. one_if (is_marked (get_or ms (p + 1) 0))) (range_with_len 0 n) ≡ sum_by (λ m. one_if (is_marked m)) ms
marks_sum [] n h = absurd (omega arith)
marks_sum (m ∷ ms) n h =
    let size : length ms ≡ n = omega arith in
    let rest : sum_by (λ p. one_if (is_marked (get_or (m ∷ ms) (p + 1) 0))) (range_with_len 0 (length ms)) ≡ sum_by (λ x. one_if (is_marked x)) ms =
    sum_reads (λ x. one_if (is_marked x)) ms 0 (λ p. one_if (is_marked (get_or (m ∷ ms) (p + 1) 0))) 0
    (λ i lt. ap (λ j. one_if (is_marked (get_or (m ∷ ms) j 0))) (let e : (0 + i) + 1 ≡ suc i = omega arith in e)) in
    ap (λ k. one_if (is_marked m) + sum_by (λ p. one_if (is_marked (get_or (m ∷ ms) (p + 1) 0))) (range_with_len 0 k)) (sym size)
    ∙ ap (λ k. one_if (is_marked m) + k) rest ∙ sym (sum_by-cons (λ x. one_if (is_marked x)) m ms)

add_up : (a b c d e t u v p q r s0 s1 m0 m1 f n : ℕ) → a ≡ s0 → b ≡ s1 → c ≡ f → d ≡ n → e ≡ m1 → t ≡ s0 + u → u ≡ s1 + v → v ≡ f
    → p ≡ m0 + q → q ≡ m1 + r → m0 + r ≡ n → (a + b) + c + (d + e) ≡ t + p
add_up a b c d e t u v p q r s0 s1 m0 m1 f n ha hb hc hd he ht hu hv hp hq hn = omega arith

module _ (nfa : Automaton) (is : IsAutomaton nfa) where
  abbrev steps : State → ℕ
  steps state = symbol_count nfa.symbols (next_of nfa state)

  abbrev marks : State → ℕ
  marks state = one_if (is_marked (mask_of nfa state))

  abbrev numbers : List ℕ
  numbers = range_with_len 0 (length nfa.symbols)

  after_steps : sum_by steps (map (λ p. after p) numbers) ≡ sum_by (symbol_count nfa.symbols) nfa.follow
  after_steps =
      sum_mapped steps (λ p. after p) numbers
      ∙ ap (λ n. sum_by (λ p. steps (after p)) (range_with_len 0 n)) (sym is.follow_sized)
      ∙ sum_reads (symbol_count nfa.symbols) nfa.follow [] (λ p. steps (after p)) 0
      (λ i lt. ap (λ j. symbol_count nfa.symbols (get_or nfa.follow j [])) (let e : 0 + i ≡ i = omega arith in e))

  after_marks : one_if (is_marked (get_or nfa.marked 0 0)) + sum_by marks (map (λ p. after p) numbers) ≡ sum_by (λ m. one_if (is_marked m)) nfa.marked
  after_marks =
      ap (λ k. one_if (is_marked (get_or nfa.marked 0 0)) + k) (sum_mapped marks (λ p. after p) numbers)
      ∙ marks_sum nfa.marked (length nfa.symbols) is.marked_sized

  pub terms_sum : (a b c d e : ℕ) → a ≡ symbol_count nfa.symbols nfa.first → b ≡ symbol_count nfa.symbols nfa.scan_first
      → c ≡ sum_by (symbol_count nfa.symbols) nfa.follow → d ≡ count_by is_marked nfa.marked → e ≡ one_if (is_marked nfa.scan_marked)
      → (a + b) + c + (d + e) ≡ term_count nfa
  terms_sum a b c d e ha hb hc hd he =
      let rest : List State = map (λ p. after p) numbers in
      add_up a b c d e (sum_by steps (states nfa)) (sum_by steps (scan_start ∷ rest)) (sum_by steps rest)
      (sum_by marks (states nfa)) (sum_by marks (scan_start ∷ rest)) (sum_by marks rest)
      (steps start) (steps scan_start) (marks start) (marks scan_start) (sum_by (symbol_count nfa.symbols) nfa.follow) (sum_by (λ m. one_if (is_marked m)) nfa.marked)
      ha hb hc hd he (sum_by-cons steps start (scan_start ∷ rest)) (sum_by-cons steps scan_start rest) after_steps
      (sum_by-cons marks start (scan_start ∷ rest)) (sum_by-cons marks scan_start rest) after_marks

-- how many symbols are marked
pub flags_count : (n : ℕ) (p : ℕ → Bool) (flags : List Bool) → length flags ≡ n → ((s : ℕ) → s < n → get_or flags s false ≡ p s)
    → count_by (λ flag. flag) flags ≡ count_by p (range_with_len 0 n)
flags_count n p flags size each =
    sym (ap (λ k. sum_by (λ s. one_if (p s)) (range_with_len 0 k)) (sym size)
    ∙ sum_reads one_if flags false (λ s. one_if (p s)) 0
    (λ i lt. ap (λ j. one_if (p j)) (let e : 0 + i ≡ i = omega arith in e) ∙ ap one_if (sym (each i (omega arith)))))

pub symbols_count : (p : ℕ → Bool) (flags : List Bool) → length flags ≡ 256 → ((s : ℕ) → s < 256 → get_or flags s false ≡ p s)
    → count_by (λ flag. flag) flags ≡ count_by p symbol_numbers
unfolding symbol_numbers
symbols_count p flags size each = flags_count 256 p flags size each
