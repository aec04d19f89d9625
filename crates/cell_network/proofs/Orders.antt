-- The two orders of evaluation of the whole network of cells.
use Rattle.std.proofs.Common.{◌≡◌, ◌≢◌, ◌⊎◌, inl, inr, ℕ, zero, suc, ◌+◌, ◌-◌, ◌*◌, ◌<◌, ◌≤◌, List, [], ◌∷◌, ◌++◌, length, All, AllPairs, Contains, refl, ap, sym, ◌∙◌, arith, eq-eqb}
use Rattle.std.specs.List.{AllByRecursion, range_with_len}
use Rattle.std.proofs.lemmas.Bool.{ne_eqb, cases_eq, cases_lt}
use Rattle.std.proofs.lemmas.List.Elements.{All-from_recursion, Contains-append_left, Contains-append_right}
use Rattle.std.proofs.lemmas.List.FromFn.{length-range_with_len, get_or-range_with_len}
use Rattle.nor_net.specs.Netlist.{place}
use Rattle.cell_network.specs.declared.numbering.Counts.{Counts}
use Rattle.cell_network.specs.Home.{master_net, whole_nets}
use Rattle.cell_network.specs.Whole.{first_order, second_order}
use Rattle.cell_network.proofs.Ranges.{Pairs, all_pairs, each_append, pairs_append}
use Rattle.cell_network.proofs.Standing.{Before}

-- ---- ranges

place_here : (a n k : ℕ) (ys : List ℕ) → a ≤ k → k < a + n → place (range_with_len a n ++ ys) k ≡ k - a
place_here a zero k ys l lt = absurd (omega arith)
place_here a (suc n) k ys l lt =
    elim (cases_eq a k) [
      | inl e ↦ rw (eq-eqb a k e) (omega (arith, e))
      | inr ne ↦ rw (ne_eqb a k ne) (omega (arith, place_here (a + 1) n k ys (omega (arith, ne)) (omega arith), ne))
    ]

place_behind : (a n k : ℕ) (ys : List ℕ) → (k < a) ⊎ (a + n ≤ k) → place (range_with_len a n ++ ys) k ≡ n + place ys k
place_behind a zero k ys h = omega arith
place_behind a (suc n) k ys (inl lt) =
    rw (ne_eqb a k (λ e. omega (arith, e, lt))) (omega (arith, place_behind (a + 1) n k ys (inl (omega arith))))
place_behind a (suc n) k ys (inr le) =
    rw (ne_eqb a k (λ e. omega (arith, e, le))) (omega (arith, place_behind (a + 1) n k ys (inr (omega arith))))

append_nothing : (xs : List ℕ) → xs ++ [] ≡ xs
append_nothing [] = refl
append_nothing (x ∷ xs) = ap (λ (ys : List ℕ). x ∷ ys) (append_nothing xs)

range_each : (P : ℕ → Type 0) (a n : ℕ) → ((k : ℕ) → a ≤ k → k < a + n → P k) → AllByRecursion P (range_with_len a n)
range_each P a zero h = tt
range_each P a (suc n) h = (h a (omega arith) (omega arith), range_each P (a + 1) n (λ k l lt. h k (omega arith) (omega arith)))

range_distinct : (a n : ℕ) → Pairs (λ (x y : ℕ). x ≢ y) (range_with_len a n)
range_distinct a zero = tt
range_distinct a (suc n) = (range_each (λ y. a ≢ y) (a + 1) n (λ k l lt e. omega (arith, e, l)), range_distinct (a + 1) n)

range_contains : (a n k : ℕ) → a ≤ k → k < a + n → Contains (range_with_len a n) k
range_contains a n k l lt =
    let within : k - a < length (range_with_len a n) = omega (arith, length-range_with_len a n) in
    (k - a, within, get_or-range_with_len a n (k - a) k (omega arith) ∙ omega arith)

module _ (c : Counts) where
  -- ---- by number

  first_place : (k : ℕ) → k < whole_nets c → place (first_order c) k ≡ k
  first_place k lt = ap (λ (xs : List ℕ). place xs k) (sym (append_nothing (first_order c))) ∙ place_here 0 (whole_nets c) k [] (omega arith) (omega arith) ∙ omega arith

  pub first_below : All (λ net. net < whole_nets c) (first_order c)
  first_below = All-from_recursion (λ net. net < whole_nets c) (first_order c) (range_each (λ net. net < whole_nets c) 0 (whole_nets c) (λ k l lt. omega arith))

  pub first_distinct : AllPairs (λ (a b : ℕ). a ≢ b) (first_order c)
  first_distinct = all_pairs (λ (a b : ℕ). a ≢ b) (first_order c) (range_distinct 0 (whole_nets c))

  pub first_complete : (net : ℕ) → net < whole_nets c → Contains (first_order c) net
  first_complete net lt = range_contains 0 (whole_nets c) net (omega arith) (omega arith)

  pub first_rises : (a b : ℕ) → b < whole_nets c → a < b → place (first_order c) a < place (first_order c) b
  first_rises a b lt h = omega (arith, first_place a (omega arith), first_place b lt)

  -- ---- the storage nodes behind PHI1 first

  stored_place : (k : ℕ) → master_net c ≤ k → k < whole_nets c → place (second_order c) k ≡ k - master_net c
  stored_place k l lt = place_here (master_net c) (2 + 2 * c.nodes) k (range_with_len 0 (master_net c)) l (omega arith)

  other_place : (k : ℕ) → k < master_net c → place (second_order c) k ≡ 2 + 2 * c.nodes + k
  other_place k lt =
      place_behind (master_net c) (2 + 2 * c.nodes) k (range_with_len 0 (master_net c)) (inl lt)
      ∙ ap (λ (n : ℕ). 2 + 2 * c.nodes + n)
      (ap (λ (xs : List ℕ). place xs k) (sym (append_nothing (range_with_len 0 (master_net c)))) ∙ place_here 0 (master_net c) k [] (omega arith) (omega arith) ∙ omega arith)

  pub second_below : All (λ net. net < whole_nets c) (second_order c)
  second_below =
      All-from_recursion (λ net. net < whole_nets c) (second_order c)
      (each_append (λ net. net < whole_nets c) _ _
      (range_each (λ net. net < whole_nets c) (master_net c) (2 + 2 * c.nodes) (λ k l lt. omega arith))
      (range_each (λ net. net < whole_nets c) 0 (master_net c) (λ k l lt. omega arith)))

  pub second_distinct : AllPairs (λ (a b : ℕ). a ≢ b) (second_order c)
  second_distinct =
      all_pairs (λ (a b : ℕ). a ≢ b) (second_order c)
      (pairs_append (λ (a b : ℕ). a ≢ b) _ _ (range_distinct (master_net c) (2 + 2 * c.nodes)) (range_distinct 0 (master_net c))
      (range_each (λ a. AllByRecursion (λ b. a ≢ b) (range_with_len 0 (master_net c))) (master_net c) (2 + 2 * c.nodes)
      (λ a l lt. range_each (λ b. a ≢ b) 0 (master_net c) (λ b m k e. omega (arith, e, l, k)))))

  pub second_complete : (net : ℕ) → net < whole_nets c → Contains (second_order c) net
  second_complete net lt =
      elim (cases_lt net (master_net c)) [
        | inl low ↦
            Contains-append_right (range_with_len (master_net c) (2 + 2 * c.nodes)) (range_with_len 0 (master_net c)) net
            (range_contains 0 (master_net c) net (omega arith) (omega arith))
        | inr high ↦
            Contains-append_left (range_with_len (master_net c) (2 + 2 * c.nodes)) (range_with_len 0 (master_net c)) net
            (range_contains (master_net c) (2 + 2 * c.nodes) net high (omega arith))
      ]

  pub second_rises : (a b : ℕ) → b < whole_nets c → Before c a b → place (second_order c) a < place (second_order c) b
  second_rises a b lt (ab, inl low) =
      let al : a < master_net c = omega arith in
      omega (arith, ab, other_place a al, other_place b low)
  second_rises a b lt (ab, inr high) =
      let bh : master_net c ≤ b = omega arith in
      omega (arith, ab, high, stored_place a high (omega arith), stored_place b bh lt)

  -- a stored net stands before the others
  pub stored_first : (a b : ℕ) → master_net c ≤ a → a < whole_nets c → b < master_net c → place (second_order c) a < place (second_order c) b
  stored_first a b l lt low = omega (arith, stored_place a l lt, other_place b low)
