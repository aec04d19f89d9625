-- The entry with a number of the order stands at this number.
use Rattle.std.proofs.Common.{◌≡◌, ◌∙◌, ◌⊎◌, ℕ, zero, suc, ◌+◌, ◌<◌, ◌≤◌, true, false, nat_lt, ◌==◌, cond, Some, List, [], ◌∷◌, ◌++◌, length, take, drop, get_or, slice_get, count_by, sum_by, refl, sym, ap, subst, inl, inr, arith, length-take}
use Rattle.std.proofs.lemmas.Bool.{cases_lt, lt-ltb, le-ltb}
use Rattle.std.proofs.lemmas.Option.{slice_get-get_or}
use Rattle.std.proofs.lemmas.List.Sums.{get_or-le-sum_by}
use Rattle.star_normal.specs.Tables.{TreeTable, IsTree}
use Rattle.light_order.specs.Order.{light_first}
use Rattle.light_order.specs.Crossings.{number_of}
use Rattle.light_order.proofs.Uses.{upto, upto_hit, upto_ones}
use Rattle.light_order.proofs.Parts.{all_nodes, length_sum, split_at}
use Rattle.light_order.proofs.Places.{number_at}

-- none of the first numbers is beyond them
none_beyond : (m n : ℕ) → n ≤ m + 1 → upto (λ x. cond (nat_lt m x) 1 0) n ≡ 0
none_beyond m zero h = refl
none_beyond m (suc n) h = let f : nat_lt m n ≡ false = le-ltb m n (omega arith) in let g : cond (nat_lt m n) 1 0 ≡ 0 = zero_at f in omega (arith, g, none_beyond m n (omega arith))
  where
    zero_at : nat_lt m n ≡ false → ◌≡◌ {A = ℕ} (cond (nat_lt m n) 1 0) 0
    zero_at e = ap (λ b. cond b 1 0) e

one_at : (m x : ℕ) → m < x → ◌≡◌ {A = ℕ} (cond (nat_lt m x) 1 0) 1
one_at m x h = ap (λ b. cond b 1 0) (lt-ltb m x h)

module _ (table : TreeTable) (t : IsTree table) where
  long : length (light_first table) ≡ length table.nodes + 1
  long = length_sum (light_first table) ∙ all_nodes table t (λ x. 1) ∙ upto_ones (length table.nodes + 1)

  within_by : (i : ℕ) → i < length table.nodes + 1 → (length table.nodes < get_or (light_first table) i 0) ⊎ (get_or (light_first table) i 0 ≤ length table.nodes)
      → get_or (light_first table) i 0 ≤ length table.nodes
  within_by i h (inr le) = le
  within_by i h (inl gt) = absurd (omega (
    arith,
    one_at (length table.nodes) (get_or (light_first table) i 0) gt,
    get_or-le-sum_by (λ x. cond (nat_lt (length table.nodes) x) 1 0) (light_first table) i 0 (omega (arith, long)),
    all_nodes table t (λ x. cond (nat_lt (length table.nodes) x) 1 0),
    none_beyond (length table.nodes) (length table.nodes + 1) (omega arith),
  ))

  pub within : (i : ℕ) → i < length table.nodes + 1 → get_or (light_first table) i 0 ≤ length table.nodes
  within i h = within_by i h (cases_lt (length table.nodes) (get_or (light_first table) i 0))

  pub number_is : (i : ℕ) → i < length table.nodes + 1 → number_of (light_first table) (get_or (light_first table) i 0) ≡ Some i
  number_is i h =
      let v : ℕ = get_or (light_first table) i 0 in
      let w = within i h in
      let lt : i < length (light_first table) = omega (arith, long) in
      let whole : light_first table ≡ take i (light_first table) ++ get_or (light_first table) i 0 ∷ drop (suc i) (light_first table) =
      split_at (light_first table) i (get_or (light_first table) i 0) (slice_get-get_or (light_first table) i 0 lt) in
      let once : count_by (λ x. x == get_or (light_first table) i 0) (light_first table) ≡ 1 =
      all_nodes table t (λ x. cond (x == get_or (light_first table) i 0) 1 0) ∙ upto_hit (get_or (light_first table) i 0) (length table.nodes + 1) (omega arith) in
      let size : length (take i (light_first table)) ≡ i = omega (arith, length-take i (light_first table)) in
      subst (λ xs. number_of xs (get_or (light_first table) i 0) ≡ Some (length (take i (light_first table)))) (sym whole)
      (number_at (get_or (light_first table) i 0) (take i (light_first table)) (drop (suc i) (light_first table))
      (subst (λ xs. count_by (λ x. x == get_or (light_first table) i 0) xs ≡ 1) whole once))
      ∙ ap (λ n. Some n) size
