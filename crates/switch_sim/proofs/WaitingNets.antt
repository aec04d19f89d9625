-- Nets that begin and end to wait.
use Rattle.std.proofs.Common.{◌≡◌, ◌≢◌, ◌⊎◌, inl, inr, ℕ, zero, ◌<◌, ◌≤◌, ◌+◌, arith, Bool, true, false, cond, refl, sym, subst, ap, ◌∙◌, List, [], ◌∷◌, ◌++◌, length, take, get_or, get_or-set_same, get_or-set_other, length-set}
use Rattle.std.proofs.Math.ListN.{set}
use Rattle.std.proofs.lemmas.Bool.{cases_eq}
use Rattle.std.proofs.lemmas.List.{take_more, take_more_set}
use Rattle.std.proofs.lemmas.List.Sums.{sum_by-set, count_by-le-length}
use Rattle.std.specs.Prelude.{count_by}
use Rattle.switch_sim.specs.Waiting.{Waits, IsWaiting}

pub waits_more : (xs : List ℕ) (b a : ℕ) → Waits (xs ++ b ∷ []) a → (b ≡ a) ⊎ Waits xs a
waits_more [] b a (inl e) = inl e
waits_more [] b a (inr w) = absurd w
waits_more (x ∷ xs) b a (inl e) = inr (inl e)
waits_more (x ∷ xs) b a (inr w) = elim (waits_more xs b a w) [ inl e ↦ inl e | inr v ↦ inr (inr v) ]

pub waits_before : (xs : List ℕ) (b a : ℕ) → Waits xs a → Waits (xs ++ b ∷ []) a
waits_before [] b a w = absurd w
waits_before (x ∷ xs) b a (inl e) = inl e
waits_before (x ∷ xs) b a (inr w) = inr (waits_before xs b a w)

pub waits_last : (xs : List ℕ) (b : ℕ) → Waits (xs ++ b ∷ []) b
waits_last [] b = inl refl
waits_last (x ∷ xs) b = inr (waits_last xs b)

abbrev flagged : List Bool → ℕ
flagged flags = count_by (λ flag. flag) flags

-- one more flag
pub one_more : (flags : List Bool) (net : ℕ) → net < length flags → get_or flags net false ≡ false
    → flagged (set flags net true) ≡ flagged flags + 1
one_more flags net lt e =
    let total = sum_by-set (λ (flag : Bool). cond flag 1 0) flags net true false lt in
    let none : cond (get_or flags net false) 1 zero ≡ zero = rw e refl in
    omega (arith, total, none)

-- one flag less at most
pub one_less : (flags : List Bool) (net : ℕ) → net < length flags → flagged flags ≤ flagged (set flags net false) + 1
one_less flags net lt =
    let total = sum_by-set (λ (flag : Bool). cond flag 1 0) flags net false false lt in
    let most = at_most (get_or flags net false) in
    omega (arith, total, most)
  where
    at_most : (flag : Bool) → cond flag 1 0 ≤ 1
    at_most true = omega arith
    at_most false = omega arith

-- one net more waits
module _ (count : ℕ) (nets : List ℕ) (flags : List Bool) (queue : IsWaiting count nets flags) (net : ℕ) (lt : net < length flags)
    (free : get_or flags net false ≡ false) where
  pub has_room : count < length nets
  has_room =
      let more = one_more flags net lt free in
      let most = count_by-le-length (λ (flag : Bool). flag) (set flags net true) in
      let same = length-set flags net true in
      omega (arith, more, most, same, queue.room, queue.size)

  pub longer : take (count + 1) (set nets count net) ≡ take count nets ++ net ∷ []
  longer = take_more_set nets count net has_room

  pub added : IsWaiting (count + 1) (set nets count net) (set flags net true)
  added = record {
    size = length-set nets count net ∙ queue.size ∙ sym (length-set flags net true);
    room = let more = one_more flags net lt free in omega (arith, more, queue.room);
    below = λ i below. by_place i below (cases_eq i count);
    listed = λ other h. subst (λ ws. Waits ws other) (sym longer) (by_net other h (cases_eq other net));
  }
    where
      flags_size : length (set flags net true) ≡ length flags
      flags_size = length-set flags net true

      by_place : (i : ℕ) → i < count + 1 → (i ≡ count) ⊎ (i ≢ count) → get_or (set nets count net) i 0 < length (set flags net true)
      by_place i below (inl same) =
          let here : get_or (set nets count net) count 0 ≡ net = get_or-set_same nets count net 0 has_room in
          rw (same, here, flags_size) lt
      by_place i below (inr other) = rw (get_or-set_other nets count i net 0 other, flags_size) (queue.below i (omega arith))

      by_net : (other : ℕ) → get_or (set flags net true) other false ≡ true → (other ≡ net) ⊎ (other ≢ net) → Waits (take count nets ++ net ∷ []) other
      by_net other h (inl same) = subst (λ k. Waits (take count nets ++ net ∷ []) k) (sym same) (waits_last (take count nets) net)
      by_net other h (inr apart) = waits_before (take count nets) net other (queue.listed other (sym (get_or-set_other flags net other true false apart) ∙ h))

-- the last net waits no more
pub popped : (count : ℕ) (nets : List ℕ) (flags : List Bool) (last net : ℕ) → IsWaiting count nets flags → count ≡ last + 1 → net ≡ get_or nets last 0
    → IsWaiting last nets (set flags net false)
popped count nets flags last net queue one is = record {
  size = queue.size ∙ sym (length-set flags net false);
  room = let less = one_less flags net below_net in omega (arith, less, queue.room);
  below = λ i lt. rw (length-set flags net false) (queue.below i (omega arith));
  listed = λ other h. by_net other h (cases_eq other net);
}
  where
    below_net : net < length flags
    below_net = subst (λ k. k < length flags) (sym is) (queue.below last (omega arith))

    in_list : last < length nets
    in_list =
        let most = count_by-le-length (λ (flag : Bool). flag) flags in
        omega (arith, most, queue.room, queue.size)

    whole : take count nets ≡ take last nets ++ net ∷ []
    whole = ap (λ n. take n nets) one ∙ take_more nets last 0 in_list ∙ ap (λ k. take last nets ++ k ∷ []) (sym is)

    last_or : (other : ℕ) → other ≢ net → (net ≡ other) ⊎ Waits (take last nets) other → Waits (take last nets) other
    last_or other apart (inl same) = absurd (apart (sym same))
    last_or other apart (inr w) = w

    by_net : (other : ℕ) → get_or (set flags net false) other false ≡ true → (other ≡ net) ⊎ (other ≢ net) → Waits (take last nets) other
    by_net other h (inl same) =
        let unset : get_or (set flags net false) other false ≡ false =
        subst (λ k. get_or (set flags net false) k false ≡ false) (sym same) (get_or-set_same flags net false false below_net) in
        absurd (cc)
    by_net other h (inr apart) =
        last_or other apart (waits_more (take last nets) net other
        (subst (λ ws. Waits ws other) whole (queue.listed other (sym (get_or-set_other flags net other false false apart) ∙ h))))
