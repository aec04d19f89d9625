-- Lists that are made over ranges of numbers.
use Rattle.std.proofs.Common.{◌≡◌, ℕ, zero, suc, ◌+◌, ◌<◌, ◌≤◌, inl, inr, List, [], ◌++◌, map, All, IsPermutation, refl, sym, ap, ◌∙◌, subst, arith, append_assoc}
use Rattle.std.specs.List.{range_with_len, flat_map}
use Rattle.std.proofs.lemmas.Bool.{cases_eq, cases_lt}
use Rattle.std.proofs.lemmas.List.{append-nil, map-append}
use Rattle.std.proofs.lemmas.List.Elements.{All-nil, All-append}
use Rattle.std.proofs.lemmas.List.Sorted.{IsPermutation-refl, IsPermutation-trans, IsPermutation-append, IsPermutation-append_comm}
use Rattle.nmos_model.specs.Lists.{Matched}
use Rattle.stick_grid.proofs.MatchedLists.{matched_append}

module _ {X : Type 0} (f : ℕ → ℕ → List X) where
  -- a column more
  split : (g h : ℕ → List X) (a n : ℕ)
      → IsPermutation (flat_map (λ k. g k ++ h k) (range_with_len a n)) (flat_map g (range_with_len a n) ++ flat_map h (range_with_len a n))
  split g h a zero = IsPermutation-refl []
  split g h a (suc n) =
      let gs = flat_map g (range_with_len (a + 1) n) in
      let hs = flat_map h (range_with_len (a + 1) n) in
      let both = flat_map (λ k. g k ++ h k) (range_with_len (a + 1) n) in
      let rest = IsPermutation-append (g a ++ h a) (g a ++ h a) both (gs ++ hs) (IsPermutation-refl (g a ++ h a)) (split g h (a + 1) n) in
      let left : g a ++ ((h a ++ gs) ++ hs) ≡ (g a ++ h a) ++ (gs ++ hs) = simp append_assoc in
      let right : g a ++ ((gs ++ h a) ++ hs) ≡ (g a ++ gs) ++ (h a ++ hs) = simp append_assoc in
      let swap = IsPermutation-append (g a) (g a) ((h a ++ gs) ++ hs) ((gs ++ h a) ++ hs) (IsPermutation-refl (g a))
      (IsPermutation-append (h a ++ gs) (gs ++ h a) hs hs (IsPermutation-append_comm (h a) gs) (IsPermutation-refl hs)) in
      IsPermutation-trans ((g a ++ h a) ++ both) ((g a ++ h a) ++ (gs ++ hs)) ((g a ++ gs) ++ (h a ++ hs)) rest
      (subst (λ l. IsPermutation l ((g a ++ gs) ++ (h a ++ hs))) left (subst (IsPermutation (g a ++ ((h a ++ gs) ++ hs))) right swap))

  pub exchanged : (a m b n : ℕ)
      → IsPermutation (flat_map (λ r. flat_map (f r) (range_with_len b n)) (range_with_len a m))
      (flat_map (λ c. flat_map (λ r. f r c) (range_with_len a m)) (range_with_len b n))
  exchanged a m b zero = subst (λ l. IsPermutation l []) (sym (none a m)) (IsPermutation-refl [])
    where
      none : (x y : ℕ) → flat_map (λ r. flat_map (f r) (range_with_len b 0)) (range_with_len x y) ≡ []
      none x zero = refl
      none x (suc y) = none (x + 1) y
  exchanged a m b (suc n) =
      let first = λ (r : ℕ). f r b in
      let others = λ (r : ℕ). flat_map (f r) (range_with_len (b + 1) n) in
      let column = flat_map first (range_with_len a m) in
      IsPermutation-trans (flat_map (λ r. first r ++ others r) (range_with_len a m)) (column ++ flat_map others (range_with_len a m))
      (column ++ flat_map (λ c. flat_map (λ r. f r c) (range_with_len a m)) (range_with_len (b + 1) n)) (split first others a m)
      (IsPermutation-append column column _ _ (IsPermutation-refl column) (exchanged a m (b + 1) n))

pub map_flat : {X Y : Type 0} (g : X → Y) (f : ℕ → List X) (a n : ℕ)
    → map g (flat_map f (range_with_len a n)) ≡ flat_map (λ k. map g (f k)) (range_with_len a n)
map_flat g f a zero = refl
map_flat g f a (suc n) = map-append g (f a) (flat_map f (range_with_len (a + 1) n)) ∙ ap (λ l. map g (f a) ++ l) (map_flat g f (a + 1) n)

pub flat_permuted : {X : Type 0} (f g : ℕ → List X) (a n : ℕ) → ((k : ℕ) → k < a + n → IsPermutation (f k) (g k))
    → IsPermutation (flat_map f (range_with_len a n)) (flat_map g (range_with_len a n))
flat_permuted f g a zero each = IsPermutation-refl []
flat_permuted f g a (suc n) each =
    IsPermutation-append (f a) (g a) _ _ (each a (omega arith)) (flat_permuted f g (a + 1) n (λ k below. each k (omega arith)))

-- nothing but what one place of the range has
pub flat_single : {X : Type 0} (f : ℕ → List X) (a n place : ℕ) → a ≤ place → place < a + n → ((k : ℕ) → (k ≡ place → ⊥) → f k ≡ [])
    → flat_map f (range_with_len a n) ≡ f place
flat_single f a zero place from below others = absurd (omega arith)
flat_single f a (suc n) place from below others = elim (cases_eq a place) [
  | inl e ↦
      ap (λ l. f a ++ l) (none (a + 1) n (omega arith)) ∙ append-nil (f a) ∙ ap f e
  | inr h ↦
      ap (λ l. l ++ flat_map f (range_with_len (a + 1) n)) (others a h)
      ∙ flat_single f (a + 1) n place (omega (arith, h)) (omega arith) others
]
  where
    none : (b m : ℕ) → place < b → flat_map f (range_with_len b m) ≡ []
    none b zero past = refl
    none b (suc m) past =
        ap (λ l. l ++ flat_map f (range_with_len (b + 1) m)) (others b (λ e. omega arith)) ∙ none (b + 1) m (omega arith)

pub flat_none : {X : Type 0} (f : ℕ → List X) (a n : ℕ) → ((k : ℕ) → a ≤ k → k < a + n → f k ≡ []) → flat_map f (range_with_len a n) ≡ []
flat_none f a zero each = refl
flat_none f a (suc n) each =
    ap (λ l. l ++ flat_map f (range_with_len (a + 1) n)) (each a (omega arith) (omega arith))
    ∙ flat_none f (a + 1) n (λ k from below. each k (omega arith) (omega arith))

-- a range that begins later, counted from there
shifted : {X : Type 0} (f : ℕ → List X) (from b x y d : ℕ) → b ≡ from + d → y ≤ x → ((k : ℕ) → b + y ≤ k → k < b + x → f k ≡ [])
    → flat_map f (range_with_len b x) ≡ flat_map (λ k. f (from + k)) (range_with_len d y)
shifted f from b x zero d e fits past = flat_none f b x (λ k is_from is_to. past k (omega arith) is_to)
shifted f from b zero (suc y) d e fits past = absurd (omega arith)
shifted f from b (suc x) (suc y) d e fits past =
    ap (λ l. l ++ flat_map f (range_with_len (b + 1) x)) (ap f e)
    ∙ ap (λ l. f (from + d) ++ l) (shifted f from (b + 1) x y (d + 1) (omega arith) (omega arith) (λ k h high. past k (omega arith) (omega arith)))

-- nothing but what this part of the range has, counted from its beginning
pub flat_part : {X : Type 0} (f : ℕ → List X) (a n from m : ℕ) → a ≤ from → from + m ≤ a + n → ((k : ℕ) → k < from → f k ≡ [])
    → ((k : ℕ) → from + m ≤ k → k < a + n → f k ≡ []) → flat_map f (range_with_len a n) ≡ flat_map (λ k. f (from + k)) (range_with_len 0 m)
flat_part f a zero from m low high before after = shifted f from a zero m 0 (omega arith) (omega arith) (λ k h below. absurd (omega arith))
flat_part f a (suc n) from m low high before after = elim (cases_lt a from) [
  | inl h ↦
      ap (λ l. l ++ flat_map f (range_with_len (a + 1) n)) (before a h)
      ∙ flat_part f (a + 1) n from m (omega arith) (omega arith) before (λ k is_from is_to. after k is_from (omega arith))
  | inr h ↦ shifted f from a (suc n) m 0 (omega arith) (omega arith) (λ k is_from is_to. after k (omega arith) is_to)
]

pub all_flat : {X : Type 0} (P : X → Type 0) (f : ℕ → List X) (a n : ℕ) → ((k : ℕ) → k < a + n → All P (f k))
    → All P (flat_map f (range_with_len a n))
all_flat P f a zero each = All-nil P
all_flat P f a (suc n) each =
    All-append P (f a) (flat_map f (range_with_len (a + 1) n)) (each a (omega arith)) (all_flat P f (a + 1) n (λ k below. each k (omega arith)))

pub matched_flat : {X Y : Type 0} (R : X → Y → Type 0) (f : ℕ → List X) (g : ℕ → List Y) (a n : ℕ) → ((k : ℕ) → k < a + n → Matched R (f k) (g k))
    → Matched R (flat_map f (range_with_len a n)) (flat_map g (range_with_len a n))
matched_flat R f g a zero each = tt
matched_flat R f g a (suc n) each =
    matched_append R (f a) (flat_map f (range_with_len (a + 1) n)) (g a) (flat_map g (range_with_len (a + 1) n)) (each a (omega arith))
    (matched_flat R f g (a + 1) n (λ k below. each k (omega arith)))
