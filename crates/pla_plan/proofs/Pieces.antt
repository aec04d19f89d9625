-- What holds of every element of lists that are made of pieces, and of every two.
use Rattle.std.specs.Prelude.{flat_map, ⊤}
use Rattle.std.proofs.Common.{◌≡◌, ℕ, zero, suc, ◌+◌, ◌*◌, ◌<◌, ◌≤◌, Bool, true, false, if◌then◌else◌, List, [], ◌∷◌, ◌++◌, map, length, get_or, AllPairs, append_assoc, sym, ap, ◌∙◌, arith, length-append}
use Rattle.std.specs.List.{AllByRecursion, range_with_len}
use Rattle.std.proofs.lemmas.List.{append-nil}
use Rattle.std.proofs.lemmas.List.Elements.{All-from_recursion}

module _ {X : Type 0} (P : X → Type 0) where
  pub each_append : (xs ys : List X) → AllByRecursion P xs → AllByRecursion P ys → AllByRecursion P (xs ++ ys)
  each_append [] ys h k = k
  each_append (x ∷ xs) ys h k = (h.0, each_append xs ys h.1 k)

  pub each_map : {W : Type 0} (f : W → X) (ws : List W) → AllByRecursion (λ w. P (f w)) ws → AllByRecursion P (map f ws)
  each_map f [] h = tt
  each_map f (w ∷ ws) h = (h.0, each_map f ws h.1)

  pub each_range : (f : ℕ → X) (a n : ℕ) → ((k : ℕ) → a ≤ k → k < a + n → P (f k)) → AllByRecursion P (map f (range_with_len a n))
  each_range f a zero h = tt
  each_range f a (suc n) h = (h a (omega arith) (omega arith), each_range f (a + 1) n (λ k l lt. h k (omega arith) (omega arith)))

  pub each_piece : (f : ℕ → List X) (a n : ℕ) → ((k : ℕ) → a ≤ k → k < a + n → AllByRecursion P (f k))
      → AllByRecursion P (flat_map f (range_with_len a n))
  each_piece f a zero h = tt
  each_piece f a (suc n) h =
      each_append (f a) (flat_map f (range_with_len (a + 1) n)) (h a (omega arith) (omega arith))
      (each_piece f (a + 1) n (λ k l lt. h k (omega arith) (omega arith)))

  pub each_weaker : (Q : X → Type 0) → ((x : X) → P x → Q x) → (xs : List X) → AllByRecursion P xs → AllByRecursion Q xs
  each_weaker Q f [] h = tt
  each_weaker Q f (x ∷ xs) h = (f x h.0, each_weaker Q f xs h.1)

  -- what holds of each element and of what is read behind them, holds of what is read anywhere
  pub each_read : (xs : List X) (k : ℕ) (d : X) → AllByRecursion P xs → P d → P (get_or xs k d)
  each_read [] k d h e = e
  each_read (x ∷ xs) zero d h e = h.0
  each_read (x ∷ xs) (suc k) d h e = each_read xs k d h.1 e

-- what holds of elements with P and elements with Q holds of each of the one list and each of the other
pub each_across : {X : Type 0} (P Q : X → Type 0) (R : X → X → Type 0) → ((a b : X) → P a → Q b → R a b) → (xs ys : List X)
    → AllByRecursion P xs → AllByRecursion Q ys → AllByRecursion (λ a. AllByRecursion (R a) ys) xs
each_across P Q R f [] ys h k = tt
each_across P Q R f (x ∷ xs) ys h k = (each_weaker Q (R x) (λ b q. f x b h.0 q) ys k, each_across P Q R f xs ys h.1 k)

-- ---- every two

-- R holds of each element and each later one, by recursion
abbrev pub Pairs : {X : Type 0} → (X → X → Type 0) → List X → Type 0
Pairs R [] = ⊤
Pairs R (x ∷ xs) = AllByRecursion (R x) xs × Pairs R xs

module _ {X : Type 0} (R : X → X → Type 0) where
  pub all_pairs : (xs : List X) → Pairs R xs → AllPairs R xs
  all_pairs [] h i j d l lt = absurd (omega (arith, lt))
  all_pairs (x ∷ xs) h zero zero d l lt = absurd (omega (arith, l))
  all_pairs (x ∷ xs) h zero (suc j) d l lt = All-from_recursion (R x) xs h.0 j d (omega (arith, lt))
  all_pairs (x ∷ xs) h (suc i) zero d l lt = absurd (omega (arith, l))
  all_pairs (x ∷ xs) h (suc i) (suc j) d l lt = all_pairs xs h.1 i j d (omega (arith, l)) (omega (arith, lt))

  pub pairs_append : (xs ys : List X) → Pairs R xs → Pairs R ys → AllByRecursion (λ x. AllByRecursion (R x) ys) xs → Pairs R (xs ++ ys)
  pairs_append [] ys h k across = k
  pairs_append (x ∷ xs) ys h k across = (each_append (R x) xs ys h.0 across.0, pairs_append xs ys h.1 k across.1)

  pub pairs_range : (f : ℕ → X) (a n : ℕ) → ((i j : ℕ) → a ≤ i → i < j → j < a + n → R (f i) (f j)) → Pairs R (map f (range_with_len a n))
  pairs_range f a zero h = tt
  pairs_range f a (suc n) h = (
    each_range (R (f a)) f (a + 1) n (λ k l lt. h a k (omega arith) (omega arith) (omega arith)),
    pairs_range f (a + 1) n (λ i j l m lt. h i j (omega arith) m (omega arith)),
  )

  pub pairs_map : {W : Type 0} (f : W → X) (ws : List W) → Pairs (λ a b. R (f a) (f b)) ws → Pairs R (map f ws)
  pairs_map f [] h = tt
  pairs_map f (w ∷ ws) h = (each_map (R (f w)) f ws h.0, pairs_map f ws h.1)

  pub pairs_pieces : (f : ℕ → List X) (a n : ℕ) → ((k : ℕ) → a ≤ k → k < a + n → Pairs R (f k))
      → ((i j : ℕ) → a ≤ i → i < j → j < a + n → AllByRecursion (λ x. AllByRecursion (R x) (f j)) (f i))
      → Pairs R (flat_map f (range_with_len a n))
  pairs_pieces f a zero own across = tt
  pairs_pieces f a (suc n) own across =
      pairs_append (f a) (flat_map f (range_with_len (a + 1) n)) (own a (omega arith) (omega arith))
      (pairs_pieces f (a + 1) n (λ k l lt. own k (omega arith) (omega arith)) (λ i j l m lt. across i j (omega arith) m (omega arith)))
      (behind (f a) (λ k l lt. across a k (omega arith) (omega arith) (omega arith)))
    where
      behind : (xs : List X) → ((k : ℕ) → a + 1 ≤ k → k < a + 1 + n → AllByRecursion (λ x. AllByRecursion (R x) (f k)) xs)
          → AllByRecursion (λ x. AllByRecursion (R x) (flat_map f (range_with_len (a + 1) n))) xs
      behind [] h = tt
      behind (x ∷ xs) h = (
        each_piece (R x) f (a + 1) n (λ k l lt. (h k l lt).0),
        behind xs (λ k l lt. (h k l lt).1),
      )

-- ---- numbers that are chosen or not, and how many pieces have

-- the number, if it is chosen
abbrev pub chosen : Bool → ℕ → List ℕ
chosen b net = if b then net ∷ [] else []

pub each_chosen : (P : ℕ → Type 0) (b : Bool) (net : ℕ) → P net → AllByRecursion P (chosen b net)
each_chosen P true net h = (h, tt)
each_chosen P false net h = tt

pub pairs_chosen : (R : ℕ → ℕ → Type 0) (b : Bool) (net : ℕ) → Pairs R (chosen b net)
pairs_chosen R true net = (tt, tt)
pairs_chosen R false net = tt

pub few_pieces : {X : Type 0} (f : ℕ → List X) (most a n : ℕ) → ((k : ℕ) → length (f k) ≤ most) → length (flat_map f (range_with_len a n)) ≤ most * n
few_pieces f most a zero h = omega arith
few_pieces f most a (suc n) h =
    let l = h a in
    let m = few_pieces f most (a + 1) n h in
    omega (arith, l, m, length-append (f a) (flat_map f (range_with_len (a + 1) n)))

-- one piece more
pub piece_more : {X : Type 0} (f : ℕ → List X) (a n j : ℕ) → a + n ≡ j → flat_map f (range_with_len a (n + 1)) ≡ flat_map f (range_with_len a n) ++ f j
piece_more f a zero j e = append-nil (f a) ∙ ap f (let same : a ≡ j = omega arith in same)
piece_more f a (suc n) j e =
    let next : suc n + 1 ≡ suc (n + 1) = omega arith in
    let there : a + 1 + n ≡ j = omega arith in
    ap (λ m. flat_map f (range_with_len a m)) next
    ∙ ap (λ l. f a ++ l) (piece_more f (a + 1) n j there)
    ∙ sym (append_assoc (f a) (flat_map f (range_with_len (a + 1) n)) (f j))
