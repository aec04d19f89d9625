-- Lists in which each number stands as often: what they give, list by list, is the same up to order.
use Rattle.std.proofs.Common.{◌≡◌, inl, inr, ℕ, zero, suc, ◌+◌, ◌<◌, ◌≤◌, ◌==◌, Bool, true, false, cond, List, [], ◌∷◌, ◌++◌, IsPermutation, refl, sym, ap, subst, ◌∙◌, append_assoc, arith}
use Rattle.std.specs.Prelude.{flat_map}
use Rattle.std.specs.List.{range_with_len}
use Rattle.std.proofs.lemmas.Bool.{eqb-true, eq-eqb, cases_lt}
use Rattle.std.proofs.lemmas.List.Sorted.{IsPermutation-refl, IsPermutation-trans, IsPermutation-append, IsPermutation-append_comm}

-- how often a number stands in a list
pub times : ℕ → List ℕ → ℕ
times v [] = 0
times v (x ∷ xs) = cond (x == v) 1 0 + times v xs

pub times_append : (v : ℕ) (xs ys : List ℕ) → times v (xs ++ ys) ≡ times v xs + times v ys
unfolding times
times_append v [] ys = let e : times v ys ≡ 0 + times v ys = omega arith in e
times_append v (x ∷ xs) ys =
    let e = times_append v xs ys in
    let k : cond (x == v) 1 0 + times v (xs ++ ys) ≡ cond (x == v) 1 0 + times v xs + times v ys = omega arith in k

pub times_cons : (v x : ℕ) (xs : List ℕ) → times v (x ∷ xs) ≡ cond (x == v) 1 0 + times v xs
unfolding times
times_cons v x xs = refl

pub times_none : (v : ℕ) → times v [] ≡ 0
unfolding times
times_none v = refl

pub own_time : (x : ℕ) → ◌≡◌ {A = ℕ} (cond (x == x) 1 0) 1
own_time x = rw (eq-eqb x x refl) refl

pub other_time : (x v : ℕ) → (x ≡ v → ⊥) → ◌≡◌ {A = ℕ} (cond (x == v) 1 0) 0
other_time x v ne = by (x == v) refl
  where
    by : (b : Bool) → (x == v) ≡ b → ◌≡◌ {A = ℕ} (cond b 1 0) 0
    by true e = absurd (ne (eqb-true x v e))
    by false e = refl

-- where a number stands
pub record Splits (v : ℕ) (xs : List ℕ) : Type 0 where
  pub before : List ℕ
  pub after : List ℕ
  pub whole : xs ≡ before ++ v ∷ after

pub splits : (v : ℕ) (xs : List ℕ) → 0 < times v xs → Splits v xs
splits v [] h = absurd (let none = times_none v in omega arith)
splits v (x ∷ xs) h =
    elim (x == v) as (λ b. (x == v) ≡ b → Splits v (x ∷ xs)) [
      | true ↦ λ e. record { before = []; after = xs; whole = ap (λ y. y ∷ xs) (eqb-true x v e) }
      | false ↦ λ e.
          let none : ◌≡◌ {A = ℕ} (cond (x == v) 1 0) 0 = ap (λ (b : Bool). cond b 1 0) e in
          let all = times_cons v x xs in
          let s = splits v xs (omega arith) in
          record { before = x ∷ s.before; after = s.after; whole = ap (λ l. x ∷ l) s.whole }
    ] refl

flat_append : {X : Type 0} (f : ℕ → List X) (xs ys : List ℕ) → flat_map f (xs ++ ys) ≡ flat_map f xs ++ flat_map f ys
flat_append f [] ys = refl
flat_append f (x ∷ xs) ys = ap (λ l. f x ++ l) (flat_append f xs ys) ∙ sym (append_assoc (f x) (flat_map f xs) (flat_map f ys))

pub flat_flat : {X : Type 0} (f : ℕ → List X) (g : ℕ → List ℕ) (xs : List ℕ) → flat_map f (flat_map g xs) ≡ flat_map (λ x. flat_map f (g x)) xs
flat_flat f g [] = refl
flat_flat f g (x ∷ xs) = flat_append f (g x) (flat_map g xs) ∙ ap (λ l. flat_map f (g x) ++ l) (flat_flat f g xs)

pub flat_same : {X : Type 0} (f g : ℕ → List X) (xs : List ℕ) → ((x : ℕ) → f x ≡ g x) → flat_map f xs ≡ flat_map g xs
flat_same f g [] same = refl
flat_same f g (x ∷ xs) same = ap (λ l. l ++ flat_map f xs) (same x) ∙ ap (λ l. g x ++ l) (flat_same f g xs same)

pub gathered : {X : Type 0} (f : ℕ → List X) (xs ys : List ℕ) → ((v : ℕ) → times v xs ≡ times v ys) → IsPermutation (flat_map f xs) (flat_map f ys)
gathered f [] [] same = IsPermutation-refl []
gathered f [] (y ∷ ys) same = absurd (let one = own_time y in let all = times_cons y y ys in let e = same y in let none = times_none y in omega arith)
gathered {X} f (x ∷ xs) ys same =
    let one = own_time x in
    let all = times_cons x x xs in
    let e = same x in
    let s = splits x ys (omega arith) in
    let rest : (v : ℕ) → times v xs ≡ times v (s.before ++ s.after) =
    λ v.
    let a = times_cons v x xs in
    let b = same v ∙ ap (times v) s.whole ∙ times_append v s.before (x ∷ s.after) in
    let d = times_cons v x s.after in
    let k = times_append v s.before s.after in
    omega arith in
    let tail = gathered f xs (s.before ++ s.after) rest in
    let parted = subst (IsPermutation (flat_map f xs)) (flat_append f s.before s.after) tail in
    let bs = flat_map f s.before in
    let cs = flat_map f s.after in
    let front : IsPermutation (f x ++ flat_map f xs) (f x ++ (bs ++ cs)) = IsPermutation-append (f x) (f x) _ _ (IsPermutation-refl (f x)) parted in
    let moved : IsPermutation ((f x ++ bs) ++ cs) ((bs ++ f x) ++ cs) =
    IsPermutation-append (f x ++ bs) (bs ++ f x) cs cs (IsPermutation-append_comm (f x) bs) (IsPermutation-refl cs) in
    let there : (bs ++ f x) ++ cs ≡ flat_map f ys =
    append_assoc bs (f x) cs ∙ sym (ap (flat_map f) s.whole ∙ flat_append f s.before (x ∷ s.after)) in
    IsPermutation-trans _ _ _ front (subst (λ l. IsPermutation l (flat_map f ys)) (append_assoc (f x) bs cs) (subst (IsPermutation
    ((f x ++ bs) ++ cs)) there moved))

-- ---- in ranges

pub range_times_out : (v a n : ℕ) → v < a → times v (range_with_len a n) ≡ 0
range_times_out v a zero lt = times_none v
range_times_out v a (suc n) lt =
    let all = times_cons v a (range_with_len (a + 1) n) in
    let off = other_time a v (λ e. omega arith) in
    let rest = range_times_out v (a + 1) n (omega arith) in
    omega arith

pub range_times_in : (v a n : ℕ) → a ≤ v → v < a + n → times v (range_with_len a n) ≡ 1
range_times_in v a zero low high = absurd (omega arith)
range_times_in v a (suc n) low high = elim (cases_lt a v) as (λ _. times v (range_with_len a (suc n)) ≡ 1) [
  | inl lt ↦
      let all = times_cons v a (range_with_len (a + 1) n) in
      let off = other_time a v (λ e. omega arith) in
      let rest = range_times_in v (a + 1) n (omega arith) (omega arith) in
      omega arith
  | inr le ↦
      let same : a ≡ v = omega arith in
      let all = times_cons v a (range_with_len (a + 1) n) in
      let on : ◌≡◌ {A = ℕ} (cond (a == v) 1 0) 1 = rw (eq-eqb a v same) refl in
      let rest = range_times_out v (a + 1) n (omega arith) in
      omega arith
]

pub range_times_above : (v a n : ℕ) → a + n ≤ v → times v (range_with_len a n) ≡ 0
range_times_above v a zero low = times_none v
range_times_above v a (suc n) low =
    let all = times_cons v a (range_with_len (a + 1) n) in
    let off = other_time a v (λ e. omega arith) in
    let rest = range_times_above v (a + 1) n (omega arith) in
    omega arith

-- what stands nowhere in these lists, and what stands once, in one of them
pub nowhere : (v : ℕ) (f : ℕ → List ℕ) (a n : ℕ) → ((k : ℕ) → a ≤ k → k < a + n → times v (f k) ≡ 0) → times v (flat_map f (range_with_len a n)) ≡ 0
nowhere v f a zero none = times_none v
nowhere v f a (suc n) none =
    let all = times_append v (f a) (flat_map f (range_with_len (a + 1) n)) in
    let first = none a (omega arith) (omega arith) in
    let rest = nowhere v f (a + 1) n (λ k low high. none k (omega arith) (omega arith)) in
    omega arith

pub once_in : (v : ℕ) (f : ℕ → List ℕ) (a n at : ℕ) → a ≤ at → at < a + n → times v (f at) ≡ 1
    → ((k : ℕ) → (k ≡ at → ⊥) → times v (f k) ≡ 0) → times v (flat_map f (range_with_len a n)) ≡ 1
once_in v f a zero at low high one none = absurd (omega arith)
once_in v f a (suc n) at low high one none = elim (cases_lt a at) as (λ _. times v (flat_map f (range_with_len a (suc n))) ≡ 1) [
  | inl lt ↦
      let all = times_append v (f a) (flat_map f (range_with_len (a + 1) n)) in
      let first = none a (λ e. omega arith) in
      let rest = once_in v f (a + 1) n at (omega arith) (omega arith) one none in
      omega arith
  | inr le ↦
      let same : at ≡ a = omega arith in
      let all = times_append v (f a) (flat_map f (range_with_len (a + 1) n)) in
      let first : times v (f a) ≡ 1 = subst (λ x. times v (f x) ≡ 1) same one in
      let rest = nowhere v f (a + 1) n (λ k from to. none k (λ e. omega arith)) in
      omega arith
]
