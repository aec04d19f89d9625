-- Lists with as many of each element are one another in another order.
use Rattle.std.specs.Prelude.{flat_map}
use Rattle.std.proofs.Common.{◌≡◌, ◌≢◌, ◌⊎◌, inl, inr, ℕ, zero, suc, ◌+◌, ◌<◌, ◌≤◌, ◌==◌, ◌&&◌, Bool, true, false, cond, List, [], ◌∷◌, ◌++◌, length, get_or, filter, count_by, sum_by, IsPermutation, refl, ap, sym, ◌∙◌, arith, eq-eqb, eqb-true}
use Rattle.std.specs.List.{AllByRecursion, remove, list_any, range_with_len}
use Rattle.std.proofs.lemmas.Bool.{ne_eqb, cases_Bool, cases_eq, and_parts}
use Rattle.std.proofs.lemmas.List.Sums.{sum_by-cons, sum_by-append, sum_by-remove}
use Rattle.std.proofs.lemmas.List.Sorted.{IsPermutation-refl, IsPermutation-sym, IsPermutation-trans, IsPermutation-cons, IsPermutation-remove}
use Rattle.switch_net.specs.declared.network.Net.{Net}
use Rattle.switch_net.specs.declared.network.Device.{Device}
use Rattle.switch_net.specs.declared.network.Device.TheVariants.{Pass, Load}
use Rattle.cell_network.proofs.Ranges.{Pairs}

module _ {A : Type 0} (eq : A → A → Bool) (own : (x : A) → eq x x ≡ true) (is : (x y : A) → eq x y ≡ true → x ≡ y) where
  -- where an element stands
  record Found (x : A) (ys : List A) : Type 0 where
    at : ℕ
    within : at < length ys
    stands : x ≡ get_or ys at x

  found : (x : A) (ys : List A) → 1 ≤ count_by (eq x) ys → Found x ys
  found x [] h = absurd (omega (arith, h))
  found x (y ∷ ys) h = by (eq x y) refl (found x ys)
    where
      by : (b : Bool) → eq x y ≡ b → (1 ≤ count_by (eq x) ys → Found x ys) → Found x (y ∷ ys)
      by true e rec = record { at = 0; within = omega arith; stands = is x y e }
      by false e rec =
          let n : ◌≡◌ {A = ℕ} (cond (eq x y) 1 0) 0 = ap {B = ℕ} (λ b. cond b 1 0) e in
          let r = rec (omega (arith, h, n, sum_by-cons (λ z. cond (eq x z) 1 0) y ys)) in
          record { at = suc r.at; within = omega (arith, r.within); stands = r.stands }

  pub permuted : (xs ys : List A) → ((x : A) → count_by (eq x) xs ≡ count_by (eq x) ys) → IsPermutation xs ys
  permuted [] [] h = IsPermutation-refl []
  permuted [] (y ∷ ys) h =
      let one : ◌≡◌ {A = ℕ} (cond (eq y y) 1 0) 1 = ap {B = ℕ} (λ b. cond b 1 0) (own y) in
      absurd (omega (arith, h y, one, sum_by-cons (λ z. cond (eq y z) 1 0) y ys))
  permuted (x ∷ xs) ys h =
      let one : ◌≡◌ {A = ℕ} (cond (eq x x) 1 0) 1 = ap {B = ℕ} (λ b. cond b 1 0) (own x) in
      let f = found x ys (omega (arith, h x, sum_by-cons (λ y. cond (eq x y) 1 0) x xs, one)) in
      IsPermutation-trans _ _ _
      (IsPermutation-cons x xs (remove ys f.at)
      (permuted xs (remove ys f.at)
      (λ z.
      omega (arith, h z, sum_by-cons (λ y. cond (eq z y) 1 0) x xs, sum_by-remove (λ y. cond (eq z y) 1 0) ys f.at x f.within, ap {B = ℕ} (λ y. cond (eq z y) 1 0) f.stands))))
      (IsPermutation-sym _ _ (IsPermutation-remove ys f.at x f.within f.stands))

-- ---- devices

abbrev pub device_eq : Device → Device → Bool
device_eq (Pass g a b) (Pass h x y) = (g.0 == h.0) && ((a.0 == x.0) && (b.0 == y.0))
device_eq (Pass g a b) (Load n) = false
device_eq (Load m) (Pass h x y) = false
device_eq (Load m) (Load n) = m.0 == n.0

pub device_own : (d : Device) → device_eq d d ≡ true
device_own (Pass g a b) = rw (eq-eqb g.0 g.0 refl, eq-eqb a.0 a.0 refl, eq-eqb b.0 b.0 refl) refl
device_own (Load n) = eq-eqb n.0 n.0 refl

one_net : (m n : Net) → (m.0 == n.0) ≡ true → m ≡ n
one_net m n e = ap (λ (k : ℕ). record { 0 = k }) (eqb-true m.0 n.0 e)

pub device_is : (d e : Device) → device_eq d e ≡ true → d ≡ e
device_is (Pass g a b) (Pass h x y) e =
    let first = and_parts (g.0 == h.0) ((a.0 == x.0) && (b.0 == y.0)) e in
    let second = and_parts (a.0 == x.0) (b.0 == y.0) first.1 in
    rw (one_net g h first.0, one_net a x second.0, one_net b y second.1) refl
device_is (Pass g a b) (Load n) e = absurd (cc)
device_is (Load m) (Pass h x y) e = absurd (cc)
device_is (Load m) (Load n) e = rw (one_net m n e) refl

-- ---- sums over pieces

module _ {A B : Type 0} (f : A → ℕ) where
  -- the sum over pieces of three parts
  pub sum_pieces : (g p q r : B → List A) (xs : List B) → AllByRecursion (λ x. g x ≡ (p x ++ q x) ++ r x) xs
      → sum_by f (flat_map g xs) ≡ sum_by f (flat_map p xs) + sum_by f (flat_map q xs) + sum_by f (flat_map r xs)
  sum_pieces g p q r [] h = refl
  sum_pieces g p q r (x ∷ xs) h =
      let here : sum_by f (g x) ≡ sum_by f ((p x ++ q x) ++ r x) = ap (sum_by f) h.0 in
      omega (
        arith,
        here,
        sum_by-append f (p x ++ q x) (r x),
        sum_by-append f (p x) (q x),
        sum_by-append f (g x) (flat_map g xs),
        sum_by-append f (p x) (flat_map p xs),
        sum_by-append f (q x) (flat_map q xs),
        sum_by-append f (r x) (flat_map r xs),
        sum_pieces g p q r xs h.1,
      )

-- ---- numbers that a test picks out

-- the same number
abbrev equal : ℕ → ℕ → Bool
equal z x = x == z

module _ (z : ℕ) where
  abbrev one_at : ℕ → ℕ
  one_at x = cond (x == z) 1 0

  counts_here : (x : ℕ) → x ≡ z → one_at x ≡ 1
  counts_here x e = ap {B = ℕ} (λ b. cond b 1 0) (eq-eqb x z e)

  counts_not : (x : ℕ) → (x ≡ z → ⊥) → one_at x ≡ 0
  counts_not x ne = ap {B = ℕ} (λ b. cond b 1 0) (ne_eqb x z ne)

  -- ---- in a list

  none_in : (xs : List ℕ) → list_any (λ x. x == z) xs ≡ false → count_by (equal z) xs ≡ 0
  none_in [] e = refl
  none_in (x ∷ xs) e = elim (cases_Bool (x == z)) [
    | inl f ↦ let bad : true ≡ false = rw f at e in absurd (cc)
    | inr f ↦
        let here : ◌≡◌ {A = ℕ} (cond (x == z) 1 0) 0 = ap {B = ℕ} (λ b. cond b 1 0) f in
        omega (arith, here, sum_by-cons one_at x xs, none_in xs (rw f at e))
  ]

  off_others : (xs : List ℕ) → AllByRecursion (λ x. z ≢ x) xs → count_by (equal z) xs ≡ 0
  off_others [] h = refl
  off_others (x ∷ xs) h = omega (arith, counts_not x (λ e. h.0 (sym e)), sum_by-cons one_at x xs, off_others xs h.1)

  once_in : (xs : List ℕ) → Pairs (λ (a b : ℕ). a ≢ b) xs → list_any (λ x. x == z) xs ≡ true → count_by (equal z) xs ≡ 1
  once_in [] h e = absurd (cc)
  once_in (x ∷ xs) h e = elim (cases_eq x z) [
    | inl f ↦ omega (arith, counts_here x f, sum_by-cons one_at x xs, off_others xs (rw (← f) h.0))
    | inr ne ↦ omega (arith, counts_not x ne, sum_by-cons one_at x xs, once_in xs h.1 (rw (ne_eqb x z ne) at e))
  ]

  -- ---- in a range

  module _ (p : ℕ → Bool) where
    step_in : (a : ℕ) (xs : List ℕ) → count_by (equal z) (filter p (a ∷ xs)) ≡ cond (p a) (one_at a) 0 + count_by (equal z) (filter p xs)
    step_in a xs = elim (cases_Bool (p a)) [
      | inl e ↦ rw e (sum_by-cons one_at a (filter p xs))
      | inr e ↦ rw e (omega arith)
    ]

    off_range : (a m : ℕ) → (p z ≡ false) ⊎ ((z < a) ⊎ (a + m ≤ z)) → count_by (equal z) (filter p (range_with_len a m)) ≡ 0
    off_range a zero h = refl
    off_range a (suc m) h =
        let rest : count_by (equal z) (filter p (range_with_len (a + 1) m)) ≡ 0 = off_range (a + 1) m (later h) in
        omega (arith, step_in a (range_with_len (a + 1) m), rest, first h)
      where
        later : (p z ≡ false) ⊎ ((z < a) ⊎ (a + suc m ≤ z)) → (p z ≡ false) ⊎ ((z < a + 1) ⊎ (a + 1 + m ≤ z))
        later (inl e) = inl e
        later (inr (inl l)) = inr (inl (omega (arith, l)))
        later (inr (inr l)) = inr (inr (omega (arith, l)))

        zero_by : (b : Bool) → one_at a ≡ 0 → ◌≡◌ {A = ℕ} (cond b (one_at a) 0) 0
        zero_by true e = e
        zero_by false e = refl

        first : (p z ≡ false) ⊎ ((z < a) ⊎ (a + suc m ≤ z)) → ◌≡◌ {A = ℕ} (cond (p a) (one_at a) 0) 0
        first (inl e) = elim (cases_eq a z) [
          | inl f ↦ rw (f, e) refl
          | inr ne ↦ zero_by (p a) (counts_not a ne)
        ]
        first (inr (inl l)) = zero_by (p a) (counts_not a (λ f. omega (arith, f, l)))
        first (inr (inr l)) = zero_by (p a) (counts_not a (λ f. omega (arith, f, l)))

    once_in_range : (a m : ℕ) → p z ≡ true → a ≤ z → z < a + m → count_by (equal z) (filter p (range_with_len a m)) ≡ 1
    once_in_range a zero e l lt = absurd (omega (arith, l, lt))
    once_in_range a (suc m) e l lt = elim (cases_eq a z) [
      | inl f ↦
          let here : ◌≡◌ {A = ℕ} (cond (p a) (one_at a) 0) 1 = rw (f, e) (counts_here z refl) in
          omega (arith, step_in a (range_with_len (a + 1) m), here, off_range (a + 1) m (inr (inl (omega (arith, f)))))
      | inr ne ↦
          let here : ◌≡◌ {A = ℕ} (cond (p a) (one_at a) 0) 0 = off (p a) (counts_not a ne) in
          omega (arith, step_in a (range_with_len (a + 1) m), here, once_in_range (a + 1) m e (omega (arith, l, ne)) (omega (arith, lt)))
    ]
      where
        off : (b : Bool) → one_at a ≡ 0 → ◌≡◌ {A = ℕ} (cond b (one_at a) 0) 0
        off true f = f
        off false f = refl

member_below : (n z : ℕ) (xs : List ℕ) → AllByRecursion (λ x. x < n) xs → list_any (λ x. x == z) xs ≡ true → z < n
member_below n z [] h e = absurd (cc)
member_below n z (x ∷ xs) h e = elim (cases_eq x z) [
  | inl f ↦ let lt = h.0 in omega (arith, f, lt)
  | inr ne ↦ member_below n z xs h.1 (rw (ne_eqb x z ne) at e)
]

-- What a test picks out of the numbers below n is a list of different numbers below n, in another order, which has those for which the test holds.
pub picked_out : (p : ℕ → Bool) (n : ℕ) (xs : List ℕ) → ((z : ℕ) → p z ≡ list_any (λ x. x == z) xs) → AllByRecursion (λ x. x < n) xs
    → Pairs (λ (a b : ℕ). a ≢ b) xs → IsPermutation (filter p (range_with_len 0 n)) xs
picked_out p n xs tells below differ =
    permuted equal (λ x. eq-eqb x x refl) (λ x y e. sym (eqb-true y x e)) (filter p (range_with_len 0 n)) xs
    (λ z.
    elim (cases_Bool (list_any (λ x. x == z) xs)) [
      | inl e ↦
          let holds : p z ≡ true = tells z ∙ e in
          once_in_range z p 0 n holds (omega arith) (omega (arith, member_below n z xs below e)) ∙ sym (once_in z xs differ e)
      | inr e ↦ let fails : p z ≡ false = tells z ∙ e in off_range z p 0 n (inl fails) ∙ sym (none_in z xs e)
    ])
