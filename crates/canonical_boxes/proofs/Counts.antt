-- How many boxes of a canonical list pass a test that those in front pass too, and the boxes that begin in a row.
use Rattle.std.proofs.Common.{◌≡◌, ◌↔◌, ℕ, ◌<◌, ◌≤◌, ℤ, ◌≤ℤ◌, ◌<ℤ◌, Bool, true, false, int_le, int_lt, List, ◌⊎◌, inl, inr, get_or, sym, arith, subst}
use Rattle.std.proofs.lemmas.Int.{ints, by_lt_z}
use Rattle.std.proofs.lemmas.Bool.{and_parts, and_from, or_cases, or_left, or_right}
use Rattle.std.specs.List.Sorted.{IsPartitionedBy, IsPartitionPoint}
use Rattle.geom.specs.Squares.{BoxShape, IsBox}
use Rattle.canonical_boxes.specs.Canonical.{BeginsBefore, AreParted, IsCanonical, IsAt}
use Rattle.canonical_boxes.specs.Standing.{BeginsAmong, is_passed, is_reached}
use Rattle.canonical_boxes.proofs.Lists.{at_of, at_among, pair_at, by_order}

-- ---- tests on whole numbers

le_is : (a b : ℤ) → int_le a b ≡ true → a ≤ℤ b
le_is a b h = by_lt_z b a (λ k. absurd (grind (arith, ints))) (λ k. k)

lt_is : (a b : ℤ) → int_lt a b ≡ true → a <ℤ b
lt_is a b h = by_lt_z a b (λ k. k) (λ k. absurd (grind (arith, ints)))

is_le : (a b : ℤ) → a ≤ℤ b → int_le a b ≡ true
is_le a b h = grind (arith, ints)

is_lt : (a b : ℤ) → a <ℤ b → int_lt a b ≡ true
is_lt a b h = grind (arith, ints)

pub passed_from : (y x : ℤ) (b : BoxShape) → (b.y1 <ℤ y) ⊎ ((b.y1 ≤ℤ y) × (b.x2 ≤ℤ x)) → is_passed y x b ≡ true
passed_from y x b (inl h) = or_left _ _ (is_lt b.y1 y h)
passed_from y x b (inr h) = or_right _ _ (and_from _ _ (is_le b.y1 y h.0) (is_le b.x2 x h.1))

pub passed_is : (y x : ℤ) (b : BoxShape) → is_passed y x b ≡ true → (b.y1 <ℤ y) ⊎ ((b.y1 ≤ℤ y) × (b.x2 ≤ℤ x))
passed_is y x b h = elim (or_cases _ _ h) [
  | inl k ↦ inl (lt_is b.y1 y k)
  | inr k ↦ let two = and_parts _ _ k in inr (le_is b.y1 y two.0, le_is b.x2 x two.1)
]

reached_from : (y x : ℤ) (b : BoxShape) → (b.y1 <ℤ y) ⊎ ((b.y1 ≤ℤ y) × (b.x1 <ℤ x)) → is_reached y x b ≡ true
reached_from y x b (inl h) = or_left _ _ (is_lt b.y1 y h)
reached_from y x b (inr h) = or_right _ _ (and_from _ _ (is_le b.y1 y h.0) (is_lt b.x1 x h.1))

reached_is : (y x : ℤ) (b : BoxShape) → is_reached y x b ≡ true → (b.y1 <ℤ y) ⊎ ((b.y1 ≤ℤ y) × (b.x1 <ℤ x))
reached_is y x b h = elim (or_cases _ _ h) [
  | inl k ↦ inl (lt_is b.y1 y k)
  | inr k ↦ let two = and_parts _ _ k in inr (le_is b.y1 y two.0, lt_is b.x1 x two.1)
]

-- ---- tests that the boxes in front pass too

partitioned : (p : BoxShape → Bool) (m : List BoxShape) → IsCanonical m
    → ((a b : BoxShape) → IsBox a → IsBox b → AreParted a b → BeginsBefore a b → p b ≡ true → p a ≡ true) → IsPartitionedBy p m
partitioned p m h earlier i j d le l passes =
    let q : IsAt m j (get_or m j d) = at_of m j d l in
    by_order i j
    (λ k.
    let at : IsAt m i (get_or m i d) = at_of m i d (omega arith) in
    earlier (get_or m i d) (get_or m j d) (h.boxes (get_or m i d) (at_among m i (get_or m i d) at))
    (h.boxes (get_or m j d) (at_among m j (get_or m j d) q))
    (pair_at AreParted m i j (get_or m i d) (get_or m j d) h.parted at q k)
    (pair_at BeginsBefore m i j (get_or m i d) (get_or m j d) h.order at q k) passes)
    (λ e. let P : ℕ → Type 0 = λ n. p (get_or m n d) ≡ true in subst P (sym e) passes)
    (λ k. absurd (omega arith))

pub passed_partitioned : (y x : ℤ) (m : List BoxShape) → IsCanonical m → IsPartitionedBy (is_passed y x) m
passed_partitioned y x m h = partitioned (is_passed y x) m h earlier
  where
    earlier : (a b : BoxShape) → IsBox a → IsBox b → AreParted a b → BeginsBefore a b → is_passed y x b ≡ true → is_passed y x a ≡ true
    earlier a b box box' apart before passes = passed_from y x a (elim (passed_is y x b passes) [
      | inl low ↦ elim before [ inl k ↦ inl (omega (arith, ints)) | inr k ↦ let e : a.y1 ≡ b.y1 = k.0 in inl (omega (arith, ints)) ]
      | inr ends ↦ elim before [
        | inl k ↦ let l : (b.y1 ≤ℤ y) = ends.0 in inl (omega (arith, ints))
        | inr k ↦
            let e : a.y1 ≡ b.y1 = k.0 in
            let left : (a.x1 <ℤ b.x1) = k.1 in
            let low : (b.y1 ≤ℤ y) = ends.0 in
            let end : (b.x2 ≤ℤ x) = ends.1 in
            let high : (a.y1 <ℤ a.y2) = box.upward.order in
            let high' : (b.y1 <ℤ b.y2) = box'.upward.order in
            let wide' : (b.x1 <ℤ b.x2) = box'.across.order in
            elim (apart a.y1 (record { bottom = omega (arith, ints); top = high })
            (record { bottom = omega (arith, ints); top = omega (arith, ints) })) [
              | inl z ↦ inr (omega (arith, ints), omega (arith, ints))
              | inr z ↦ absurd (omega (arith, ints))
            ]
      ]
    ])

pub reached_partitioned : (y x : ℤ) (m : List BoxShape) → IsCanonical m → IsPartitionedBy (is_reached y x) m
reached_partitioned y x m h = partitioned (is_reached y x) m h earlier
  where
    earlier : (a b : BoxShape) → IsBox a → IsBox b → AreParted a b → BeginsBefore a b → is_reached y x b ≡ true → is_reached y x a ≡ true
    earlier a b box box' apart before passes = reached_from y x a (elim (reached_is y x b passes) [
      | inl low ↦ elim before [ inl k ↦ inl (omega (arith, ints)) | inr k ↦ let e : a.y1 ≡ b.y1 = k.0 in inl (omega (arith, ints)) ]
      | inr ends ↦ elim before [
        | inl k ↦ let l : (b.y1 ≤ℤ y) = ends.0 in inl (omega (arith, ints))
        | inr k ↦
            let e : a.y1 ≡ b.y1 = k.0 in
            let left : (a.x1 <ℤ b.x1) = k.1 in
            let low : (b.y1 ≤ℤ y) = ends.0 in
            let end : (b.x1 <ℤ x) = ends.1 in
            inr (omega (arith, ints), omega (arith, ints))
      ]
    ])

-- The elements that pass are those below the point.
pub counted : (p : BoxShape → Bool) (m : List BoxShape) (n : ℕ) → IsPartitionPoint (λ y. p y ≡ true) (λ y. p y ≡ false) m n
    → (k : ℕ) (b : BoxShape) → IsAt m k b → (k < n) ↔ (p b ≡ true)
counted p m n point k b at = (
  (λ h. let P : BoxShape → Type 0 = λ v. p v ≡ true in subst P at.is (point.0 k b (omega arith) h)),
  (λ t. by_order k n (λ h. h) (λ e. absurd (fails t (omega arith))) (λ h. absurd (fails t (omega arith)))),
)
  where
    fails : p b ≡ true → n ≤ k → ⊥
    fails t h =
        let P : BoxShape → Type 0 = λ v. p v ≡ false in
        let f : p b ≡ false = subst P at.is (point.1 k b h at.within) in
        absurd cc

-- ---- boxes that begin in a row

pub begins_at : (b : BoxShape) (y from to : ℤ) (p q k : ℕ) → (k < p) ↔ (is_passed y from b ≡ true) → (k < q) ↔ (is_reached y to b ≡ true)
    → ((p ≤ k) × (k < q)) ↔ BeginsAmong b y from to
begins_at b y from to p q k passed reached = (
  (λ h. begins h.0 (reached_is y to b (reached.0 h.1))),
  (λ h. (below h, reached.1 (reached_from y to b (inr (let e : b.y1 ≡ y = h.row in omega (arith, ints), h.right))))),
)
  where
    low : p ≤ k → (b.y1 <ℤ y) ⊎ ((b.y1 ≤ℤ y) × (b.x2 ≤ℤ from)) → ⊥
    low h z = let l : k < p = passed.1 (passed_from y from b z) in omega arith

    begins : p ≤ k → (b.y1 <ℤ y) ⊎ ((b.y1 ≤ℤ y) × (b.x1 <ℤ to)) → BeginsAmong b y from to
    begins h (inl z) = absurd (low h (inl z))
    begins h (inr z) = record {
      row = by_lt_z b.y1 y (λ l. absurd (low h (inl l))) (λ l. let l' : (b.y1 ≤ℤ y) = z.0 in omega (arith, ints));
      left = by_lt_z from b.x2 (λ l. l) (λ l. absurd (low h (inr (z.0, l))));
      right = z.1;
    }

    below : BeginsAmong b y from to → p ≤ k
    below h =
        let row : b.y1 ≡ y = h.row in
        let left : (from <ℤ b.x2) = h.left in
        by_order k p
        (λ l. absurd (elim (passed_is y from b (passed.0 l)) [
          | inl z ↦ omega (arith, ints)
          | inr z ↦ let end : (b.x2 ≤ℤ from) = z.1 in omega (arith, ints)
        ]))
        (λ e. omega arith) (λ l. omega arith)
