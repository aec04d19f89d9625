-- What sorts of boxes by their edges give.
use Rattle.std.proofs.Common.{◌≡◌, ◌+◌, ℤ, ◌≤ℤ◌, ◌<ℤ◌, List, ◌⊎◌, inl, inr, get_or, sym, arith, subst, true, false}
use Rattle.std.specs.List.Sorted.{IsSortedByKey, IsStableByKey, IsPermutation}
use Rattle.std.proofs.lemmas.List.Sorted.{IsPermutation-sym}
use Rattle.std.specs.Ordering.{int_cmp, is_lt, ordering_then}
use Rattle.std.specs.declared.cmp.Ordering.{Ordering}
use Rattle.std.specs.declared.cmp.Ordering.TheVariants.{Less, Equal}
use Rattle.std.proofs.lemmas.Fn.{always_returns_same}
use Rattle.std.specs.Fn.{ComputesKey, Called}
use denote.Ref.{Bor}
use denote.Param.Members.{Mut}
use Rattle.std.proofs.lemmas.Int.{ints, by_lt_z}
use Rattle.geom.specs.Squares.{BoxShape}
use Rattle.geom.specs.Rows.{Pairwise}
use Rattle.geom.specs.Columns.{IsBefore}
use Rattle.geom.specs.Wholes.{IsLower, SortsRows}
use Rattle.geom.proofs.Lists.{pairwise_steps, permuted}

abbrev Key : Type 0
Key = ℤ × ℤ × ℤ

abbrev key_cmp : Key → Key → Ordering
key_cmp a b = ordering_then (ordering_then (int_cmp a.0 b.0) (int_cmp a.1 b.1)) (int_cmp a.2 b.2)

abbrev column : BoxShape → Key
column b = (b.x1, b.x2, b.y1)

less : (a b : ℤ) → a <ℤ b → int_cmp a b ≡ Less
less a b h = grind (arith, ints)

equal : (a b : ℤ) → a ≡ b → int_cmp a b ≡ Equal
equal a b h = grind (arith, ints)

-- c does not come before b by its column
before_of : (b c : BoxShape) → is_lt (key_cmp (column c) (column b)) ≡ false → IsBefore b c
before_of b c h =
    by_lt_z b.x1 c.x1 (λ l. inl l) (λ l.
    by_lt_z c.x1 b.x1
    (λ k. let P : Ordering → Type 0 = λ o. is_lt (ordering_then (ordering_then o (int_cmp c.x2 b.x2)) (int_cmp c.y1 b.y1)) ≡ false in
    let z : true ≡ false = subst P (less c.x1 b.x1 k) h in absurd cc)
    (λ k.
    let e : b.x1 ≡ c.x1 = omega (arith, ints) in
    let P : Ordering → Type 0 = λ o. is_lt (ordering_then (ordering_then o (int_cmp c.x2 b.x2)) (int_cmp c.y1 b.y1)) ≡ false in
    inr (e, same_left b c (subst P (equal c.x1 b.x1 (sym e)) h))))
  where
    same_right : (b c : BoxShape) → is_lt (int_cmp c.y1 b.y1) ≡ false → b.y1 ≤ℤ c.y1
    same_right b c h = by_lt_z c.y1 b.y1 (λ l. absurd (grind (arith, ints))) (λ l. l)

    same_left : (b c : BoxShape) → is_lt (ordering_then (int_cmp c.x2 b.x2) (int_cmp c.y1 b.y1)) ≡ false → (b.x2 <ℤ c.x2) ⊎ ((b.x2 ≡ c.x2) × (b.y1 ≤ℤ c.y1))
    same_left b c h =
        by_lt_z b.x2 c.x2 (λ l. inl l) (λ l.
        by_lt_z c.x2 b.x2
        (λ k. let P : Ordering → Type 0 = λ o. is_lt (ordering_then o (int_cmp c.y1 b.y1)) ≡ false in
        let z : true ≡ false = subst P (less c.x2 b.x2 k) h in absurd cc)
        (λ k.
        let e : b.x2 ≡ c.x2 = omega (arith, ints) in
        let P : Ordering → Type 0 = λ o. is_lt (ordering_then o (int_cmp c.y1 b.y1)) ≡ false in
        inr (e, same_right b c (subst P (equal c.x2 b.x2 (sym e)) h))))

before_trans : (a b c : BoxShape) → IsBefore a b → IsBefore b c → IsBefore a c
before_trans a b c (inl h) (inl k) = inl (omega (arith, ints))
before_trans a b c (inl h) (inr k) = let e : b.x1 ≡ c.x1 = k.0 in inl (omega (arith, ints))
before_trans a b c (inr (e, h)) (inl k) = inl (omega (arith, ints))
before_trans a b c (inr (e, inl h)) (inr (f, inl k)) = inr (omega (arith, ints), inl (omega (arith, ints)))
before_trans a b c (inr (e, inl h)) (inr (f, inr k)) = let z : b.x2 ≡ c.x2 = k.0 in inr (omega (arith, ints), inl (omega (arith, ints)))
before_trans a b c (inr (e, inr h)) (inr (f, inl k)) = let z : a.x2 ≡ b.x2 = h.0 in inr (omega (arith, ints), inl (omega (arith, ints)))
before_trans a b c (inr (e, inr h)) (inr (f, inr k)) =
    let y : a.x2 ≡ b.x2 = h.0 in
    let z : b.x2 ≡ c.x2 = k.0 in
    let p : a.y1 ≤ℤ b.y1 = h.1 in
    let q : b.y1 ≤ℤ c.y1 = k.1 in
    inr (omega (arith, ints), inr (omega (arith, ints), omega (arith, ints)))

-- what `sort_by_key` ensures at the left, right and lower edges
pub columns_sorted : {F : Type 0} {g : Mut F (Bor BoxShape × Unit {0}) Key} {f : F} (xs : List BoxShape)
    → ((key : BoxShape → Key) → ComputesKey g key f → IsSortedByKey key key_cmp xs)
    → ((a : Bor BoxShape × Unit {0}) (r : Key) (f' : F) → Called g f a r f' → (r ≡ column a.0.now) × (f' ≡ f)) → Pairwise IsBefore xs
columns_sorted {g = g} {f = f} xs up h =
    let s : IsSortedByKey column key_cmp xs = up column (always_returns_same g (λ a r. r ≡ column a.0.now) f h) in
    pairwise_steps IsBefore before_trans xs (λ k d l. before_of (get_or xs k d) (get_or xs (k + 1) d) (s k d (omega arith) l))

row_trans : (a b c : BoxShape) → IsLower a b → IsLower b c → IsLower a c
row_trans a b c h k = omega (arith, ints)

lower_of : (b c : BoxShape) → is_lt (int_cmp c.y1 b.y1) ≡ false → IsLower b c
lower_of b c h = by_lt_z c.y1 b.y1 (λ l. absurd (grind (arith, ints))) (λ l. l)

-- what `sort_by_key` ensures at the lower edge
pub rows_sorted : {F : Type 0} {g : Mut F (Bor BoxShape × Unit {0}) ℤ} {f : F} (xs ys : List BoxShape) → IsPermutation xs ys
    → ((key : BoxShape → ℤ) → ComputesKey g key f → IsSortedByKey key int_cmp ys)
    → ((key : BoxShape → ℤ) → ComputesKey g key f → IsStableByKey key int_cmp xs ys)
    → ((a : Bor BoxShape × Unit {0}) (r : ℤ) (f' : F) → Called g f a r f' → (r ≡ a.0.now.y1) × (f' ≡ f)) → SortsRows xs ys
rows_sorted {g = g} {f = f} xs ys p up stable h =
    let s : IsSortedByKey (λ (b : BoxShape). b.y1) int_cmp ys = up (λ (b : BoxShape). b.y1) (always_returns_same g (λ a r. r ≡ a.0.now.y1) f h) in
    record {
      same = λ b. (permuted ys xs b (IsPermutation-sym xs ys p), permuted xs ys b p);
      rising = pairwise_steps IsLower row_trans ys (λ k d l. lower_of (get_or ys k d) (get_or ys (k + 1) d) (s k d (omega arith) l));
      stable = stable (λ (b : BoxShape). b.y1) (always_returns_same g (λ a r. r ≡ a.0.now.y1) f h);
    }
