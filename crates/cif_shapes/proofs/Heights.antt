-- Corners and heights in order.
use Rattle.std.proofs.Common.{◌≡◌, ◌+◌, true, false, ℤ, ◌≤ℤ◌, ◌<ℤ◌, List, [], ◌∷◌, inl, inr, map, get_or, refl, sym, ap, ◌∙◌, subst, arith}
use Rattle.std.specs.List.{dedup}
use Rattle.std.specs.List.Sorted.{IsSorted, IsSortedByKey, IsStrictlySortedBy, IsPermutation}
use Rattle.std.specs.Ordering.{int_cmp, int_eq, is_lt}
use Rattle.std.specs.declared.cmp.Ordering.TheVariants.{Less}
use Rattle.std.specs.Fn.{ComputesKey, Called}
use Rattle.std.proofs.lemmas.Fn.{always_returns_same}
use denote.Ref.{Bor}
use denote.Param.Members.{Mut}
use Rattle.std.proofs.lemmas.Int.{ints, by_lt_z}
use Rattle.geom.specs.declared.point.Point.{Point}
use Rattle.geom.specs.Rows.{Among, Pairwise}
use Rattle.cif_shapes.specs.Changes.{Rise}
use Rattle.std.specs.List.{AllByRecursion}
use Rattle.std.proofs.lemmas.Cmp.{int_eq_equiv, int_cmp_total}
use Rattle.std.proofs.lemmas.List.Kept.{Contains-dedup, Contains-from_dedup, IsStrictlySortedBy-dedup}
use Rattle.std.proofs.lemmas.List.Sorted.{IsPermutation-sym}
use Rattle.geom.specs.CifShapes.{AreHeights}
use Rattle.cif_shapes.proofs.Lists.{pairwise_steps, permuted, to_contains, from_contains}

not_below : (a b : ℤ) → is_lt (int_cmp b a) ≡ false → a ≤ℤ b
not_below a b h = by_lt_z b a (λ l. absurd (grind (arith, ints))) (λ l. l)

le_trans : (a b c : ℤ) → a ≤ℤ b → b ≤ℤ c → a ≤ℤ c
le_trans a b c h k = omega (arith, ints)

-- what `sort` ensures
pub sorted_numbers : (xs : List ℤ) → IsSorted int_cmp xs → Pairwise (λ low high. low ≤ℤ high) xs
sorted_numbers xs s = pairwise_steps (λ low high. low ≤ℤ high) le_trans xs (λ k d l. not_below (get_or xs k d) (get_or xs (k + 1) d) (s k d (omega arith) l))

-- what `sort_by_key` ensures at the heights
pub sorted_heights : {F : Type 0} {g : Mut F (Bor Point × Unit {0}) ℤ} {f : F} (xs : List Point)
    → ((key : Point → ℤ) → ComputesKey g key f → IsSortedByKey key int_cmp xs)
    → ((a : Bor Point × Unit {0}) (r : ℤ) (f' : F) → Called g f a r f' → (r ≡ a.0.now.y) × (f' ≡ f)) → Rise xs
sorted_heights {g = g} {f = f} xs up h =
    let s : IsSortedByKey (λ (p : Point). p.y) int_cmp xs = up (λ (p : Point). p.y) (always_returns_same g (λ a r. r ≡ a.0.now.y) f h) in
    pairwise_steps (λ low high. low.y ≤ℤ high.y) (λ a b c h k. le_trans a.y b.y c.y h k) xs
    (λ k d l. not_below (get_or xs k d).y (get_or xs (k + 1) d).y (s k d (omega arith) l))

-- ---- each height once

less : (x y : ℤ) → int_cmp x y ≡ Less → x <ℤ y
less x y h = by_lt_z x y (λ l. l) (λ l. absurd (grind (arith, ints)))

all_less : (x : ℤ) (xs : List ℤ) → AllByRecursion (λ y. int_cmp x y ≡ Less) xs → (c : ℤ) → Among xs c → x <ℤ c
all_less x [] h c i = absurd i
all_less x (y ∷ ys) h c (inl e) = let P : ℤ → Type 0 = λ v. x <ℤ v in subst P e (less x y h.0)
all_less x (y ∷ ys) h c (inr i) = all_less x ys h.1 c i

strictly : (xs : List ℤ) → IsStrictlySortedBy int_cmp xs → Pairwise (λ low high. low <ℤ high) xs
unfolding IsStrictlySortedBy
strictly [] h = tt
strictly (x ∷ xs) h = (all_less x xs h.0, strictly xs h.1)

pub deduped : (xs : List ℤ) → IsSorted int_cmp xs → Pairwise (λ low high. low <ℤ high) (dedup int_eq xs)
deduped xs s = strictly (dedup int_eq xs) (IsStrictlySortedBy-dedup int_cmp_total (λ x y. refl) xs s)

among_map : (points : List Point) (y : ℤ) → Among (map (λ (p : Point). p.y) points) y → (p : Point) × Among points p × (p.y ≡ y)
among_map [] y i = absurd i
among_map (p ∷ ps) y (inl e) = (p, inl refl, e)
among_map (p ∷ ps) y (inr i) = let f = among_map ps y i in (f.0, inr f.1, f.2)

map_among : (points : List Point) (y : ℤ) → (p : Point) → Among points p → p.y ≡ y → Among (map (λ (q : Point). q.y) points) y
map_among [] y p i e = absurd i
map_among (q ∷ qs) y p (inl f) e = inl (ap (λ (v : Point). v.y) f ∙ e)
map_among (q ∷ qs) y p (inr i) e = inr (map_among qs y p i e)

same_of : (x y : ℤ) → int_eq x y ≡ true → x ≡ y
same_of x y h = grind (arith, ints)

-- the heights of the points, sorted, each once
pub heights_once : (points : List Point) (all sorted heights : List ℤ) → all ≡ map (λ (p : Point). p.y) points → IsPermutation all sorted → IsSorted int_cmp sorted
    → heights ≡ dedup int_eq sorted → AreHeights points heights
heights_once points all sorted heights e p s d = record {
  rising = (let P : List ℤ → Type 0 = λ l. Pairwise (λ low high. low <ℤ high) l in subst P (sym d) (deduped sorted s));
  of_points = λ y. (from y, to y);
}
  where
    from : (y : ℤ) → Among heights y → (p : Point) × Among points p × (p.y ≡ y)
    from y i =
        let P : List ℤ → Type 0 = λ l. Among l y in
        let k : Among sorted y = from_contains sorted y (Contains-from_dedup int_eq sorted y (to_contains (dedup int_eq sorted) y (subst P d i))) in
        among_map points y (subst P e (permuted sorted all y (IsPermutation-sym all sorted p) k))

    to : (y : ℤ) → ((q : Point) × Among points q × (q.y ≡ y)) → Among heights y
    to y f =
        let P : List ℤ → Type 0 = λ l. Among l y in
        let k : Among sorted y = permuted all sorted y p (subst P (sym e) (map_among points y f.0 f.1 f.2)) in
        subst P (sym d) (from_contains (dedup int_eq sorted) y (Contains-dedup int_eq_equiv same_of sorted y (to_contains sorted y k)))
