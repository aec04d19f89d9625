-- Elements of lists, by number.
use Rattle.std.proofs.Common.{◌≡◌, ℕ, suc, zero, ◌<◌, ◌≤◌, ◌+◌, pos, List, [], ◌∷◌, ◌++◌, ◌⊎◌, inl, inr, length, take, drop, get_or, refl, sym}
use Rattle.std.proofs.Common.{◌∙◌, ap, arith, subst}
use Rattle.std.proofs.lemmas.Grind.{common_steps}
use Rattle.std.proofs.lemmas.List.{get_or_default}
use Rattle.std.proofs.lemmas.Int.{ints, by_lt_z}
use Rattle.std.specs.List.{Contains}
use Rattle.std.specs.List.Sorted.{IsPermutation}
use Rattle.std.proofs.lemmas.List.Sorted.{Contains-permutation}
use Rattle.geom.specs.Rows.{Among, Pairwise}
use Rattle.canonical_boxes.specs.Canonical.{IsAt}

pub among_push : {X : Type 0} (m : List X) (v b : X) → Among (m ++ v ∷ []) b → Among m b ⊎ (v ≡ b)
among_push [] v b (inl e) = inr e
among_push [] v b (inr h) = absurd h
among_push (c ∷ cs) v b (inl e) = inl (inl e)
among_push (c ∷ cs) v b (inr h) = elim (among_push cs v b h) [ inl i ↦ inl (inr i) | inr e ↦ inr e ]

pub among_left : {X : Type 0} (m n : List X) (c : X) → Among m c → Among (m ++ n) c
among_left [] n c h = absurd h
among_left (d ∷ ds) n c (inl e) = inl e
among_left (d ∷ ds) n c (inr h) = inr (among_left ds n c h)

pub among_last : {X : Type 0} (m : List X) (v b : X) → v ≡ b → Among (m ++ v ∷ []) b
among_last [] v b e = inl e
among_last (d ∷ ds) v b e = inr (among_last ds v b e)

pub taken_at : {X : Type 0} (xs : List X) (i : ℕ) (b : X) → i < length xs → b ≡ get_or xs i b → take (i + 1) xs ≡ take i xs ++ b ∷ []
taken_at {X} xs i b h e = let t : take (i + 1) xs ≡ take i xs ++ get_or xs i b ∷ [] = grind (arith, common_steps) in t ∙ ap
    (λ (v : X). take i xs ++ v ∷ []) (sym e)

pub left_at : {X : Type 0} (xs : List X) (i : ℕ) (b : X) → i < length xs → b ≡ get_or xs i b → drop i xs ≡ b ∷ drop (i + 1) xs
left_at {X} xs i b h e = let t : drop i xs ≡ get_or xs i b ∷ drop (i + 1) xs = grind (arith, common_steps) in t ∙ ap
    (λ (v : X). v ∷ drop (i + 1) xs) (sym e)

pub all_taken : {X : Type 0} (xs : List X) (i : ℕ) → length xs ≤ i → take i xs ≡ xs
all_taken xs i h = grind (arith, common_steps)

-- what holds of each element and the next holds of each and every one behind it, where it is transitive
pub pairwise_steps : {X : Type 0} (R : X → X → Type 0) → ((x y z : X) → R x y → R y z → R x z) → (xs : List X)
    → ((k : ℕ) (d : X) → k + 1 < length xs → R (get_or xs k d) (get_or xs (k + 1) d)) → Pairwise R xs
pairwise_steps R trans [] s = tt
pairwise_steps {X} R trans (x ∷ xs) s =
    let tail : Pairwise R xs = pairwise_steps R trans xs (next_steps R x xs s) in
    ((λ c i. first_steps R trans x xs c s tail i), tail)
  where
    next_steps : {X : Type 0} (R : X → X → Type 0) (x : X) (xs : List X) →
        ((k : ℕ) (d : X) → k + 1 < length (x ∷ xs) → R (get_or (x ∷ xs) k d) (get_or (x ∷ xs) (k + 1) d))
        → (k : ℕ) (d : X) → k + 1 < length xs → R (get_or xs k d) (get_or xs (k + 1) d)
    next_steps R x xs s k d h =
        let e : suc k + 1 ≡ suc (k + 1) = omega arith in
        let P : ℕ → Type 0 = λ j. R (get_or (x ∷ xs) (suc k) d) (get_or (x ∷ xs) j d) in
        subst P e (s (suc k) d (omega arith))

    first_steps : {X : Type 0} (R : X → X → Type 0) → ((x y z : X) → R x y → R y z → R x z) → (x : X) (xs : List X) (c : X)
        → ((k : ℕ) (d : X) → k + 1 < length (x ∷ xs) → R (get_or (x ∷ xs) k d) (get_or (x ∷ xs) (k + 1) d)) → Pairwise R xs → Among xs c → R x c
    first_steps R trans x [] c s tail i = absurd i
    first_steps {X} R trans x (y ∷ ys) c s tail (inl e) = let P : X → Type 0 = λ v. R x v in subst P e (s 0 x (omega arith))
    first_steps R trans x (y ∷ ys) c s tail (inr i) = trans x y c (s 0 x (omega arith)) (tail.0 c i)

to_contains : {X : Type 0} (xs : List X) (x : X) → Among xs x → Contains xs x
to_contains [] x i = absurd i
to_contains (y ∷ ys) x (inl e) = (0, omega arith, e)
to_contains (y ∷ ys) x (inr i) = let r : Contains ys x = to_contains ys x i in (suc r.0, omega (arith, r.1), r.2)

-- ---- by number

pub by_order : {P : Type 0} (i j : ℕ) → (i < j → P) → (i ≡ j → P) → (j < i → P) → P
by_order i j below same above =
    by_lt_z (pos i) (pos j) (λ h. below (omega (arith, ints)))
    (λ h. by_lt_z (pos j) (pos i) (λ k. above (omega (arith, ints))) (λ k. same (omega (arith, ints))))

pub at_of : {X : Type 0} (xs : List X) (i : ℕ) (d : X) → i < length xs → IsAt xs i (get_or xs i d)
at_of xs i d h = record { within = h; is = get_or_default xs i (get_or xs i d) d h }

pub at_read : {X : Type 0} (xs : List X) (i : ℕ) (d x : X) → IsAt xs i x → get_or xs i d ≡ x
at_read xs i d x h = get_or_default xs i d x h.within ∙ h.is

pub at_left : {X : Type 0} (xs : List X) (i : ℕ) (x : X) → IsAt xs i x → Among (drop i xs) x
at_left {X} xs i x h = let P : List X → Type 0 = λ l. Among l x in subst P (sym (left_at xs i x h.within (sym h.is))) (inl refl)

pub at_among : {X : Type 0} (xs : List X) (i : ℕ) (x : X) → IsAt xs i x → Among xs x
at_among [] i x h = let w : i < 0 = h.within in absurd (omega arith)
at_among (y ∷ ys) zero x h = inl h.is
at_among (y ∷ ys) (suc i) x h = let w : suc i < length (y ∷ ys) = h.within in inr (at_among ys i x (record { within = omega arith; is = h.is }))

-- the number of an element
pub record Numbered {X : Type 0} (xs : List X) (x : X) : Type 0 where
  pub number : ℕ
  pub at : IsAt xs number x

pub among_at : {X : Type 0} (xs : List X) (x : X) → Among xs x → Numbered xs x
among_at [] x h = absurd h
among_at (y ∷ ys) x (inl e) = record { number = 0; at = record { within = omega arith; is = e } }
among_at (y ∷ ys) x (inr h) =
    let n : Numbered ys x = among_at ys x h in
    let w : n.number < length ys = n.at.within in
    record { number = suc n.number; at = record { within = omega arith; is = n.at.is } }

-- the element of a number
pub record Element {X : Type 0} (xs : List X) (i : ℕ) : Type 0 where
  pub element : X
  pub at : IsAt xs i element

pub element_at : {X : Type 0} (xs : List X) (i : ℕ) → i < length xs → Element xs i
element_at [] i h = absurd (omega arith)
element_at (x ∷ xs) i h = record { element = get_or (x ∷ xs) i x; at = at_of (x ∷ xs) i x h }

pub at_one : {X : Type 0} (xs : List X) (i : ℕ) (x y : X) → IsAt xs i x → IsAt xs i y → x ≡ y
at_one xs i x y p q = sym p.is ∙ get_or_default xs i x y p.within ∙ q.is

-- what holds of each element and every one behind it
pub pair_at : {X : Type 0} (R : X → X → Type 0) (xs : List X) (i j : ℕ) (x y : X) → Pairwise R xs → IsAt xs i x → IsAt xs j y → i < j → R x y
pair_at R [] i j x y h p q l = let w : i < 0 = p.within in absurd (omega arith)
pair_at R (z ∷ zs) zero zero x y h p q l = absurd (omega arith)
pair_at {X} R (z ∷ zs) zero (suc j) x y h p q l =
    let w : suc j < length (z ∷ zs) = q.within in
    let P : X → Type 0 = λ v. R v y in
    subst P p.is (h.0 y (at_among zs j y (record { within = omega arith; is = q.is })))
pair_at R (z ∷ zs) (suc i) zero x y h p q l = absurd (omega arith)
pair_at R (z ∷ zs) (suc i) (suc j) x y h p q l =
    let w : suc i < length (z ∷ zs) = p.within in
    let w' : suc j < length (z ∷ zs) = q.within in
    pair_at R zs i j x y h.1 (record { within = omega arith; is = p.is }) (record { within = omega arith; is = q.is }) (omega arith)

pub permuted : {X : Type 0} (xs ys : List X) (x : X) → IsPermutation xs ys → Among xs x → Among ys x
permuted xs ys x p h = let c : Contains ys x = Contains-permutation xs ys x p (to_contains xs x h) in at_among ys c.0 x
    (record { within = c.1; is = c.2 })
