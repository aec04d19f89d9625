-- Elements of lists, and what holds of each and every one behind it.
use Rattle.std.proofs.Common.{◌≡◌, ℕ, suc, zero, ◌<◌, ◌+◌, List, [], ◌∷◌, ◌++◌, ◌⊎◌, inl, inr, length, take, drop, get_or, refl, sym, ◌∙◌, ap, arith, subst}
use Rattle.std.proofs.lemmas.Grind.{common_steps}
use Rattle.std.specs.List.{Contains}
use Rattle.std.specs.List.Sorted.{IsPermutation}
use Rattle.std.proofs.lemmas.List.Sorted.{Contains-permutation}
use Rattle.geom.specs.Rows.{Among, Pairwise}

pub among_push : {X : Type 0} (m : List X) (v b : X) → Among (m ++ v ∷ []) b → Among m b ⊎ (v ≡ b)
among_push [] v b (inl e) = inr e
among_push [] v b (inr h) = absurd h
among_push (c ∷ cs) v b (inl e) = inl (inl e)
among_push (c ∷ cs) v b (inr h) = elim (among_push cs v b h) [ inl i ↦ inl (inr i) | inr e ↦ inr e ]

pub among_cases : {X : Type 0} (m n : List X) (c : X) → Among (m ++ n) c → Among m c ⊎ Among n c
among_cases [] n c h = inr h
among_cases (d ∷ ds) n c (inl e) = inl (inl e)
among_cases (d ∷ ds) n c (inr h) = elim (among_cases ds n c h) [ inl i ↦ inl (inr i) | inr i ↦ inr i ]

pub among_left : {X : Type 0} (m n : List X) (c : X) → Among m c → Among (m ++ n) c
among_left [] n c h = absurd h
among_left (d ∷ ds) n c (inl e) = inl e
among_left (d ∷ ds) n c (inr h) = inr (among_left ds n c h)

pub among_right : {X : Type 0} (m n : List X) (c : X) → Among n c → Among (m ++ n) c
among_right [] n c h = h
among_right (d ∷ ds) n c h = inr (among_right ds n c h)

pub append_nil : {X : Type 0} (xs : List X) → xs ++ [] ≡ xs
append_nil [] = refl
append_nil (x ∷ xs) = ap (λ l. x ∷ l) (append_nil xs)

pub append_step : {X : Type 0} (front : List X) (b : X) (back : List X) → front ++ b ∷ back ≡ (front ++ b ∷ []) ++ back
append_step [] b back = refl
append_step (c ∷ cs) b back = ap (λ l. c ∷ l) (append_step cs b back)

pub taken_at : {X : Type 0} (xs : List X) (i : ℕ) (b : X) → i < length xs → b ≡ get_or xs i b → take (i + 1) xs ≡ take i xs ++ b ∷ []
taken_at {X} xs i b h e = let t : take (i + 1) xs ≡ take i xs ++ get_or xs i b ∷ [] = grind (arith, common_steps) in t ∙ ap (λ (v : X). take i xs ++ v ∷ []) (sym e)

pub pairwise_push : {X : Type 0} (R : X → X → Type 0) (m : List X) (v : X) → Pairwise R m → ((d : X) → Among m d → R d v) → Pairwise R (m ++ v ∷ [])
pairwise_push R [] v h r = ((λ c i. absurd i), tt)
pairwise_push {X} R (d ∷ ds) v h r = (
  (λ c i. elim (among_push ds v c i) [ inl j ↦ h.0 c j | inr e ↦ (let P : X → Type 0 = λ u. R d u in subst P e (r d (inl refl))) ]),
  pairwise_push R ds v h.1 (λ c i. r c (inr i)),
)

pub pairwise_last : {X : Type 0} (R : X → X → Type 0) (m : List X) (v d : X) → Pairwise R (m ++ v ∷ []) → Among m d → R d v
pairwise_last R [] v d h i = absurd i
pairwise_last {X} R (c ∷ cs) v d h (inl e) = let P : X → Type 0 = λ u. R u v in subst P e (h.0 v (among_right cs (v ∷ []) v (inl refl)))
pairwise_last R (c ∷ cs) v d h (inr i) = pairwise_last R cs v d h.1 i

-- an element is the last of a list, or stands before it
pub data LastOr {X : Type 0} (m : List X) (d : X) : Type 0 where
  is_last : (front : List X) → m ≡ front ++ d ∷ [] → LastOr m d
  stands_before : (front : List X) (last : X) → m ≡ front ++ last ∷ [] → Among front d → LastOr m d

more_front : {X : Type 0} (c : X) (m : List X) (d : X) → LastOr m d → LastOr (c ∷ m) d
more_front c m d (is_last front e) = is_last (c ∷ front) (ap (λ l. c ∷ l) e)
more_front c m d (stands_before front last e i) = stands_before (c ∷ front) last (ap (λ l. c ∷ l) e) (inr i)

first_or : {X : Type 0} (c : X) (m : List X) → LastOr (c ∷ m) c
first_or c [] = is_last [] refl
first_or c (d ∷ ds) = elim (first_or d ds) [
  | is_last front e ↦ stands_before (c ∷ front) d (ap (λ l. c ∷ l) e) (inl refl)
  | stands_before front last e i ↦ stands_before (c ∷ front) last (ap (λ l. c ∷ l) e) (inl refl)
]

pub last_or : {X : Type 0} (m : List X) (d : X) → Among m d → LastOr m d
last_or [] d i = absurd i
last_or {X} (c ∷ cs) d (inl e) = let P : X → Type 0 = λ v. LastOr (c ∷ cs) v in subst P e (first_or c cs)
last_or (c ∷ cs) d (inr i) = more_front c cs d (last_or cs d i)

next_steps : {X : Type 0} (R : X → X → Type 0) (x : X) (xs : List X) → ((k : ℕ) (d : X) → k + 1 < length (x ∷ xs) → R (get_or (x ∷ xs) k d) (get_or (x ∷ xs) (k + 1) d))
    → (k : ℕ) (d : X) → k + 1 < length xs → R (get_or xs k d) (get_or xs (k + 1) d)
next_steps R x xs s k d h =
    let e : suc k + 1 ≡ suc (k + 1) = omega arith in
    let P : ℕ → Type 0 = λ j. R (get_or (x ∷ xs) (suc k) d) (get_or (x ∷ xs) j d) in
    subst P e (s (suc k) d (omega arith))

-- what holds of each element and the next holds of each and every one behind it, where it is transitive
pub pairwise_steps : {X : Type 0} (R : X → X → Type 0) → ((x y z : X) → R x y → R y z → R x z) → (xs : List X)
    → ((k : ℕ) (d : X) → k + 1 < length xs → R (get_or xs k d) (get_or xs (k + 1) d)) → Pairwise R xs
pairwise_steps R trans [] s = tt
pairwise_steps {X} R trans (x ∷ xs) s =
    let tail : Pairwise R xs = pairwise_steps R trans xs (next_steps R x xs s) in
    ((λ c i. first_steps R trans x xs c s tail i), tail)
  where
    first_steps : {X : Type 0} (R : X → X → Type 0) → ((x y z : X) → R x y → R y z → R x z) → (x : X) (xs : List X) (c : X)
        → ((k : ℕ) (d : X) → k + 1 < length (x ∷ xs) → R (get_or (x ∷ xs) k d) (get_or (x ∷ xs) (k + 1) d)) → Pairwise R xs → Among xs c → R x c
    first_steps R trans x [] c s tail i = absurd i
    first_steps {X} R trans x (y ∷ ys) c s tail (inl e) = let P : X → Type 0 = λ v. R x v in subst P e (s 0 x (omega arith))
    first_steps R trans x (y ∷ ys) c s tail (inr i) = trans x y c (s 0 x (omega arith)) (tail.0 c i)

pub to_contains : {X : Type 0} (xs : List X) (x : X) → Among xs x → Contains xs x
to_contains [] x i = absurd i
to_contains (y ∷ ys) x (inl e) = (0, omega arith, e)
to_contains (y ∷ ys) x (inr i) = let r : Contains ys x = to_contains ys x i in (suc r.0, omega (arith, r.1), r.2)

among_at : {X : Type 0} (xs : List X) (i : ℕ) (d : X) → i < length xs → Among xs (get_or xs i d)
among_at [] i d h = absurd (omega arith)
among_at (x ∷ xs) zero d h = inl refl
among_at (x ∷ xs) (suc i) d h = inr (among_at xs i d (omega arith))

pub from_contains : {X : Type 0} (xs : List X) (x : X) → Contains xs x → Among xs x
from_contains {X} xs x h = let P : X → Type 0 = λ v. Among xs v in subst P h.2 (among_at xs h.0 x h.1)

pub permuted : {X : Type 0} (xs ys : List X) (x : X) → IsPermutation xs ys → Among xs x → Among ys x
permuted xs ys x p h = from_contains ys x (Contains-permutation xs ys x p (to_contains xs x h))

pub item_among : {X : Type 0} (xs : List X) (i : ℕ) (b : X) → i < length xs → b ≡ get_or xs i b → Among xs b
item_among {X} xs i b h e = let P : X → Type 0 = λ v. Among xs v in subst P (sym e) (among_at xs i b h)

pub pairwise_parts : {X : Type 0} (R : X → X → Type 0) (m n : List X) → Pairwise R (m ++ n) → Pairwise R m × Pairwise R n
pairwise_parts R [] n h = (tt, h)
pairwise_parts R (d ∷ ds) n h = let r = pairwise_parts R ds n h.1 in (((λ c i. h.0 c (among_left ds n c i)), r.0), r.1)

-- it holds of each element of the first list and each one of the second
pub pairwise_across : {X : Type 0} (R : X → X → Type 0) (m n : List X) (a b : X) → Pairwise R (m ++ n) → Among m a → Among n b → R a b
pairwise_across R [] n a b h i j = absurd i
pairwise_across {X} R (d ∷ ds) n a b h (inl e) j = let P : X → Type 0 = λ u. R u b in subst P e (h.0 b (among_right ds n b j))
pairwise_across R (d ∷ ds) n a b h (inr i) j = pairwise_across R ds n a b h.1 i j

pub parted_at : {X : Type 0} (xs : List X) (i : ℕ) (b : X) → i < length xs → b ≡ get_or xs i b → take i xs ++ b ∷ drop (i + 1) xs ≡ xs
parted_at xs i b h e =
    let d : drop i xs ≡ get_or xs i b ∷ drop (i + 1) xs = grind (arith, common_steps) in
    let t : take i xs ++ drop i xs ≡ xs = grind (arith, common_steps) in
    rw (e, ← d) t
