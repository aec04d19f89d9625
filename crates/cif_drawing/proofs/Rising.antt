-- Numbers in order, each once.
use Rattle.std.proofs.Common.{◌≡◌, Bool, true, false, cond, ℤ, ◌≤ℤ◌, ◌<ℤ◌, int_lt, List, [], ◌∷◌, ◌⊎◌, ◌↔◌, inl, inr, refl, sym, ◌∙◌, ap, subst, arith}
use Rattle.std.specs.List.{filter}
use Rattle.std.proofs.lemmas.Int.{ints, by_lt_z}
use Rattle.geom.specs.Rows.{Among, Pairwise}
use Rattle.cif_drawing.proofs.RowBoxes.{put, in_order}
use Rattle.cif_drawing.proofs.Tests.{lt_true}

abbrev pub Rising : List ℤ → Type 0
Rising = Pairwise (λ low high. low <ℤ high)

lt_false : (a b : ℤ) → b ≤ℤ a → int_lt a b ≡ false
lt_false a b h = grind (arith, ints)

same_order : (a b : ℤ) → a ≤ℤ b → b ≤ℤ a → a ≡ b
same_order a b h k = omega (arith, ints)

-- ---- lists with the same numbers

first_among : (x y : ℤ) (ys : List ℤ) → Rising (y ∷ ys) → Among (y ∷ ys) x → y ≤ℤ x
first_among x y ys r (inl e) = omega (arith, ints)
first_among x y ys r (inr i) = omega (arith, ints, r.0 x i)

tail_among : (x y v : ℤ) (xs ys : List ℤ) → x ≡ y → Rising (x ∷ xs) → (Among (x ∷ xs) v → Among (y ∷ ys) v) → Among xs v → Among ys v
tail_among x y v xs ys e r h i =
    elim (h (inr i)) [ inl f ↦ (let l : x <ℤ v = r.0 v i in absurd (omega (arith, ints))) | inr j ↦ j ]

pub rising_same : (xs ys : List ℤ) → Rising xs → Rising ys → ((v : ℤ) → Among xs v → Among ys v) → ((v : ℤ) → Among ys v → Among xs v) → xs ≡ ys
rising_same [] [] r s h k = refl
rising_same [] (y ∷ ys) r s h k = absurd (k y (inl refl))
rising_same (x ∷ xs) [] r s h k = absurd (h x (inl refl))
rising_same (x ∷ xs) (y ∷ ys) r s h k =
    let e : x ≡ y = same_order x y (first_among y x xs r (k y (inl refl))) (first_among x y ys s (h x (inl refl))) in
    ap (λ (v : ℤ). v ∷ xs) e
    ∙ ap (λ (l : List ℤ). y ∷ l) (rising_same xs ys r.1 s.1 (λ v i. tail_among x y v xs ys e r (h v) i) (λ v i. tail_among y x v ys xs (sym e) s (k v) i))

-- ---- a number more

abbrev put_by : Bool → Bool → ℤ → ℤ → List ℤ → List ℤ
put_by before behind x y ys = cond before (x ∷ y ∷ ys) (cond behind (y ∷ put x ys) (y ∷ ys))

put_low : (x y : ℤ) (ys : List ℤ) → x <ℤ y → put x (y ∷ ys) ≡ x ∷ y ∷ ys
put_low x y ys h = ap (λ (t : Bool). put_by t (int_lt y x) x y ys) (lt_true x y h)

put_high : (x y : ℤ) (ys : List ℤ) → y <ℤ x → put x (y ∷ ys) ≡ y ∷ put x ys
put_high x y ys h =
    ap (λ (t : Bool). put_by t (int_lt y x) x y ys) (lt_false x y (omega (arith, ints))) ∙ ap (λ (t : Bool). put_by false t x y ys) (lt_true y x h)

put_same : (x y : ℤ) (ys : List ℤ) → x ≡ y → put x (y ∷ ys) ≡ y ∷ ys
put_same x y ys h =
    ap (λ (t : Bool). put_by t (int_lt y x) x y ys) (lt_false x y (omega (arith, ints)))
    ∙ ap (λ (t : Bool). put_by false t x y ys) (lt_false y x (omega (arith, ints)))

-- either of three
by_three : {P : Type 0} (x y : ℤ) → (x <ℤ y → P) → (y <ℤ x → P) → (x ≡ y → P) → P
by_three x y low high same = by_lt_z x y low (λ h. by_lt_z y x high (λ k. same (same_order x y k h)))

abbrev IsPut : ℤ → List ℤ → List ℤ → Type 0
IsPut x ys new = (v : ℤ) → Among new v ↔ ((x ≡ v) ⊎ Among ys v)

is_put : (x : ℤ) (ys : List ℤ) → IsPut x ys (put x ys)
is_put x [] v = ((λ i. i), (λ i. i))
is_put x (y ∷ ys) v =
    let P : List ℤ → Type 0 = λ l. Among l v ↔ ((x ≡ v) ⊎ Among (y ∷ ys) v) in
    by_three x y (λ h. subst P (sym (put_low x y ys h)) ((λ i. i), (λ i. i)))
    (λ h. subst P (sym (put_high x y ys h)) (
      (λ i. elim i [ inl e ↦ inr (inl e) | inr j ↦ elim ((is_put x ys v).0 j) [ inl e ↦ inl e | inr m ↦ inr (inr m) ] ]),
      (λ i. elim i [ inl e ↦ inr ((is_put x ys v).1 (inl e)) | inr j ↦ elim j [ inl e ↦ inl e | inr m ↦ inr ((is_put x ys v).1 (inr m)) ] ]),
    ))
    (λ h. subst P (sym (put_same x y ys h)) ((λ i. inr i), (λ i. elim i [ inl e ↦ inl (sym h ∙ e) | inr j ↦ j ])))

put_rising : (x : ℤ) (ys : List ℤ) → Rising ys → Rising (put x ys)
put_rising x [] r = ((λ c i. absurd i), tt)
put_rising x (y ∷ ys) r =
    let P : List ℤ → Type 0 = λ l. Rising l in
    by_three x y (λ h. subst P (sym (put_low x y ys h)) ((λ c i. above c i h), r))
    (λ h. subst P (sym (put_high x y ys h)) ((λ c i. elim ((is_put x ys c).0 i) [ inl e ↦ omega (arith, ints) | inr j ↦ r.0 c j ]), put_rising x ys r.1))
    (λ h. subst P (sym (put_same x y ys h)) r)
  where
    above : (c : ℤ) → Among (y ∷ ys) c → x <ℤ y → x <ℤ c
    above c (inl e) h = omega (arith, ints)
    above c (inr i) h = omega (arith, ints, r.0 c i)

pub order_among : (xs : List ℤ) (v : ℤ) → Among (in_order xs) v ↔ Among xs v
order_among [] v = ((λ i. i), (λ i. i))
order_among (x ∷ xs) v = (
  (λ i. elim ((is_put x (in_order xs) v).0 i) [ inl e ↦ inl e | inr j ↦ inr ((order_among xs v).0 j) ]),
  (λ i. (is_put x (in_order xs) v).1 (elim i [ inl e ↦ inl e | inr j ↦ inr ((order_among xs v).1 j) ])),
)

pub order_rising : (xs : List ℤ) → Rising (in_order xs)
order_rising [] = tt
order_rising (x ∷ xs) = put_rising x (in_order xs) (order_rising xs)

-- ---- some of them

pub among_filter : (p : ℤ → Bool) (xs : List ℤ) (v : ℤ) → Among (filter p xs) v → Among xs v × (p v ≡ true)
among_filter p [] v i = absurd i
among_filter p (x ∷ xs) v i = by (p x) refl i (among_filter p xs v)
  where
    by : (t : Bool) → p x ≡ t → Among (cond t (x ∷ filter p xs) (filter p xs)) v → (Among (filter p xs) v → Among xs v × (p v ≡ true))
        → Among (x ∷ xs) v × (p v ≡ true)
    by true e (inl f) more = (inl f, ap p (sym f) ∙ e)
    by true e (inr j) more = let r = more j in (inr r.0, r.1)
    by false e j more = let r = more j in (inr r.0, r.1)

pub filter_among : (p : ℤ → Bool) (xs : List ℤ) (v : ℤ) → Among xs v → p v ≡ true → Among (filter p xs) v
filter_among p [] v i h = absurd i
filter_among p (x ∷ xs) v (inl e) h =
    let P : Bool → Type 0 = λ t. Among (cond t (x ∷ filter p xs) (filter p xs)) v in subst P (sym (ap p e ∙ h)) (inl e)
filter_among p (x ∷ xs) v (inr i) h = by (p x) (filter_among p xs v i h)
  where
    by : (t : Bool) → Among (filter p xs) v → Among (cond t (x ∷ filter p xs) (filter p xs)) v
    by true j = inr j
    by false j = j

pub filter_rising : (p : ℤ → Bool) (xs : List ℤ) → Rising xs → Rising (filter p xs)
filter_rising p [] r = tt
filter_rising p (x ∷ xs) r = by (p x) (filter_rising p xs r.1)
  where
    by : (t : Bool) → Rising (filter p xs) → Rising (cond t (x ∷ filter p xs) (filter p xs))
    by true s = ((λ c i. r.0 c (among_filter p xs c i).0), s)
    by false s = s
