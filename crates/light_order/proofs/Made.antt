-- Lists that are made element by element, each from those before it.
use Rattle.std.proofs.Common.{◌≡◌, ◌∙◌, ℕ, ◌+◌, ◌<◌, List, [], ◌∷◌, ◌++◌, length, get_or, fold, refl, sym, ap, arith, length-append}
use Rattle.std.proofs.lemmas.List.{get_or_append_left}
use Rattle.std.proofs.lemmas.List.Sums.{fold-append}
use Rattle.std.proofs.Math.Seq.{get_or-append_seam}

module _ {A B : Type 0} (g : List B → A → B) (d : B) where
  abbrev pub made : List B → List A → List B
  made before xs = fold (λ b x. b ++ g b x ∷ []) before xs

  pub made_length : (xs : List A) (before : List B) → length (made before xs) ≡ length before + length xs
  made_length [] before = omega arith
  made_length (x ∷ xs) before = omega (arith, made_length xs (before ++ g before x ∷ []), length-append before (g before x ∷ []))

  -- what is made stays
  pub made_kept : (xs : List A) (before : List B) (k : ℕ) → k < length before → get_or (made before xs) k d ≡ get_or before k d
  made_kept [] before k h = refl
  made_kept (x ∷ xs) before k h =
      made_kept xs (before ++ g before x ∷ []) k (omega (arith, length-append before (g before x ∷ [])))
      ∙ get_or_append_left before (g before x ∷ []) d k h

  -- more elements leave those before them
  pub made_more : (xs ys : List A) (k : ℕ) → k < length xs → get_or (made [] (xs ++ ys)) k d ≡ get_or (made [] xs) k d
  made_more xs ys k h = ap (λ l. get_or l k d) (fold-append (λ b x. b ++ g b x ∷ []) [] xs ys)
      ∙ made_kept ys (made [] xs) k (omega (arith, made_length xs []))

  -- an element is made of those before it
  pub made_next : (xs ys : List A) (x : A) → get_or (made [] (xs ++ x ∷ ys)) (length xs) d ≡ g (made [] xs) x
  made_next xs ys x =
      let size : length (made [] xs) ≡ length xs = omega (arith, made_length xs []) in
      ap (λ l. get_or l (length xs) d) (fold-append (λ b x. b ++ g b x ∷ []) [] xs (x ∷ ys))
      ∙ made_kept ys (made [] xs ++ g (made [] xs) x ∷ []) (length xs) (omega (arith, length-append (made [] xs) (g (made [] xs) x ∷ []), size))
      ∙ ap (λ n. get_or (made [] xs ++ g (made [] xs) x ∷ []) n d) (sym size)
      ∙ get_or-append_seam (made [] xs) (g (made [] xs) x) [] d
