-- The element behind a front of a list that is seen through a function.
use Rattle.std.proofs.Common.{◌≡◌, List, [], ◌∷◌, ◌++◌, length, get_or, set, map, ap, ◌∙◌}
use Rattle.std.specs.List.{remove}

module _ {X Y : Type 0} (f : X → Y) where
  pub at_middle : (xs : List X) (front rest : List Y) (y : Y) (x : X) → map f xs ≡ front ++ y ∷ rest → x ≡ get_or xs (length front) x → f x ≡ y
  at_middle [] [] rest y x e g = absurd (cc)
  at_middle [] (a ∷ front) rest y x e g = absurd (cc)
  at_middle (z ∷ zs) [] rest y x e g = let h : f z ≡ y = cc in ap f g ∙ h
  at_middle (z ∷ zs) (a ∷ front) rest y x e g = let h : map f zs ≡ front ++ y ∷ rest = cc in at_middle zs front rest y x h g

  pub set_middle : (xs : List X) (front rest : List Y) (y : Y) (x : X) → map f xs ≡ front ++ y ∷ rest → map f (set xs (length front) x) ≡ front ++ f x ∷ rest
  set_middle [] [] rest y x e = absurd (cc)
  set_middle [] (a ∷ front) rest y x e = absurd (cc)
  set_middle (z ∷ zs) [] rest y x e = let h : map f zs ≡ rest = cc in ap (λ l. f x ∷ l) h
  set_middle (z ∷ zs) (a ∷ front) rest y x e =
      let here : f z ≡ a = cc in
      let h : map f zs ≡ front ++ y ∷ rest = cc in
      ap (λ b. b ∷ map f (set zs (length front) x)) here ∙ ap (λ l. a ∷ l) (set_middle zs front rest y x h)

  pub remove_middle : (xs : List X) (front rest : List Y) (y : Y) → map f xs ≡ front ++ y ∷ rest → map f (remove xs (length front)) ≡ front ++ rest
  remove_middle [] [] rest y e = absurd (cc)
  remove_middle [] (a ∷ front) rest y e = absurd (cc)
  remove_middle (z ∷ zs) [] rest y e = let h : map f zs ≡ rest = cc in h
  remove_middle (z ∷ zs) (a ∷ front) rest y e =
      let here : f z ≡ a = cc in
      let h : map f zs ≡ front ++ y ∷ rest = cc in
      ap (λ b. b ∷ map f (remove zs (length front))) here ∙ ap (λ l. a ∷ l) (remove_middle zs front rest y h)
