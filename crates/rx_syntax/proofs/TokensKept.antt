-- What holds of all tokens of a specification holds of those that its syntax keeps.
use Rattle.std.proofs.Common.{List, [], ◌∷◌, ◌++◌, sym, subst}
use Rattle.std.specs.Prelude.{⊤}
use Rattle.rx_syntax.specs.Lexemes.{Lexeme}
use Rattle.rx_syntax.specs.Grammar.{Statements, one, more}

abbrev pub Each : {A : Type 0} → (A → Type 0) → List A → Type 0
Each P [] = ⊤
Each P (x ∷ xs) = P x × Each P xs

module _ {A : Type 0} (P : A → Type 0) where
  pub each_both : (xs ys : List A) → Each P xs → Each P ys → Each P (xs ++ ys)
  each_both [] ys h i = i
  each_both (x ∷ xs) ys (first, h) i = (first, each_both xs ys h i)

  pub each_front : (xs ys : List A) → Each P (xs ++ ys) → Each P xs
  each_front [] ys h = tt
  each_front (x ∷ xs) ys (first, h) = (first, each_front xs ys h)

  pub each_rest : (xs ys : List A) → Each P (xs ++ ys) → Each P ys
  each_rest [] ys h = h
  each_rest (x ∷ xs) ys (first, h) = each_rest xs ys h

-- statements, one by one

module _ {A : Type 0} (P : Lexeme → Type 0) (Q : A → Type 0) (Is : List Lexeme → List A → Type 0)
    (keeps : (xs : List Lexeme) (found : List A) → Is xs found → Each P xs → Each Q found) where
  pub statements_keep : {xs : List Lexeme} {found : List A} → Statements Is xs found → Each P xs → Each Q found
  statements_keep (one {xs = xs} {found = found} is) h = keeps xs found is h
  statements_keep (more {xs = xs} {ys = ys} {zs = zs} {some = some} {others = others} whole holds before is) h =
      let all = subst (Each P) whole h in
      subst (Each Q) (sym holds)
      (each_both Q some others (statements_keep before (each_front P ys zs all)) (keeps zs others is (each_rest P ys zs all)))
