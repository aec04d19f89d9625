-- Digits, capital letters and blanks.
use Rattle.std.proofs.Common.{◌≡◌, ℕ, ◌≤◌, ◌==◌, Bool, true, false, not, ◌&&◌, ◌||◌, List, [], ◌∷◌, ◌++◌, refl, sym, ◌∙◌, ap, arith}
use Rattle.std.specs.List.{list_all}
use Rattle.std.proofs.lemmas.Bool.Decides.{nat_tests}
use Rattle.rx_text.specs.NumberInText.{is_digit}
use Rattle.geom.specs.CifCommands.{is_capital, is_cif_blank}

pub digit_bounds : (d : ℕ) → is_digit d ≡ true → (48 ≤ d) × (d ≤ 57)
digit_bounds d h = (grind (arith, nat_tests), grind (arith, nat_tests))

pub digit_no_blank : (b : ℕ) → is_digit b ≡ true → is_cif_blank b ≡ false
digit_no_blank b h = ap (λ (v : Bool). not (v || is_capital b || b == 45 || b == 40 || b == 41 || b == 59)) h

pub capital_no_digit : (b : ℕ) → is_capital b ≡ true → is_digit b ≡ false
capital_no_digit b h = grind (arith, nat_tests)

pub capital_no_blank : (b : ℕ) → is_capital b ≡ true → is_cif_blank b ≡ false
capital_no_blank b h =
    ap (λ (v : Bool). not (v || is_capital b || b == 45 || b == 40 || b == 41 || b == 59)) (capital_no_digit b h)
    ∙ ap (λ (v : Bool). not (false || v || b == 45 || b == 40 || b == 41 || b == 59)) h

pub blank_no_digit : (b : ℕ) → is_cif_blank b ≡ true → is_digit b ≡ false
blank_no_digit b h = by (is_digit b) refl
  where
    by : (t : Bool) → is_digit b ≡ t → t ≡ false
    by true e = let z : false ≡ true = sym (digit_no_blank b e) ∙ h in absurd cc
    by false e = refl

first_two : (a b : Bool) → (a && b) ≡ true → (a ≡ true) × (b ≡ true)
first_two true b e = (refl, e)
first_two false b e = absurd cc

pub all_first : {X : Type 0} (p : X → Bool) (x : X) (xs : List X) → list_all p (x ∷ xs) ≡ true → (p x ≡ true) × (list_all p xs ≡ true)
all_first p x xs h = first_two (p x) (list_all p xs) h

pub all_join : {X : Type 0} (p : X → Bool) (xs ys : List X) → list_all p xs ≡ true → list_all p ys ≡ true → list_all p (xs ++ ys) ≡ true
all_join p [] ys h k = k
all_join p (x ∷ xs) ys h k =
    let f = all_first p x xs h in
    ap (λ (v : Bool). v && list_all p (xs ++ ys)) f.0 ∙ all_join p xs ys f.1 k
