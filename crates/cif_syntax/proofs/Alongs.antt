-- Bytes one after another.
use Rattle.std.proofs.Common.{◌≡◌, ◌≢◌, inl, inr, ℕ, ◌+◌, ◌*◌, ◌≤◌, ◌==◌, Bool, true, false, cond, ◌&&◌, List, [], ◌∷◌, ◌++◌, Option, Some, None, refl, sym, ◌∙◌, ap, arith}
use Rattle.std.specs.List.{list_all}
use Rattle.std.specs.Char.{digit_value}
use Rattle.std.specs.Str.Parse.{digits_value_after}
use Rattle.std.proofs.lemmas.Str.{digit_value_digit}
use Rattle.std.proofs.lemmas.Bool.Decides.{nat_tests}
use Rattle.rx_text.specs.NumberInText.{is_digit}
use Rattle.geom.specs.CifCommands.{is_cif_blank, AreCifBlanks}
use Rattle.cif_syntax.specs.declared.kind.Kind.TheVariants.{Blank}
use Rattle.cif_syntax.specs.declared.slot.Slot.{Slot}
use Rattle.cif_syntax.specs.declared.due.Due.{Due}
use Rattle.cif_syntax.specs.declared.due.Due.TheVariants.{Digits, Gap}
use Rattle.cif_syntax.specs.Kinds.{kind_of}
use Rattle.cif_syntax.specs.Machine.{step, go_on, along}
use Rattle.cif_syntax.specs.Slots.{is_scale}
use Rattle.cif_syntax.proofs.Bytes.{blank_kind, digit_kind}

pub along_append : (due : Due) (xs ys : List ℕ) → along due (xs ++ ys) ≡ go_on (along due xs) (λ next. along next ys)
along_append due [] ys = refl
along_append due (x ∷ xs) ys = by (step due (kind_of x)) (λ next. along_append next xs ys)
  where
    by : (o : Option Due) → ((next : Due) → along next (xs ++ ys) ≡ go_on (along next xs) (λ last. along last ys))
        → go_on o (λ next. along next (xs ++ ys)) ≡ go_on (go_on o (λ next. along next xs)) (λ next. along next ys)
    by None h = refl
    by (Some next) h = h next

-- behind bytes that lead to a state
pub along_then : (due next : Due) (xs ys : List ℕ) → along due xs ≡ Some next → along due (xs ++ ys) ≡ along next ys
along_then due next xs ys e = along_append due xs ys ∙ ap (λ (o : Option Due). go_on o (λ d. along d ys)) e

-- one byte more
pub along_step : (due next : Due) (x : ℕ) (xs : List ℕ) → step due (kind_of x) ≡ Some next → along due (x ∷ xs) ≡ along next xs
along_step due next x xs e = ap (λ (o : Option Due). go_on o (λ d. along d xs)) e

pub along_push : (first due : Due) (xs : List ℕ) (x : ℕ) → along first xs ≡ Some due → along first (xs ++ x ∷ []) ≡ step due (kind_of x)
along_push first due xs x e = along_then first due xs (x ∷ []) e ∙ by (step due (kind_of x))
  where
    by : (o : Option Due) → go_on o (λ next. along next []) ≡ o
    by None = refl
    by (Some next) = refl

-- where a front leads nowhere, nothing with this front leads anywhere
pub front_leads : (due last : Due) (xs ys : List ℕ) → along due (xs ++ ys) ≡ Some last → (next : Due) × (along due xs ≡ Some next) × (along next ys ≡ Some last)
front_leads due last xs ys e = by (along due xs) refl
  where
    by : (o : Option Due) → along due xs ≡ o → (next : Due) × (along due xs ≡ Some next) × (along next ys ≡ Some last)
    by None f = let z : go_on None (λ next. along next ys) ≡ Some last = (ap (λ (o : Option Due). go_on o (λ d. along d ys)) (sym f)) ∙ (sym (along_append due xs ys) ∙ e) in absurd cc
    by (Some next) f = (next, f, sym (along_then due next xs ys f) ∙ e)

first_of : (a b : Bool) → (a && b) ≡ true → (a ≡ true) × (b ≡ true)
first_of true b e = (refl, e)
first_of false b e = absurd cc

pub all_first : (p : ℕ → Bool) (x : ℕ) (xs : List ℕ) → list_all p (x ∷ xs) ≡ true → (p x ≡ true) × (list_all p xs ≡ true)
all_first p x xs h = first_of (p x) (list_all p xs) h

-- ---- blanks

-- blanks change nothing where one does not
pub blanks_stay : (due : Due) (gap : List ℕ) → step due Blank ≡ Some due → AreCifBlanks gap → along due gap ≡ Some due
blanks_stay due [] s h = refl
blanks_stay due (b ∷ bs) s h =
    let f = all_first is_cif_blank b bs h in
    along_step due due b bs (ap (step due) (blank_kind b f.0) ∙ s) ∙ blanks_stay due bs s f.1

-- what is due behind a number and blanks
abbrev pub after : Slot → Bool → List ℕ → Due
after slot all [] = Digits slot all
after slot all (b ∷ bs) = Gap slot

pub gap_run : (slot : Slot) (all : Bool) (gap : List ℕ) → (all && is_scale slot) ≡ false → AreCifBlanks gap
    → along (Digits slot all) gap ≡ Some (after slot all gap)
gap_run slot all [] z h = refl
gap_run slot all (b ∷ bs) z h =
    let f = all_first is_cif_blank b bs h in
    let s : step (Digits slot all) Blank ≡ Some (Gap slot) = ap (λ (v : Bool). cond v None (Some (Gap slot))) z in
    along_step (Digits slot all) (Gap slot) b bs (ap (step (Digits slot all)) (blank_kind b f.0) ∙ s) ∙ blanks_stay (Gap slot) bs refl f.1

-- ---- digits

-- all digits are 0
abbrev pub are_zeros : List ℕ → Bool
are_zeros ds = list_all (λ d. d == 48) ds

pub zero_digit : (d : ℕ) → d ≡ 48 → (d == 48) ≡ true
zero_digit d e = ap (λ (n : ℕ). n == 48) e

pub other_digit : (d : ℕ) → d ≢ 48 → (d == 48) ≡ false
other_digit d h = grind (arith, nat_tests)

never_true : (all b : Bool) → false ≡ (all && (false && b))
never_true true b = refl
never_true false b = refl

-- digits of a number go on
pub digits_run : (slot : Slot) (all : Bool) (ds : List ℕ) → list_all is_digit ds ≡ true → along (Digits slot all) ds ≡ Some (Digits slot (all && are_zeros ds))
digits_run slot true [] h = refl
digits_run slot false [] h = refl
digits_run slot all (d ∷ ds) h =
    let f = all_first is_digit d ds h in
    elim (digit_kind d f.0) [
      | inl k ↦
          along_step (Digits slot all) (Digits slot all) d ds (ap (step (Digits slot all)) k.0)
          ∙ (digits_run slot all ds f.1 ∙ ap (λ (v : Bool). Some (Digits slot (all && (v && are_zeros ds)))) (sym (zero_digit d k.1)))
      | inr k ↦
          along_step (Digits slot all) (Digits slot false) d ds (ap (step (Digits slot all)) k.0)
          ∙ (digits_run slot false ds f.1 ∙ (ap (λ (v : Bool). Some (Digits slot v)) (never_true all (are_zeros ds))
          ∙ ap (λ (v : Bool). Some (Digits slot (all && (v && are_zeros ds)))) (sym (other_digit d k.1))))
    ]

digit_bounds : (d : ℕ) → is_digit d ≡ true → (48 ≤ d) × (d ≤ 57)
digit_bounds d h = (grind (arith, nat_tests), grind (arith, nat_tests))

-- a number is 0 exactly where all its digits are
pub value_zero : (n : ℕ) (ds : List ℕ) → list_all is_digit ds ≡ true → digits_value_after 10 n ds ≡ 0 → (n ≡ 0) × (are_zeros ds ≡ true)
value_zero n [] h e = (e, refl)
value_zero n (d ∷ ds) h e =
    let f = all_first is_digit d ds h in
    let b = digit_bounds d f.0 in
    let r = value_zero (n * 10 + digit_value d) ds f.1 e in
    let v : digit_value d + 48 ≡ d = digit_value_digit d b in
    let z : d ≡ 48 = omega (arith, v, r.0, b.0) in
    (omega (arith, r.0), ap (λ (t : Bool). t && are_zeros ds) (zero_digit d z) ∙ r.1)

pub zero_value : (n : ℕ) (ds : List ℕ) → list_all is_digit ds ≡ true → n ≡ 0 → are_zeros ds ≡ true → digits_value_after 10 n ds ≡ 0
zero_value n [] h e z = e
zero_value n (d ∷ ds) h e z =
    let f = all_first is_digit d ds h in
    let g = first_of (d == 48) (are_zeros ds) z in
    let b = digit_bounds d f.0 in
    let is : d ≡ 48 = grind (arith, nat_tests) in
    let v : digit_value d + 48 ≡ d = digit_value_digit d b in
    zero_value (n * 10 + digit_value d) ds f.1 (omega (arith, v, is, e)) g.1
