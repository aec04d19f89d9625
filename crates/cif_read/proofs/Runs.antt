-- Runs of bytes, and the numbers that they write.
use Rattle.std.specs.Prelude.{⊤}
use Rattle.std.proofs.Common.{◌≡◌, inl, inr, ℕ, ◌==◌, Bool, true, false, not, ◌&&◌, ◌||◌, ℤ, pos, neg_ℤ, List, [], ◌∷◌, ◌++◌, refl, sym, ◌∙◌, ap, subst, arith}
use Rattle.std.specs.List.{list_all}
use Rattle.std.specs.Str.Parse.{digits_value}
use Rattle.std.proofs.lemmas.Bool.{false_from_ne_true}
use Rattle.std.proofs.lemmas.Bool.Decides.{nat_tests}
use Rattle.rx_text.specs.NumberInText.{is_digit}
use Rattle.geom.specs.CifCommands.{is_cif_blank, is_capital, WritesNumber, WritesSigned}

-- the first byte, if there is one, does not pass
abbrev pub Fails : (ℕ → Bool) → List ℕ → Type 0
Fails p [] = ⊤
Fails p (b ∷ bs) = p b ≡ false

pub fails_at : (p : ℕ → Bool) (xs ys : List ℕ) → xs ≡ ys → Fails p xs → Fails p ys
fails_at p xs ys e h = let P : List ℕ → Type 0 = λ l. Fails p l in subst P e h

pub heads : {x y : ℕ} {xs ys : List ℕ} → x ∷ xs ≡ y ∷ ys → x ≡ y
heads e = cc

pub tails : {x y : ℕ} {xs ys : List ℕ} → x ∷ xs ≡ y ∷ ys → xs ≡ ys
tails e = cc

first_two : (a b : Bool) → (a && b) ≡ true → (a ≡ true) × (b ≡ true)
first_two true b e = (refl, e)
first_two false b e = absurd cc

pub all_first : (p : ℕ → Bool) (x : ℕ) (xs : List ℕ) → list_all p (x ∷ xs) ≡ true → (p x ≡ true) × (list_all p xs ≡ true)
all_first p x xs h = first_two (p x) (list_all p xs) h

opposite : (a b : Bool) → a ≡ true → b ≡ false → a ≡ b → ⊥
opposite a b x y e = let z : true ≡ false = sym x ∙ (e ∙ y) in cc

-- two runs of bytes that pass, before bytes that do not
pub one_run : (p : ℕ → Bool) (us bs xs ys : List ℕ) → list_all p us ≡ true → list_all p bs ≡ true → Fails p xs → Fails p ys → us ++ xs ≡ bs ++ ys
    → (us ≡ bs) × (xs ≡ ys)
one_run p [] [] xs ys a b f g e = (refl, e)
one_run p [] (y ∷ bs) xs ys a b f g e =
    absurd (opposite (p y) (p y) (all_first p y bs b).0 (fails_at p xs (y ∷ (bs ++ ys)) e f) refl)
one_run p (x ∷ us) [] xs ys a b f g e =
    absurd (opposite (p x) (p x) (all_first p x us a).0 (fails_at p ys (x ∷ (us ++ xs)) (sym e) g) refl)
one_run p (x ∷ us) (y ∷ bs) xs ys a b f g e =
    let r = one_run p us bs xs ys (all_first p x us a).1 (all_first p y bs b).1 f g (tails e) in
    (ap (λ (l : List ℕ). x ∷ l) r.0 ∙ ap (λ (v : ℕ). v ∷ bs) (heads e), r.1)

-- ---- bytes

pub digit_no_blank : (b : ℕ) → is_digit b ≡ true → is_cif_blank b ≡ false
digit_no_blank b h = ap (λ (v : Bool). not (v || is_capital b || b == 45 || b == 40 || b == 41 || b == 59)) h

pub capital_no_digit : (b : ℕ) → is_capital b ≡ true → is_digit b ≡ false
capital_no_digit b h = grind (arith, nat_tests)

pub capital_no_blank : (b : ℕ) → is_capital b ≡ true → is_cif_blank b ≡ false
capital_no_blank b h =
    ap (λ (v : Bool). not (v || is_capital b || b == 45 || b == 40 || b == 41 || b == 59)) (capital_no_digit b h)
    ∙ ap (λ (v : Bool). not (false || v || b == 45 || b == 40 || b == 41 || b == 59)) h

pub blank_no_digit : (b : ℕ) → is_cif_blank b ≡ true → is_digit b ≡ false
blank_no_digit b h = false_from_ne_true (is_digit b) (λ d. opposite (is_cif_blank b) (is_cif_blank b) h (digit_no_blank b d) refl)

pub blank_no_capital : (b : ℕ) → is_cif_blank b ≡ true → is_capital b ≡ false
blank_no_capital b h = false_from_ne_true (is_capital b) (λ d. opposite (is_cif_blank b) (is_cif_blank b) h (capital_no_blank b d) refl)

-- ---- numbers

pub digits_begin : (n : ℕ) (word more : List ℕ) → WritesNumber n word → Fails is_cif_blank (word ++ more)
digits_begin n [] more w = absurd (w.some refl)
digits_begin n (b ∷ bs) more w = digit_no_blank b (all_first is_digit b bs w.digits).0

pub signed_begins : (z : ℤ) (word more : List ℕ) → WritesSigned z word → Fails is_cif_blank (word ++ more)
signed_begins z word more (inl w) = digits_begin w.0 word more w.2
signed_begins z word more (inr w) = let P : List ℕ → Type 0 = λ l. Fails is_cif_blank (l ++ more) in subst P (sym w.3) refl

pub one_number : (n m : ℕ) (w v xs ys : List ℕ) → WritesNumber n w → WritesNumber m v → Fails is_digit xs → Fails is_digit ys → w ++ xs ≡ v ++ ys
    → (n ≡ m) × (xs ≡ ys)
one_number n m w v xs ys a b f g e =
    let r = one_run is_digit w v xs ys a.digits b.digits f g e in
    (sym a.value ∙ (ap (digits_value 10) r.0 ∙ b.value), r.1)

no_minus : (n : ℕ) (w xs ys : List ℕ) → WritesNumber n w → w ++ xs ≡ 45 ∷ ys → ⊥
no_minus n [] xs ys a e = a.some refl
no_minus n (b ∷ bs) xs ys a e = opposite (is_digit b) (is_digit 45) (all_first is_digit b bs a.digits).0 refl (ap is_digit (heads e))

pub one_signed : (z y : ℤ) (w v xs ys : List ℕ) → WritesSigned z w → WritesSigned y v → Fails is_digit xs → Fails is_digit ys → w ++ xs ≡ v ++ ys
    → (z ≡ y) × (xs ≡ ys)
one_signed z y w v xs ys (inl a) (inl b) f g e =
    let r = one_number a.0 b.0 w v xs ys a.2 b.2 f g e in (a.1 ∙ (ap pos r.0 ∙ sym b.1), r.1)
one_signed z y w v xs ys (inl a) (inr b) f g e = absurd (no_minus a.0 w xs (b.1 ++ ys) a.2 (e ∙ ap (λ (l : List ℕ). l ++ ys) b.3))
one_signed z y w v xs ys (inr a) (inl b) f g e = absurd (no_minus b.0 v ys (a.1 ++ xs) b.2 (sym e ∙ ap (λ (l : List ℕ). l ++ xs) a.3))
one_signed z y w v xs ys (inr a) (inr b) f g e =
    let t : a.1 ++ xs ≡ b.1 ++ ys = tails (ap (λ (l : List ℕ). l ++ xs) (sym a.3) ∙ (e ∙ ap (λ (l : List ℕ). l ++ ys) b.3)) in
    let r = one_number a.0 b.0 a.1 b.1 xs ys a.4 b.4 f g t in
    (a.2 ∙ (ap (λ (n : ℕ). neg_ℤ (pos n)) r.0 ∙ sym b.2), r.1)
