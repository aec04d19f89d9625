-- Numbers that bytes write.
use Rattle.std.proofs.Common.{◌≡◌, inl, inr, ℕ, zero, suc, ◌+◌, ◌-◌, ◌≤◌, ◌<◌, ◌==◌, Bool, true, false, ◌&&◌, ℤ, pos, neg_ℤ, ◌-ℤ◌, List, [], ◌∷◌, length, take, drop, get_or, refl, sym, ◌∙◌, ap, subst, arith}
use Rattle.std.specs.List.{list_all, prefix_len}
use Rattle.std.specs.Str.Parse.{digits_value}
use Rattle.std.proofs.lemmas.Bool.{cases_Bool}
use Rattle.std.proofs.lemmas.List.{append-nil, length-drop}
use Rattle.std.proofs.lemmas.List.Sums.{prefix_len-le-length}
use mir.Syntax.{w64}
use mir.Val.{to_z, of_z}
use Rattle.rx_text.specs.NumberInText.{is_digit}
use Rattle.geom.specs.CifCommands.{WritesNumber, WritesSigned}
use Rattle.cif_syntax.specs.Ends.{between}
use Rattle.cif_values.specs.Numbers.{StandsFor}
use Rattle.cif_values.specs.Runs.{Counts, behind_digits}
use Rattle.cif_values.proofs.Bytes.{all_first, digit_bounds}
use Rattle.cif_values.proofs.Texts.{run_exact, drop_first}
use Rattle.cif_values.proofs.Standing.{stands_plain, stands_minus, plain_word, minus_word}

-- all bytes are digits where the run of digits is as long
all_run : (p : ℕ → Bool) (xs : List ℕ) → list_all p xs ≡ true → prefix_len p xs ≡ length xs
all_run p xs h = ap (prefix_len p) (sym (append-nil xs)) ∙ run_exact p xs [] h tt

run_all : (p : ℕ → Bool) (xs : List ℕ) → list_all p (take (prefix_len p xs) xs) ≡ true
run_all p [] = refl
run_all p (x ∷ xs) =
    elim (cases_Bool (p x)) [
      | inl good ↦ rw good (let e : 1 + prefix_len p xs ≡ suc (prefix_len p xs) = omega arith in rw e (ap (λ (v : Bool). v && list_all p (take (prefix_len p xs) xs)) good ∙ run_all p xs))
      | inr bad ↦ rw bad refl
    ]

take_whole : (xs : List ℕ) → take (length xs) xs ≡ xs
take_whole [] = refl
take_whole (x ∷ xs) = ap (λ (l : List ℕ). x ∷ l) (take_whole xs)

no_bytes : (xs : List ℕ) → length xs ≡ 0 → xs ≡ []
no_bytes [] e = refl
no_bytes (x ∷ xs) e = absurd (omega (arith, e))

-- where no digit stands, or bytes stand behind the digits, they write no number
pub none_here : (word : List ℕ) (from behind n : ℕ) → behind ≡ behind_digits word from → behind ≡ from → WritesNumber n (drop from word) → ⊥
none_here word from behind n e f w =
    let r = all_run is_digit (drop from word) w.digits in
    w.some (no_bytes (drop from word) (omega (arith, e, f, r)))

pub none_whole : (word : List ℕ) (from behind n : ℕ) → from ≤ length word → behind ≡ behind_digits word from → behind < length word → WritesNumber n (drop from word) → ⊥
none_whole word from behind n o e l w =
    let r = all_run is_digit (drop from word) w.digits in
    let k = length-drop from word in
    omega (arith, e, l, r, k, o)

pub number_whole : (m : ℕ) (word : List ℕ) (from behind v : ℕ) → from ≤ length word → behind ≡ behind_digits word from → (behind ≡ from → ⊥) → length word ≤ behind
    → Counts m (digits_value 10 (between word from behind)) v → (n : ℕ) × WritesNumber n (drop from word) × Counts m n v
number_whole m word from behind v o e some l c =
    let xs : List ℕ = drop from word in
    let k = length-drop from word in
    let b = prefix_len-le-length is_digit xs in
    let r : prefix_len is_digit xs ≡ length xs = omega (arith, e, l, k, b, o) in
    let t : between word from behind ≡ xs = (let d : behind - from ≡ length xs = omega (arith, e, r) in ap (λ (n : ℕ). take n xs) d ∙ take_whole xs) in
    let all : list_all is_digit xs ≡ true =
    ap (list_all is_digit) (sym (take_whole xs) ∙ ap (λ (n : ℕ). take n xs) (sym r)) ∙ run_all is_digit xs in
    let P : List ℕ → Type 0 = λ w. Counts m (digits_value 10 w) v in (
      digits_value 10 xs,
      record { some = λ z. some (let y = ap length z in omega (arith, e, r, y)); digits = all; value = refl },
      subst P t c,
    )

-- ---- with a sign

pub minus_written : (m : ℕ) (word : List ℕ) (n v : ℕ) → 0 < length word → get_or word 0 0 ≡ 45 → WritesNumber n (drop 1 word) → Counts m n v
    → (z : ℤ) × WritesSigned z word × StandsFor m z (to_z w64 (of_z w64 (pos 0 -ℤ to_z w64 v)))
minus_written m word n v l b w c =
    let P : ℤ → Type 0 = λ z. StandsFor m (neg_ℤ (pos n)) z in (
      neg_ℤ (pos n),
      inr (n, drop 1 word, refl, drop_first word 0 l ∙ ap (λ (x : ℕ). x ∷ drop 1 word) b, w),
      subst P (sym (minus_word v c.near)) (stands_minus m n v c),
    )

pub plain_written : (m : ℕ) (word : List ℕ) (n v : ℕ) → WritesNumber n word → Counts m n v → (z : ℤ) × WritesSigned z word × StandsFor m z (to_z w64 v)
plain_written m word n v w c =
    let P : ℤ → Type 0 = λ z. StandsFor m (pos n) z in (pos n, inl (n, refl, w), subst P (sym (plain_word v c.near)) (stands_plain m n v c))

-- ---- none

pub no_minus_written : (word : List ℕ) (z : ℤ) → 0 < length word → get_or word 0 0 ≡ 45 → ((n : ℕ) → WritesNumber n (drop 1 word) → ⊥) → WritesSigned z word → ⊥
no_minus_written [] z l b none w = omega (arith, l)
no_minus_written (x ∷ xs) z l b none (inl w) =
    let d = digit_bounds x (all_first is_digit x xs w.2.digits).0 in
    let e : x ≡ 45 = b in omega (arith, d, e)
no_minus_written (x ∷ xs) z l b none (inr w) =
    let e : xs ≡ w.1 = ap (drop 1) w.3 in
    let P : List ℕ → Type 0 = λ k. WritesNumber w.0 k in none w.0 (subst P (sym e) w.4)

pub no_plain_written : (word : List ℕ) (z : ℤ) → (0 < length word → get_or word 0 0 ≡ 45 → ⊥) → ((n : ℕ) → WritesNumber n word → ⊥) → WritesSigned z word → ⊥
no_plain_written word z other none (inl w) = none w.0 w.2
no_plain_written word z other none (inr w) =
    let l : length word ≡ suc (length w.1) = ap length w.3 in
    other (omega (arith, l)) (ap (λ (k : List ℕ). get_or k 0 0) w.3)

pub some_word : (word : List ℕ) (t : Bool) → t ≡ (length word == 0) → t ≡ false → 0 < length word
some_word word t e f = by (length word) (sym e ∙ f)
  where
    by : (n : ℕ) → (n == 0) ≡ false → 0 < n
    by zero h = absurd cc
    by (suc n) h = omega arith
