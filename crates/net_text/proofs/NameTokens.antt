-- Names in a text.
use Rattle.std.proofs.Common.{◌≡◌, inl, inr, ℕ, suc, ◌<◌, ◌≤◌, true, false, ◌==◌, List, [], ◌∷◌, ◌++◌, take, length, refl, sym, ◌∙◌, arith}
use Rattle.std.proofs.lemmas.Bool.{cases_Bool, leb-true, lt-leb, le-leb, ne_eqb}
use Rattle.std.proofs.lemmas.List.{length-append, length-take}
use Rattle.std.specs.Prelude.{nat_le, min}
use Rattle.std.specs.List.{list_all, prefix_len}
use Rattle.rx_text.specs.Name.{is_letter, is_name_byte, begins_as_name, is_name}
use Rattle.rx_text.specs.NumberInText.{is_digit}
use Rattle.net_text.specs.Reading.{name_length}
use Rattle.net_text.specs.Stages.{IsName}
use Rattle.net_text.proofs.Advancing.{quiet}
use Rattle.net_text.proofs.ReadBack.{both_true}
use Rattle.net_text.proofs.Runs.{run_past, run_of_class}

-- a letter is a byte of names, and no digit
letter_in_name : (c : ℕ) → is_letter c ≡ true → is_name_byte c ≡ true
letter_in_name c h = rw h refl

letter_no_digit : (c : ℕ) → is_letter c ≡ true → is_digit c ≡ false
letter_no_digit c h =
    let parts = both_true (nat_le 97 c) _ h in
    let low : 97 ≤ c = leb-true _ _ parts.0 in
    let high : 57 < c = omega (arith, low) in
    let above : nat_le c 57 ≡ false = lt-leb _ _ high in
    elim (cases_Bool (nat_le 48 c)) [
      | inl one ↦ rw (one, above) refl
      | inr other ↦ rw other refl
    ]

-- a byte of names is no space
name_byte_no_space : (c : ℕ) → is_name_byte c ≡ true → (c == 32) ≡ false
name_byte_no_space c h = ne_eqb c 32 (λ e. let clash : false ≡ true = rw e at h in cc)

-- a name has bytes of names alone, 31 at most
pub name_of_class : (name : List ℕ) → IsName name → list_all is_name_byte name ≡ true
name_of_class [] n = refl
name_of_class (c ∷ cs) n =
    let parts = both_true (is_letter c) _ (both_true (begins_as_name (c ∷ cs)) _ n).0 in rw (letter_in_name c parts.0, parts.1) refl

name_short : (name : List ℕ) → IsName name → length name ≤ 31
name_short name n = leb-true _ _ (both_true (begins_as_name name) _ n).1

-- the longest run at the front has no name that goes on
pub name_longest : (name : List ℕ) (c : ℕ) (rest more : List ℕ) → IsName name → name_length (name ++ c ∷ rest) ≡ length name
    → IsName (name ++ c ∷ more) → ⊥
name_longest name c rest more n e longer =
    let short : suc (length name) ≤ 31 = omega (arith, length-append name (c ∷ more), name_short (name ++ c ∷ more) longer) in
    let past = run_past is_name_byte name c rest (name_of_class name n) (byte_in name (name_of_class (name ++ c ∷ more) longer)) in
    omega (arith, short, past, e)
  where
    byte_in : (xs : List ℕ) → list_all is_name_byte (xs ++ c ∷ more) ≡ true → is_name_byte c ≡ true
    byte_in [] h = (both_true (is_name_byte c) _ h).0
    byte_in (y ∷ xs) h = byte_in xs (both_true (is_name_byte y) _ h).1

-- where the longest run is no name, no name begins
pub name_missing : (c : ℕ) (others name : List ℕ) → is_name (take (name_length (c ∷ others)) (c ∷ others)) ≡ false → IsName (c ∷ name) → ⊥
name_missing c others name none n =
    let letter : is_letter c ≡ true = (both_true (is_letter c) _ (both_true (begins_as_name (c ∷ name)) _ n).0).0 in
    let count : name_length (c ∷ others) ≡ suc (min (prefix_len is_name_byte others) 30) = rw (letter_in_name c letter) (omega arith) in
    let few : min (prefix_len is_name_byte others) 30 ≤ prefix_len is_name_byte others = omega arith in
    let all = run_of_class is_name_byte (min (prefix_len is_name_byte others) 30) others few in
    let size : length (take (min (prefix_len is_name_byte others) 30) others) ≤ 30 = sizes (min (prefix_len is_name_byte others) 30) others (omega arith) in
    let whole : is_name (c ∷ take (min (prefix_len is_name_byte others) 30) others) ≡ true = rw (letter, all) (le-leb _ _ (omega (arith, size))) in
    let clash : true ≡ false = sym whole ∙ rw count at none in
    cc
  where
    sizes : (n : ℕ) (xs : List ℕ) → n ≤ 30 → length (take n xs) ≤ 30
    sizes n xs few = omega (arith, length-take n xs, few)

-- no number begins in a name
pub name_quiet : (name : List ℕ) → IsName name → quiet true name ≡ true
name_quiet [] n = cc
name_quiet (c ∷ cs) n =
    let parts = both_true (is_letter c) _ (both_true (begins_as_name (c ∷ cs)) _ n).0 in
    rw (letter_no_digit c parts.0, name_byte_no_space c (letter_in_name c parts.0)) (inside cs parts.1)
  where
    inside : (cs : List ℕ) → list_all is_name_byte cs ≡ true → quiet false cs ≡ true
    inside [] h = refl
    inside (d ∷ cs) h =
        let parts = both_true (is_name_byte d) _ h in rw (name_byte_no_space d parts.0) (inside cs parts.1)
