-- Numbers as they are written, and distances that are whole numbers of λ.
use Rattle.std.proofs.Common.{◌≡◌, ◌≢◌, inl, inr, ℕ, suc, ◌+◌, ◌*◌, ◌<◌, ◌≤◌, ◌^◌, true, ℤ, pos, negsuc, neg_ℤ, ◌*ℤ◌, ◌≤ℤ◌, int_div, int_rem, List, [], ◌∷◌, length, refl, ap, arith}
use Rattle.std.specs.Prelude.{unsigned_abs}
use Rattle.std.specs.List.{list_all}
use Rattle.std.specs.Fmt.{decimal, signed_decimal}
use Rattle.std.specs.Str.Parse.{AllDigits}
use Rattle.std.proofs.lemmas.Fmt.{decimal_is_IsNumeral}
use Rattle.std.proofs.lemmas.Str.Parse.{digit_from_value}
use Rattle.std.proofs.lemmas.Bool.{le-leb}
use Rattle.std.proofs.lemmas.Int.{ints}
use Rattle.std.proofs.lemmas.Nat.{div-mul-add, mod-mul-add}
use Rattle.rx_text.specs.NumberInText.{is_digit}
use Rattle.geom.specs.CifCommands.{WritesNumber, WritesSigned, CifScale}
use Rattle.geom.specs.CifDrawings.{scaled}
use Rattle.geom.specs.CifCodes.{IsOffGrid, IsFarOff}

pub number_writes : (n : ℕ) → n < 2 ^ 64 → WritesNumber n (decimal n)
number_writes n small =
    let numeral = decimal_is_IsNumeral n small in
    record { some = nonempty (decimal n) numeral.0.0; digits = all (decimal n) numeral.0.1; value = numeral.1 }
  where
    nonempty : (bytes : List ℕ) → 0 < length bytes → bytes ≢ []
    nonempty [] h e = absurd (omega (arith, h))
    nonempty (b ∷ bytes) h e = cc

    all : (ds : List ℕ) → AllDigits 10 ds → list_all is_digit ds ≡ true
    all [] h = refl
    all (d ∷ ds) h = let range = digit_from_value d h.0 in rw (le-leb _ _ range.0, le-leb _ _ range.1) (all ds h.1)

pub signed_writes : (z : ℤ) → unsigned_abs z < 2 ^ 64 → WritesSigned z (signed_decimal z)
signed_writes (pos n) small = inl (n, refl, number_writes n small)
signed_writes (negsuc n) small = inr (suc n, decimal (suc n), refl, refl, number_writes (suc n) small)

-- a whole number of times 400, divided by 400
pub exact_quotient : (v : ℤ) → int_div (v *ℤ pos 400) (pos 400) ≡ v
exact_quotient (pos n) = ap pos (let e : n * 400 ≡ n * 400 + 0 = omega arith in rw e (div-mul-add n 400 0 (omega arith)))
exact_quotient (negsuc n) =
    let e : suc n * 400 ≡ suc (n * 400 + 399) = omega arith in
    let f : suc (n * 400 + 399) ≡ suc n * 400 + 0 = omega arith in
    rw (e, f) (ap (λ k. neg_ℤ (pos k)) (div-mul-add (suc n) 400 0 (omega arith)))

pub exact_rest : (v : ℤ) → int_rem (v *ℤ pos 400) (pos 400) ≡ pos 0
exact_rest (pos n) = ap pos (let e : n * 400 ≡ n * 400 + 0 = omega arith in rw e (mod-mul-add n 400 0 (omega arith)))
exact_rest (negsuc n) =
    let e : suc n * 400 ≡ suc (n * 400 + 399) = omega arith in
    let f : suc (n * 400 + 399) ≡ suc n * 400 + 0 = omega arith in
    rw (e, f) (ap (λ k. neg_ℤ (pos k)) (mod-mul-add (suc n) 400 0 (omega arith)))

-- v is within 2^40 of 0
pub record IsWithin40 (v : ℤ) : Type 0 where
  pub from : neg_ℤ (pos (2 ^ 40)) ≤ℤ v
  pub to : v ≤ℤ pos (2 ^ 40)

-- The distance lies on the grid, within reach, and is v λ.
pub record IsLength (scale : CifScale) (twice v : ℤ) : Type 0 where
  pub on_grid : IsOffGrid scale twice → ⊥
  pub near : IsFarOff scale twice → ⊥
  pub is : scaled scale twice ≡ v

pub length_of : (times : ℕ) (twice v : ℤ) → twice *ℤ pos times ≡ v *ℤ pos 400 → IsWithin40 v → IsLength (record { times = times; per = 1 }) twice v
length_of times twice v e near = record {
  on_grid = λ off. off (rw e (exact_rest v));
  near = λ far. elim far [
    | inl above ↦ (let h = rw e at above in omega (arith, ints, h, near.to))
    | inr below ↦ (let h = rw e at below in omega (arith, ints, h, near.from))
  ];
  is = rw e (exact_quotient v);
}
