-- Printed numbers are read back as numbers.
use Rattle.std.proofs.Common.{◌≡◌, ℕ, ◌<◌, ◌≤◌, Bool, true, false, List, [], ◌∷◌, length, refl, ap, arith, inl, inr}
use Rattle.std.specs.Prelude.{◌≢◌, ◌⊎◌, if◌then◌else◌}
use Rattle.std.specs.Fmt.{decimal}
use Rattle.std.specs.List.{list_all}
use Rattle.std.specs.Str.Parse.{AllDigits, digits_value}
use Rattle.std.proofs.lemmas.Bool.{le-leb, and_parts}
use Rattle.std.proofs.lemmas.Fmt.{decimal_is_IsNumeral}
use Rattle.std.proofs.lemmas.Str.Parse.{digit_from_value}
use Rattle.rx_text.specs.NumberInText.{is_digit}
use Rattle.rx_syntax.specs.Tokens.{is_place_byte, is_run_byte}
use Rattle.rx_syntax.specs.Lexemes.{run_kind}
use Rattle.rx_syntax.specs.declared.kind.Kind.{Kind}
use Rattle.rx_syntax.specs.declared.kind.Kind.TheVariants as kinds
use Rattle.rx_syntax.specs.declared.version.Version.TheVariants.{Two}
use Rattle.rx_syntax.proofs.Bits.{piece, Fits, run_fits}
use Rattle.rx_syntax.proofs.Runs.{StopsAt}

-- The kind is that of a run which serves as a number, or as a pattern.
abbrev pub CountsAs : Kind → Kind → Type 0
CountsAs other kind = (kind ≡ kinds.Bits) ⊎ (kind ≡ other)

digits_only : (ds : List ℕ) → AllDigits 10 ds → list_all is_digit ds ≡ true
digits_only [] h = refl
digits_only (d ∷ ds) h =
    let both = digit_from_value d h.0 in
    rw (le-leb _ _ both.0, le-leb _ _ both.1) (digits_only ds h.1)

digits_run : (ds : List ℕ) → list_all is_digit ds ≡ true → list_all (is_run_byte Two) ds ≡ true
digits_run [] h = refl
digits_run (d ∷ ds) h =
    let parts = and_parts (is_digit d) (list_all is_digit ds) h in
    rw parts.0 (digits_run ds parts.1)

digits_kind : (places : Bool) → CountsAs kinds.Number (if places then kinds.Bits else kinds.Number)
digits_kind true = inl refl
digits_kind false = inr refl

module _ (n : ℕ) (small : n ≤ 255) where
  numeral : (0 < length (decimal n)) × AllDigits 10 (decimal n)
  numeral = (decimal_is_IsNumeral n (omega (arith, small))).0

  digits : list_all is_digit (decimal n) ≡ true
  digits = digits_only (decimal n) numeral.1

  some_digits : decimal n ≢ []
  some_digits e = omega (arith, numeral.0, ap (λ (ds : List ℕ). length ds) e)

  pub number_kind : CountsAs kinds.Number (run_kind (decimal n))
  number_kind = rw digits (digits_kind (list_all is_place_byte (decimal n)))

  pub number_fits : (rest : List ℕ) → StopsAt (is_run_byte Two) rest → Fits Two (piece (run_kind (decimal n)) (decimal n)) rest
  number_fits rest stops = run_fits Two (decimal n) rest some_digits (digits_run (decimal n) digits) stops

  pub number_back : digits_value 10 (decimal n) ≡ n
  number_back = (decimal_is_IsNumeral n (omega (arith, small))).1
