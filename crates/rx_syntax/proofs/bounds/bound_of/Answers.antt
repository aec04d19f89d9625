use Rattle.std.proofs.Common.{◌≡◌, ℕ, Bool, true, false, Some, None, List, [], ◌∷◌, length, Ok, Err, refl, sym, ◌∙◌, ap, inl, inr, ◌+◌}
use Rattle.std.specs.Prelude.{Option, Result, nat_le, if◌then◌else◌}
use Rattle.std.specs.List.{list_all, take_while}
use Rattle.std.specs.Str.Parse.{digits_value}
use Rattle.std.proofs.lemmas.Bool.{cases_Bool}
use Rattle.std.proofs.lemmas.List.Sums.{take_while-cons}
use Rattle.rx_text.specs.NumberInText.{is_digit, number_at}
use Rattle.rx_text.specs.declared.number.NumberFault.{NumberFault}
use Rattle.rx_text.specs.declared.number.NumberFault.TheVariants.{BadNumber, NumberTooLarge}
use Rattle.rx_syntax.proofs.bounds.bound_of.Goals as goal

all_taken : (digits : List ℕ) → list_all is_digit digits ≡ true → take_while is_digit digits ≡ digits
all_taken [] h = refl
all_taken (d ∷ ds) h = elim (cases_Bool (is_digit d)) [
  | inl e ↦ take_while-cons is_digit d ds ∙ rw e (ap (λ xs. d ∷ xs) (all_taken ds (rw e at h)))
  | inr e ↦ absurd (let no : false ≡ true = rw e at h in cc)
]

-- what is answered for an answer of reading
abbrev answer : Result (ℕ × ℕ) NumberFault → Option ℕ
answer (Ok (n, at)) = Some n
answer (Err BadNumber) = Some 0
answer (Err NumberTooLarge) = None

by_test : (n at : ℕ) (low : Bool) → answer (if low then Ok (n, at) else Err NumberTooLarge) ≡ (if low then Some n else None)
by_test n at true = refl
by_test n at false = refl

abbrev bound : List ℕ → Option ℕ
bound digits = if nat_le (digits_value 10 digits) 255 then Some (digits_value 10 digits) else None

read : (digits : List ℕ) → list_all is_digit digits ≡ true → answer (number_at digits 0 255) ≡ bound digits
read [] h = refl
read (d ∷ ds) h =
    let n = digits_value 10 (d ∷ ds) in
    rw (all_taken (d ∷ ds) h) (by_test n (0 + length (d ∷ ds)) (nat_le n 255))

answered : (digits : List ℕ) (r : Result (ℕ × ℕ) NumberFault) → list_all is_digit digits ≡ true → r ≡ number_at digits 0 255
    → answer r ≡ bound digits
answered digits r h e = ap answer e ∙ read digits h

pub returns-in-Ok : goal.returns-in-Ok
returns-in-Ok c = answered c.args.digits.now (Ok (c.in-Ok.number, c.in-Ok.field-0-1)) c.requires c.in-Ok.ensures

pub returns-in-Err-BadNumber : goal.returns-in-Err-BadNumber
returns-in-Err-BadNumber c =
    answered c.args.digits.now (Err BadNumber) c.requires (sym (ap Err c.in-Err-BadNumber.field-0-is) ∙ c.in-Err-BadNumber.ensures)

pub returns-in-Err-NumberTooLarge : goal.returns-in-Err-NumberTooLarge
returns-in-Err-NumberTooLarge c =
    answered c.args.digits.now (Err NumberTooLarge) c.requires
    (sym (ap Err c.in-Err-NumberTooLarge.field-0-is) ∙ c.in-Err-NumberTooLarge.ensures)
