-- Decimal numbers in a text.
use Rattle.std.specs.Prelude.{ℕ, ◌+◌, ◌&&◌, nat_le, Bool, List, [], ◌∷◌, length, drop, take_while, Result, Ok, Err, if◌then◌else◌}
use Rattle.std.specs.Str.Parse.{digits_value}
use Rattle.rx_text.specs.declared.number.NumberFault.{NumberFault}
use Rattle.rx_text.specs.declared.number.NumberFault.TheVariants.{BadNumber, NumberTooLarge}

-- a byte from `0` to `9`
abbrev pub is_digit : ℕ → Bool
is_digit byte = nat_le 48 byte && nat_le byte 57

-- the longest run of digits at the place
abbrev pub digits_at : List ℕ → ℕ → List ℕ
digits_at text at = take_while is_digit (drop at text)

-- The number that digits write, if there are digits and it is at most this one; and the place behind them.
abbrev pub number_of : ℕ → ℕ → List ℕ → Result (ℕ × ℕ) NumberFault
number_of at most [] = Err BadNumber
number_of at most (first ∷ digits) =
    if nat_le (digits_value 10 (first ∷ digits)) most then Ok (digits_value 10 (first ∷ digits), at + length (first ∷ digits))
    else Err NumberTooLarge

-- the number at the place
abbrev pub number_at : List ℕ → ℕ → ℕ → Result (ℕ × ℕ) NumberFault
number_at text at most = number_of at most (digits_at text at)
