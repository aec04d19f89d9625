-- The order of numbers by their digits.
use Rattle.std.specs.Prelude.{◌≡◌, ℕ, ◌+◌, ◌-◌, ◌≤◌, ◌<◌, nat_lt, Bool, true, ℤ, pos, neg_ℤ, List, length, slice_index, if◌then◌else◌}
use Rattle.std.specs.List.{list_all}
use Rattle.std.specs.Str.Parse.{digits_value}
use Rattle.std.specs.declared.cmp.Ordering.{Ordering}
use Rattle.std.specs.Ordering.{MatchOrdering}
use Rattle.rx_text.specs.NumberInText.{is_digit}
use Rattle.cif_syntax.specs.Ends.{between}
use Rattle.cif_values.specs.declared.less.Digits.{Digits}

-- The first number is less than the second, the same, or greater.
abbrev pub IsOrder : Ordering → ℕ → ℕ → Type 0
IsOrder order m n = MatchOrdering order (m < n) (m ≡ n) (n < m)

-- Digits stand from one place up to the other.
pub record IsDigitRun (text : List ℕ) (run : Digits) : Type 0 where
  pub order : run.from ≤ run.to
  pub within : run.to ≤ length text
  pub digits : list_all is_digit (between text run.from run.to) ≡ true

-- They write this number.
abbrev pub AreDigits : List ℕ → Digits → ℕ → Type 0
AreDigits text run n = digits_value 10 (between text run.from run.to) ≡ n

-- the digit at this place of so many, where 0 stands before them
abbrev pub digit_of : List ℕ → Digits → ℕ → ℕ → ℕ
digit_of text run i count =
    if nat_lt i (count - (run.to - run.from)) then 0 else slice_index text (run.from + (i - (count - (run.to - run.from)))) - 48

-- The number is that of the digits, or its opposite where a `-` stands before them.
pub record SignedDigits (text : List ℕ) (run : Digits) (minus : Bool) (z : ℤ) : Type 0 where
  pub n : ℕ
  pub are : AreDigits text run n
  pub is : z ≡ if minus then neg_ℤ (pos n) else pos n
