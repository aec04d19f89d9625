-- The words of `demo`: numbers in decimal.
use Rattle.std.specs.Prelude.{ℕ, Bool, ◌&&◌, nat_le, List, [], length, slice_index_or}
use Rattle.std.specs.List.{list_all}
use Rattle.std.specs.Str.Parse.{digits_value}
use Rattle.rx_text.specs.NumberInText.{is_digit}

-- a number that one digit writes or more, at most so many, leading zeros among them
unfoldable pub is_number : ℕ → ℕ → ℕ → List ℕ → Bool
is_number digits least most word =
    list_all is_digit word && nat_le 1 (length word) && nat_le (length word) digits
    && nat_le least (digits_value 10 word) && nat_le (digits_value 10 word) most

-- the number that draws start from: below 2^64
abbrev pub is_start : List ℕ → Bool
is_start = is_number 20 0 18446744073709551615

-- how many symbols there are to be
abbrev pub is_leaf_count : List ℕ → Bool
is_leaf_count = is_number 4 1 4096

-- the number that the word with this number writes, from 0
abbrev pub number_in : List (List ℕ) → ℕ → ℕ
number_in words k = digits_value 10 (slice_index_or words k [])
