-- What the bytes of a name are.
use Rattle.std.specs.Prelude.{◌≡◌, ℕ, ◌-◌, ◌≤◌, Bool, true, false, ◌||◌, ◌&&◌, ◌==◌, nat_le, List, [], ◌∷◌, ◌++◌, length, take, replicate}
use Rattle.std.specs.List.{list_all}

-- a letter a to z
abbrev pub is_letter : ℕ → Bool
is_letter byte = nat_le 97 byte && nat_le byte 122

-- a letter, a digit or an underscore
abbrev pub is_name_byte : ℕ → Bool
is_name_byte byte = is_letter byte || nat_le 48 byte && nat_le byte 57 || byte == 95

-- begins with a letter and goes on with letters, digits and underscores
abbrev pub begins_as_name : List ℕ → Bool
begins_as_name [] = false
begins_as_name (first ∷ rest) = is_letter first && list_all is_name_byte rest

-- A name of the language, keywords among them: at most 31 bytes.
abbrev pub is_name : List ℕ → Bool
is_name bytes = begins_as_name bytes && nat_le (length bytes) 31

-- a name of this length stands at the front of the bytes, and zeros behind it
pub record FillsName (count : ℕ) (bytes : List ℕ) : Type 0 where
  pub within : count ≤ 31
  pub name : is_name (take count bytes) ≡ true
  pub filled : bytes ≡ take count bytes ++ replicate (31 - count) 0
  pub room : length bytes ≡ 31
