-- The shape of network texts, whatever their numbers are.
use Rattle.std.specs.Prelude.{◌≡◌, ℕ, true, ◌==◌, if◌then◌else◌, List, [], ◌∷◌, ◌++◌, take, Option, is_some, IfSome, codes}
use Rattle.std.specs.List.{list_all, prefix_len}
use Rattle.std.specs.Str.Parse.{digits_value}
use Rattle.rx_text.specs.Name.{is_name}
use Rattle.rx_text.specs.NumberInText.{is_digit}
use Rattle.rx_text.specs.Role.{bears_name}
use Rattle.rx_text.specs.declared.pad_name.Role.{Role}
use Rattle.net_text.specs.NetworkText.{role_word, name_part}

-- `0` alone, or digits of which the first is not `0`
abbrev pub IsNumeral : List ℕ → Type 0
IsNumeral [] = ⊥
IsNumeral (first ∷ others) = (is_digit first ≡ true) × (list_all is_digit others ≡ true) × (first ≡ 48 → others ≡ [])

-- how many bytes at the front are one numeral: `0` alone, or the longest run of digits
abbrev pub numeral_length : List ℕ → ℕ
numeral_length [] = 0
numeral_length (first ∷ rest) = if first == 48 then 1 else prefix_len is_digit (first ∷ rest)

-- the value of the longest numeral at the front
abbrev pub front_number : List ℕ → ℕ
front_number text = digits_value 10 (take (numeral_length text) text)

-- the line of the version, and the second line up to its number
abbrev pub head : List ℕ
head = codes "rxnet 1\nnets "

module _ (IsNumber : List ℕ → Type 0) where
  -- lines of devices, and the line `end`
  pub data DeviceLines : List ℕ → Type 0 where
    end : (text : List ℕ) → text ≡ codes "end\n" → DeviceLines text
    load : (text net more : List ℕ) → text ≡ codes "load " ++ net ++ codes "\n" ++ more → IsNumber net → DeviceLines more → DeviceLines text
    pass : (text gate a b more : List ℕ) → text ≡ codes "pass " ++ gate ++ codes " " ++ a ++ codes " " ++ b ++ codes "\n" ++ more
        → IsNumber gate → IsNumber a → IsNumber b → DeviceLines more → DeviceLines text

  -- lines of pads, which bear names where their roles do, and then those of the devices
  pub data PadLines : List ℕ → Type 0 where
    devices : (text : List ℕ) → DeviceLines text → PadLines text
    pad : (text : List ℕ) (role : Role) (name : Option (List ℕ)) (net more : List ℕ)
        → text ≡ role_word role ++ name_part name ++ codes " " ++ net ++ codes "\n" ++ more
        → bears_name role ≡ is_some name → IfSome name (λ bytes. is_name bytes ≡ true) → IsNumber net → PadLines more → PadLines text

-- The head with a number of nets, and the lines, where these are the numbers that may stand.
pub record Shape (IsCount IsNumber : List ℕ → Type 0) (text : List ℕ) : Type 0 where
  pub count : List ℕ
  pub more : List ℕ
  pub is : text ≡ head ++ count ++ codes "\n" ++ more
  pub counted : IsCount count
  pub lines : PadLines IsNumber more

-- The text has the shape of a network's, with numbers of any size.
abbrev pub Shaped : List ℕ → Type 0
Shaped text = Shape IsNumeral IsNumeral text
