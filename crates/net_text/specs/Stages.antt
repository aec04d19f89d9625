-- What the reader knows behind a front of the text: which bytes may follow it.
use Rattle.std.specs.Prelude.{◌≡◌, ◌≢◌, ℕ, ◌<◌, ◌≤◌, Bool, true, false, List, [], ◌∷◌, ◌++◌, take, drop, length, codes}
use Rattle.std.specs.Str.Parse.{digits_value}
use Rattle.rx_text.specs.Name.{is_name}
use Rattle.rx_text.specs.declared.pad_name.Role.{Role}
use Rattle.rx_text.specs.declared.pad_name.Role.TheVariants.{Input, Output}
use Rattle.net_text.specs.Shape.{IsNumeral, DeviceLines, PadLines, Shape, Shaped, head, front_number}
use Rattle.net_text.specs.NetRefusals.{NetCodeStands, NoCodeWithin}
use Rattle.net_text.specs.declared.words.TextFault.{TextFault}
use Rattle.net_text.specs.declared.line_kind.LineKind.{LineKind}
use Rattle.net_text.specs.declared.line_kind.LineKind.TheVariants.{Pad, Pass, Load, End}

-- A part of this kind, the byte that ends it, and more.
pub record Part (Is : List ℕ → Type 0) (last : ℕ) (More : List ℕ → Type 0) (text : List ℕ) : Type 0 where
  pub part : List ℕ
  pub behind : List ℕ
  pub is : text ≡ part ++ last ∷ behind
  pub fits : Is part
  pub more : More behind

abbrev pub IsName : List ℕ → Type 0
IsName bytes = is_name bytes ≡ true

-- a numeral whose value is below the limit
abbrev pub IsNumeralBelow : ℕ → List ℕ → Type 0
IsNumeralBelow limit digits = IsNumeral digits × (digits_value 10 digits < limit)

-- the shape with so many nets at most as a text may have, and nets below this number
abbrev pub InRange : ℕ → List ℕ → Type 0
InRange nets text = Shape (IsNumeralBelow 16777217) (IsNumeralBelow nets) text

-- the net of a pad, and the lines behind it
abbrev pub PadNet : (List ℕ → Type 0) → List ℕ → Type 0
PadNet IsNumber = Part IsNumber 10 (PadLines IsNumber)

-- what follows the word of a role
abbrev pub BehindRole : Role → (List ℕ → Type 0) → List ℕ → Type 0
BehindRole Input IsNumber = Part IsName 32 (PadNet IsNumber)
BehindRole Output IsNumber = Part IsName 32 (PadNet IsNumber)
BehindRole role IsNumber = PadNet IsNumber

-- the last net of a device, and the lines behind it
abbrev pub DeviceNet : (List ℕ → Type 0) → List ℕ → Type 0
DeviceNet IsNumber = Part IsNumber 10 (DeviceLines IsNumber)

-- the last two nets
abbrev pub TwoNets : (List ℕ → Type 0) → List ℕ → Type 0
TwoNets IsNumber = Part IsNumber 32 (DeviceNet IsNumber)

-- what follows `pass`
abbrev pub BehindPass : (List ℕ → Type 0) → List ℕ → Type 0
BehindPass IsNumber = Part IsNumber 32 (TwoNets IsNumber)

-- what follows the word of a line
abbrev pub BehindWord : LineKind → (List ℕ → Type 0) → List ℕ → Type 0
BehindWord (Pad role) IsNumber = BehindRole role IsNumber
BehindWord Pass IsNumber = BehindPass IsNumber
BehindWord Load IsNumber = DeviceNet IsNumber
BehindWord End IsNumber = λ text. text ≡ []

-- the lines that may follow
abbrev pub LinesDue : Bool → (List ℕ → Type 0) → List ℕ → Type 0
LinesDue true IsNumber = PadLines IsNumber
LinesDue false IsNumber = DeviceLines IsNumber

-- Exactly these bytes follow the front in texts of the shape, and these where the nets are in range; some do; and no code
-- stands within the front.
pub record Stage (nets : ℕ) (front rest : List ℕ) (Follows FollowsInRange : List ℕ → Type 0) : Type 0 where
  pub to : (tail : List ℕ) → Shaped (front ++ tail) → Follows tail
  pub back : (tail : List ℕ) → Follows tail → Shaped (front ++ tail)
  pub ranged : (tail : List ℕ) → InRange nets (front ++ tail) → FollowsInRange tail
  pub tail : List ℕ
  pub some : Follows tail
  pub clear : NoCodeWithin front rest

-- Such bytes are due behind the front, and the number of nets stands within it.
pub record Due (nets : ℕ) (front rest : List ℕ) (Follows : (List ℕ → Type 0) → List ℕ → Type 0) : Type 0 where
  pub stage : Stage nets front rest (Follows IsNumeral) (Follows (IsNumeralBelow nets))
  pub more : List ℕ
  pub behind_head : front ≡ head ++ more
  pub counted : more ≢ []
  pub count : front_number (more ++ rest) ≡ nets

-- such bytes are due at the place
abbrev pub DueAt : ℕ → List ℕ → ℕ → ((List ℕ → Type 0) → List ℕ → Type 0) → Type 0
DueAt nets text at Follows = Due nets (take at text) (drop at text) Follows

-- the front ends in a space
abbrev pub EndsInSpace : List ℕ → Type 0
EndsInSpace front = (before : List ℕ) × (front ≡ before ++ codes " ")

-- the fault is the first that stands in the text
pub record IsFirst (text : List ℕ) (fault : TextFault) : Type 0 where
  pub within : fault.at ≤ length text
  pub stands : NetCodeStands fault.code (take fault.at text) (drop fault.at text)
  pub first : NoCodeWithin (take fault.at text) (drop fault.at text)
