-- The commands of CIF texts and their bytes. Distances are in units of which 200 make one λ.
use Rattle.std.specs.Prelude.{⊤, ◌≡◌, ◌≢◌, ◌⊎◌, ℕ, ◌≤◌, Bool, true, false, not, ◌&&◌, ◌||◌, ◌==◌, nat_le, ℤ, pos, neg_ℤ, List, [], ◌∷◌, ◌++◌, length, flat_map, Option, Some, None, codes}
use Rattle.std.specs.List.{list_all}
use Rattle.std.specs.Str.Parse.{digits_value}
use Rattle.rx_text.specs.NumberInText.{is_digit}
use Rattle.geom.specs.declared.point.Point.{Point}

-- the scale a/b of a definition
pub record CifScale : Type 0 where
  pub times : ℕ
  pub per : ℕ

-- a transformation of a call: `T x y`, `M X`, `M Y` or `R a b`
pub data CifMove : Type 0 where
  Translates : (x y : ℤ) → CifMove
  MirrorsX : CifMove
  MirrorsY : CifMove
  Rotates : (a b : ℤ) → CifMove

-- a command that ends in `;`: `DS n` or `DS n a b`; `DF`; `C n` and transformations; `L name`; `B length width x y`, perhaps with
-- a direction; `P` and `W width` with points; a user extension with its text
pub data CifCommand : Type 0 where
  Empty : CifCommand
  Comment : CifCommand
  Opens : (n : ℕ) → Option CifScale → CifCommand
  Closes : CifCommand
  CallsSymbol : (n : ℕ) → List CifMove → CifCommand
  SetsLayer : (name : List ℕ) → CifCommand
  DrawsBox : (along across : ℕ) → (centre : Point) → (direction : Option Point) → CifCommand
  DrawsPolygon : List Point → CifCommand
  DrawsWire : (width : ℕ) → List Point → CifCommand
  Extension : (text : List ℕ) → CifCommand

-- a letter `A` to `Z`
abbrev pub is_capital : ℕ → Bool
is_capital byte = nat_le 65 byte && nat_le byte 90

-- every byte but digits, capital letters, `-`, `(`, `)` and `;`
abbrev pub is_cif_blank : ℕ → Bool
is_cif_blank byte = not (is_digit byte || is_capital byte || byte == 45 || byte == 40 || byte == 41 || byte == 59)

abbrev pub AreCifBlanks : List ℕ → Type 0
AreCifBlanks bytes = list_all is_cif_blank bytes ≡ true

-- The bytes are digits, and this is the number that they write.
pub record WritesNumber (n : ℕ) (bytes : List ℕ) : Type 0 where
  pub some : bytes ≢ []
  pub digits : list_all is_digit bytes ≡ true
  pub value : digits_value 10 bytes ≡ n

-- The bytes are digits, perhaps behind a `-`.
abbrev pub WritesSigned : ℤ → List ℕ → Type 0
WritesSigned z bytes =
    ((n : ℕ) × (z ≡ pos n) × WritesNumber n bytes)
    ⊎ ((n : ℕ) × (digits : List ℕ) × (z ≡ neg_ℤ (pos n)) × (bytes ≡ 45 ∷ digits) × WritesNumber n digits)

-- a part of a command: letters, a number that has no sign, or one that may have a sign
pub data CifPart : Type 0 where
  Letters : List ℕ → CifPart
  Unsigned : ℕ → CifPart
  Signed : ℤ → CifPart

abbrev pub SpellsPart : CifPart → List ℕ → Type 0
SpellsPart (Letters word) bytes = bytes ≡ word
SpellsPart (Unsigned n) bytes = WritesNumber n bytes
SpellsPart (Signed z) bytes = WritesSigned z bytes

abbrev pub is_number_part : CifPart → Bool
is_number_part (Letters word) = false
is_number_part (Unsigned n) = true
is_number_part (Signed z) = true

-- The part is a number before another one.
abbrev pub needs_blank : CifPart → List CifPart → Bool
needs_blank part [] = false
needs_blank part (next ∷ parts) = is_number_part part && is_number_part next

-- A part, blanks behind it, at least one where it needs one, and more.
pub record PartThen (part : CifPart) (needs : Bool) (More : List ℕ → Type 0) (bytes : List ℕ) : Type 0 where
  pub word : List ℕ
  pub gap : List ℕ
  pub rest : List ℕ
  pub is : bytes ≡ word ++ gap ++ rest
  pub spelled : SpellsPart part word
  pub blanks : AreCifBlanks gap
  pub apart : needs ≡ true → gap ≢ []
  pub more : More rest

-- The parts in order, each with blanks behind it; numbers are separated by at least one.
abbrev pub SpellsParts : List CifPart → List ℕ → Type 0
SpellsParts [] bytes = bytes ≡ []
SpellsParts (part ∷ parts) bytes = PartThen part (needs_blank part parts) (SpellsParts parts) bytes

abbrev pub point_parts : Point → List CifPart
point_parts p = Signed p.x ∷ Signed p.y ∷ []

abbrev pub scale_parts : Option CifScale → List CifPart
scale_parts None = []
scale_parts (Some scale) = Unsigned scale.times ∷ Unsigned scale.per ∷ []

abbrev pub direction_parts : Option Point → List CifPart
direction_parts None = []
direction_parts (Some direction) = point_parts direction

abbrev pub move_parts : CifMove → List CifPart
move_parts (Translates x y) = Letters (codes "T") ∷ Signed x ∷ Signed y ∷ []
move_parts MirrorsX = Letters (codes "M") ∷ Letters (codes "X") ∷ []
move_parts MirrorsY = Letters (codes "M") ∷ Letters (codes "Y") ∷ []
move_parts (Rotates a b) = Letters (codes "R") ∷ Signed a ∷ Signed b ∷ []

-- the parts of a command that is made of parts
abbrev pub command_parts : CifCommand → List CifPart
command_parts (Opens n scale) = Letters (codes "DS") ∷ Unsigned n ∷ scale_parts scale
command_parts Closes = Letters (codes "DF") ∷ []
command_parts (CallsSymbol n moves) = Letters (codes "C") ∷ Unsigned n ∷ flat_map move_parts moves
command_parts (SetsLayer name) = Letters (codes "L") ∷ Letters name ∷ []
command_parts (DrawsBox along across centre direction) =
    Letters (codes "B") ∷ Unsigned along ∷ Unsigned across ∷ point_parts centre ++ direction_parts direction
command_parts (DrawsPolygon points) = Letters (codes "P") ∷ flat_map point_parts points
command_parts (DrawsWire width points) = Letters (codes "W") ∷ Unsigned width ∷ flat_map point_parts points
command_parts other = []

-- 1 to 4 capital letters or digits
pub record IsShortName (name : List ℕ) : Type 0 where
  pub some : name ≢ []
  pub few : length name ≤ 4
  pub bytes : list_all (λ byte. is_capital byte || is_digit byte) name ≡ true

-- Numbers of scales are not 0, layers have short names, and shapes have points.
abbrev pub IsLegalCommand : CifCommand → Type 0
IsLegalCommand (Opens n (Some scale)) = (scale.times ≢ 0) × (scale.per ≢ 0)
IsLegalCommand (SetsLayer name) = IsShortName name
IsLegalCommand (DrawsPolygon points) = points ≢ []
IsLegalCommand (DrawsWire width points) = points ≢ []
IsLegalCommand other = ⊤

-- Parentheses stand in pairs.
pub data IsNested : List ℕ → Type 0 where
  none : (bytes : List ℕ) → bytes ≡ [] → IsNested bytes
  other : (bytes : List ℕ) (byte : ℕ) (rest : List ℕ) → bytes ≡ byte ∷ rest → byte ≢ 40 → byte ≢ 41 → IsNested rest → IsNested bytes
  pair : (bytes inner rest : List ℕ) → bytes ≡ 40 ∷ inner ++ 41 ∷ rest → IsNested inner → IsNested rest → IsNested bytes

-- `( text )` and blanks
pub record IsComment (bytes : List ℕ) : Type 0 where
  pub text : List ℕ
  pub gap : List ℕ
  pub is : bytes ≡ 40 ∷ text ++ 41 ∷ gap
  pub nested : IsNested text
  pub blanks : AreCifBlanks gap

-- a digit and bytes without `;`
abbrev pub IsExtension : List ℕ → Type 0
IsExtension [] = ⊥
IsExtension (first ∷ rest) = (is_digit first ≡ true) × (list_all (λ byte. not (byte == 59)) rest ≡ true)

-- These are the bytes of the command, from its first one up to its `;`.
abbrev pub SpellsCommand : CifCommand → List ℕ → Type 0
SpellsCommand Comment bytes = IsComment bytes
SpellsCommand (Extension text) bytes = (bytes ≡ text) × IsExtension text
SpellsCommand command bytes = IsLegalCommand command × SpellsParts (command_parts command) bytes
