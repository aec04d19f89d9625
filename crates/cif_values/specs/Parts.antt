-- Where the parts of a command stand in a text.
use Rattle.std.specs.Prelude.{◌≡◌, ℕ, ◌≤◌, ◌<◌, Bool, true, false, ℤ, pos, List, [], ◌∷◌, length, slice_index}
use Rattle.std.specs.List.{list_all}
use Rattle.geom.specs.CifCommands.{CifPart, Letters, Unsigned, Signed, SpellsParts, is_capital}
use Rattle.cif_syntax.specs.Ends.{between}

-- a number, or letters of which the first is `A` to `Z`
abbrev pub is_plain : CifPart → Bool
is_plain (Letters []) = false
is_plain (Letters (first ∷ word)) = is_capital first
is_plain (Unsigned n) = true
is_plain (Signed z) = true

-- These parts, with blanks behind them, stand from one place up to a semicolon at the other.
pub record PartsAt (text : List ℕ) (at stop : ℕ) (parts : List CifPart) : Type 0 where
  pub order : at ≤ stop
  pub within : stop < length text
  pub semicolon : slice_index text stop ≡ 59
  pub plain : list_all is_plain parts ≡ true
  pub spelled : SpellsParts parts (between text at stop)

-- the number that a part writes
abbrev pub number_in : CifPart → ℤ
number_in (Letters word) = pos 0
number_in (Unsigned n) = pos n
number_in (Signed z) = z
