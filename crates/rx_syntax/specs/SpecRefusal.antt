-- Where a text is refused, by line and column.
use Rattle.std.specs.Prelude.{◌≡◌, ℕ, List, take, ⊤}
use Rattle.rx_text.specs.declared.place.Place.{Place}
use Rattle.rx_text.specs.TextPlace.{place_behind}
use Rattle.rx_syntax.specs.Accepted.{Refused}
use Rattle.rx_syntax.specs.declared.spec_code.SpecCode.{SpecCode}
use Rattle.rx_syntax.specs.declared.read.ReadSpecFault.{ReadSpecFault}
use Rattle.rx_syntax.specs.declared.read.ReadSpecFault.TheVariants.{Fault, NoMemory}

-- The text is refused with this code at this place.
pub record SpecRefusal (text : List ℕ) (limit : ℕ) (code : SpecCode) (place : Place) : Type 0 where
  pub byte : ℕ
  pub refused : Refused text limit code byte
  pub is : place ≡ place_behind (take byte text)

-- The fault is that of the text, or want of memory.
abbrev pub IsReadFault : List ℕ → ℕ → ReadSpecFault → Type 0
IsReadFault text limit (Fault fault) = SpecRefusal text limit fault.code fault.place
IsReadFault text limit NoMemory = ⊤
