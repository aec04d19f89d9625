-- Where a text is refused, stated by the shape of texts and by the circuits that they write.
use Rattle.std.specs.Prelude.{⊤, ◌⊎◌, ◌≡◌, ◌≢◌, ℕ, ◌+◌, ◌<◌, ◌≤◌, true, List, [], ◌∷◌, ◌++◌, Some, length, codes}
use Rattle.rx_text.specs.NumberInText.{is_digit}
use Rattle.rx_text.specs.TextPlace.{place_behind}
use Rattle.rx_text.specs.declared.place.Place.{Place}
use Rattle.rx_text.specs.declared.place.Place.TheVariants.{Text}
use Rattle.rx_text.specs.declared.pad_name.Role.{Role}
use Rattle.switch_net.specs.Circuit.{Circuit}
use Rattle.switch_net.specs.Validity.{first_fault}
use Rattle.switch_net.specs.declared.network.BadNetwork.TheVariants.{DoublePad, MissingPad}
use Rattle.net_text.specs.NetworkText.{IsTextOf}
use Rattle.net_text.specs.Shape.{Shaped, head, front_number}
use Rattle.net_text.specs.declared.net_fault.NetCode.{NetCode}
use Rattle.net_text.specs.declared.net_fault.NetCode.TheVariants.{N1, N2, N3, N4, N5, N6}
use Rattle.net_text.specs.declared.net_fault.ReadNetFault.{ReadNetFault}
use Rattle.net_text.specs.declared.net_fault.ReadNetFault.TheVariants as answer

-- Some text of the shape begins with these bytes.
abbrev pub BeginsNetText : List ℕ → Type 0
BeginsNetText front = (rest : List ℕ) × Shaped (front ++ rest)

-- A number begins behind the front: a digit stands there behind a space, and some text of the shape begins so.
pub record NumberBegins (front rest : List ℕ) : Type 0 where
  pub before : List ℕ
  pub digit : ℕ
  pub others : List ℕ
  pub space : front ≡ before ++ codes " "
  pub here : rest ≡ digit ∷ others
  pub valid : is_digit digit ≡ true
  pub begins : BeginsNetText (front ++ digit ∷ [])

-- The code stands at the first byte of the rest, or at the end where none is left, behind this front of a text: N1 where the
-- front begins some text of the shape, and is none, and no such text goes on with that byte; N2 at a number behind that of
-- the nets, and not below it; N5 at the number of nets, above 16,777,216; N6 at a byte behind a text of the shape.
abbrev pub NetCodeStands : NetCode → List ℕ → List ℕ → Type 0
NetCodeStands N1 front rest =
    BeginsNetText front × (Shaped front → ⊥) × ((byte : ℕ) (others : List ℕ) → rest ≡ byte ∷ others → BeginsNetText (front ++ byte ∷ []) → ⊥)
NetCodeStands N2 front rest =
    NumberBegins front rest
    × ((more : List ℕ) × (front ≡ head ++ more) × (more ≢ []) × (front_number (more ++ rest) ≤ front_number rest))
NetCodeStands N5 front rest = NumberBegins front rest × (front ≡ head) × (16777216 < front_number rest)
NetCodeStands N6 front rest = Shaped front × (rest ≢ [])
NetCodeStands code front rest = ⊥

-- No code stands at a byte of the front.
abbrev pub NoCodeWithin : List ℕ → List ℕ → Type 0
NoCodeWithin front rest =
    (code : NetCode) (before : List ℕ) (byte : ℕ) (others : List ℕ) → front ≡ before ++ byte ∷ others
    → NetCodeStands code before (byte ∷ others ++ rest) → ⊥

-- The code is the first that stands in the text, and this is its place.
pub record NetCodeStandsFirst (text : List ℕ) (code : NetCode) (place : Place) : Type 0 where
  pub front : List ℕ
  pub rest : List ℕ
  pub whole : text ≡ front ++ rest
  pub stands : NetCodeStands code front rest
  pub first : NoCodeWithin front rest
  pub at_place : place ≡ place_behind front

-- No code stands in the text.
abbrev pub NoCodeStands : List ℕ → Type 0
NoCodeStands text = (code : NetCode) (front rest : List ℕ) → text ≡ front ++ rest → NetCodeStands code front rest → ⊥

-- Why a circuit whose nets are all in range is no network: the first pad, from 0, that repeats another's name or net, which stands
-- in the third line or behind it; else a role without a pad, at the last line.
abbrev pub CircuitFault : NetCode → Circuit → Place → Type 0
CircuitFault N3 circuit place =
    (at : ℕ) × (first_fault circuit.nets circuit.pads circuit.devices ≡ Some (DoublePad at)) × (place ≡ Text (at + 3) 1)
CircuitFault N4 circuit place =
    (role : Role) × (first_fault circuit.nets circuit.pads circuit.devices ≡ Some (MissingPad role))
    × (place ≡ Text (length circuit.pads + length circuit.devices + 3) 1)
CircuitFault code circuit place = ⊥

-- No code stands in the text, and the circuit that it is of is no network for this reason.
pub record IsNoNetwork (text : List ℕ) (code : NetCode) (place : Place) : Type 0 where
  pub clear : NoCodeStands text
  pub circuit : Circuit
  pub text_of : IsTextOf text circuit
  pub fault : CircuitFault code circuit place

-- The text is refused with this code at this place.
abbrev pub NetRefusal : List ℕ → NetCode → Place → Type 0
NetRefusal text code place = NetCodeStandsFirst text code place ⊎ IsNoNetwork text code place

-- The fault is that of the text, or want of memory.
abbrev pub IsReadNetFault : List ℕ → ReadNetFault → Type 0
IsReadNetFault text (answer.Fault fault) = NetRefusal text fault.code fault.place
IsReadNetFault text answer.NoMemory = ⊤
