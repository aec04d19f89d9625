-- The text of a trace, and the first fault of a text that does not begin with one.
use Rattle.std.specs.Prelude.{◌≡◌, ◌≢◌, ℕ, ◌+◌, ◌≤◌, ◌==◌, ◌||◌, nat_le, nat_lt, Bool, true, false, if◌then◌else◌, List, [], ◌∷◌, ◌++◌, map, take, length, All, Option, Some, None, ⊤}
use Rattle.std.specs.List.{flat_map, prefix_len}
use Rattle.std.specs.Option.{option_or}
use Rattle.std.specs.Str.{bytes_eq}
use Rattle.rx_text.specs.TextPlace.{is_line_feed, place_behind}
use Rattle.rx_text.specs.declared.place.Place.{Place}
use Rattle.switch_sim.specs.declared.trace_code.TraceCode.{TraceCode}
use Rattle.switch_sim.specs.declared.trace_code.TraceCode.TheVariants.{V1, V3, V4}
use Rattle.switch_sim.specs.declared.trace_code.TraceSpot.{TraceSpot}
use Rattle.switch_sim.specs.declared.trace_code.ReadTraceFault.{ReadTraceFault}
use Rattle.switch_sim.specs.declared.trace_code.ReadTraceFault.TheVariants.{Fault, NoMemory}

-- the byte of a bit
abbrev pub bit_byte : Bool → ℕ
bit_byte false = 48
bit_byte true = 49

-- the line of a vector
abbrev pub vector_line : List Bool → List ℕ
vector_line vector = map bit_byte vector ++ 10 ∷ []

abbrev pub chip_word : List ℕ
chip_word = 99 ∷ 104 ∷ 105 ∷ 112 ∷ []

-- the text of a trace: the lines of its vectors, and the line `chip`
abbrev pub trace_text : List (List Bool) → List ℕ
trace_text vectors = flat_map vector_line vectors ++ (chip_word ++ 10 ∷ [])

-- The text begins with the trace of these vectors, behind which the chip begins at this place.
pub record IsTrace (text : List ℕ) (vectors : List (List Bool)) (place : ℕ) : Type 0 where
  pub chip : List ℕ
  pub whole : text ≡ trace_text vectors ++ chip
  pub behind : place ≡ length (trace_text vectors)
  pub filled : All (λ vector. vector ≢ []) vectors
  pub few : length vectors ≤ 10000

-- ---- faults

-- the byte with these lines behind it, the first of which goes on with it
abbrev pub at_front : ℕ → List (List ℕ) → List (List ℕ)
at_front byte [] = (byte ∷ []) ∷ []
at_front byte (line ∷ more) = (byte ∷ line) ∷ more

-- the lines of a text without their line feeds; the last is what follows the last line feed, perhaps nothing
abbrev pub lines_of : List ℕ → List (List ℕ)
lines_of [] = [] ∷ []
lines_of (byte ∷ text) = if is_line_feed byte then [] ∷ lines_of text else at_front byte (lines_of text)

-- the byte of a bit
abbrev pub is_bit : ℕ → Bool
is_bit byte = byte == 48 || byte == 49

abbrev pub is_empty : List ℕ → Bool
is_empty line = length line == 0

abbrev pub is_chip : List ℕ → Bool
is_chip line = bytes_eq line chip_word

-- the first byte of the line that is no bit, or the end of an empty line
abbrev pub bad_bit : ℕ → List ℕ → Option TraceSpot
bad_bit at line =
    if nat_lt (prefix_len is_bit line) (length line) || is_empty line then Some (record { code = V1; at = at + prefix_len is_bit line })
    else None

-- the line, where 10,000 stand before it
abbrev pub too_many : ℕ → ℕ → Option TraceSpot
too_many count at = if nat_le 10000 count then Some (record { code = V3; at = at }) else None

-- the one that stands first in the text, at one place the one
abbrev pub earlier : Option TraceSpot → Option TraceSpot → Option TraceSpot
earlier None other = other
earlier (Some one) None = Some one
earlier (Some one) (Some other) = if nat_le one.at other.at then Some one else Some other

-- the first fault of a line that is not `chip`, where so many stand before it
abbrev pub line_fault : ℕ → ℕ → List ℕ → Option TraceSpot
line_fault count at line = earlier (bad_bit at line) (too_many count at)

-- no line `chip` that a line feed ends stands before this end
abbrev pub no_chip : ℕ → Option TraceSpot
no_chip end = Some (record { code = V4; at = end })

-- The first fault of the lines, where so many stand before them and the first begins at this place.
abbrev pub first_fault : ℕ → ℕ → List (List ℕ) → Option TraceSpot
first_fault count at [] = no_chip at
first_fault count at (line ∷ []) =
    if is_empty line || is_chip line then no_chip (at + length line) else option_or (line_fault count at line) (no_chip (at + length line))
first_fault count at (line ∷ next ∷ more) =
    if is_chip line then None else option_or (line_fault count at line) (first_fault (count + 1) (at + length line + 1) (next ∷ more))

-- the first fault of a text that does not begin with a trace
abbrev pub trace_fault : List ℕ → Option TraceSpot
trace_fault text = first_fault 0 0 (lines_of text)

-- The text is refused with this code at this place, those of its first fault.
abbrev pub TraceRefusal : List ℕ → TraceCode → Place → Type 0
TraceRefusal text code place = (spot : TraceSpot) × (trace_fault text ≡ Some spot) × (code ≡ spot.code) × (place ≡ place_behind (take spot.at text))

-- The fault is that of the text, or want of memory.
abbrev pub IsRefused : List ℕ → ReadTraceFault → Type 0
IsRefused text NoMemory = ⊤
IsRefused text (Fault fault) = TraceRefusal text fault.code fault.place
