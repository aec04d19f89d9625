-- Which CIF texts draw, and what they draw; and which code stands where in the others.
use Rattle.std.specs.Prelude.{⊤, ◌≡◌, ◌⊎◌, ℕ, ◌+◌, ◌^◌, ◌<◌, true, false, List, [], ◌∷◌, ◌++◌, length, flat_map, take_while, Some, IsSome, IsNone, codes}
use Rattle.rx_text.specs.NumberInText.{is_digit}
use Rattle.rx_text.specs.TextPlace.{place_behind}
use Rattle.rx_text.specs.declared.place.Place.{Place}
use Rattle.geom.specs.declared.chip.Label.{Label}
use Rattle.geom.specs.declared.cif_code.CifCode.{CifCode}
use Rattle.geom.specs.declared.cif_code.CifCode.TheVariants.{C1, C6, C8, C9, C10, C11, C13}
use Rattle.geom.specs.Squares.{BoxShape, IsBox}
use Rattle.geom.specs.Rows.{Among}
use Rattle.geom.specs.CifCommands.{CifCommand, CifPart, Letters, Unsigned, AreCifBlanks, is_cif_blank, WritesNumber, SpellsParts, SpellsCommand}
use Rattle.geom.specs.CifDrawings.{CifStroke, CifDrawing, CifState, blank_state, CommandLeads}
use Rattle.geom.specs.CifCodes.{MeetsCode, code_number}

-- A command stands behind blanks at the front of the rest, with its `;`.
pub record CommandHere (rest : List ℕ) : Type 0 where
  pub gap : List ℕ
  pub bytes : List ℕ
  pub behind : List ℕ
  pub is : rest ≡ gap ++ bytes ++ 59 ∷ behind
  pub blanks : AreCifBlanks gap
  pub command : CifCommand
  pub spelled : SpellsCommand command bytes

-- what stands at the first byte of a command: a command with its `;`, the `E` of the end, or the letters of commands that are
-- outside the profile, whatever follows them
pub data IsSentence : List ℕ → Type 0 where
  command : (bytes text : List ℕ) (c : CifCommand) → bytes ≡ text ++ codes ";" → SpellsCommand c text → IsSentence bytes
  end : (bytes : List ℕ) → bytes ≡ codes "E" → IsSentence bytes
  outside : (bytes : List ℕ) → (bytes ≡ codes "R") ⊎ (bytes ≡ codes "DD") → IsSentence bytes

-- Some sentence begins with these bytes.
abbrev pub BeginsSentence : List ℕ → Type 0
BeginsSentence bytes = (rest : List ℕ) × IsSentence (bytes ++ rest)

-- The bytes are `DS n` or `DS n a` with a blank at their end, and a number that is 0 stands behind them.
pub record ScaleIsZero (front rest : List ℕ) : Type 0 where
  pub n : ℕ
  pub before : List CifPart
  pub scale : (before ≡ []) ⊎ ((times : ℕ) × (before ≡ Unsigned times ∷ []))
  pub spelled : SpellsParts (Letters (codes "DS") ∷ Unsigned n ∷ before) front
  pub bytes : List ℕ
  pub blank : ℕ
  pub apart : front ≡ bytes ++ blank ∷ []
  pub is_blank : is_cif_blank blank ≡ true
  pub zero : WritesNumber 0 (take_while is_digit rest)

-- The bytes begin a sentence, are no whole one, and none goes on with the next byte.
pub record StopsSentence (front rest : List ℕ) : Type 0 where
  pub byte : ℕ
  pub others : List ℕ
  pub next : rest ≡ byte ∷ others
  pub begins : BeginsSentence front
  pub open_yet : IsSentence front → ⊥
  pub stops : BeginsSentence (front ++ byte ∷ []) → ⊥

-- The next byte continues no command, or is that of a scale's number that is 0; and no byte before it does.
pub record BreaksCommand (front rest : List ℕ) : Type 0 where
  pub breaks : StopsSentence front rest ⊎ ScaleIsZero front rest
  pub first : (before : List ℕ) (byte : ℕ) (others : List ℕ) → front ≡ before ++ byte ∷ others → ScaleIsZero before (byte ∷ others ++ rest) → ⊥

-- The text ends within a command, or before one.
pub record CutsCommand (bytes : List ℕ) : Type 0 where
  pub begins : BeginsSentence bytes
  pub open_yet : IsSentence bytes → ⊥
  pub unbroken : (before : List ℕ) (byte : ℕ) (others : List ℕ) → bytes ≡ before ++ byte ∷ others → ScaleIsZero before (byte ∷ others) → ⊥

-- The code stands at the command at the front of the rest, behind a front that leaves this state; its place is behind the last
-- list of bytes. C1 and C10 come alone, the others by their numbers.
pub data CommandFault (s : CifState) (front rest : List ℕ) : CifCode → List ℕ → Type 0 where
  breaks : (gap before behind : List ℕ) → rest ≡ gap ++ before ++ behind → gap ≡ take_while is_cif_blank rest → BreaksCommand before behind
      → CommandFault s front rest C1 (front ++ gap ++ before)
  cuts : (gap bytes : List ℕ) → rest ≡ gap ++ bytes → gap ≡ take_while is_cif_blank rest → CutsCommand bytes
      → CommandFault s front rest C10 (front ++ rest)
  outside : (gap word behind : List ℕ) → rest ≡ gap ++ word ++ behind → AreCifBlanks gap → (word ≡ codes "R") ⊎ (word ≡ codes "DD")
      → CommandFault s front rest C9 (front ++ gap)
  meets : (here : CommandHere rest) (code : CifCode) → MeetsCode code s here.command
      → ((lower : CifCode) → code_number lower < code_number code → MeetsCode lower s here.command → ⊥)
      → CommandFault s front rest code (front ++ here.gap)
  end_within : (gap behind : List ℕ) → rest ≡ gap ++ codes "E" ++ behind → AreCifBlanks gap → IsSome s.opening
      → CommandFault s front rest C6 (front ++ gap)
  behind_end : (gap blanks : List ℕ) (byte : ℕ) (others : List ℕ) → rest ≡ gap ++ codes "E" ++ blanks ++ byte ∷ others
      → AreCifBlanks gap → IsNone s.opening → AreCifBlanks blanks → is_cif_blank byte ≡ false
      → CommandFault s front rest C11 (front ++ gap ++ codes "E" ++ blanks)

-- ---- texts

-- A command stands at the front of the rest, meets no code, and leads to the next state.
pub record CommandRead (s : CifState) (front rest : List ℕ) (next : CifState) : Type 0 where
  pub here : CommandHere rest
  pub clear : (code : CifCode) → MeetsCode code s here.command → ⊥
  pub leads : CommandLeads s (place_behind (front ++ here.gap)) here.command next

-- the front with the command behind it
abbrev pub front_with : (front rest : List ℕ) → CommandHere rest → List ℕ
front_with front rest here = front ++ here.gap ++ here.bytes ++ codes ";"

-- Commands lead from the state behind the front to the last state, at `E`, and blanks stand behind it.
pub data DrawsFrom : CifState → (front rest : List ℕ) → CifState → Type 0 where
  end : (s : CifState) (front rest gap blanks : List ℕ) → rest ≡ gap ++ codes "E" ++ blanks → AreCifBlanks gap → AreCifBlanks blanks
      → IsNone s.opening → DrawsFrom s front rest s
  command : (s next last : CifState) (front rest : List ℕ) → (read : CommandRead s front rest next)
      → DrawsFrom next (front_with front rest read.here) read.here.behind last → DrawsFrom s front rest last

-- The code is that of the first command behind the front that has one, and this is its place.
pub data RefusedFrom : CifState → (front rest : List ℕ) → CifCode → Place → Type 0 where
  here : (s : CifState) (front rest at : List ℕ) (code : CifCode) → CommandFault s front rest code at
      → RefusedFrom s front rest code (place_behind at)
  later : (s next : CifState) (front rest : List ℕ) (code : CifCode) (place : Place) → (read : CommandRead s front rest next)
      → RefusedFrom next (front_with front rest read.here) read.here.behind code place → RefusedFrom s front rest code place

-- The text is refused with this code at this place.
abbrev pub CifRefusal : List ℕ → CifCode → Place → Type 0
CifRefusal text code place = RefusedFrom blank_state [] text code place

-- The text is that of this drawing.
pub record IsCifText (text : List ℕ) (drawing : CifDrawing) : Type 0 where
  pub last : CifState
  pub draws : DrawsFrom blank_state [] text last
  pub drawing_is : drawing ≡ last.drawing

-- all the boxes that commands draw
abbrev pub stroke_boxes : List CifStroke → List BoxShape
stroke_boxes strokes = flat_map (λ stroke. stroke.boxes) strokes

-- The text draws these boxes and labels, and no edge is more than 2^40 λ from the origin.
pub record DrawsCif (text : List ℕ) (boxes : List BoxShape) (labels : List Label) : Type 0 where
  pub drawing : CifDrawing
  pub is_text : IsCifText text drawing
  pub boxes_are : boxes ≡ stroke_boxes drawing.strokes
  pub within : (b : BoxShape) → Among boxes b → IsBox b
  pub labels_are : labels ≡ drawing.labels

-- A box that the command draws has an edge too far from the origin; or more than 8,000,000 boxes are drawn with it.
abbrev pub StrokeFault : CifCode → List CifStroke → CifStroke → Type 0
StrokeFault C8 before stroke = (b : BoxShape) × Among stroke.boxes b × (IsBox b → ⊥)
StrokeFault C13 before stroke = 8000000 < length (stroke_boxes before) + length stroke.boxes
StrokeFault code before stroke = ⊥

-- No code stands at a command of these, behind others.
abbrev pub NoStrokeFault : List CifStroke → List CifStroke → Type 0
NoStrokeFault before [] = ⊤
NoStrokeFault before (stroke ∷ strokes) =
    ((code : CifCode) → StrokeFault code before stroke → ⊥) × NoStrokeFault (before ++ stroke ∷ []) strokes

-- The code stands at the first command outside definitions at which C8 or C13 does, C8 before C13.
pub record FlatRefusal (strokes : List CifStroke) (code : CifCode) (place : Place) : Type 0 where
  pub before : List CifStroke
  pub stroke : CifStroke
  pub behind : List CifStroke
  pub is : strokes ≡ before ++ stroke ∷ behind
  pub clear : NoStrokeFault [] before
  pub fault : StrokeFault code before stroke
  pub least : (lower : CifCode) → code_number lower < code_number code → StrokeFault lower before stroke → ⊥
  pub place_is : place ≡ stroke.place
