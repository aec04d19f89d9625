-- Which codes a command of a CIF text meets.
use Rattle.std.specs.Prelude.{◌≡◌, ◌≢◌, ◌⊎◌, ℕ, ◌*◌, ◌^◌, ◌<◌, Bool, true, false, ◌||◌, not, ◌==◌, ℤ, pos, neg_ℤ, ◌*ℤ◌, ◌<ℤ◌, int_rem, List, [], ◌∷◌, length, flat_map, Option, Some, None, IsSome, IsNone}
use Rattle.std.specs.List.{list_any, list_all}
use Rattle.rx_text.specs.Role.{NamedRole}
use Rattle.geom.specs.declared.chip.Label.{Label}
use Rattle.geom.specs.declared.point.Point.{Point}
use Rattle.geom.specs.declared.cif_code.CifCode.{CifCode}
use Rattle.geom.specs.declared.cif_code.CifCode.TheVariants.{C1, C2, C3, C4, C5, C6, C7, C8, C9, C10, C11, C12, C13, C14, C15}
use Rattle.geom.specs.CifCommands.{CifScale, CifMove, Translates, Rotates, CifCommand, Opens, Closes, CallsSymbol, SetsLayer, DrawsBox, DrawsPolygon, DrawsWire, Extension, CifPart, Letters, Unsigned, Signed, WritesSigned, IsShortName, command_parts}
use Rattle.geom.specs.CifLabels.{layer_named, NamesPad, IsLabel}
use Rattle.geom.specs.CifShapes.{is_along_axis, is_axis_segment, is_rectilinear, wire_segments, Outline}
use Rattle.geom.specs.CifDrawings.{CifOpening, CifState, scale_of, symbol_of, direction_or_east, command_outlines, chain_of_call}

-- the numbers that a part writes
abbrev pub part_numbers : CifPart → List ℤ
part_numbers (Letters word) = []
part_numbers (Unsigned n) = pos n ∷ []
part_numbers (Signed z) = z ∷ []

-- twice the distances of a transformation
abbrev pub move_distances : CifMove → List ℤ
move_distances (Translates x y) = (pos 2 *ℤ x) ∷ (pos 2 *ℤ y) ∷ []
move_distances other = []

abbrev pub point_distances : Point → List ℤ
point_distances p = (pos 2 *ℤ p.x) ∷ (pos 2 *ℤ p.y) ∷ []

abbrev pub outline_distances : Outline → List ℤ
outline_distances o = o.left ∷ o.bottom ∷ o.right ∷ o.top ∷ []

-- twice what has to lie on the grid: the coordinates of a polygon, the edges of a box or of a wire's boxes, and translations
abbrev pub command_distances : CifCommand → List ℤ
command_distances (CallsSymbol n moves) = flat_map move_distances moves
command_distances (DrawsPolygon points) = flat_map point_distances points
command_distances other = flat_map outline_distances (command_outlines other)

-- The distance of which this is twice the number of units is, after scaling, no multiple of λ.
abbrev pub IsOffGrid : CifScale → ℤ → Type 0
IsOffGrid scale twice = int_rem (twice *ℤ pos scale.times) (pos (400 * scale.per)) ≢ pos 0

-- It is, after scaling, more than 2^40 λ from 0.
abbrev pub IsFarOff : CifScale → ℤ → Type 0
IsFarOff scale twice =
    (pos (400 * scale.per * 2 ^ 40) <ℤ (twice *ℤ pos scale.times)) ⊎ ((twice *ℤ pos scale.times) <ℤ neg_ℤ (pos (400 * scale.per * 2 ^ 40)))

-- The number is more than 2^40 from 0.
abbrev pub IsTooGreat : ℤ → Type 0
IsTooGreat z = (pos (2 ^ 40) <ℤ z) ⊎ (z <ℤ neg_ℤ (pos (2 ^ 40)))

-- One of the numbers is such.
abbrev pub SomeIs : (ℤ → Type 0) → List ℤ → Type 0
SomeIs Is [] = ⊥
SomeIs Is (z ∷ zs) = Is z ⊎ SomeIs Is zs

-- The label's words are all there, outside definitions, and its point is off the grid.
pub record LabelIsOffGrid (opening : Option CifOpening) (text : List ℕ) : Type 0 where
  pub pad : NamedRole
  pub words : List ℕ × List ℕ × List ℕ
  pub names : NamesPad text pad (words.0 ∷ words.1 ∷ words.2 ∷ [])
  pub layer : IsShortName words.2
  pub x : ℤ
  pub y : ℤ
  pub across : WritesSigned x words.0
  pub upward : WritesSigned y words.1
  pub off : SomeIs (IsOffGrid (record { times = 1; per = 1 })) ((pos 2 *ℤ x) ∷ (pos 2 *ℤ y) ∷ [])
  pub outside : opening ≡ None

-- The first or the second word is a number that is too great.
abbrev pub HasGreatNumber : List (List ℕ) → Type 0
HasGreatNumber [] = ⊥
HasGreatNumber (x ∷ []) = (z : ℤ) × WritesSigned z x × IsTooGreat z
HasGreatNumber (x ∷ y ∷ words) = (z : ℤ) × (WritesSigned z x ⊎ WritesSigned z y) × IsTooGreat z

-- The definition of this number is open.
abbrev pub is_opened : Option CifOpening → ℕ → Bool
is_opened None n = false
is_opened (Some opening) n = opening.symbol.number == n

-- A symbol of this number was defined before, or is open.
abbrev pub is_defined : CifState → ℕ → Bool
is_defined s n = list_any (λ symbol. symbol.number == n) s.symbols || is_opened s.opening n

-- A transformation turns into a direction that is not along an axis.
abbrev pub is_oblique_move : CifMove → Bool
is_oblique_move (Rotates a b) = not (is_along_axis a b)
is_oblique_move other = false

-- The command meets the code, behind commands that leave this state; where no case says so it does not.
abbrev pub MeetsCode : CifCode → CifState → CifCommand → Type 0
MeetsCode C2 s (SetsLayer name) = layer_named name ≡ None
MeetsCode C3 s (DrawsBox along across centre direction) = s.layer ≡ None
MeetsCode C3 s (DrawsPolygon points) = s.layer ≡ None
MeetsCode C3 s (DrawsWire width points) = s.layer ≡ None
MeetsCode C4 s (CallsSymbol n moves) = symbol_of s n ≡ None
MeetsCode C5 s (Opens n scale) = is_defined s n ≡ true
MeetsCode C6 s (Opens n scale) = IsSome s.opening
MeetsCode C6 s Closes = IsNone s.opening
MeetsCode C7 s (Extension text) = LabelIsOffGrid s.opening text
MeetsCode C7 s other = SomeIs (IsOffGrid (scale_of s.opening)) (command_distances other)
MeetsCode C8 s (Extension text) = (pad : NamedRole) × (behind : List (List ℕ)) × NamesPad text pad behind × HasGreatNumber behind
MeetsCode C8 s other =
    SomeIs IsTooGreat (flat_map part_numbers (command_parts other)) ⊎ SomeIs (IsFarOff (scale_of s.opening)) (command_distances other)
MeetsCode C9 s (CallsSymbol n moves) = list_any is_oblique_move moves ≡ true
MeetsCode C9 s (DrawsBox along across centre direction) =
    (along ≡ 0) ⊎ (across ≡ 0) ⊎ (is_along_axis (direction_or_east direction).x (direction_or_east direction).y ≡ false)
MeetsCode C9 s (DrawsPolygon points) = is_rectilinear points ≡ false
MeetsCode C9 s (DrawsWire width points) = (width ≡ 0) ⊎ (list_all is_axis_segment (wire_segments points) ≡ false)
MeetsCode C12 s (Extension text) =
    (pad : NamedRole) × (behind : List (List ℕ)) × NamesPad text pad behind
    × (IsSome s.opening ⊎ ((label : Label) → IsLabel text label → ⊥))
MeetsCode C14 s (CallsSymbol n moves) = 64 < chain_of_call (symbol_of s n)
MeetsCode C15 s (DrawsPolygon points) = 4096 < length points
MeetsCode C15 s (DrawsWire width points) = 4096 < length points
MeetsCode code s other = ⊥

-- the number of a code
abbrev pub code_number : CifCode → ℕ
code_number C1 = 1
code_number C2 = 2
code_number C3 = 3
code_number C4 = 4
code_number C5 = 5
code_number C6 = 6
code_number C7 = 7
code_number C8 = 8
code_number C9 = 9
code_number C10 = 10
code_number C11 = 11
code_number C12 = 12
code_number C13 = 13
code_number C14 = 14
code_number C15 = 15
