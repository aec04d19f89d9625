-- What stands for the numbers of commands.
use Rattle.std.specs.Prelude.{◌≡◌, ◌⊎◌, ℕ, ◌^◌, ◌<◌, ◌≤◌, true, ℤ, pos, List, [], ◌∷◌, length, Option, Some, None, slice_index}
use Rattle.std.specs.Int.RustNames.{unsigned_abs}
use Rattle.rx_text.specs.NumberInText.{is_digit}
use Rattle.geom.specs.declared.point.Point.{Point}
use Rattle.geom.specs.CifCommands.{CifMove, Translates, MirrorsX, MirrorsY, Rotates, CifScale, CifPart, Letters, Unsigned, Signed}
use Rattle.cif_values.specs.declared.moves.Move.{Move}
use Rattle.cif_values.specs.declared.moves.Move.TheVariants as move
use Rattle.cif_values.specs.declared.next.Next.{Next}
use Rattle.cif_values.specs.declared.next.Next.TheVariants as next
use Rattle.cif_values.specs.declared.boxes.Sides.{Sides}
use Rattle.cif_values.specs.declared.openings.Opening.{Opening}
use Rattle.cif_values.specs.Numbers.{StandsFor}

-- What comes next is the first of the parts, or their end.
abbrev pub ComesNext : List CifPart → Next → Type 0
ComesNext [] next.End = Unit {0}
ComesNext (Letters (first ∷ word) ∷ parts) (next.Letter byte) = byte ≡ first
ComesNext (Unsigned n ∷ parts) next.Number = Unit {0}
ComesNext (Signed z ∷ parts) next.Number = Unit {0}
ComesNext parts other = ⊥

-- A digit or `-` stands at the place.
abbrev pub NumberBegins : List ℕ → ℕ → Type 0
NumberBegins text at = (at < length text) × ((is_digit (slice_index text at) ≡ true) ⊎ (slice_index text at ≡ 45))

-- Something stands at the place.
abbrev pub NextIsInside : Next → List ℕ → ℕ → Type 0
NextIsInside next.End text at = Unit {0}
NextIsInside next.Number text at = NumberBegins text at
NextIsInside (next.Letter byte) text at = at < length text

-- The number is one that stands for others.
abbrev pub IsNearNumber : ℤ → Type 0
IsNearNumber v = unsigned_abs v ≤ 2 ^ 52

abbrev pub IsNearPoint : Point → Type 0
IsNearPoint p = IsNearNumber p.x × IsNearNumber p.y

abbrev pub IsNearDirection : Option Point → Type 0
IsNearDirection None = Unit {0}
IsNearDirection (Some p) = IsNearPoint p

abbrev pub IsNearMove : Move → Type 0
IsNearMove (move.Translates a b) = IsNearNumber a × IsNearNumber b
IsNearMove move.MirrorsX = Unit {0}
IsNearMove move.MirrorsY = Unit {0}
IsNearMove (move.Rotates a b) = IsNearNumber a × IsNearNumber b

-- All numbers of a box are such.
pub record AreNearSides (sides : Sides) : Type 0 where
  pub along_near : IsNearNumber sides.along
  pub across_near : IsNearNumber sides.across
  pub centre_near : IsNearPoint sides.centre
  pub direction_near : IsNearDirection sides.direction

-- The coordinates of a point stand for those of another.
abbrev pub PointStands : ℕ → Point → Point → Type 0
PointStands divisor p q = StandsFor divisor p.x q.x × StandsFor divisor p.y q.y

-- A transformation stands for one that is written.
abbrev pub MoveStands : ℕ → CifMove → Move → Type 0
MoveStands divisor (Translates x y) (move.Translates a b) = StandsFor divisor x a × StandsFor divisor y b
MoveStands divisor MirrorsX move.MirrorsX = Unit {0}
MoveStands divisor MirrorsY move.MirrorsY = Unit {0}
MoveStands divisor (Rotates x y) (move.Rotates a b) = StandsFor divisor x a × StandsFor divisor y b
MoveStands divisor other written = ⊥

-- A direction stands for one that is written, if one is.
abbrev pub DirectionStands : ℕ → Option Point → Option Point → Type 0
DirectionStands divisor None None = Unit {0}
DirectionStands divisor (Some p) (Some q) = PointStands divisor p q
DirectionStands divisor direction other = ⊥

-- The sides, the centre and the direction of a box stand for those that are written.
pub record SidesStand (divisor along across : ℕ) (centre : Point) (direction : Option Point) (sides : Sides) : Type 0 where
  pub along_is : StandsFor divisor (pos along) sides.along
  pub across_is : StandsFor divisor (pos across) sides.across
  pub centre_is : PointStands divisor centre sides.centre
  pub direction_is : DirectionStands divisor direction sides.direction

-- A scale stands for one that is written, if one is.
abbrev pub ScaleStands : ℕ → Option CifScale → Option Point → Type 0
ScaleStands divisor None None = Unit {0}
ScaleStands divisor (Some scale) (Some q) = StandsFor divisor (pos scale.times) q.x × StandsFor divisor (pos scale.per) q.y
ScaleStands divisor scale other = ⊥

-- The number and the scale of a definition stand for those that are written.
pub record OpeningStands (divisor n : ℕ) (scale : Option CifScale) (opening : Opening) : Type 0 where
  pub number_is : StandsFor divisor (pos n) opening.number
  pub scale_is : ScaleStands divisor scale opening.scale
