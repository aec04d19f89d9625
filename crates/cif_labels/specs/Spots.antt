-- What stands behind the name of a pad.
use Rattle.std.specs.Prelude.{◌≡◌, ℕ, Bool, false, ℤ, pos, ◌*ℤ◌, List, [], ◌∷◌, Option, Some, None, if◌then◌else◌}
use Rattle.std.specs.Bool.{Decides}
use Rattle.geom.specs.declared.layer.Layer.{Layer}
use Rattle.geom.specs.declared.point.Point.{Point}
use Rattle.geom.specs.CifCommands.{WritesSigned, IsShortName}
use Rattle.geom.specs.CifCodes.{SomeIs, IsOffGrid}
use Rattle.geom.specs.CifLabels.{layer_named, bears_labels, has_bytes}
use Rattle.cif_values.specs.Numbers.{StandsFor}
use Rattle.cif_values.specs.Values.{IsNearNumber}
use Rattle.cif_labels.specs.declared.spots.Spot.{Spot}
use Rattle.cif_labels.specs.Words.{put_word}

-- The word is a number, for which this one stands; or it is none.
abbrev pub Reads : List ℕ → Option ℤ → Type 0
Reads word None = (z : ℤ) → WritesSigned z word → ⊥
Reads word (Some v) = (z : ℤ) × WritesSigned z word × StandsFor 400 z v

-- the layer, if labels stand on it
abbrev pub bearing : Option Layer → Option Layer
bearing None = None
bearing (Some layer) = if bears_labels layer then Some layer else None

-- the layer of this name, of those on which labels stand
abbrev pub layer_in : List ℕ → Option Layer
layer_in word = bearing (layer_named word)

-- where both are numbers
abbrev pub point_by : Option ℤ → Option ℤ → Option Point
point_by (Some x) (Some y) = Some (record { x = x; y = y })
point_by x y = None

abbrev pub point_of : Spot → Option Point
point_of spot = point_by spot.x spot.y

-- These words stand behind the name of a pad.
pub record IsSpotOf (behind : List (List ℕ)) (spot : Spot) : Type 0 where
  pub x : List ℕ
  pub y : List ℕ
  pub layer : List ℕ
  pub more : List ℕ
  pub others : List (List ℕ)
  pub are : behind ≡ put_word x (put_word y (put_word layer (put_word more others)))
  pub y_behind : x ≡ [] → y ≡ []
  pub layer_behind : y ≡ [] → layer ≡ []
  pub x_is : Reads x spot.x
  pub y_is : Reads y spot.y
  pub named_is : Decides spot.named ((more ≡ []) × IsShortName layer)
  pub layer_is : spot.layer ≡ if has_bytes more then None else layer_in layer

-- Its numbers are ones that stand for others.
abbrev pub IsNearWord : Option ℤ → Type 0
IsNearWord None = Unit {0}
IsNearWord (Some v) = IsNearNumber v

abbrev pub IsNearSpot : Spot → Type 0
IsNearSpot spot = IsNearWord spot.x × IsNearWord spot.y

-- The flag tells that a point is off the grid.
abbrev pub OffTold : Option Point → Bool → Type 0
OffTold None off = off ≡ false
OffTold (Some p) off =
    (x y : ℤ) → StandsFor 400 x p.x → StandsFor 400 y p.y
    → Decides off (SomeIs (IsOffGrid (record { times = 1; per = 1 })) ((pos 2 *ℤ x) ∷ (pos 2 *ℤ y) ∷ []))
