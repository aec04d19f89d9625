-- The runs of a row of squares, and boxes that are runs of all their rows.
use Rattle.std.specs.Prelude.{◌≡◌, ℤ, pos, ◌-ℤ◌, ◌≤ℤ◌, ◌<ℤ◌, List, [], ◌∷◌, ◌⊎◌}
use Rattle.geom.specs.declared.layer.Layer.{Layer}
use Rattle.geom.specs.Squares.{BoxShape, IsBox, Inside}
use Rattle.geom.specs.Merged.{InRow, Precedes}

-- a set of squares of one layer
abbrev pub Squares : Type 1
Squares = ℤ → ℤ → Type 0

-- it is one of these
abbrev pub Among : {X : Type 0} → List X → X → Type 0
Among [] x = ⊥
Among (y ∷ ys) x = (y ≡ x) ⊎ Among ys x

-- Some box covers the square, whatever its layer.
abbrev pub Over : List BoxShape → ℤ → ℤ → Type 0
Over [] x y = ⊥
Over (b ∷ bs) x y = Inside b x y ⊎ Over bs x y

-- The squares of the row from one column up to another, and no more on either side, belong to the set.
pub record IsRun (S : Squares) (y from to : ℤ) : Type 0 where
  pub covered : (x : ℤ) → from ≤ℤ x → x <ℤ to → S x y
  pub left : S (from -ℤ pos 1) y → ⊥
  pub right : S to y → ⊥

-- The box is a run in each of its rows, and not below or above them.
pub record IsTall (S : Squares) (b : BoxShape) : Type 0 where
  pub rows : (y : ℤ) → InRow b y → IsRun S y b.x1 b.x2
  pub bottom : IsRun S (b.y1 -ℤ pos 1) b.x1 b.x2 → ⊥
  pub top : IsRun S b.y2 b.x1 b.x2 → ⊥

-- A box of the layer that is a run in each of its rows.
pub record IsPart (S : Squares) (layer : Layer) (b : BoxShape) : Type 0 where
  pub layer_is : b.layer ≡ layer
  pub box : IsBox b
  pub rows : (y : ℤ) → InRow b y → IsRun S y b.x1 b.x2

-- The boxes are runs of the squares in each of their rows, and cover them all.
pub record AreParts (S : Squares) (layer : Layer) (m : List BoxShape) : Type 0 where
  pub parts : (b : BoxShape) → Among m b → IsPart S layer b
  pub covers : (x y : ℤ) → S x y → Over m x y

-- it holds of each element and every one behind it
abbrev pub Pairwise : {X : Type 0} → (X → X → Type 0) → List X → Type 0
Pairwise R [] = Unit {0}
Pairwise {X} R (b ∷ bs) = ((c : X) → Among bs c → R b c) × Pairwise R bs

-- each box stands before those after it
abbrev pub Ordered : List BoxShape → Type 0
Ordered m = Pairwise Precedes m
