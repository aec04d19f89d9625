-- The unit squares of boxes. A square is named by its lower left corner, in λ.
use Rattle.std.specs.Prelude.{◌≡◌, ◌^◌, ℤ, pos, neg_ℤ, ◌≤ℤ◌, ◌<ℤ◌, List, [], ◌∷◌, ◌⊎◌}
use Rattle.geom.specs.declared.layer.Layer.{Layer}

-- a box of a layer by its four edges
pub record BoxShape : Type 0 where
  pub layer : Layer
  pub x1 : ℤ
  pub y1 : ℤ
  pub x2 : ℤ
  pub y2 : ℤ

-- Two edges in one direction are in order and within 2^40 of the origin.
pub record IsSide (from to : ℤ) : Type 0 where
  pub first : neg_ℤ (pos (2 ^ 40)) ≤ℤ from
  pub order : from <ℤ to
  pub last : to ≤ℤ pos (2 ^ 40)

-- The edges of a box are in order and within 2^40 of the origin.
pub record IsBox (b : BoxShape) : Type 0 where
  pub across : IsSide b.x1 b.x2
  pub upward : IsSide b.y1 b.y2

-- The square (x, y) lies in the box, whatever its layer.
pub record Inside (b : BoxShape) (x y : ℤ) : Type 0 where
  pub left : b.x1 ≤ℤ x
  pub right : x <ℤ b.x2
  pub bottom : b.y1 ≤ℤ y
  pub top : y <ℤ b.y2

-- Some box of this layer covers the square (x, y).
abbrev pub Covered : List BoxShape → Layer → ℤ → ℤ → Type 0
Covered [] layer x y = ⊥
Covered (b ∷ bs) layer x y = ((b.layer ≡ layer) × Inside b x y) ⊎ Covered bs layer x y
