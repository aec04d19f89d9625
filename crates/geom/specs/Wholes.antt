-- The boxes of a layer, and lists of all the tall runs of layers.
use Rattle.std.specs.Prelude.{◌≡◌, ◌↔◌, ℕ, ℤ, ◌≤ℤ◌, List, ◌<◌}
use Rattle.std.specs.Ordering.{int_cmp}
use Rattle.std.specs.List.Sorted.{IsStableByKey}
use Rattle.geom.specs.declared.layer.Layer.{Layer}
use Rattle.geom.specs.Squares.{BoxShape, IsBox, Covered}
use Rattle.geom.specs.Merged.{rank}
use Rattle.geom.specs.Rows.{Squares, IsTall, Among, Over, Ordered, Pairwise}

-- the boxes that are of the layer
pub record IsChosen (drawn : List BoxShape) (layer : Layer) (chosen : List BoxShape) : Type 0 where
  pub boxes : (b : BoxShape) → Among chosen b → IsBox b
  pub layers : (b : BoxShape) → Among chosen b → b.layer ≡ layer
  pub back : (b : BoxShape) → Among chosen b → Among drawn b
  pub forth : (b : BoxShape) → Among drawn b → b.layer ≡ layer → Among chosen b

-- the first box begins no higher
abbrev pub IsLower : BoxShape → BoxShape → Type 0
IsLower b c = b.y1 ≤ℤ c.y1

-- The same boxes in the order of their lower edges; those of equal lower edges stand as they stood.
pub record SortsRows (m rows : List BoxShape) : Type 0 where
  pub same : (b : BoxShape) → Among rows b ↔ Among m b
  pub rising : Pairwise IsLower rows
  pub stable : IsStableByKey (λ (b : BoxShape). b.y1) int_cmp m rows

-- The boxes are all the tall runs of the squares of the layer, in order.
pub record IsWhole (S : Squares) (layer : Layer) (m : List BoxShape) : Type 0 where
  pub layers : (b : BoxShape) → Among m b → b.layer ≡ layer
  pub boxes : (b : BoxShape) → Among m b → IsBox b
  pub tall : (b : BoxShape) → Among m b → IsTall S b
  pub covers : (x y : ℤ) → S x y → Over m x y
  pub order : Ordered m

-- The boxes are all the tall runs of the squares of the first layers, in order.
pub record AreLayers (drawn : List BoxShape) (count : ℕ) (m : List BoxShape) : Type 0 where
  pub layers : (b : BoxShape) → Among m b → rank b.layer < count
  pub boxes : (b : BoxShape) → Among m b → IsBox b
  pub tall : (b : BoxShape) → Among m b → IsTall (Covered drawn b.layer) b
  pub covers : (layer : Layer) (x y : ℤ) → rank layer < count → Covered drawn layer x y → Covered m layer x y
  pub order : Ordered m
