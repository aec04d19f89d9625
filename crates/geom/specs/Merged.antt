-- Boxes merged into runs: the list that stands for the squares of boxes, layer by layer.
use Rattle.std.specs.Prelude.{◌≡◌, ◌≢◌, ℕ, ◌<◌, ℤ, ◌≤ℤ◌, ◌<ℤ◌, List, [], ◌∷◌, ◌⊎◌, ◌↔◌}
use Rattle.geom.specs.declared.layer.Layer.{Layer}
use Rattle.geom.specs.declared.layer.Layer.TheVariants.{Diffusion, Poly, Metal, Cut, Implant}
use Rattle.geom.specs.Squares.{BoxShape, IsBox, Inside, Covered}

-- the place of a layer in their order
abbrev pub rank : Layer → ℕ
rank Diffusion = 0
rank Poly = 1
rank Metal = 2
rank Cut = 3
rank Implant = 4

-- By layer, then by lower edge, then by left edge, the first box stands before the second.
abbrev pub Precedes : BoxShape → BoxShape → Type 0
Precedes a b = (rank a.layer < rank b.layer) ⊎ ((a.layer ≡ b.layer) × ((a.y1 <ℤ b.y1) ⊎ ((a.y1 ≡ b.y1) × (a.x1 <ℤ b.x1))))

-- The row of squares lies in the box.
pub record InRow (b : BoxShape) (y : ℤ) : Type 0 where
  pub bottom : b.y1 ≤ℤ y
  pub top : y <ℤ b.y2

-- Two boxes share no square and no stretch of a vertical edge, and no horizontal edge if they are in one column.
pub record Separate (a b : BoxShape) : Type 0 where
  pub squares : (x y : ℤ) → Inside a x y → Inside b x y → ⊥
  pub right : (y : ℤ) → InRow a y → InRow b y → a.x2 ≢ b.x1
  pub left : (y : ℤ) → InRow a y → InRow b y → b.x2 ≢ a.x1
  pub above : a.x1 ≡ b.x1 → a.x2 ≡ b.x2 → a.y2 ≢ b.y1
  pub below : a.x1 ≡ b.x1 → a.x2 ≡ b.x2 → b.y2 ≢ a.y1

-- The box stands before all of these, separate from those of its layer.
abbrev pub Heads : BoxShape → List BoxShape → Type 0
Heads b [] = Unit {0}
Heads b (c ∷ cs) = Precedes b c × (b.layer ≡ c.layer → Separate b c) × Heads b cs

-- Boxes in order, those of one layer separate from each other.
abbrev pub InRuns : List BoxShape → Type 0
InRuns [] = Unit {0}
InRuns (b ∷ bs) = IsBox b × Heads b bs × InRuns bs

-- The second list covers the same squares of each layer as the first, in runs.
pub record Merges (boxes merged : List BoxShape) : Type 0 where
  pub same : (layer : Layer) (x y : ℤ) → Covered merged layer x y ↔ Covered boxes layer x y
  pub runs : InRuns merged

-- What boxes merge into is a function of their squares.
pub record MergedOnce : Type 0 where
  pub one : (boxes others merged again : List BoxShape) → Merges boxes merged → Merges others again
      → ((layer : Layer) (x y : ℤ) → Covered boxes layer x y ↔ Covered others layer x y) → merged ≡ again
