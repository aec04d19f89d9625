-- Boxes of one left and one right edge, joined where they meet or overlap.
use Rattle.std.specs.Prelude.{◌≡◌, ℤ, ◌≤ℤ◌, ◌<ℤ◌, List, [], ◌∷◌, ◌++◌, ◌⊎◌}
use Rattle.std.specs.Int.{int_max}
use Rattle.geom.specs.declared.layer.Layer.{Layer}
use Rattle.geom.specs.Squares.{BoxShape, IsBox}
use Rattle.geom.specs.Merged.{InRow}
use Rattle.geom.specs.Rows.{Among, Pairwise}

-- By left edge, then by right edge, then by lower edge, the first box is not behind the second.
abbrev pub IsBefore : BoxShape → BoxShape → Type 0
IsBefore b c = (b.x1 <ℤ c.x1) ⊎ ((b.x1 ≡ c.x1) × ((b.x2 <ℤ c.x2) ⊎ ((b.x2 ≡ c.x2) × (b.y1 ≤ℤ c.y1))))

-- The first box is before the second, and ends below it where both have the same left and right edges.
pub record IsBelow (b c : BoxShape) : Type 0 where
  pub before : IsBefore b c
  pub apart : b.x1 ≡ c.x1 → b.x2 ≡ c.x2 → b.y2 <ℤ c.y1

-- boxes in order, no two of which meet above each other in one column
abbrev pub AreColumns : List BoxShape → Type 0
AreColumns m = Pairwise IsBelow m

-- One of the boxes lies in the row, with the left and right edges of this one.
pub record InColumn (bs : List BoxShape) (b : BoxShape) (y : ℤ) : Type 0 where
  pub box : BoxShape
  pub among : Among bs box
  pub left : box.x1 ≡ b.x1
  pub right : box.x2 ≡ b.x2
  pub row : InRow box y

-- The stacks have the rows of the boxes in each column, and no two of them meet in one column.
pub record AreStacks (bs stacks : List BoxShape) : Type 0 where
  pub boxes : (d : BoxShape) → Among stacks d → IsBox d
  pub layers : (layer : Layer) → ((b : BoxShape) → Among bs b → b.layer ≡ layer) → (d : BoxShape) → Among stacks d → d.layer ≡ layer
  pub back : (d : BoxShape) (y : ℤ) → Among stacks d → InRow d y → InColumn bs d y
  pub forth : (b : BoxShape) (y : ℤ) → Among bs b → InRow b y → InColumn stacks b y
  pub columns : AreColumns stacks

-- The second box has the edges of the first to the left and right, and begins no higher than it ends.
pub record Reaches (l s : BoxShape) : Type 0 where
  pub left : l.x1 ≡ s.x1
  pub right : l.x2 ≡ s.x2
  pub met : s.y1 ≤ℤ l.y2

-- the first box made as high as the second
abbrev pub over_both : BoxShape → BoxShape → BoxShape
over_both l s = record { layer = l.layer; x1 = l.x1; y1 = l.y1; x2 = l.x2; y2 = int_max l.y2 s.y2 }

-- The box was joined to the last of the others, which it reaches.
pub record Joins (m : List BoxShape) (s : BoxShape) (n : List BoxShape) : Type 0 where
  pub front : List BoxShape
  pub last : BoxShape
  pub whole : m ≡ front ++ last ∷ []
  pub reaches : Reaches last s
  pub joined : n ≡ front ++ over_both last s ∷ []

-- The box was put behind the others, the last of which does not reach it.
pub record Adds (m : List BoxShape) (s : BoxShape) (n : List BoxShape) : Type 0 where
  pub added : n ≡ m ++ s ∷ []
  pub short : (front : List BoxShape) (last : BoxShape) → m ≡ front ++ last ∷ [] → Reaches last s → ⊥
