-- Channel regions of a drawing: classes of channel squares that share sides.
use Rattle.std.specs.Prelude.{◌≡◌, ◌↔◌, ◌⊎◌, ℤ, pos, ◌+ℤ◌, ◌-ℤ◌, ◌≤ℤ◌, ◌<ℤ◌, Bool, true, false, if◌then◌else◌, List}
use Rattle.geom.specs.declared.layer.Layer.TheVariants.{Diffusion, Poly, Implant}
use Rattle.geom.specs.Squares.{BoxShape, Inside}
use Rattle.geom.specs.Merged.{InRow}
use Rattle.geom.specs.Rows.{Among, Pairwise, Squares}
use Rattle.geom.specs.Conduction.{Drawing, IsChannel, Leads, Conducts, Spot}
use Rattle.nmos_model.specs.declared.channel.Channel.{Channel}

-- In row order, lower rows first and each from the left, the square (x, y) comes no later than (u, v).
abbrev pub IsByRow : ℤ → ℤ → ℤ → ℤ → Type 0
IsByRow x y u v = (y <ℤ v) ⊎ ((y ≡ v) × (x ≤ℤ u))

-- A region begins at (x, y): this is the first of its squares in row order.
pub record Begins (Drawn : Drawing) (x y : ℤ) : Type 0 where
  pub channel : IsChannel Drawn x y
  pub first : (u v : ℤ) → Leads (IsChannel Drawn) x y u v → IsByRow x y u v

-- The region of the square (x, y) is the whole rectangle.
pub record IsFull (Drawn : Drawing) (x y : ℤ) (r : BoxShape) : Type 0 where
  pub channel : IsChannel Drawn x y
  pub squares : (u v : ℤ) → Leads (IsChannel Drawn) x y u v ↔ Inside r u v

-- The rectangle lies wholly under implant, or wholly beside it.
abbrev pub IsImplanted : Drawing → Bool → BoxShape → Type 0
IsImplanted Drawn true r = (x y : ℤ) → Inside r x y → Drawn Implant x y
IsImplanted Drawn false r = (x y : ℤ) → Inside r x y → Drawn Implant x y → ⊥

-- The column of squares lies in the rectangle.
pub record InColumn (r : BoxShape) (x : ℤ) : Type 0 where
  pub left : r.x1 ≤ℤ x
  pub right : x <ℤ r.x2

-- the lines of squares next to a rectangle, as long as its sides
abbrev pub Above : BoxShape → Squares
Above r x y = InColumn r x × (y ≡ r.y2)

abbrev pub Below : BoxShape → Squares
Below r x y = InColumn r x × (y +ℤ pos 1 ≡ r.y1)

abbrev pub RightOf : BoxShape → Squares
RightOf r x y = InRow r y × (x ≡ r.x2)

abbrev pub LeftOf : BoxShape → Squares
LeftOf r x y = InRow r y × (x +ℤ pos 1 ≡ r.x1)

-- Every square of the line is conducting diffusion, or none is.
abbrev pub AllConduct : Drawing → Squares → Type 0
AllConduct Drawn Line = (x y : ℤ) → Line x y → Conducts Drawn Diffusion x y

abbrev pub NoneConducts : Drawing → Squares → Type 0
NoneConducts Drawn Line = (x y : ℤ) → Line x y → Conducts Drawn Diffusion x y → ⊥

-- Conducting diffusion lies wholly along two opposite sides of the rectangle, and nowhere along the two others: above and
-- below it where it is upright, else to its left and right.
abbrev pub HasTerminals : Drawing → Bool → BoxShape → Type 0
HasTerminals Drawn true r = AllConduct Drawn (Above r) × AllConduct Drawn (Below r) × NoneConducts Drawn (LeftOf r) × NoneConducts Drawn (RightOf r)
HasTerminals Drawn false r = AllConduct Drawn (LeftOf r) × AllConduct Drawn (RightOf r) × NoneConducts Drawn (Above r) × NoneConducts Drawn (Below r)

-- the squares of a channel
abbrev pub rectangle_of : Channel → BoxShape
rectangle_of c = record { layer = Diffusion; x1 = c.x1; y1 = c.y1; x2 = c.x2; y2 = c.y2 }

-- A region of the drawing is this channel.
pub record IsTransistor (Drawn : Drawing) (c : Channel) : Type 0 where
  pub full : IsFull Drawn c.x1 c.y1 (rectangle_of c)
  pub implant : IsImplanted Drawn c.depletion (rectangle_of c)
  pub terminals : HasTerminals Drawn c.upright (rectangle_of c)

-- The two channels share no square.
abbrev pub AreApart : Channel → Channel → Type 0
AreApart c d = (x y : ℤ) → Inside (rectangle_of c) x y → Inside (rectangle_of d) x y → ⊥

-- The channels are the regions of the drawing, each once.
pub record AreChannels (Drawn : Drawing) (channels : List Channel) : Type 0 where
  pub each : (c : Channel) → Among channels c → IsTransistor Drawn c
  pub all : (x y : ℤ) → IsChannel Drawn x y → (c : Channel) × Among channels c × Inside (rectangle_of c) x y
  pub apart : Pairwise AreApart channels

-- The first comes before the second in row order.
abbrev pub IsEarlier : Channel → Channel → Type 0
IsEarlier c d = IsByRow c.x1 c.y1 d.x1 d.y1

-- a square of the gate, and one of each terminal: above or to the left of the channel, and below or to the right of it
abbrev pub gate_of : Channel → Spot
gate_of c = record { layer = Poly; x = c.x1; y = c.y1 }

abbrev pub first_of : Channel → Spot
first_of c = if c.upright then record { layer = Diffusion; x = c.x1; y = c.y2 } else record { layer = Diffusion; x = c.x1 -ℤ pos 1; y = c.y1 }

abbrev pub second_of : Channel → Spot
second_of c = if c.upright then record { layer = Diffusion; x = c.x1; y = c.y1 -ℤ pos 1 } else record { layer = Diffusion; x = c.x2; y = c.y1 }
