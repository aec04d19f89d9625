-- Small drawings, and what is joined in them.
use Rattle.std.specs.Prelude.{ℕ, pos, List, [], ◌∷◌}
use Rattle.geom.specs.declared.layer.Layer.{Layer}
use Rattle.geom.specs.declared.layer.Layer.TheVariants.{Diffusion, Poly, Metal, Cut}
use Rattle.geom.specs.Squares.{BoxShape, Covered}
use Rattle.micro_tiles.specs.Boxes.{box}
use Rattle.geom.specs.Conduction.{IsOneClass, Spot, Joined}

-- a square of a layer by its place
abbrev pub spot : Layer → ℕ → ℕ → Spot
spot layer x y = record { layer = layer; x = pos x; y = pos y }

-- Two squares that meet in a corner alone are two classes.
abbrev pub CornersPart : Type 0
CornersPart = IsOneClass (λ x y. Covered (box Metal 0 0 1 1 ∷ box Metal 1 1 2 2 ∷ []) Metal x y) → ⊥

-- Two that share a side are one.
abbrev pub SidesJoin : Type 0
SidesJoin = IsOneClass (λ x y. Covered (box Metal 0 0 1 1 ∷ box Metal 1 0 2 1 ∷ []) Metal x y)

-- metal from west to east across poly from south to north
abbrev pub crossing : List BoxShape
crossing = box Metal 0 1 3 2 ∷ box Poly 1 0 2 3 ∷ []

-- They are not joined where they cross, but they are under a cut.
abbrev pub CrossingsPart : Type 0
CrossingsPart = Joined (Covered crossing) (spot Metal 1 1) (spot Poly 1 1) → ⊥

abbrev pub CutsJoin : Type 0
CutsJoin = Joined (Covered (box Cut 1 1 2 2 ∷ crossing)) (spot Metal 1 1) (spot Poly 1 1)

-- diffusion from west to east under poly
abbrev pub channel : List BoxShape
channel = box Diffusion 0 0 3 1 ∷ box Poly 1 0 2 1 ∷ []

-- The diffusion on the two sides of a channel is not joined.
abbrev pub ChannelsPart : Type 0
ChannelsPart = Joined (Covered channel) (spot Diffusion 0 0) (spot Diffusion 2 0) → ⊥
