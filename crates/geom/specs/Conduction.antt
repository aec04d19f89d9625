-- Classes of unit squares that share sides, channels, and how conducting squares of a drawing are joined.
use Rattle.std.specs.Prelude.{◌≡◌, ℤ, pos, ◌+ℤ◌, ◌⊎◌}
use Rattle.geom.specs.declared.layer.Layer.{Layer}
use Rattle.geom.specs.declared.layer.Layer.TheVariants.{Diffusion, Poly, Metal, Cut, Implant}
use Rattle.geom.specs.Rows.{Squares}

-- One of two numbers follows the other.
abbrev pub IsNext : ℤ → ℤ → Type 0
IsNext a b = (b ≡ a +ℤ pos 1) ⊎ (a ≡ b +ℤ pos 1)

-- The squares (x, y) and (u, v) share a side.
abbrev pub ShareSide : ℤ → ℤ → ℤ → ℤ → Type 0
ShareSide x y u v = ((x ≡ u) × IsNext y v) ⊎ ((y ≡ v) × IsNext x u)

-- Squares of the set lead from (x, y) to (s, t), each sharing a side with the one before.
pub data Leads (S : Squares) : ℤ → ℤ → ℤ → ℤ → Type 0 where
  here : (x y : ℤ) → Leads S x y x y
  step : (x y u v s t : ℤ) → ShareSide x y u v → S u v → Leads S u v s t → Leads S x y s t

-- The squares of the set are one class, or none.
abbrev pub IsOneClass : Squares → Type 0
IsOneClass S = (x y u v : ℤ) → S x y → S u v → Leads S x y u v

-- A drawing says which layers cover which squares, as `Covered boxes` does.
abbrev pub Drawing : Type 1
Drawing = Layer → ℤ → ℤ → Type 0

-- The square (x, y) has diffusion and poly.
pub record IsChannel (Drawn : Drawing) (x y : ℤ) : Type 0 where
  pub diffusion : Drawn Diffusion x y
  pub poly : Drawn Poly x y

-- a square in a layer
pub record Spot : Type 0 where
  pub layer : Layer
  pub x : ℤ
  pub y : ℤ

-- The square conducts in the layer: it has metal, poly, or diffusion and no poly.
abbrev pub Conducts : Drawing → Layer → ℤ → ℤ → Type 0
Conducts Drawn Metal x y = Drawn Metal x y
Conducts Drawn Poly x y = Drawn Poly x y
Conducts Drawn Diffusion x y = Drawn Diffusion x y × (Drawn Poly x y → ⊥)
Conducts Drawn Cut x y = ⊥
Conducts Drawn Implant x y = ⊥

-- Two spots are joined at once: in one layer across a side, or at one square under a cut.
abbrev pub IsJoin : Drawing → Spot → Spot → Type 0
IsJoin Drawn a b = ((a.layer ≡ b.layer) × ShareSide a.x a.y b.x b.y)
    ⊎ ((a.x ≡ b.x) × (a.y ≡ b.y) × Drawn Cut a.x a.y)

-- Conducting spots lead from one to the other, each joined with the one before.
pub data Joined (Drawn : Drawing) : Spot → Spot → Type 0 where
  here : (a : Spot) → Joined Drawn a a
  step : (a b c : Spot) → IsJoin Drawn a b → Conducts Drawn b.layer b.x b.y → Joined Drawn b c → Joined Drawn a c
