-- Conducting diffusion, and squares of channels.
use Rattle.std.specs.Prelude.{◌↔◌, ℤ, List}
use Rattle.geom.specs.declared.layer.Layer.TheVariants.{Diffusion}
use Rattle.geom.specs.Conduction.{Drawing, Conducts, IsChannel}
use Rattle.geom.specs.Squares.{BoxShape}
use Rattle.geom.specs.Rows.{Over}

-- The boxes cover the diffusion without poly.
abbrev pub AreTerminals : Drawing → List BoxShape → Type 0
AreTerminals Drawn m = (x y : ℤ) → Over m x y ↔ Conducts Drawn Diffusion x y

-- The boxes cover the squares of channels.
abbrev pub AreChannelSquares : Drawing → List BoxShape → Type 0
AreChannelSquares Drawn m = (x y : ℤ) → Over m x y ↔ IsChannel Drawn x y
