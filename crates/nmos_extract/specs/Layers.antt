-- The squares of a drawing, layer by layer.
use Rattle.std.specs.Prelude.{◌↔◌, ℤ}
use Rattle.geom.specs.declared.layer.Layer.TheVariants.{Diffusion, Poly, Metal, Cut, Implant}
use Rattle.geom.specs.Conduction.{Drawing}
use Rattle.geom.specs.Rows.{Over}
use Rattle.nmos_extract.specs.declared.layers.Layers.{Layers}

-- Each set has the squares of its layer.
pub record AreLayers (Drawn : Drawing) (layers : Layers) : Type 0 where
  pub diffusion : (x y : ℤ) → Over layers.diffusion x y ↔ Drawn Diffusion x y
  pub poly : (x y : ℤ) → Over layers.poly x y ↔ Drawn Poly x y
  pub metal : (x y : ℤ) → Over layers.metal x y ↔ Drawn Metal x y
  pub cut : (x y : ℤ) → Over layers.cut x y ↔ Drawn Cut x y
  pub implant : (x y : ℤ) → Over layers.implant x y ↔ Drawn Implant x y
