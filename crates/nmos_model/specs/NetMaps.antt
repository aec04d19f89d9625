-- The net of each conducting square, looked up in the classes of a raster's squares.
use Rattle.std.specs.Prelude.{ℕ, ◌+◌, ◌*◌, nat_lt, if◌then◌else◌, ℤ, pos, negsuc, ◌-ℤ◌, List, length, Option, Some, None}
use Rattle.geom.specs.declared.layer.Layer.{Layer}
use Rattle.geom.specs.declared.layer.Layer.TheVariants.{Diffusion, Poly, Metal, Cut, Implant}
use Rattle.nmos_model.specs.declared.raster.Frame.{Frame}
use Rattle.nmos_model.specs.Classes.{Classing, class_at}
use Rattle.nmos_model.specs.Rasters.{number_of}

-- the classes of the squares of a frame
pub record NetMap : Type 0 where
  pub frame : Frame
  pub classes : Classing

-- the column or row of a frame, where it is not too far
abbrev pub counted : ℕ → ℤ → Option ℕ
counted size (pos n) = if nat_lt n size then Some n else None
counted size (negsuc n) = None

-- the number of a layer that conducts
abbrev pub conductor : Layer → Option ℕ
conductor Metal = Some 0
conductor Poly = Some 1
conductor Diffusion = Some 2
conductor Cut = None
conductor Implant = None

-- the class of a square in a layer
abbrev pub class_of : ℕ → List (Option ℕ) → Option ℕ → Option ℕ → Option ℕ → Option ℕ
class_of width numbers (Some layer) (Some column) (Some row) = class_at numbers (3 * number_of width column row + layer)
class_of width numbers (Some layer) (Some column) None = None
class_of width numbers (Some layer) None row = None
class_of width numbers None column row = None

-- how many nets there are
abbrev pub net_count : NetMap → ℕ
net_count map = length map.classes.firsts

-- the net of a square in a layer
abbrev pub net_of : NetMap → Layer → ℤ → ℤ → Option ℕ
net_of map layer x y =
    class_of map.frame.width map.classes.numbers (conductor layer)
    (counted map.frame.width (x -ℤ map.frame.x)) (counted map.frame.height (y -ℤ map.frame.y))
