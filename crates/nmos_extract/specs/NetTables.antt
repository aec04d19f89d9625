-- The net of each conducting square, looked up in the classes of boxes.
use Rattle.std.specs.Prelude.{◌≡◌, ℕ, suc, ◌+◌, ◌<◌, ◌≤◌, ◌^◌, ◌&&◌, ℤ, int_le, int_lt, Bool, if◌then◌else◌, List, [], ◌∷◌, length, Option, Some, None}
use Rattle.geom.specs.declared.layer.Layer.{Layer}
use Rattle.geom.specs.declared.layer.Layer.TheVariants.{Diffusion, Poly, Metal, Cut, Implant}
use Rattle.geom.specs.declared.point.Point.{Point}
use Rattle.geom.specs.Squares.{BoxShape}
use Rattle.nmos_model.specs.declared.sites.Site.{Site}
use Rattle.nmos_model.specs.Classes.{Classing, class_at}
use Rattle.nmos_extract.specs.Conducting.{AreSets, Conducting, boxes_in, first_node, node_count}

-- the boxes that conduct, and their classes
pub record NetTable : Type 0 where
  pub conductors : Conducting
  pub classes : Classing

-- Each layer's boxes are canonical, each node has an entry, and nodes have numbers of 32 bits.
pub record IsTable (table : NetTable) : Type 0 where
  pub sets : AreSets table.conductors
  pub size : length table.classes.numbers ≡ node_count table.conductors
  pub few : node_count table.conductors < 2 ^ 32
  pub fewer : length table.classes.firsts ≤ node_count table.conductors

-- the square lies in the box
abbrev pub is_inside : BoxShape → ℤ → ℤ → Bool
is_inside b x y = (int_le b.x1 x && int_lt x b.x2) && (int_le b.y1 y && int_lt y b.y2)

-- a number counted from the next place
abbrev pub later : Option ℕ → Option ℕ
later (Some i) = Some (suc i)
later None = None

-- the number of the first box over the square
abbrev pub number_over : List BoxShape → ℤ → ℤ → Option ℕ
number_over [] x y = None
number_over (b ∷ bs) x y = if is_inside b x y then Some 0 else later (number_over bs x y)

-- the class of the box of this number, of those whose first node this is
abbrev pub class_over : List (Option ℕ) → ℕ → Option ℕ → Option ℕ
class_over numbers first (Some i) = class_at numbers (first + i)
class_over numbers first None = None

-- the net of a square in a layer
abbrev pub net_of : NetTable → Layer → ℤ → ℤ → Option ℕ
net_of table layer x y = class_over table.classes.numbers (first_node table.conductors layer) (number_over (boxes_in table.conductors layer) x y)

-- how many nets there are
abbrev pub net_count : NetTable → ℕ
net_count table = length table.classes.firsts

-- the square of a site
abbrev pub square_of : Site → Point
square_of site = record { x = site.x; y = site.y }

-- of what is found in metal, in poly and in diffusion, that of the layer
abbrev pub found_in : Layer → Option ℕ → Option ℕ → Option ℕ → Option ℕ
found_in Metal metal poly diffusion = metal
found_in Poly metal poly diffusion = poly
found_in Diffusion metal poly diffusion = diffusion
found_in Cut metal poly diffusion = None
found_in Implant metal poly diffusion = None
